-- The square of document 01's job, cut at its first corner, place by place: each by computation. Assumes nothing.
use mathlib.Core.Path.{◌≡◌, refl}
use mathlib.Core.Bool.{true, false}
use mathlib.Core.List.{List, [], ◌∷◌, ◌++◌}
use Prim.Native.Nat.{ℕ}
use Rattle.std.proofs.Common.{Some, None}
use lib.Ieee.{Float, binary64, of_bits, add, sub, mul, div, lt, le, eq, neg}
use Rattle.root.specs.Root.{root_of}
use Rattle.real.specs.Finite.{is_finite}
use Rattle.real.specs.Operators.{0f, 2f}
use Rattle.real.specs.StandIns.{max, min, abs, clamp}
use Rattle.geom.specs.declared.point.P.{P}
use Rattle.geom.specs.Point.{point, origin, plus, minus, times, same, dot, cross, len, dist}
use Rattle.path.specs.Anchor.{without_handles, is_smooth}
use Rattle.path.specs.Shape.{prev, next}
use Rattle.corner.specs.declared.cut.Cut.{Cut}
use Rattle.corner.specs.declared.kind.CornerKind.{CornerKind}
use Rattle.corner.specs.declared.kind.CornerKind.TheVariants.{Round, Inverted, Chamfer}
use Rattle.side.specs.Side.{is_straight_side, unit, towards, direction, length_of, at_length, at_line}
use Rattle.arc.specs.Arc.{square_to, arc_handle}
use Rattle.corner.specs.Corner.{cos, sin, sharp, meet, between, corner_of, setback, radius_at_setback, room, max_radius_beside}
use Rattle.corner.specs.Cut.{straight_sides, round_handles, rounded, inverted, handles, cut}
use Rattle.cut.specs.declared.places.Place.{Place}
use Rattle.cut.specs.View.{View, arrives, leaves}
use Rattle.cut.specs.Subpath.{view_of}
use Rattle.cut.specs.Places.{corner_at, own_at, asked_at, fitted_at, is_cut, cut_at, trim, trimmed_at, in_at, out_at, place_of, place_at}
use Rattle.cut_calls.specs.PlainCut.{sub_at, view_at}

abbrev pub 8f : Float
8f = of_bits binary64 0x4020_0000_0000_0000

-- closed, (0,0) (8,0) (8,8) (0,8), radius 2 at the first
abbrev pub shapes : List ℕ
shapes = 0x8000_0004 ∷ []

abbrev pub anchors : List Float
anchors = (0f ∷ 0f ∷ 0f ∷ 0f ∷ 0f ∷ 0f ∷ []) ++ (8f ∷ 0f ∷ 8f ∷ 0f ∷ 8f ∷ 0f ∷ []) ++ (8f ∷ 8f ∷ 8f ∷ 8f ∷ 8f ∷ 8f ∷ []) ++ (0f ∷ 8f ∷ 0f ∷ 8f ∷ 0f ∷ 8f ∷ [])

abbrev pub radii : List Float
radii = 2f ∷ 0f ∷ 0f ∷ 0f ∷ []

abbrev pub view : CornerKind → View
view k = view_at shapes anchors radii k 0

-- ---- its places
-- the first is cut from (0,2) to (2,0), with a handle out of the one and a handle into the other
abbrev pub cut_place : P → P → Place
cut_place a b =
    record {
      cut = true;
      start = record { p = point 0f 2f; h_in = point 0f 2f; h_out = a };
      end = record { p = point 2f 0f; h_in = b; h_out = point 2f 0f };
    }

-- the others stay
abbrev pub kept_place : P → Place
kept_place p = record { cut = false; start = without_handles p; end = without_handles origin }

-- 2 · 0.5522847498, and 2 less that
abbrev pub long : Float
long = of_bits binary64 0x3FF1_AC51_114F_0EAF

abbrev quarter : Float
quarter = of_bits binary64 0x3FD0_0000_0000_0000

abbrev pub short : Float
short = of_bits binary64 0x3FEC_A75D_DD61_E2A2

-- ---- where it is cut
module _ (k : CornerKind) where
  made_0 : is_cut (view k) 0 ≡ true
  unfolding is_cut cut_at fitted_at asked_at own_at max_radius_beside radius_at_setback room corner_at view_at view_of sub_at arrives leaves prev next corner_of is_smooth between meet sharp sin cos setback direction towards unit length_of is_straight_side is_finite abs min max plus minus times dot cross len dist root_of of_bits add sub mul div lt le eq neg
  made_0 = refl

  made_1 : is_cut (view k) 1 ≡ false
  unfolding is_cut cut_at fitted_at asked_at own_at max_radius_beside radius_at_setback room corner_at view_at view_of sub_at arrives leaves prev next corner_of is_smooth between meet sharp sin cos setback direction towards unit length_of is_straight_side is_finite abs min max plus minus times dot cross len dist root_of of_bits add sub mul div lt le eq neg
  made_1 = refl

  made_2 : is_cut (view k) 2 ≡ false
  unfolding is_cut cut_at fitted_at asked_at own_at max_radius_beside radius_at_setback room corner_at view_at view_of sub_at arrives leaves prev next corner_of is_smooth between meet sharp sin cos setback direction towards unit length_of is_straight_side is_finite abs min max plus minus times dot cross len dist root_of of_bits add sub mul div lt le eq neg
  made_2 = refl

  made_3 : is_cut (view k) 3 ≡ false
  unfolding is_cut cut_at fitted_at asked_at own_at max_radius_beside radius_at_setback room corner_at view_at view_of sub_at arrives leaves prev next corner_of is_smooth between meet sharp sin cos setback direction towards unit length_of is_straight_side is_finite abs min max plus minus times dot cross len dist root_of of_bits add sub mul div lt le eq neg
  made_3 = refl

-- the first corner's cut, with these handles
abbrev pub first_cut : P → P → Cut
first_cut a b = record { tu = quarter; tv = quarter; start = point 0f 2f; h_out = a; h_in = b; end = point 2f 0f }

pub chamfer_cut : cut_at (view Chamfer) 0 ≡ Some (first_cut (point 0f 2f) (point 2f 0f))
unfolding is_cut cut_at fitted_at asked_at own_at max_radius_beside radius_at_setback room cut handles rounded round_handles inverted straight_sides square_to arc_handle at_length at_line clamp corner_at view_at view_of sub_at arrives leaves prev next corner_of is_smooth between meet sharp sin cos setback direction towards unit length_of is_straight_side is_finite abs min max plus minus times dot cross len dist root_of of_bits add sub mul div lt le eq neg
chamfer_cut = refl

pub round-cut : cut_at (view Round) 0 ≡ Some (first_cut (point 0f short) (point short 0f))
unfolding is_cut cut_at fitted_at asked_at own_at max_radius_beside radius_at_setback room cut handles rounded round_handles inverted straight_sides square_to arc_handle at_length at_line clamp corner_at view_at view_of sub_at arrives leaves prev next corner_of is_smooth between meet sharp sin cos setback direction towards unit length_of is_straight_side is_finite abs min max plus minus times dot cross len dist root_of of_bits add sub mul div lt le eq neg
round-cut = refl

pub inverted-cut : cut_at (view Inverted) 0 ≡ Some (first_cut (point long 2f) (point 2f long))
unfolding is_cut cut_at fitted_at asked_at own_at max_radius_beside radius_at_setback room cut handles rounded round_handles inverted straight_sides square_to arc_handle at_length at_line clamp corner_at view_at view_of sub_at arrives leaves prev next corner_of is_smooth between meet sharp sin cos setback direction towards unit length_of is_straight_side is_finite abs min max plus minus times dot cross len dist root_of of_bits add sub mul div lt le eq neg
inverted-cut = refl

-- ---- what it leaves at each place
module _ (k : CornerKind) where
  none_1 : cut_at (view k) 1 ≡ None
  unfolding cut_at
  none_1 = rw (made_1 k)

  none_2 : cut_at (view k) 2 ≡ None
  unfolding cut_at
  none_2 = rw (made_2 k)

  none_3 : cut_at (view k) 3 ≡ None
  unfolding cut_at
  none_3 = rw (made_3 k)

  pub place_0 : (a b : P) → cut_at (view k) 0 ≡ Some (first_cut a b) → place_at (view k) 0 ≡ cut_place a b
  unfolding place_at place_of in_at out_at trimmed_at trim view_at view_of sub_at arrives leaves prev next same of_bits eq
  place_0 a b e = rw (made_0 k, made_3 k, e)

  pub place_1 : place_at (view k) 1 ≡ kept_place (point 8f 0f)
  unfolding place_at place_of in_at out_at trimmed_at trim view_at view_of sub_at arrives leaves prev next same of_bits eq
  place_1 = rw (made_0 k, made_1 k, made_2 k, none_1)

  pub place_2 : place_at (view k) 2 ≡ kept_place (point 8f 8f)
  unfolding place_at place_of in_at out_at trimmed_at trim view_at view_of sub_at arrives leaves prev next same of_bits eq
  place_2 = rw (made_1 k, made_2 k, made_3 k, none_2)

  pub place_3 : place_at (view k) 3 ≡ kept_place (point 0f 8f)
  unfolding place_at place_of in_at out_at trimmed_at trim view_at view_of sub_at arrives leaves prev next same of_bits eq
  place_3 = rw (made_2 k, made_3 k, made_0 k, none_3)
