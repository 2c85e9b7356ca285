-- Corners and the radii that fit them, after 000's `Corner`. Assumes nothing.
use Rattle.std.specs.Prelude.{ℕ, ◌≡◌, Bool, true, ◌&&◌, cond, Option, Some, None, option_map, Float}
use Rattle.std.specs.Float.{binary64}
use Rattle.std.specs.Float.Ieee.{of_bits, lt}
use Rattle.real.specs.Operators.{◌⊕◌, ◌⊖◌, ◌⊗◌, ◌⊘◌, 0f, 1f, 2f}
use Rattle.real.specs.StandIns.{max, min, abs}
use Rattle.real.specs.Finite.{is_finite}
use Rattle.geom.specs.declared.point.P.{P}
use Rattle.geom.specs.Point.{plus, times, dot, cross}
use Rattle.cubic.specs.Cubic.{CEPS}
use Rattle.path.specs.declared.anchor.Anchor.{Anchor}
use Rattle.path.specs.Anchor.{is_smooth}
use Rattle.side.specs.declared.side.Side.{Side}
use Rattle.corner.specs.declared.corner.Corner.{Corner}
use Rattle.side.specs.Side.{side_of, direction, length_of, OnLine}

abbrev pub 1e-6 : Float
1e-6 = of_bits binary64 0x3EB0_C6F7_A0B5_ED8D

unfoldable pub cos : Corner → Float
cos c = dot c.u c.v

unfoldable pub sin : Corner → Float
sin c = abs (cross c.u c.v)

-- the two sides that leave anchor a, as cubics
abbrev pub side_before : Anchor → Anchor → Side
side_before a prev = side_of a.p a.h_in prev.h_out prev.p

abbrev pub side_after : Anchor → Anchor → Side
side_after a next = side_of a.p a.h_out next.h_in next.p

-- a corner with its sides' lengths
unfoldable pub with_lengths : ℕ → Corner → Corner
with_lengths chords c = record {
  at = c.at;
  u = c.u;
  v = c.v;
  lu = length_of chords c.side_u;
  lv = length_of chords c.side_v;
  side_u = c.side_u;
  side_v = c.side_v;
}

-- a corner, if there is one, before its curved sides are measured: in the place of their lengths are other numbers, the first above 1e-9
pub record Unmeasured (chords : ℕ) (c k : Option Corner) : Type 0 where
  pub is : option_map (with_lengths chords) c ≡ k
  pub long : (d : Corner) → c ≡ Some d → lt CEPS d.lu ≡ true
  pub lines : (d : Corner) → c ≡ Some d → OnLine chords d.side_u d.lu × OnLine chords d.side_v d.lv

-- both sides are longer than 1e-9 and finite, and they meet at an angle
unfoldable pub sharp : Corner → Bool
sharp c = lt CEPS c.lu && lt CEPS c.lv && is_finite c.lu && is_finite c.lv && lt 1e-6 (sin c)

-- the corner at which two sides leave in the directions u and v
unfoldable pub meet : ℕ → P → P → P → Side → Side → Option Corner
meet chords at u v su sv =
    let c : Corner = record { at = at; u = u; v = v; lu = length_of chords su; lv = length_of chords sv; side_u = su; side_v = sv } in
    cond (sharp c) (Some c) None

-- where both sides have one
unfoldable pub between : ℕ → P → Side → Side → Option P → Option P → Option Corner
between chords at su sv (Some u) (Some v) = meet chords at u v su sv
between chords at su sv (Some u) None = None
between chords at su sv None d = None

-- `Corner::of`, where a has both neighbours
unfoldable pub corner_of : ℕ → Anchor → Anchor → Anchor → Option Corner
corner_of chords a prev next =
    let su = side_before a prev in
    let sv = side_after a next in
    cond (is_smooth a) None (between chords a.p su sv (direction su) (direction sv))

-- how far along each side a round cut of radius r meets it, and back
unfoldable pub setback : Corner → Float → Float
setback c r = r ⊗ (1f ⊕ cos c) ⊘ sin c

unfoldable pub radius_at_setback : Corner → Float → Float
radius_at_setback c s = s ⊗ sin c ⊘ (1f ⊕ cos c)

-- the largest radius, its cut reaching halfway along the shorter side
unfoldable pub max_radius : Corner → Float
max_radius c = radius_at_setback c (min c.lu c.lv ⊘ 2f)

-- what a neighbour's cut leaves of a side of length l
unfoldable pub room : Float → Float → Float
room l other = max (l ⊖ max other 0f) (l ⊘ 2f)

unfoldable pub max_radius_beside : Corner → Float → Float → Float
max_radius_beside c before after = radius_at_setback c (min (room c.lu before) (room c.lv after))

-- the point k along the bisector
unfoldable pub on_bisector : Corner → Float → P
on_bisector c k = plus c.at (times (plus c.u c.v) k)

-- how much the radius grows when a handle on the bisector moves by d
unfoldable pub radius_change : Corner → P → Float
radius_change c d = dot d (plus c.u c.v) ⊗ sin c ⊘ (2f ⊕ 2f ⊗ cos c)
