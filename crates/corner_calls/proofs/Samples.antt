-- The corners of a path that turns once, open and closed, and what the call answers for it. Numbers are given as bit patterns of binary64. Assumes nothing.
use mathlib.Core.Path.{◌≡◌, refl}
use mathlib.Core.List.{List, [], ◌∷◌}
use Prim.Native.Nat.{ℕ}
use lib.Ieee.{Float, binary64, of_bits, add, sub, mul, div, lt, le, eq, neg}
use Rattle.root.specs.Root.{root_of}
use Rattle.views.specs.Search.{all, first_false}
use Rattle.views.specs.View.{overwrite}
use Rattle.real.specs.Limit.{in_limit}
use Rattle.real.specs.Finite.{is_finite}
use Rattle.real.specs.StandIns.{max, min, abs}
use Rattle.geom.specs.Point.{plus, minus, times, dot, cross, len, dist}
use Rattle.path.specs.Anchor.{is_smooth}
use Rattle.path.specs.Limit.{anchor_in}
use Rattle.path.specs.Shape.{sub_of, prev, next}
use Rattle.refusal.specs.Order.{verdict, first_failing, judge, holds, tests, answering}
use Rattle.call.specs.Tests.{places, path_fits, path_limit}
use Rattle.call.specs.Answers.{list_left}
use Rattle.side.specs.Side.{is_straight_side, unit, towards, direction, length_of}
use Rattle.std.proofs.Common.{Some, option_map, Ok}
use Rattle.corner.specs.Corner.{cos, sin, sharp, meet, between, corner_of, radius_at_setback, max_radius}
use Rattle.cut.specs.View.{arrives, leaves}
use Rattle.cut.specs.Subpath.{view_of}
use Rattle.cut.specs.Places.{corner_at}
use Rattle.cut_calls.specs.PlainCut.{sub_at}
use Rattle.corner_calls.specs.Corners.{plain_view, path_corner, chosen, found_below, corner_places, corner_numbers, numbers_of}
use Rattle.corner_calls.specs.Calls.{corners_in, corners_room, path_corners_verdict, path_corners_answer, path_corners_places}

abbrev f : ℕ → Float
f b = of_bits binary64 b

-- (0, 0), (8, 0), (8, 8), without handles
abbrev turn : List Float
turn = f 0 ∷ f 0 ∷ f 0 ∷ f 0 ∷ f 0 ∷ f 0 ∷ f 0x4020000000000000 ∷ f 0 ∷ f 0x4020000000000000 ∷ f 0 ∷ f 0x4020000000000000 ∷ f 0 ∷ f 0x4020000000000000 ∷ f 0x4020000000000000 ∷ f 0x4020000000000000 ∷ f 0x4020000000000000 ∷ f 0x4020000000000000 ∷ f 0x4020000000000000 ∷ []

-- open: its ends are no corners
one_corner : corner_places (3 ∷ []) turn ≡ 1 ∷ []
unfolding corner_places found_below chosen path_corner sub_of sub_at plain_view view_of corner_at arrives leaves prev next corner_of is_smooth between direction towards unit meet sharp sin cos length_of is_straight_side is_finite abs min max plus minus times dot cross len dist root_of of_bits add sub mul div lt le eq neg
one_corner = refl

-- closed: three
three_corners : corner_places (2147483651 ∷ []) turn ≡ 0 ∷ 1 ∷ 2 ∷ []
unfolding corner_places found_below chosen path_corner sub_of sub_at plain_view view_of corner_at arrives leaves prev next corner_of is_smooth between direction towards unit meet sharp sin cos length_of is_straight_side is_finite abs min max plus minus times dot cross len dist root_of of_bits add sub mul div lt le eq neg
three_corners = refl

-- at (8, 0), towards (-1, 0) and (0, 1), sides of 8, and a radius of 4
its_numbers : option_map corner_numbers (path_corner (3 ∷ []) turn 1) ≡ Some (f 0x4020000000000000 ∷ f 0 ∷ f 0xBFF0000000000000 ∷ f 0 ∷ f 0 ∷ f 0x3FF0000000000000 ∷ f 0x4020000000000000 ∷ f 0x4020000000000000 ∷ f 0x4010000000000000 ∷ [])
unfolding corner_places found_below chosen path_corner sub_of sub_at plain_view view_of corner_at arrives leaves prev next corner_of is_smooth between direction towards unit meet sharp sin cos length_of is_straight_side is_finite abs min max plus minus times dot cross len dist root_of of_bits add sub mul div lt le eq neg corner_numbers max_radius radius_at_setback
its_numbers = refl

abbrev nine : List Float
nine = f 0 ∷ f 0 ∷ f 0 ∷ f 0 ∷ f 0 ∷ f 0 ∷ f 0 ∷ f 0 ∷ f 0 ∷ []

-- what stands behind the corners stays
listed : (path_corners_answer (3 ∷ []) turn (7 ∷ 9 ∷ []) nine ≡ Ok 1) × (path_corners_places (3 ∷ []) turn (7 ∷ 9 ∷ []) nine ≡ 1 ∷ 9 ∷ [])
unfolding corner_places found_below chosen path_corner sub_of sub_at plain_view view_of corner_at arrives leaves prev next corner_of is_smooth between direction towards unit meet sharp sin cos length_of is_straight_side is_finite abs min max plus minus times dot cross len dist root_of of_bits add sub mul div lt le eq neg corner_numbers max_radius radius_at_setback numbers_of path_corners_answer path_corners_places path_corners_verdict answering corners_in corners_room list_left overwrite verdict first_failing judge tests holds path_fits path_limit places first_false anchor_in all in_limit
listed = (refl, refl)
