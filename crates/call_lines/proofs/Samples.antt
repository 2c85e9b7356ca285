-- The lines of three calls, by computation. Assumes nothing.
use mathlib.Core.Path.{◌≡◌, refl}
use mathlib.Core.List.{[], ◌∷◌, ◌++◌}
use Prim.Native.Nat.{◌+◌}
use lib.Ieee.{size}
use Rattle.cut.specs.Near.{gap, near}
use Rattle.decimal.specs.Text.{digits, whole_text}
use Rattle.recutting.specs.Near.{reached_in}
use Rattle.printing.specs.Refused.{refused_text}
use Rattle.call_lines.specs.Lines.{passing, window_of, sub_from, recut_places, listed, recut_text, call_text, call_line}

-- ---- lines of a closed subpath of eight anchors that starts at place 10: anchor 0 moved, the radius of anchor 5 set, and a refusal
moved-line : call_line 0 0 0 7 10 (2147483648 + 8)
    ≡ (114 ∷ 101 ∷ 99 ∷ 117 ∷ 116 ∷ []) ++ (32 ∷ 49 ∷ 48 ∷ 32 ∷ 49 ∷ 49 ∷ 32 ∷ 49 ∷ 50 ∷ 32 ∷ 49 ∷ 51 ∷ []) ++ (32 ∷ 49 ∷ 53 ∷ 32 ∷ 49 ∷ 54 ∷ 32 ∷ 49 ∷ 55 ∷ []) ++ 10 ∷ []
unfolding call_line call_text recut_text recut_places listed passing window_of sub_from reached_in near gap whole_text digits size
moved-line = refl

radius-places : recut_places (sub_from 10 (2147483648 + 8)) (window_of 1 5) ≡ 13 ∷ 14 ∷ 15 ∷ 16 ∷ 17 ∷ []
unfolding recut_places passing window_of sub_from reached_in near gap
radius-places = refl

refused-line : call_line 2 0 6 0 0 0 ≡ 114 ∷ 101 ∷ 102 ∷ 117 ∷ 115 ∷ 101 ∷ 100 ∷ 32 ∷ 54 ∷ 32 ∷ 48 ∷ 10 ∷ []
unfolding call_line call_text refused_text whole_text digits size
refused-line = refl

-- the open ten, its segment 0 split
split_places_lem : recut_places (sub_from 0 11) (window_of 2 0) ≡ 0 ∷ 1 ∷ 2 ∷ 3 ∷ 4 ∷ 5 ∷ []
unfolding recut_places passing window_of sub_from reached_in near gap
split_places_lem = refl
