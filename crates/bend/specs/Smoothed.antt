-- An anchor with smooth handles along its neighbours, after 000's `auto_smooth`. Assumes nothing.
use Rattle.std.specs.Prelude.{ℕ, ◌+◌, ◌-◌, Bool, cond, Option, Some, None, option_map, List, ltb, Float}
use Rattle.std.specs.Float.Ieee.{lt}
use Rattle.real.specs.Operators.{◌⊘◌, 0f, 1f, 3f}
use Rattle.geom.specs.declared.point.P.{P}
use Rattle.geom.specs.Point.{origin, plus, minus, times, len}
use Rattle.cubic.specs.Cubic.{CEPS}
use Rattle.path.specs.declared.anchor.Anchor.{Anchor}
use Rattle.path.specs.Flat.{anchor_at}

-- ---- of a subpath of n anchors from place `first` on, the points beside anchor k: none past an open end
unfoldable pub point_before : List Float → ℕ → ℕ → Bool → ℕ → Option P
point_before anchors first n closed k =
    cond (ltb 0 k) (Some (anchor_at anchors (first + k - 1)).p) (cond closed (Some (anchor_at anchors (first + n - 1)).p) None)

unfoldable pub point_after : List Float → ℕ → ℕ → Bool → ℕ → Option P
point_after anchors first n closed k =
    cond (ltb (k + 1) n) (Some (anchor_at anchors (first + k + 1)).p) (cond closed (Some (anchor_at anchors first).p) None)

-- from the one to the other, or between one and p; without either, where 000 stops, the zero vector, at which it stops too
unfoldable pub direction : Option P → P → Option P → P
direction (Some a) p (Some b) = minus b a
direction (Some a) p None = minus p a
direction None p (Some b) = minus b p
direction None p None = origin

-- a third of the way to a neighbour, 0 where there is none
unfoldable pub third : Option P → Float
third (Some d) = len d ⊘ 3f
third None = 0f

-- of the way from the one before, and to the one after
abbrev pub length_in : Option P → P → Float
length_in before p = third (option_map (λ a. minus p a) before)

abbrev pub length_out : P → Option P → Float
length_out p after = third (option_map (λ b. minus b p) after)

-- handles so long on either side of p, along u
unfoldable pub handled : P → P → Float → Float → Anchor
handled p u i o = record { p = p; h_in = minus p (times u i); h_out = plus p (times u o) }

-- as it is where the direction is shorter than 1e-9
unfoldable pub smoothed : Option P → Anchor → Option P → Anchor
smoothed before o after =
    let d = direction before o.p after in
    cond (lt (len d) CEPS) o (handled o.p (times d (1f ⊘ len d)) (length_in before o.p) (length_out o.p after))

-- anchor k of the subpath
unfoldable pub smoothed_at : List Float → ℕ → ℕ → Bool → ℕ → Anchor
smoothed_at anchors first n closed k =
    smoothed (point_before anchors first n closed k) (anchor_at anchors (first + k)) (point_after anchors first n closed k)
