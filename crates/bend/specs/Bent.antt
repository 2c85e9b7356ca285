-- The two anchors of a segment that is bent, after 000's `bend_segment`. Assumes nothing.
use Rattle.std.specs.Prelude.{Bool, ◌&&◌, cond, Float}
use Rattle.std.specs.Float.{binary64}
use Rattle.std.specs.Float.Ieee.{of_bits, lt}
use Rattle.real.specs.Operators.{◌⊖◌, ◌⊗◌, ◌⊘◌, 1f, 3f}
use Rattle.real.specs.StandIns.{clamp}
use Rattle.geom.specs.declared.point.P.{P}
use Rattle.geom.specs.Point.{plus, minus, times, len}
use Rattle.cubic.specs.Cubic.{CEPS}
use Rattle.path.specs.declared.anchor.Anchor.{Anchor}
use Rattle.path.specs.Anchor.{is_smooth}

-- 0.08 and 0.92
abbrev pub lowest : Float
lowest = of_bits binary64 0x3FB4_7AE1_47AE_147B

abbrev pub highest : Float
highest = of_bits binary64 0x3FED_70A3_D70A_3D71

-- how far both inner control points move so that the point at t moves by delta: 1 / (3 t (1 - t)) times as far, products from the left
unfoldable pub pull : Float → P → P
pull t delta = let s = clamp t lowest highest in times delta (1f ⊘ (3f ⊗ s ⊗ (1f ⊖ s)))

-- the handle across p from one that was moved: turned opposite to it, as long as it was; as it is where the moved one is no longer than 1e-9
unfoldable pub across : P → P → P → P
across p moved other =
    let u = minus moved p in
    cond (lt CEPS (len u)) (minus p (times u (len (minus other p) ⊘ len u))) other

-- the same where it is to turn
unfoldable pub turned : Bool → P → P → P → P
turned turns p moved other = cond turns (across p moved other) other

-- the segment's start, of which the handle out moves, and its end, of which the handle in does; an anchor that was smooth stays smooth where `keep` says so
unfoldable pub bent_out : P → Bool → Anchor → Anchor
bent_out v keep o =
    let moved = plus o.h_out v in
    record { p = o.p; h_in = turned (keep && is_smooth o) o.p moved o.h_in; h_out = moved }

unfoldable pub bent_in : P → Bool → Anchor → Anchor
bent_in v keep o =
    let moved = plus o.h_in v in
    record { p = o.p; h_in = moved; h_out = turned (keep && is_smooth o) o.p moved o.h_out }
