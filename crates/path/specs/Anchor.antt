-- Anchors, after 000's `Anchor`, and the cubic of a segment. Assumes nothing.
use Rattle.std.specs.Prelude.{Bool, not, ◌&&◌, ◌||◌, List, Float}
use Rattle.std.specs.Float.{binary64}
use Rattle.std.specs.Float.Ieee.{of_bits, lt}
use Rattle.real.specs.Operators.{◌⊗◌, ◌⊘◌, 0f}
use Rattle.real.specs.StandIns.{abs}
use Rattle.geom.specs.declared.point.P.{P}
use Rattle.geom.specs.Point.{minus, same, dot, cross, len}
use Rattle.cubic.specs.Cubic.{CEPS, four}
use Rattle.path.specs.declared.anchor.Anchor.{Anchor}

-- `Anchor::corner`
abbrev pub without_handles : P → Anchor
without_handles p = record { p = p; h_in = p; h_out = p }

-- `has_handles`
unfoldable pub has_handles : Anchor → Bool
has_handles a = not (same a.h_in a.p) || not (same a.h_out a.p)

abbrev pub 1e-3 : Float
1e-3 = of_bits binary64 0x3F50_624D_D2F1_A9FC

-- `is_smooth`: both handles at least 1e-9 long, |cross| / (product of lengths) < 1e-3, dot < 0
unfoldable pub is_smooth : Anchor → Bool
is_smooth o =
    let a = minus o.h_in o.p in
    let b = minus o.h_out o.p in
    not (lt (len a) CEPS || lt (len b) CEPS)
    && (lt (abs (cross a b ⊘ (len a ⊗ len b))) 1e-3 && lt (dot a b) 0f)

-- `cubic`: the control points of the segment from a to b
abbrev pub segment : Anchor → Anchor → List P
segment a b = four a.p a.h_out b.h_in b.p
