-- The number of a payload: 28 bits of two's complement, in units of 1/1024 mm. Assumes nothing.
use Rattle.std.specs.Prelude.{ℕ, ◌-◌, cond, ltb, Float}
use Rattle.std.specs.Float.{binary64}
use Rattle.std.specs.Float.Ieee.{of_bits, neg}
use Rattle.real.specs.Operators.{◌⊘◌, float}

abbrev pub 1024f : Float
1024f = of_bits binary64 0x4090_0000_0000_0000

-- from 2^27 on a payload p stands for p - 2^28
unfoldable pub number : ℕ → Float
number p = cond (ltb p 134217728) (float p ⊘ 1024f) (neg (float (268435456 - p) ⊘ 1024f))
