-- The number of a word: 32 bits of two's complement, in units of 1/1024. Assumes nothing.
use Rattle.std.specs.Prelude.{ℕ, ◌-◌, cond, ltb, Float}
use Rattle.std.specs.Float.Ieee.{neg}
use Rattle.real.specs.Operators.{◌⊘◌, float}
use Rattle.job.specs.Number.{1024f}

-- from 2^31 on a word w stands for w - 2^32
unfoldable pub number_of : ℕ → Float
number_of w = cond (ltb w 2147483648) (float w ⊘ 1024f) (neg (float (4294967296 - w) ⊘ 1024f))
