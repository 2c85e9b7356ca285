-- Rust's operators on f64, each rounded by itself, and the small whole numbers that 000 writes. Assumes nothing.
use Rattle.std.specs.Prelude.{ℕ, pos, Float}
use Rattle.std.specs.Float.{binary64}
use Rattle.std.specs.Float.Ieee.{of_bits, of_int, add, sub, mul, div}

infixl 65 ◌⊕◌ ◌⊖◌
infixl 70 ◌⊗◌ ◌⊘◌
-- + - * /
abbrev pub ◌⊕◌ : Float → Float → Float
◌⊕◌ x y = add binary64 x y

abbrev pub ◌⊖◌ : Float → Float → Float
◌⊖◌ x y = sub binary64 x y

abbrev pub ◌⊗◌ : Float → Float → Float
◌⊗◌ x y = mul binary64 x y

abbrev pub ◌⊘◌ : Float → Float → Float
◌⊘◌ x y = div binary64 x y

-- `k as f64`
abbrev pub float : ℕ → Float
float k = of_int binary64 (pos k)

-- 0.0, 1.0, 2.0, 3.0, 4.0 and 6.0, by their bits
abbrev pub 0f : Float
0f = of_bits binary64 0

abbrev pub 1f : Float
1f = of_bits binary64 0x3FF0_0000_0000_0000

abbrev pub 2f : Float
2f = of_bits binary64 0x4000_0000_0000_0000

abbrev pub 3f : Float
3f = of_bits binary64 0x4008_0000_0000_0000

abbrev pub 4f : Float
4f = of_bits binary64 0x4010_0000_0000_0000

abbrev pub 6f : Float
6f = of_bits binary64 0x4018_0000_0000_0000
