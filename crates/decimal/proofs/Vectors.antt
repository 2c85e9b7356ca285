-- The text of some numbers, given as bit patterns of binary64. Assumes nothing.
use mathlib.Core.Path.{◌≡◌, refl}
use mathlib.Core.List.{List, [], ◌∷◌}
use Prim.Native.Nat.{ℕ}
use lib.Ieee.{binary64, of_bits}
use Rattle.decimal.specs.Text.{float_text}

abbrev Writes : ℕ → List ℕ → Type 0
Writes b text = float_text (of_bits binary64 b) ≡ text

-- 0.0625: 0.062, a tie to the even
sixteenth : Writes 0x3FB0_0000_0000_0000 (48 ∷ 46 ∷ 48 ∷ 54 ∷ 50 ∷ [])
unfolding float_text of_bits
sixteenth = refl

-- 0.1875: 0.188, a tie to the even
three_sixteenths : Writes 0x3FC8_0000_0000_0000 (48 ∷ 46 ∷ 49 ∷ 56 ∷ 56 ∷ [])
unfolding float_text of_bits
three_sixteenths = refl

-- -0.0004: 0
no_minus-zero : Writes 0xBF3A_36E2_EB1C_432D (48 ∷ [])
unfolding float_text of_bits
no_minus-zero = refl

-- -0: 0
minus-zero : Writes 0x8000_0000_0000_0000 (48 ∷ [])
unfolding float_text of_bits
minus-zero = refl

-- 131072: 131072
largest : Writes 0x4100_0000_0000_0000 (49 ∷ 51 ∷ 49 ∷ 48 ∷ 55 ∷ 50 ∷ [])
unfolding float_text of_bits
largest = refl

-- -131071.999: -131071.999, 11 bytes
longest : Writes 0xC0FF_FFFF_FBE7_6C8B (45 ∷ 49 ∷ 51 ∷ 49 ∷ 48 ∷ 55 ∷ 49 ∷ 46 ∷ 57 ∷ 57 ∷ 57 ∷ [])
unfolding float_text of_bits
longest = refl

-- -2.5: -2.5
two_and_a_half : Writes 0xC004_0000_0000_0000 (45 ∷ 50 ∷ 46 ∷ 53 ∷ [])
unfolding float_text of_bits
two_and_a_half = refl
