-- The text of some paths, among them document 01's cut squares. Numbers are given as bit patterns of binary64. Assumes nothing.
use mathlib.Core.Path.{◌≡◌, refl}
use mathlib.Core.List.{List, [], ◌∷◌}
use Prim.Native.Nat.{ℕ}
use lib.Ieee.{Float, binary64, of_bits, eq}
use Rattle.geom.specs.Point.{same}
use Rattle.cubic.specs.Sample.{straight}
use Rattle.path.specs.Flat.{anchor_at}
use Rattle.decimal.specs.Rounding.{in_thousandths}
use Rattle.decimal.specs.Text.{thousandths_text}
use Rattle.svg.specs.Path.{text_of}

abbrev f : ℕ → Float
f b = of_bits binary64 b

abbrev Writes : List ℕ → List Float → List ℕ → Type 0
Writes shapes anchors text = text_of shapes (anchor_at anchors) ≡ text

-- 'M2 0 L8 0 L8 8 L0 8 L0 2 Z'
chamfered : Writes (2147483653 ∷ []) (f 0x4000000000000000 ∷ f 0x0 ∷ f 0x4000000000000000 ∷ f 0x0 ∷ f 0x4000000000000000 ∷ f 0x0 ∷ f 0x4020000000000000 ∷ f 0x0 ∷ f 0x4020000000000000 ∷ f 0x0 ∷ f 0x4020000000000000 ∷ f 0x0 ∷ f 0x4020000000000000 ∷ f 0x4020000000000000 ∷ f 0x4020000000000000 ∷ f 0x4020000000000000 ∷ f 0x4020000000000000 ∷ f 0x4020000000000000 ∷ f 0x0 ∷ f 0x4020000000000000 ∷ f 0x0 ∷ f 0x4020000000000000 ∷ f 0x0 ∷ f 0x4020000000000000 ∷ f 0x0 ∷ f 0x4000000000000000 ∷ f 0x0 ∷ f 0x4000000000000000 ∷ f 0x0 ∷ f 0x4000000000000000 ∷ []) (77 ∷ 50 ∷ 32 ∷ 48 ∷ 32 ∷ 76 ∷ 56 ∷ 32 ∷ 48 ∷ 32 ∷ 76 ∷ 56 ∷ 32 ∷ 56 ∷ 32 ∷ 76 ∷ 48 ∷ 32 ∷ 56 ∷ 32 ∷ 76 ∷ 48 ∷ 32 ∷ 50 ∷ 32 ∷ 90 ∷ [])
unfolding text_of of_bits in_thousandths thousandths_text eq same straight
chamfered = refl

-- 'M2 0 L8 0 L8 8 L0 8 L0 2 C0 0.895 0.895 0 2 0 Z'
rounded : Writes (2147483653 ∷ []) (f 0x4000000000000000 ∷ f 0x0 ∷ f 0x3FECA75DDD61E2A2 ∷ f 0x0 ∷ f 0x4000000000000000 ∷ f 0x0 ∷ f 0x4020000000000000 ∷ f 0x0 ∷ f 0x4020000000000000 ∷ f 0x0 ∷ f 0x4020000000000000 ∷ f 0x0 ∷ f 0x4020000000000000 ∷ f 0x4020000000000000 ∷ f 0x4020000000000000 ∷ f 0x4020000000000000 ∷ f 0x4020000000000000 ∷ f 0x4020000000000000 ∷ f 0x0 ∷ f 0x4020000000000000 ∷ f 0x0 ∷ f 0x4020000000000000 ∷ f 0x0 ∷ f 0x4020000000000000 ∷ f 0x0 ∷ f 0x4000000000000000 ∷ f 0x0 ∷ f 0x4000000000000000 ∷ f 0x0 ∷ f 0x3FECA75DDD61E2A2 ∷ []) (77 ∷ 50 ∷ 32 ∷ 48 ∷ 32 ∷ 76 ∷ 56 ∷ 32 ∷ 48 ∷ 32 ∷ 76 ∷ 56 ∷ 32 ∷ 56 ∷ 32 ∷ 76 ∷ 48 ∷ 32 ∷ 56 ∷ 32 ∷ 76 ∷ 48 ∷ 32 ∷ 50 ∷ 32 ∷ 67 ∷ 48 ∷ 32 ∷ 48 ∷ 46 ∷ 56 ∷ 57 ∷ 53 ∷ 32 ∷ 48 ∷ 46 ∷ 56 ∷ 57 ∷ 53 ∷ 32 ∷ 48 ∷ 32 ∷ 50 ∷ 32 ∷ 48 ∷ 32 ∷ 90 ∷ [])
unfolding text_of of_bits in_thousandths thousandths_text eq same straight
rounded = refl

-- 'M-1.5 0.062 L3 0 M1 1 Z'
two_and-empty : Writes (0 ∷ 2 ∷ 2147483648 ∷ 2147483649 ∷ 2147483648 ∷ []) (f 0xBFF8000000000000 ∷ f 0x3FB0000000000000 ∷ f 0xBFF8000000000000 ∷ f 0x3FB0000000000000 ∷ f 0xBFF8000000000000 ∷ f 0x3FB0000000000000 ∷ f 0x4008000000000000 ∷ f 0xBF3A36E2EB1C432D ∷ f 0x4008000000000000 ∷ f 0xBF3A36E2EB1C432D ∷ f 0x4008000000000000 ∷ f 0xBF3A36E2EB1C432D ∷ f 0x3FF0000000000000 ∷ f 0x3FF0000000000000 ∷ f 0x3FF0000000000000 ∷ f 0x3FF0000000000000 ∷ f 0x3FF0000000000000 ∷ f 0x3FF0000000000000 ∷ []) (77 ∷ 45 ∷ 49 ∷ 46 ∷ 53 ∷ 32 ∷ 48 ∷ 46 ∷ 48 ∷ 54 ∷ 50 ∷ 32 ∷ 76 ∷ 51 ∷ 32 ∷ 48 ∷ 32 ∷ 77 ∷ 49 ∷ 32 ∷ 49 ∷ 32 ∷ 90 ∷ [])
unfolding text_of of_bits in_thousandths thousandths_text eq same straight
two_and-empty = refl

-- 'M0 0 L1 0 Z'
minus-zero-is-straight : Writes (2147483650 ∷ []) (f 0x0 ∷ f 0x8000000000000000 ∷ f 0x0 ∷ f 0x0 ∷ f 0x8000000000000000 ∷ f 0x0 ∷ f 0x3FF0000000000000 ∷ f 0x8000000000000000 ∷ f 0x3FF0000000000000 ∷ f 0x8000000000000000 ∷ f 0x3FF0000000000000 ∷ f 0x8000000000000000 ∷ []) (77 ∷ 48 ∷ 32 ∷ 48 ∷ 32 ∷ 76 ∷ 49 ∷ 32 ∷ 48 ∷ 32 ∷ 90 ∷ [])
unfolding text_of of_bits in_thousandths thousandths_text eq same straight
minus-zero-is-straight = refl

-- 'M0 0 C1 2 3 4 5 6'
open-curve : Writes (2 ∷ []) (f 0x0 ∷ f 0x0 ∷ f 0x4022000000000000 ∷ f 0x4022000000000000 ∷ f 0x3FF0000000000000 ∷ f 0x4000000000000000 ∷ f 0x4014000000000000 ∷ f 0x4018000000000000 ∷ f 0x4008000000000000 ∷ f 0x4010000000000000 ∷ f 0x401C000000000000 ∷ f 0x401C000000000000 ∷ []) (77 ∷ 48 ∷ 32 ∷ 48 ∷ 32 ∷ 67 ∷ 49 ∷ 32 ∷ 50 ∷ 32 ∷ 51 ∷ 32 ∷ 52 ∷ 32 ∷ 53 ∷ 32 ∷ 54 ∷ [])
unfolding text_of of_bits in_thousandths thousandths_text eq same straight
open-curve = refl
