-- Document 01's starred sample pieces, in one table: what the definitions give beside what the document writes. Assumes nothing.
use Rattle.std.specs.Prelude.{ℕ, true, false, List, [], ◌∷◌, map, Float}
use Rattle.std.specs.Float.{binary64}
use Rattle.std.specs.Float.Ieee.{of_bits, to_bits}
use Rattle.root.specs.Root.{root_of}
use Rattle.real.specs.Operators.{0f, 2f, 4f}
use Rattle.geom.specs.declared.point.P.{P}
use Rattle.geom.specs.Point.{point, origin, len}
use Rattle.geom.specs.Flat.{coordinates, pt}
use Rattle.views.specs.View.{tabulate}
use Rattle.cubic.specs.Cubic.{four, cubic_at}
use Rattle.cubic.specs.DeCasteljau.{curve_before}
use Rattle.decimal.specs.Text.{float_text}
use Rattle.cut.specs.Near.{near_count}
use Rattle.printing.specs.Printed.{printed}
use Rattle.samples.specs.Written.{ascii, bytes_of}

-- a piece, as the definitions give it and as document 01 writes it: bits of numbers, bytes of a text, or a count
pub record Piece : Type 0 where
  pub given : List ℕ
  pub written : List ℕ

bits : List Float → List ℕ
bits xs = map (to_bits binary64) xs

abbrev half : Float
half = of_bits binary64 0x3FE0_0000_0000_0000

abbrev five : Float
five = of_bits binary64 0x4014_0000_0000_0000

abbrev twelve : Float
twelve = of_bits binary64 0x4028_0000_0000_0000

-- 0.0625, 0.1875 and -0.0004
abbrev sixteenth : Float
sixteenth = of_bits binary64 0x3FB0_0000_0000_0000

abbrev three_sixteenths : Float
three_sixteenths = of_bits binary64 0x3FC8_0000_0000_0000

abbrev less_than_half : Float
less_than_half = of_bits binary64 0xBF3A_36E2_EB1C_432D

-- (0,0) (0,4) (4,4) (4,0)
abbrev arch : List P
arch = four origin (point 0f 4f) (point 4f 4f) (point 4f 0f)

-- the job of a square, with this head
abbrev pub square_job : ℕ → List ℕ
square_job head =
    bytes_of
    (head ∷ 0x1000_0001 ∷ 0x2000_0000 ∷ 0x3000_0000 ∷ 0x8000_0800 ∷ 0x2000_2000 ∷ 0x3000_0000 ∷ 0x2000_2000 ∷ 0x3000_2000 ∷ 0x2000_0000 ∷ 0x3000_2000
    ∷ 0xF000_0000
    ∷ [])

unfoldable pub pieces : List Piece
unfolding bits
pieces =
    -- root 2: bits 0x3FF6A09E667F3BCD
    record { given = bits (root_of 2f ∷ []); written = 0x3FF6_A09E_667F_3BCD ∷ [] }
    -- len(5,12) = 13
    ∷ record { given = bits (len (point five twelve) ∷ []); written = 0x402A_0000_0000_0000 ∷ [] }
    -- len(0,0) = 0
    ∷ record { given = bits (len origin ∷ []); written = 0 ∷ [] }
    -- the arch at 0.5: (2,3)
    ∷ record { given = bits ((cubic_at arch half).x ∷ (cubic_at arch half).y ∷ []); written = 0x4000_0000_0000_0000 ∷ 0x4008_0000_0000_0000 ∷ [] }
    -- its left half: (0,0) (0,2) (1,3) (2,3)
    ∷ record {
      given = bits (tabulate 8 (coordinates (pt (curve_before arch half))));
      written = 0 ∷ 0 ∷ 0 ∷ 0x4000_0000_0000_0000 ∷ 0x3FF0_0000_0000_0000 ∷ 0x4008_0000_0000_0000 ∷ 0x4000_0000_0000_0000 ∷ 0x4008_0000_0000_0000 ∷ [];
    }
    -- 0.0625 writes 0.062
    ∷ record { given = float_text sixteenth; written = ascii "0.062" }
    -- 0.1875 writes 0.188
    ∷ record { given = float_text three_sixteenths; written = ascii "0.188" }
    -- -0.0004 writes 0
    ∷ record { given = float_text less_than_half; written = ascii "0" }
    -- what the job prints; with head 0; with head 1
    ∷ record { given = printed (square_job 2); written = ascii "M2 0 L8 0 L8 8 L0 8 L0 2 Z" }
    ∷ record { given = printed (square_job 0); written = ascii "M2 0 L8 0 L8 8 L0 8 L0 2 C0 0.895 0.895 0 2 0 Z" }
    ∷ record { given = printed (square_job 1); written = ascii "M2 0 L8 0 L8 8 L0 8 L0 2 C1.105 2 2 1.105 2 0 Z" }
    -- recut: closed 8, move 7, radius 5; closed 5, move 5
    ∷ record { given = near_count 3 8 true 0 ∷ near_count 2 8 true 0 ∷ near_count 3 5 true 0 ∷ []; written = 7 ∷ 5 ∷ 5 ∷ [] }
    -- open 10, move of anchor 0, 4; split at segment 0, 6
    ∷ record { given = near_count 3 10 false 0 ∷ near_count 4 11 false 1 ∷ []; written = 4 ∷ 6 ∷ [] }
    ∷ []
