-- Every piece of the table holds: the prints by their laws, the others by computation. Assumes nothing.
use mathlib.Core.Path.{◌≡◌, refl, ap₂}
use mathlib.Core.List.{List, ◌∷◌, map}
use Prim.Native.Nat.{ℕ}
use lib.Ieee.{of_bits, to_bits, add, sub, mul}
use Rattle.root.specs.Root.{root_of}
use Rattle.geom.specs.Point.{plus, minus, times, len, lerp}
use Rattle.geom.specs.Flat.{coordinate, coordinates}
use Rattle.views.specs.View.{tabulate}
use Rattle.views.specs.Search.{count}
use Rattle.cubic.specs.Cubic.{cubic_at}
use Rattle.cubic.specs.DeCasteljau.{casteljau, curve_before}
use Rattle.decimal.specs.Text.{float_text}
use Rattle.cut.specs.Near.{gap, near, near_count}
use Rattle.samples.specs.Written.{ascii}
use Rattle.samples.specs.Pieces.{Piece, pieces}
use Rattle.samples.proofs.Prints.{chamfer_prints, round_prints, inverted_prints}

abbrev pub given-of : Piece → List ℕ
given-of p = p.given

abbrev pub written_of : Piece → List ℕ
written_of p = p.written

infixr 60 ◌then◌
-- one piece, and the pieces after it
◌then◌ : {x y : List ℕ} {xs ys : List (List ℕ)} → x ≡ y → xs ≡ ys → x ∷ xs ≡ y ∷ ys
e then h = ap₂ (λ x xs. x ∷ xs) e h

pub pieces_hold : map given-of pieces ≡ map written_of pieces
unfolding pieces root_of len plus minus times lerp coordinate coordinates tabulate cubic_at casteljau curve_before float_text ascii near_count near gap count of_bits to_bits add sub mul
pieces_hold =
    refl then refl then refl then refl then refl then refl then refl then refl
    then chamfer_prints
    then round_prints
    then inverted_prints
    then refl
