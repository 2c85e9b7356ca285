-- A number of thousandths as decimal text, in bytes of ASCII: no needless zero, and no "-0" since the integers have one zero. Assumes nothing.
use Rattle.std.specs.Prelude.{ℕ, zero, suc, ◌+◌, ◌/◌, ◌%◌, cond, List, [], ◌∷◌, ◌++◌, ltb, eqb, ℤ, pos, negsuc, Float}
use Rattle.std.specs.Float.Ieee.{size}
use Rattle.decimal.specs.Rounding.{in_thousandths}

-- 45 is '-', 46 is '.', 48 is '0'

-- the decimal digits of n, the most significant first. k bounds the recursion
unfoldable pub digits : ℕ → ℕ → List ℕ
digits zero n = []
digits (suc k) n = cond (ltb n 10) ((48 + n) ∷ []) (digits k (n / 10) ++ ((48 + n % 10) ∷ []))

-- n has at most as many decimal digits as binary ones, and 0 has one
unfoldable pub whole_text : ℕ → List ℕ
unfolding digits size
whole_text n = digits (suc (size n)) n

-- the decimals f of a number, in thousandths: three, two or one, or none and no point
unfoldable pub fraction_text : ℕ → List ℕ
fraction_text f =
    cond (eqb f 0) []
    (cond (eqb (f % 100) 0) (46 ∷ (48 + f / 100) ∷ [])
    (cond (eqb (f % 10) 0) (46 ∷ (48 + f / 100) ∷ (48 + f / 10 % 10) ∷ [])
    (46 ∷ (48 + f / 100) ∷ (48 + f / 10 % 10) ∷ (48 + f % 10) ∷ [])))

unfoldable pub size_text : ℕ → List ℕ
unfolding whole_text fraction_text
size_text t = whole_text (t / 1000) ++ fraction_text (t % 1000)

unfoldable pub thousandths_text : ℤ → List ℕ
unfolding size_text
thousandths_text (pos t) = size_text t
thousandths_text (negsuc t) = 45 ∷ size_text (suc t)

-- `write_num`
unfoldable pub float_text : Float → List ℕ
unfolding in_thousandths thousandths_text
float_text x = thousandths_text (in_thousandths x)
