-- The nearest thousandth of a float, ties to the even one, and what that is to mean over whole numbers. Assumes nothing.
use Rattle.std.specs.Prelude.{ℕ, ◌+◌, ◌-◌, ◌*◌, ◌%◌, ◌≤◌, ◌≡◌, Bool, false, cond, ℤ, pos, neg_ℤ, Float}
use Rattle.std.specs.Float.{nan, inf, fin}
use Rattle.std.specs.Float.Ieee.{up, down}
use Rattle.std.specs.Float.Ieee.Nearest.{closest}

-- the whole number nearest to |x| * 1000. `closest a b` is a / b to the nearest whole number, a tie to the even one
unfoldable pub thousandths_of : Float → ℕ
thousandths_of nan = 0
thousandths_of (inf s) = 0
thousandths_of (fin s m e) = closest (m * up e * 1000) (down e)

unfoldable pub sign_of : Float → Bool
sign_of nan = false
sign_of (inf s) = s
sign_of (fin s m e) = s

-- n, or -n where s is set. The integers have one zero
abbrev pub signed : Bool → ℕ → ℤ
signed s n = cond s (neg_ℤ (pos n)) (pos n)

-- x in thousandths
unfoldable pub in_thousandths : Float → ℤ
unfolding thousandths_of sign_of
in_thousandths x = signed (sign_of x) (thousandths_of x)

-- ---- what 'nearest, ties to even' means, said without a division

-- how far apart two numbers are
abbrev pub distance : ℕ → ℕ → ℕ
distance a b = (a - b) + (b - a)

-- q is the whole number nearest to n / d, and where another is as near q is even. (Distances are d times what they are to n / d.)
pub record NearestEven (n d q : ℕ) : Type 0 where
  pub near : (k : ℕ) → distance n (q * d) ≤ distance n (k * d)
  pub even : (k : ℕ) → (k ≡ q → ⊥) → distance n (k * d) ≡ distance n (q * d) → q % 2 ≡ 0
