-- Exact decimal numbers, compared by value. Assumes nothing.
use Rattle.std.specs.Prelude.{ℕ, suc, ◌*◌, ◌^◌, ◌≡◌, Bool, true, false, ℤ, pos, negsuc}
use Rattle.decimal.specs.Rounding.{signed}

-- `decimal s n up down` is n · 10^up / 10^down, negated where s is set
pub data Decimal : Type 0 where
  decimal : Bool → ℕ → ℕ → ℕ → Decimal

-- two decimals are one number: each side times both denominators
abbrev pub Same : Decimal → Decimal → Type 0
Same (decimal s n up down) (decimal r m above below) = signed s (n * 10 ^ up * 10 ^ below) ≡ signed r (m * 10 ^ above * 10 ^ down)

-- a number of thousandths
abbrev pub thousandths : ℤ → Decimal
thousandths (pos t) = decimal false t 0 3
thousandths (negsuc t) = decimal true (suc t) 0 3
