-- Searches and counts over the indices 0 .. n - 1, each judged by a Bool: how 'all', 'the first that' and 'how many' are said. Assumes nothing.
use Rattle.std.specs.Prelude.{ℕ, zero, suc, Bool, true, ◌&&◌, cond}

-- every index below n passes
unfoldable pub all : (ℕ → Bool) → ℕ → Bool
all p zero = true
all p (suc n) = p zero && all (λ k. p (suc k)) n

-- the first index below n that does not pass, and n where all pass
unfoldable pub first_false : (ℕ → Bool) → ℕ → ℕ
first_false p zero = zero
first_false p (suc n) = cond (p zero) (suc (first_false (λ k. p (suc k)) n)) zero

-- how many indices below n pass
unfoldable pub count : (ℕ → Bool) → ℕ → ℕ
count p zero = zero
count p (suc n) = let r = count (λ k. p (suc k)) n in cond (p zero) (suc r) r
