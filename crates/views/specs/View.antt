-- A list as a function of the index, and what a lent list holds after its first entries were written. Assumes nothing.
use Rattle.std.specs.Prelude.{ℕ, zero, suc, List, [], ◌∷◌, get_or, Float}
use Rattle.std.specs.Float.{nan}

-- the number at index i, and nan past the end
abbrev pub entry : List Float → ℕ → Float
entry xs i = get_or xs i nan

-- f 0, f 1, .., f (n - 1)
unfoldable pub tabulate : {A : Type 0} → ℕ → (ℕ → A) → List A
tabulate zero f = []
tabulate (suc n) f = f zero ∷ tabulate n (λ i. f (suc i))

-- xs with f 0, .., f (n - 1) in place of its first n entries, as far as it reaches; its length and the rest stay
unfoldable pub overwrite : {A : Type 0} → ℕ → (ℕ → A) → List A → List A
overwrite n f [] = []
overwrite zero f (x ∷ xs) = x ∷ xs
overwrite (suc n) f (x ∷ xs) = f zero ∷ overwrite n (λ i. f (suc i)) xs
