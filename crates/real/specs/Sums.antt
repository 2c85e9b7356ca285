-- Running sums, as a table of lengths has them. Assumes nothing.
use Rattle.std.specs.Prelude.{ℕ, zero, suc, Float}
use Rattle.real.specs.Operators.{◌⊕◌, 0f}

-- the sum of the first k of f 0, f 1, .., each sum rounded
unfoldable pub running : (ℕ → Float) → ℕ → Float
running f zero = 0f
running f (suc k) = running f k ⊕ f k
