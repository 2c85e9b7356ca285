-- The nearest of candidates that are numbered in the order in which 000 tries them, for any number of them. Assumes nothing.
use Rattle.std.specs.Prelude.{ℕ, zero, suc, Bool, true, ◌&&◌, cond, Float, Option, Some, None}
use Rattle.std.specs.Float.Ieee.{lt}

-- candidate k is nearer than the one found before it, by their distances d
unfoldable pub nearer : (ℕ → Float) → ℕ → Option ℕ → Bool
nearer d k None = true
nearer d k (Some j) = lt (d k) (d j)

-- of the first n candidates, those that are within: a later one counts only where it is nearer
unfoldable pub nearest : (ℕ → Bool) → (ℕ → Float) → ℕ → Option ℕ
unfolding nearer
nearest within d zero = None
nearest within d (suc k) = let best = nearest within d k in cond (within k && nearer d k best) (Some k) best
