-- The root of the bar was tested, or it is the infinity.
use mathlib.Core.Path.{refl}
use lib.Ieee.{of_bits}
use Rattle.real.proofs.Tables.{some, square_rises, sum_rises}
use Rattle.hit.proofs.Bars.{nothing-barred, endless}
use Rattle.hit.proofs.best.Best.nothing.Goals as goal

pub returns-then-tol-root-clause-bar : goal.returns-then-tol-root-clause-bar
unfolding of_bits
returns-then-tol-root-clause-bar c = nothing-barred _ _ _ refl refl (sum_rises _ _ (square_rises _) (some tt)) (rw c.root.ensures at c.if-tol-root.true)

pub returns-else-tol-root-clause-bar : goal.returns-else-tol-root-clause-bar
unfolding of_bits
returns-else-tol-root-clause-bar c = nothing-barred _ _ _ refl refl (some tt) (endless _ c.requires)
