-- `recutting::stretches::rolled`: on either side of the stretch's start.
use Rattle.std.proofs.Common.{sym}
use native.Mathlib.Omega.{arith}
use Rattle.cut.proofs.Unrolled.{rolled_in, rolled-round}
use Rattle.recutting.proofs.stretches.rolled.Goals as goal

pub returns-then-from-i : goal.returns-then-from-i
returns-then-from-i c = sym (rolled_in _ _ _ (omega arith))

pub returns-else-from-i : goal.returns-else-from-i
returns-else-from-i c = sym (rolled-round _ _ _ (omega arith))
