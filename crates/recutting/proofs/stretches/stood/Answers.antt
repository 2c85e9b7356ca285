-- `recutting::stretches::stood`: before the gap, or past it.
use Rattle.std.proofs.Common.{sym}
use native.Mathlib.Omega.{arith}
use Rattle.cut.proofs.Shifts.{old_low, old_high}
use Rattle.recutting.proofs.stretches.stood.Goals as goal

pub returns-then-i-gap : goal.returns-then-i-gap
returns-then-i-gap c = sym (old_low _ _ (omega arith))

pub returns-else-i-gap : goal.returns-else-i-gap
returns-else-i-gap c = sym (old_high _ _ (omega arith))
