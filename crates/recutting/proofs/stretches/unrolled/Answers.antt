-- `recutting::stretches::unrolled`: before the end of the subpath, or round it.
use Rattle.std.proofs.Common.{sym}
use native.Mathlib.Omega.{arith}
use Rattle.cut.proofs.Unrolled.{unrolled_in, unrolled-round}
use Rattle.recutting.proofs.stretches.unrolled.Goals as goal

pub returns-then-from-j : goal.returns-then-from-j
returns-then-from-j c = sym (unrolled_in _ _ _ (omega arith))

pub returns-else-from-j : goal.returns-else-from-j
returns-else-from-j c = sym (unrolled-round _ _ _ (omega arith))
