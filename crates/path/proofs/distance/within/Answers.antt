-- The squares are compared where the contract compares lengths.
use mathlib.Core.Path.{sym}
use Rattle.path.proofs.Distances.{within-is}
use Rattle.path.proofs.distance.within.Goals as goal

pub returns : goal.returns
returns c = rw c.dot.ensures (sym (within-is c.args.d))
