-- The squares are compared where the contract compares lengths.
use mathlib.Core.Path.{sym}
use Rattle.path.proofs.Distances.{short-is}
use Rattle.path.proofs.distance.short.Goals as goal

pub returns : goal.returns
returns c = rw c.dot.ensures (sym (short-is c.args.d))
