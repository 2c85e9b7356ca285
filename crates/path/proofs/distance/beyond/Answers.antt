-- The squares are compared where the contract compares lengths.
use mathlib.Core.Path.{sym}
use Rattle.path.proofs.Distances.{beyond-is}
use Rattle.path.proofs.distance.beyond.Goals as goal

pub returns : goal.returns
returns c = rw c.dot.ensures (sym (beyond-is c.args.d))
