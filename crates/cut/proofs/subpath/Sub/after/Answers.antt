-- A neighbour is an index.
use Rattle.cut.proofs.Steps.{next-lt}
use Rattle.cut.proofs.subpath.Sub.after.Goals as goal

pub returns-clause-inside : goal.returns-clause-inside
returns-clause-inside c = rw c.next.ensures (next-lt c.args.self.n c.args.i c.requires)
