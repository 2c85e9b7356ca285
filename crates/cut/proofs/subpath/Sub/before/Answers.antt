-- A neighbour is an index.
use Rattle.cut.proofs.Steps.{prev-lt}
use Rattle.cut.proofs.subpath.Sub.before.Goals as goal

pub returns-clause-inside : goal.returns-clause-inside
returns-clause-inside c = rw c.prev.ensures (prev-lt c.args.self.n c.args.i c.requires)
