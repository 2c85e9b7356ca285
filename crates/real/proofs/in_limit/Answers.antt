-- The two tests are the limit.
use Rattle.std.proofs.Common.{◌∙◌}
use lib.Ieee.{of_bits, neg}
use Rattle.real.proofs.Limits.{in_limit_lem}
use Rattle.real.proofs.in_limit.Goals as goal

pub returns-then-x : goal.returns-then-x
unfolding of_bits neg
returns-then-x c = rw c.if-x.true at (in_limit_lem c.args.x)

pub returns-else-x : goal.returns-else-x
unfolding of_bits neg
returns-else-x c = c.if-x.false ∙ (rw c.if-x.false at (in_limit_lem c.args.x))
