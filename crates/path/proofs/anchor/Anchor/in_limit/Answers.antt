-- The six numbers are those of the three points.
use Rattle.std.proofs.Common.{rules}
use Rattle.path.proofs.Anchors.{good_points}
use Rattle.path.proofs.anchor.Anchor.in_limit.Goals as goal

pub returns-then-in_limit-2 : goal.returns-then-in_limit-2
returns-then-in_limit-2 c = rw (good_points c.args.self) (search rules)

pub returns-else-in_limit-2 : goal.returns-else-in_limit-2
returns-else-in_limit-2 c = rw (good_points c.args.self) (search rules)
