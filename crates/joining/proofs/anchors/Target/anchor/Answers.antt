-- From the end, each anchor is turned.
use Rattle.std.proofs.Common.{arith}
use mathlib.Core.Path.{sym, ap, ◌∙◌}
use Rattle.path.specs.Flat.{anchor_at}
use Rattle.edit.specs.Reversed.{turned}
use Rattle.joining.specs.Joined.{target_at}
use Rattle.joining.proofs.Within.{reversed_at}
use Rattle.joining.proofs.anchors.Target.anchor.Goals as goal

pub returns-else-self : goal.returns-else-self
unfolding target_at
returns-else-self c =
    let a = c.args in
    rw c.if-self.false (c.turned.ensures ∙ ap turned c.anchor_at-else-self.ensures ∙ sym (reversed_at (anchor_at a.self.anchors.now) a.self.n a.k (omega arith)))
