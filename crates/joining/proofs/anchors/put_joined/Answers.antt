-- `joining::anchors::put_joined` meets its contract: the three parts, one after the other.
use Rattle.std.proofs.Common.{arith}
use lib.Ieee.{nan}
use Rattle.joining.proofs.Within.{length_rest}
use Rattle.joining.proofs.Laid.{put-joined-is}
use Rattle.joining.proofs.anchors.put_joined.Goals as goal

pub returns : goal.returns
returns c =
    let a = c.args in
    let r = length_rest a.target.anchors.now a.target.n a.target.at_start in
    put-joined-is a.drawn.now a.to.now _ _ _ a.before a.joint _ (omega (arith, c.requires.room)) (c.copy.ensures nan) c.put_anchor.ensures c.put_rest.ensures
