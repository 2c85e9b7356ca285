-- `replay::calls::refuse_unknown`: the first tests refuse, or the call that is none of the three.
use Rattle.std.proofs.Common.{sym}
use Rattle.cached.specs.Opening.{lent}
use Rattle.replay.proofs.Outcomes.{unknown_closed, unknown_open}
use Rattle.replay.proofs.calls.refuse_unknown.Goals as goal

pub returns-in-Ok : goal.returns-in-Ok
returns-in-Ok c = let a = c.args in rw c.at.ensures (unknown_open (lent a.shapes.now a.anchors.now a.radii.now a.numbers.now a.flags.now) _ (sym c.in-Ok.ensures))

pub returns-in-Err : goal.returns-in-Err
returns-in-Err c = let a = c.args in unknown_closed (lent a.shapes.now a.anchors.now a.radii.now a.numbers.now a.flags.now) _ (sym c.in-Err.ensures)
