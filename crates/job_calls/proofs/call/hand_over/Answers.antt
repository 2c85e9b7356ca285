-- `job_calls::call::hand_over`: the lent lists are written where all of them have room.
use Rattle.std.proofs.Common.{sym, ◌∙◌}
use lib.Ieee.{nan}
use Rattle.job_calls.specs.Call.{handed}
use Rattle.job_calls.proofs.call.hand_over.Goals as goal

pub returns-clause-shapes : goal.returns-clause-shapes
unfolding handed
returns-clause-shapes c = rw (sym c.has_room.ensures ∙ c.if-not-has_room.false) (c.copy.ensures 0)

pub returns-clause-anchors : goal.returns-clause-anchors
unfolding handed
returns-clause-anchors c = rw (sym c.has_room.ensures ∙ c.if-not-has_room.false) (c.copy-2.ensures nan)

pub returns-clause-radii : goal.returns-clause-radii
unfolding handed
returns-clause-radii c = rw (sym c.has_room.ensures ∙ c.if-not-has_room.false) (c.copy-3.ensures nan)
