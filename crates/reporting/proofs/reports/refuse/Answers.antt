-- A refusal's text takes at most 39 bytes.
use Rattle.std.proofs.Common.{arith}
use Rattle.printing.proofs.Rooms.{refusal_room}
use Rattle.reporting.proofs.reports.refuse.Goals as goal

pub returns-clause-room : goal.returns-clause-room
returns-clause-room c = record { lines = omega arith; text = omega (arith, c.put_refusal.ensures.end, refusal_room c.args.why (omega arith)) }
