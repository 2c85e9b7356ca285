-- The parts of the text follow each other.
use Rattle.std.proofs.Common.{rules, arith, ◌<◌, ◌^◌, length}
use Rattle.decimal.proofs.Puts.{then}
use Rattle.printing.specs.Refused.{refused_text}
use Rattle.printing.proofs.Rooms.{refused-room}
use Rattle.printing.proofs.refused.add_refused.Goals as goal

pub returns : goal.returns
unfolding refused_text
returns c =
    let h : length c.args.text.now.out.now < 2 ^ 64 = search rules in
    let a = then h (then h (then h c.put_bytes.ensures (rw c.from.ensures at c.put_whole.ensures)) c.put.ensures) c.put_whole-2.ensures in
    record { text = a; room = omega (arith, a.end, refused-room c.args.number c.args.place c.ranges.number.fits c.ranges.place.fits) }
