-- A number's text has room before a usize ends.
use Rattle.std.proofs.Common.{rules, arith}
use Rattle.decimal.proofs.Puts.{from_place}
use Rattle.decimal.proofs.Room.{float-room}
use Rattle.decimal.proofs.writing.write_num.Goals as goal

pub returns-clause-text : goal.returns-clause-text
returns-clause-text c =
    let b = c.at-number.ensures in
    let p = from_place b.untouched b.place c.write_num.ensures.text (omega (arith, float-room c.args.x c.requires.0)) in
    search (rules, p)
