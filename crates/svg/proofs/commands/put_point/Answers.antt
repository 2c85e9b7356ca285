-- A point's two numbers, a blank between them.
use Rattle.std.proofs.Common.{◌<◌, ◌^◌, length, append_assoc, rules}
use Rattle.decimal.proofs.Puts.{then}
use Rattle.svg.proofs.commands.put_point.Goals as goal

pub returns-clause-text : goal.returns-clause-text
returns-clause-text c =
    let h : length c.args.text.now.out.now < 2 ^ 64 = search rules in
    rw append_assoc at (then h (then h c.write_num.ensures.text c.put.ensures) c.write_num-2.ensures.text)
