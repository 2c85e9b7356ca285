-- A curveto's letter and three points.
use Rattle.std.proofs.Common.{◌<◌, ◌^◌, length, rules}
use Rattle.decimal.proofs.Puts.{then}
use Rattle.svg.specs.Path.{curve_to}
use Rattle.svg.proofs.Glues.{glue_one, text-curve, three_points}
use Rattle.svg.proofs.commands.put_curve.Goals as goal

pub returns-clause-text : goal.returns-clause-text
returns-clause-text c =
    let s = c.args in
    let h : length c.args.text.now.out.now < 2 ^ 64 = search rules in
    let two = then h (then h c.put_command.ensures.text c.put.ensures) c.put_point.ensures.text in
    let three = then h (then h two c.put-2.ensures) c.put_point-2.ensures.text in
    rw (glue_one s.text.now.at (curve_to s.a s.b s.p) 67 _ (text-curve s.a s.b s.p), ← three_points) three
