-- After byte i one byte more is put.
use Rattle.std.proofs.Common.{◌<◌, ◌^◌, length, add-one, rules, arith}
use Rattle.std.proofs.Math.Seq.{take-suc}
use Rattle.decimal.proofs.Puts.{then}
use Rattle.decimal.proofs.text.Text.put_bytes.Goals as goal

pub loop-b-preserved : goal.loop-b-preserved
loop-b-preserved c =
    let h : length c.args.self.now.out.now < 2 ^ 64 = search rules in
    let i : c.loop-b.b-index < length c.args.text.now = omega arith in
    rw (add-one, take-suc c.args.text.now c.loop-b.b-index 0 i) (then h c.loop-b.invariant c.put.ensures)
