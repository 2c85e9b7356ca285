-- What was refused or recut, then a newline.
use Rattle.std.proofs.Common.{◌<◌, ◌^◌, length, rules, arith}
use borrow.Author.Tests.{eq-eqb, ne_eqb}
use Rattle.decimal.specs.Put.{Adds}
use Rattle.decimal.proofs.Puts.{then}
use Rattle.printing.proofs.Rooms.{refused-room}
use Rattle.call_lines.specs.Lines.{window_of, sub_from, recut_places, recut_text, call_text, call_line}
use Rattle.call_lines.proofs.Rooms.{recut-room, window-reach}
use Rattle.call_lines.proofs.lines.put_call.Goals as goal
use Rattle.call_lines.proofs.lines.put_call.Goals.{then-refused, else-refused}

pub put_recut-requires : goal.put_recut-requires
put_recut-requires c =
    let a = c.args in
    (rw (c.sub_from.ensures, c.window_of.ensures) (c.requires c.if-refused.false), rw c.window_of.ensures (window-reach a.which a.index))

pub returns : goal.returns
unfolding call_line call_text
returns c =
    let a = c.args in
    let h : length a.text.now.out.now < 2 ^ 64 = search rules in
    elim c.if-refused.branch [
      | then-refused w ↦
          let n = refused-room a.number a.second (omega arith) (omega arith) in
          record {
            text = rw (ne_eqb a.number 0 w.if-refused.true) (then h w.add_refused.ensures.text (rw w.text-is at c.put.ensures));
            room = omega (arith, n, w.add_refused.ensures.room, rw w.text-is at c.put.ensures.end);
          }
      | else-refused w ↦
          let s = c.requires w.if-refused.false in
          let p : Adds a.text.now (recut_text (recut_places (sub_from a.first a.word) (window_of a.which a.index))) w.put_recut.new.text =
          rw (w.sub_from.ensures, w.window_of.ensures) at w.put_recut.ensures in
          let n = recut-room (sub_from a.first a.word) (window_of a.which a.index) s (window-reach a.which a.index) in
          record {
            text = rw (eq-eqb a.number 0 w.if-refused.false) (then h p (rw w.text-is at c.put.ensures));
            room = omega (arith, n, p.end, rw w.text-is at c.put.ensures.end);
          }
    ]
