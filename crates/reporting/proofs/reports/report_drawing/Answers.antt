-- The calls are run on the fresh cache, and what they answer and leave is put.
use mathlib.Core.Path.{refl, sym}
use Rattle.std.proofs.Common.{arith}
use Rattle.decimal.proofs.Puts.{nothing}
use Rattle.call_lines.proofs.Rooms.{fitted-room}
use Rattle.reporting.specs.Gathered.{held_text}
use Rattle.reporting.proofs.Replays.{refused-drawing, told_drawing}
use Rattle.reporting.proofs.reports.report_drawing.Goals as goal

pub returns-in-Err : goal.returns-in-Err
returns-in-Err c =
    let q = c.requires in
    let f = c.refuse.ensures in
    let e = refused-drawing _ _ _ _ _ _ q.drawing.0 q.drawing.1 q.drawing.2 q.calls.0 q.calls.1 q.calls.2 _ _ _ refl refl refl _ (sym c.in-Err.ensures.answer) in
    record { lines = rw (← e, f.lines) (nothing _ 0); text = rw (← e) f.text; room = f.room }

pub put_calls-requires : goal.put_calls-requires
put_calls-requires c =
    let q = c.requires in
    let e = c.in-Ok.ensures in
    let t = told_drawing _ _ _ _ _ _ q.drawing.0 q.drawing.1 q.drawing.2 q.calls.0 q.calls.1 q.calls.2 _ _ _ refl refl refl _ _ _ (sym e.answer) e.lists e.answers in
    (t.few, t.codes_each, omega (arith, t.few), t.sound)

pub put_outline-requires : goal.put_outline-requires
put_outline-requires c =
    let q = c.requires in
    let e = c.in-Ok.ensures in
    let t = told_drawing _ _ _ _ _ _ q.drawing.0 q.drawing.1 q.drawing.2 q.calls.0 q.calls.1 q.calls.2 _ _ _ refl refl refl _ _ _ (sym e.answer) e.lists e.answers in
    t.gathers

pub returns-in-Ok : goal.returns-in-Ok
returns-in-Ok c =
    let q = c.requires in
    let e = c.in-Ok.ensures in
    let t = told_drawing _ _ _ _ _ _ q.drawing.0 q.drawing.1 q.drawing.2 q.calls.0 q.calls.1 q.calls.2 _ _ _ refl refl refl _ _ _ (sym e.answer) e.lists e.answers in
    let p = c.put_calls.ensures in
    let o = c.put_outline.ensures in
    let n = c.replay.new in
    record {
      lines = rw t.report p.text;
      text = rw t.report o;
      room = record { lines = omega (arith, t.few, p.room); text = omega (arith, o.end, fitted-room (held_text n.shapes n.numbers n.flags)) };
    }
