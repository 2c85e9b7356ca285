-- What is read is a drawing that passes its tests.
use mathlib.Core.Path.{refl, sym}
use Rattle.std.proofs.Common.{rules, arith}
use lib.Seq.{length-take-le}
use Rattle.decimal.proofs.Puts.{nothing}
use Rattle.replay.specs.Encoding.{calls_of, calls_known}
use Rattle.printing.proofs.Jobs.{read-given}
use Rattle.reporting.proofs.JobLists.{report_long, read_refuses, read-drawn, read-report}
use Rattle.reporting.proofs.reports.report_job.Goals as goal

pub returns-then-bytes-gt32768 : goal.returns-then-bytes-gt32768
returns-then-bytes-gt32768 c =
    let s = c.args in
    let f = c.refuse.ensures in
    let e = report_long (calls_known s.codes.now) (calls_of s.codes.now s.values.now) s.bytes.now c.if-bytes-gt32768.true in
    record { lines = rw (← e, f.lines) (nothing _ 0); text = rw (← e) (rw c.at.ensures at f.text); room = f.room }

pub slice_bounds-shapes-end : goal.slice_bounds-shapes-end
slice_bounds-shapes-end c = omega (arith, (read-given _ _ _ _ refl refl refl (omega arith) _ (sym c.in-Ok.ensures.answer)).few_words)

pub slice_bounds-report_drawing-end : goal.slice_bounds-report_drawing-end
slice_bounds-report_drawing-end c =
    let g = read-given _ _ _ _ refl refl refl (omega arith) _ (sym c.in-Ok.ensures.answer) in
    sym (length-take-le _ _ (omega (arith, g.few_words)))

pub report_drawing-requires-clause-drawing : goal.report_drawing-requires-clause-drawing
report_drawing-requires-clause-drawing c =
    let s = c.args in
    let e = c.in-Ok.ensures in
    let g = read-given _ _ _ _ refl refl refl (omega arith) _ (sym e.answer) in (
      read-drawn _ _ _ _ refl refl refl (calls_known s.codes.now) (calls_of s.codes.now s.values.now) (omega arith) _ g _ _ _ e.shapes e.anchors e.radii,
      search rules,
      search rules,
    )

pub returns-in-Err : goal.returns-in-Err
returns-in-Err c =
    let s = c.args in
    let f = c.refuse-in-Err.ensures in
    let e = read_refuses _ _ _ _ refl refl refl (calls_known s.codes.now) (calls_of s.codes.now s.values.now) (omega arith) _ (sym c.in-Err.ensures.answer) in
    record {
      lines = rw (← e, f.lines) (nothing _ 0);
      text = rw (← e) f.text;
      room = f.room;
    }

pub returns-in-Ok : goal.returns-in-Ok
returns-in-Ok c =
    let s = c.args in
    let e = c.in-Ok.ensures in
    let p = c.report_drawing.ensures in
    let g = read-given _ _ _ _ refl refl refl (omega arith) _ (sym e.answer) in
    let x = read-report _ _ _ _ refl refl refl (calls_known s.codes.now) (calls_of s.codes.now s.values.now) (omega arith) _ g _ _ _ e.shapes e.anchors e.radii in
    record { lines = rw (← x) p.lines; text = rw (← x) p.text; room = p.room }
