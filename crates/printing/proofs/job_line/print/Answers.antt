-- What is read is a drawing that passes its tests.
use mathlib.Core.Path.{refl, sym}
use Rattle.std.proofs.Common.{rules, arith}
use lib.Seq.{length-take-le}
use Rattle.printing.proofs.Jobs.{read-refused, read-given, given-text, given-drawn, long_text}
use Rattle.printing.proofs.job_line.print.Goals as goal

pub returns-then-bytes-gt32768 : goal.returns-then-bytes-gt32768
returns-then-bytes-gt32768 c = rw (← long_text c.args.bytes.now c.if-bytes-gt32768.true) (rw c.at.ensures at c.put_refusal.ensures)

pub slice_bounds-shapes-end : goal.slice_bounds-shapes-end
slice_bounds-shapes-end c = omega (arith, (read-given _ _ _ _ refl refl refl (omega arith) _ (sym c.in-Ok.ensures.answer)).few_words)

pub slice_bounds-put_drawing-end : goal.slice_bounds-put_drawing-end
slice_bounds-put_drawing-end c =
    let g = read-given _ _ _ _ refl refl refl (omega arith) _ (sym c.in-Ok.ensures.answer) in
    sym (length-take-le _ _ (omega (arith, g.few_words)))

pub overflow_mul-anchors : goal.overflow_mul-anchors
overflow_mul-anchors c =
    let g = read-given _ _ _ _ refl refl refl (omega arith) _ (sym c.in-Ok.ensures.answer) in
    record { fits = omega (arith, g.few) }

pub slice_bounds-anchors-end : goal.slice_bounds-anchors-end
slice_bounds-anchors-end c = omega (arith, (read-given _ _ _ _ refl refl refl (omega arith) _ (sym c.in-Ok.ensures.answer)).few)

pub slice_bounds-put_drawing-end-in-Ok : goal.slice_bounds-put_drawing-end-in-Ok
slice_bounds-put_drawing-end-in-Ok c =
    let g = read-given _ _ _ _ refl refl refl (omega arith) _ (sym c.in-Ok.ensures.answer) in
    sym (length-take-le _ _ (omega (arith, g.few)))

pub slice_bounds-radii-end : goal.slice_bounds-radii-end
slice_bounds-radii-end c = omega (arith, (read-given _ _ _ _ refl refl refl (omega arith) _ (sym c.in-Ok.ensures.answer)).few)

pub slice_bounds-put_drawing-end-in-Ok-2 : goal.slice_bounds-put_drawing-end-in-Ok-2
slice_bounds-put_drawing-end-in-Ok-2 c =
    let g = read-given _ _ _ _ refl refl refl (omega arith) _ (sym c.in-Ok.ensures.answer) in
    sym (length-take-le _ _ (omega (arith, g.few)))

pub put_drawing-requires : goal.put_drawing-requires
put_drawing-requires c =
    let e = c.in-Ok.ensures in
    let g = read-given _ _ _ _ refl refl refl (omega arith) _ (sym e.answer) in
    rw (e.shapes, e.anchors, e.radii) (given-drawn _ _ _ _ refl refl refl (omega arith) _ g)

pub returns-in-Err : goal.returns-in-Err
returns-in-Err c = rw (← read-refused _ _ _ _ refl refl refl (omega arith) _ (sym c.in-Err.ensures.answer)) c.put_refusal-in-Err.ensures

pub returns-in-Ok : goal.returns-in-Ok
returns-in-Ok c =
    let e = c.in-Ok.ensures in
    let g = read-given _ _ _ _ refl refl refl (omega arith) _ (sym e.answer) in
    rw (← given-text _ _ _ _ refl refl refl (omega arith) _ g) (rw (e.shapes, e.anchors, e.radii) at c.put_drawing.ensures)
