-- The calls are read, then the job.
use mathlib.Core.Path.{sym}
use Prim.Native.Nat.{◌+◌, ◌*◌}
use native.Mathlib.Nat.{le_refl}
use lib.Seq.{length-take-le}
use Rattle.std.proofs.Common.{arith}
use Rattle.decimal.proofs.Puts.{nothing}
use Rattle.call_list.proofs.Inputs.{reads, codes_taken, values_taken}
use Rattle.reporting.proofs.Inputs.{rest, report-refused, report_calls}
use Rattle.reporting.proofs.reports.report.Goals as goal

pub returns-in-Err : goal.returns-in-Err
returns-in-Err c =
    let f = c.refuse.ensures in
    let e = report-refused _ _ (sym c.in-Err.ensures.answer) in
    record { lines = rw (← e, f.lines) (nothing _ 0); text = rw (← e) f.text; room = f.room }

pub overflow_mul-job : goal.overflow_mul-job
overflow_mul-job c = record { fits = omega (arith, (reads _ _ (sym c.in-Ok.ensures.answer)).few) }

pub overflow_add-job : goal.overflow_add-job
overflow_add-job c = record { fits = omega (arith, (reads _ _ (sym c.in-Ok.ensures.answer)).few) }

pub slice_bounds-report_job-count : goal.slice_bounds-report_job-count
slice_bounds-report_job-count c = omega (arith, (reads _ _ (sym c.in-Ok.ensures.answer)).long)

pub slice_bounds-report_job-start : goal.slice_bounds-report_job-start
slice_bounds-report_job-start c = omega (arith, (reads _ _ (sym c.in-Ok.ensures.answer)).long)

pub overflow_mul-codes : goal.overflow_mul-codes
overflow_mul-codes c = record { fits = omega (arith, (reads _ _ (sym c.in-Ok.ensures.answer)).few) }

pub slice_bounds-codes-end : goal.slice_bounds-codes-end
slice_bounds-codes-end c = omega (arith, (reads _ _ (sym c.in-Ok.ensures.answer)).few)

pub slice_bounds-report_job-end-in-Ok : goal.slice_bounds-report_job-end-in-Ok
slice_bounds-report_job-end-in-Ok c = sym (length-take-le _ _ (omega (arith, (reads _ _ (sym c.in-Ok.ensures.answer)).few)))

pub overflow_mul-values : goal.overflow_mul-values
overflow_mul-values c = record { fits = omega (arith, (reads _ _ (sym c.in-Ok.ensures.answer)).few) }

pub slice_bounds-values-end : goal.slice_bounds-values-end
slice_bounds-values-end c = omega (arith, (reads _ _ (sym c.in-Ok.ensures.answer)).few)

pub slice_bounds-report_job-end-in-Ok-2 : goal.slice_bounds-report_job-end-in-Ok-2
slice_bounds-report_job-end-in-Ok-2 c = sym (length-take-le _ _ (omega (arith, (reads _ _ (sym c.in-Ok.ensures.answer)).few)))

pub returns-in-Ok : goal.returns-in-Ok
returns-in-Ok c =
    let e = c.in-Ok.ensures in
    let g = reads _ _ (sym e.answer) in
    let x = codes_taken _ _ g _ _ e.codes (le_refl 768) in
    let y = values_taken _ _ g _ _ e.values (le_refl 1536) in
    let t = report_calls _ _ (sym e.answer) in
    let p = rw (x, y, rest (4 + c.in-Ok.m * 36) c.args.bytes.now) at c.report_job.ensures in
    rw (← t) p
