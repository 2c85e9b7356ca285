-- What is put together is a path that is taken.
use mathlib.Core.Path.{sym}
use native.Mathlib.Nat.{le_refl}
use lib.Seq.{length-take-le}
use Rattle.std.proofs.Common.{rules, arith}
use Rattle.reporting.proofs.Gathering.{never_refused, gathers_path}
use Rattle.reporting.proofs.outlines.put_outline.Goals as goal

pub slice_bounds-words-end : goal.slice_bounds-words-end
slice_bounds-words-end c =
    let e = c.in-Ok.ensures in
    let p = gathers_path _ _ _ c.requires _ _ (le_refl 32) (le_refl 6144) _ _ _ e.answer e.shapes e.anchors in
    omega (arith, p.few)

pub slice_bounds-put_path-end : goal.slice_bounds-put_path-end
slice_bounds-put_path-end c =
    let e = c.in-Ok.ensures in
    let p = gathers_path _ _ _ c.requires _ _ (le_refl 32) (le_refl 6144) _ _ _ e.answer e.shapes e.anchors in
    sym (length-take-le _ _ (omega (arith, p.few)))

pub put_path-requires : goal.put_path-requires
put_path-requires c =
    let e = c.in-Ok.ensures in
    let p = gathers_path _ _ _ c.requires _ _ (le_refl 32) (le_refl 6144) _ _ _ e.answer e.shapes e.anchors in
    (p.opens, search rules)

pub returns-in-Err : goal.returns-in-Err
returns-in-Err c = absurd (never_refused _ _ _ c.requires _ _ (le_refl 32) (le_refl 6144) _ c.in-Err.ensures.answer)

pub returns-in-Ok : goal.returns-in-Ok
returns-in-Ok c =
    let e = c.in-Ok.ensures in
    let p = gathers_path _ _ _ c.requires _ _ (le_refl 32) (le_refl 6144) _ _ _ e.answer e.shapes e.anchors in
    rw (← p.text) c.put_path.ensures
