-- What is kept and put together is the plain cut.
use mathlib.Core.Path.{sym}
use native.Mathlib.Nat.{le_refl}
use Rattle.std.proofs.Common.{rules, arith}
use lib.Seq.{length-take-le}
use Rattle.printing.proofs.Cuts.{refused_line, never_refused, assembles}
use Rattle.printing.proofs.drawing_line.put_drawing.Goals as goal

pub returns-in-Err : goal.returns-in-Err
returns-in-Err c = rw (← refused_line _ _ _ _ c.requires _ _ (le_refl 6144) (le_refl 512) _ c.in-Err.ensures.answer) c.put_refusal.ensures

pub slice_bounds-words-end : goal.slice_bounds-words-end
slice_bounds-words-end c =
    let a = assembles _ _ _ _ c.requires _ _ (le_refl 6144) (le_refl 512) _ c.in_default.ensures.answer _ _ (le_refl 32) (le_refl 6144) _ _ c.build.ensures.numbers c.build.ensures.flags _ _ _ c.in-Ok.ensures.answer c.in-Ok.ensures.shapes c.in-Ok.ensures.anchors in
    omega (arith, a.few)

pub slice_bounds-put_path-end : goal.slice_bounds-put_path-end
slice_bounds-put_path-end c =
    let a = assembles _ _ _ _ c.requires _ _ (le_refl 6144) (le_refl 512) _ c.in_default.ensures.answer _ _ (le_refl 32) (le_refl 6144) _ _ c.build.ensures.numbers c.build.ensures.flags _ _ _ c.in-Ok.ensures.answer c.in-Ok.ensures.shapes c.in-Ok.ensures.anchors in
    sym (length-take-le _ _ (omega (arith, a.few)))

pub put_path-requires : goal.put_path-requires
put_path-requires c =
    let a = assembles _ _ _ _ c.requires _ _ (le_refl 6144) (le_refl 512) _ c.in_default.ensures.answer _ _ (le_refl 32) (le_refl 6144) _ _ c.build.ensures.numbers c.build.ensures.flags _ _ _ c.in-Ok.ensures.answer c.in-Ok.ensures.shapes c.in-Ok.ensures.anchors in
    (a.opens, search rules)

pub returns-in-Err-assemble : goal.returns-in-Err-assemble
returns-in-Err-assemble c =
    absurd (never_refused _ _ _ _ c.requires _ _ (le_refl 6144) (le_refl 512) _ c.in_default.ensures.answer _ _ (le_refl 32) (le_refl 6144) _ _ c.build.ensures.numbers c.build.ensures.flags _ c.in-Err-assemble.ensures.answer)

pub returns-in-Ok : goal.returns-in-Ok
returns-in-Ok c =
    let a = assembles _ _ _ _ c.requires _ _ (le_refl 6144) (le_refl 512) _ c.in_default.ensures.answer _ _ (le_refl 32) (le_refl 6144) _ _ c.build.ensures.numbers c.build.ensures.flags _ _ _ c.in-Ok.ensures.answer c.in-Ok.ensures.shapes c.in-Ok.ensures.anchors in
    rw (← a.text) c.put_path.ensures
