-- Each return cites what the tests before it told.
use Rattle.std.proofs.Common.{rules, ◌≡◌, ◌≤◌, sym, ◌∙◌, Err}
use native.Mathlib.Omega.{arith}
use Rattle.path.specs.Shape.{total}
use Rattle.call.proofs.Openings.{drawing_opens}
use Rattle.corner.proofs.TriedKinds.{tried_some, tried_none}
use Rattle.cut_corners.proofs.Outcomes.{opening_fails, kind_fails, refuses, answer-handed, shapes_handed, anchors_handed}
use Rattle.cut_corners.proofs.calls.cut_corners.Goals as goal

pub returns-in_err-n : goal.returns-in_err-n
returns-in_err-n c =
    let a = c.args in
    let e : c.from_residual.result ≡ Err c.in_err-n.field-0.0 = search rules in
    let v = opening_fails a.shapes.now a.anchors.now a.radii.now a.kind a.to_shapes.now a.to.now _ (sym c.open_drawing.ensures ∙ c.in_err-n.was) in
    let h = refuses a.shapes.now a.anchors.now a.radii.now a.kind a.to_shapes.now a.to.now _ v in
    record { answer = e ∙ h.0; shapes = h.1; anchors = h.2 }

pub returns-in_default : goal.returns-in_default
returns-in_default c =
    let a = c.args in
    let o = drawing_opens _ _ _ _ (sym c.open_drawing.ensures ∙ c.in_ok-n.was) in
    let v = kind_fails a.shapes.now a.anchors.now a.radii.now a.kind a.to_shapes.now a.to.now _ o (tried_none _ _ _ (sym c.try_from.ensures ∙ c.in_default.is)) in
    let h = refuses a.shapes.now a.anchors.now a.radii.now a.kind a.to_shapes.now a.to.now _ v in
    record { answer = rw c.at.ensures h.0; shapes = h.1; anchors = h.2 }

pub cut_within-requires-clause-drawing : goal.cut_within-requires-clause-drawing
cut_within-requires-clause-drawing c =
    let o = drawing_opens _ _ _ _ (sym c.open_drawing.ensures ∙ c.in_ok-n.was) in
    (o.words, o.few, o.long, o.radius_each)

pub cut_within-requires-clause-scratch : goal.cut_within-requires-clause-scratch
cut_within-requires-clause-scratch c =
    let o = drawing_opens _ _ _ _ (sym c.open_drawing.ensures ∙ c.in_ok-n.was) in
    let count = o.count in
    let held : total c.args.shapes.now ≤ 32 = omega arith in
    let long : 384 ≤ 384 = omega arith in
    let small : 384 ≤ 6144 = omega arith in
    (held, long, small)

pub cut_within-requires-else-n-le32-clause-drawing : goal.cut_within-requires-else-n-le32-clause-drawing
cut_within-requires-else-n-le32-clause-drawing c =
    let o = drawing_opens _ _ _ _ (sym c.open_drawing.ensures ∙ c.in_ok-n.was) in
    (o.words, o.few, o.long, o.radius_each)

pub cut_within-requires-else-n-le32-clause-scratch : goal.cut_within-requires-else-n-le32-clause-scratch
cut_within-requires-else-n-le32-clause-scratch c =
    let o = drawing_opens _ _ _ _ (sym c.open_drawing.ensures ∙ c.in_ok-n.was) in
    let long : 6144 ≤ 6144 = omega arith in
    let small : 6144 ≤ 6144 = omega arith in
    (o.few, long, small)

pub returns-then-n-le32 : goal.returns-then-n-le32
returns-then-n-le32 c =
    let o = drawing_opens _ _ _ _ (sym c.open_drawing.ensures ∙ c.in_ok-n.was) in
    let k = tried_some _ _ _ (sym c.try_from.ensures ∙ c.in-Ok.is) in
    let h = c.cut_within.ensures in
    record {
      answer = h.answer ∙ answer-handed _ _ _ c.args.kind _ _ _ o _ k;
      shapes = h.shapes ∙ shapes_handed _ _ _ c.args.kind _ _ _ o _ k;
      anchors = h.anchors ∙ anchors_handed _ _ _ c.args.kind _ _ _ o _ k;
    }

pub returns-else-n-le32 : goal.returns-else-n-le32
returns-else-n-le32 c =
    let o = drawing_opens _ _ _ _ (sym c.open_drawing.ensures ∙ c.in_ok-n.was) in
    let k = tried_some _ _ _ (sym c.try_from.ensures ∙ c.in-Ok.is) in
    let h = c.cut_within-else-n-le32.ensures in
    record {
      answer = h.answer ∙ answer-handed _ _ _ c.args.kind _ _ _ o _ k;
      shapes = h.shapes ∙ shapes_handed _ _ _ c.args.kind _ _ _ o _ k;
      anchors = h.anchors ∙ anchors_handed _ _ _ c.args.kind _ _ _ o _ k;
    }
