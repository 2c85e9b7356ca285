-- Every place is laid, so the outline handed over is the plain cut.
use mathlib.Core.Path.{◌∙◌}
use Rattle.cut_calls.proofs.Gathered.{answer-laid, shapes_laid, anchors_laid}
use Rattle.cut_corners.proofs.calls.cut_within.Goals as goal

pub returns-clause-answer : goal.returns-clause-answer
returns-clause-answer g c =
    let a = c.args in
    c.hand_over.ensures.answer ∙ answer-laid a.shapes.now a.anchors.now a.radii.now a.kind _ _ c.lay_drawing.ensures.laid a.to_shapes.now a.to.now

pub returns-clause-shapes : goal.returns-clause-shapes
returns-clause-shapes g c =
    let a = c.args in
    c.hand_over.ensures.shapes ∙ shapes_laid a.shapes.now a.anchors.now a.radii.now a.kind _ _ c.lay_drawing.ensures.laid a.to_shapes.now a.to.now

pub returns-clause-anchors : goal.returns-clause-anchors
returns-clause-anchors g c =
    let a = c.args in
    c.hand_over.ensures.anchors ∙ anchors_laid a.shapes.now a.anchors.now a.radii.now a.kind _ _ c.lay_drawing.ensures.laid a.to_shapes.now a.to.now
