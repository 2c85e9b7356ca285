-- Every place is laid, so what is written is the cache.
use mathlib.Core.Path.{◌∙◌}
use lib.ListN.{length}
use Rattle.cache.proofs.Held.{laid-holds, answer-held, numbers-held, flags_held}
use Rattle.cache.proofs.building.build_within.Goals as goal

pub returns-clause-answer : goal.returns-clause-answer
returns-clause-answer g c =
    let a = c.args in
    c.write_cache.ensures.answer ∙ answer-held _ _ _ _ (laid-holds a.shapes.now a.anchors.now a.radii.now a.kind _ _ c.lay_drawing.ensures.laid) (length a.shapes.now)

pub returns-clause-numbers : goal.returns-clause-numbers
returns-clause-numbers g c =
    let a = c.args in
    c.write_cache.ensures.numbers ∙ numbers-held _ _ _ _ (laid-holds a.shapes.now a.anchors.now a.radii.now a.kind _ _ c.lay_drawing.ensures.laid) a.numbers.now

pub returns-clause-flags : goal.returns-clause-flags
returns-clause-flags g c =
    let a = c.args in
    c.write_cache.ensures.flags ∙ flags_held _ _ _ _ (laid-holds a.shapes.now a.anchors.now a.radii.now a.kind _ _ c.lay_drawing.ensures.laid) a.flags.now
