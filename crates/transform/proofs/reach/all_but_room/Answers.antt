-- `transform::reach::all_but_room` meets its contract, by what its tests found.
use Rattle.std.proofs.Common.{arith}
use mathlib.Core.Path.{sym, ◌∙◌}
use mathlib.Core.Bool.{true≢false}
use borrow.Author.Tests.{lt-leb}
use Rattle.path.proofs.Shapes.{size_fits}
use Rattle.transform.proofs.Staying.{opens, result_passes}
use Rattle.transform.proofs.reach.all_but_room.Goals as goal
use Rattle.transform.proofs.reach.all_but_room.Goals.{then-n-anchors, else-n-anchors}

pub overflow_mul-n : goal.overflow_mul-n
overflow_mul-n c =
    let f = size_fits _ _ _ (sym c.in-Some.ensures) in
    record { fits = omega arith }

pub stays_in_limit-requires : goal.stays_in_limit-requires
stays_in_limit-requires c =
    let f = size_fits _ _ _ (sym c.in-Some.ensures) in
    elim c.if-n-anchors.branch [
      | then-n-anchors w ↦ (omega arith, omega (arith, w.if-n-anchors.true))
      | else-n-anchors w ↦ absurd (true≢false (sym c.if-map_in_limit.true ∙ w.value-is ∙ lt-leb _ _ w.if-n-anchors.false))
    ]

pub returns-then-map_in_limit : goal.returns-then-map_in_limit
returns-then-map_in_limit c = λ t.
    let f = size_fits _ _ _ (sym c.in-Some.ensures) in
    let e = c.stays_in_limit.ensures t in
    elim c.if-n-anchors.branch [
      | then-n-anchors w ↦ (
        opens _ _ c.args.m _ f w.if-n-anchors.true e.0,
        sym w.map_in_limit.ensures ∙ sym w.value-is ∙ c.if-map_in_limit.true,
        result_passes _ _ _ _ f e.1,
      )
      | else-n-anchors w ↦ absurd (true≢false (sym c.if-map_in_limit.true ∙ w.value-is ∙ lt-leb _ _ w.if-n-anchors.false))
    ]
