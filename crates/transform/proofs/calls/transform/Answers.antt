-- `transform::calls::transform` meets its contract: each return cites what the tests before it found.
use Rattle.std.proofs.Common.{arith, length, ◌*◌, ◌≡◌, false}
use mathlib.Core.Path.{ap, ◌∙◌}
use Rattle.views.specs.View.{overwrite}
use Rattle.path.specs.Flat.{anchor_numbers}
use Rattle.path.specs.Shape.{total}
use Rattle.call.specs.Tests.{room_for}
use Rattle.call.proofs.Openings.{path_opens}
use Rattle.call.proofs.Handings.{room, few_words, few_numbers}
use Rattle.transform.specs.Mapped.{mapped_at}
use Rattle.transform.proofs.Outcomes.{refused_so, no_room, written}
use Rattle.transform.proofs.calls.transform.Goals as goal
use Rattle.transform.proofs.calls.transform.Goals.{then-to_shapes-shapes-via-then-to_shapes-shapes, then-to_shapes-shapes-via-else-to_shapes-shapes+then-to-count}

pub total_of-count-requires : goal.total_of-count-requires
total_of-count-requires c = (path_opens 512 _ _ _ (c.if-not-all_but_room.ensures tt).0).words

pub overflow_mul-count : goal.overflow_mul-count
overflow_mul-count c =
    let o = path_opens 512 _ _ _ (c.if-not-all_but_room.ensures tt).0 in
    let n = c.total_of-count.ensures in
    let f = o.few in
    record { fits = omega arith }

pub returns-then-to_shapes-shapes : goal.returns-then-to_shapes-shapes
returns-then-to_shapes-shapes c =
    let a = c.args in
    let f = c.if-not-all_but_room.ensures tt in
    let n = c.total_of-count.ensures in
    let r : room_for (length a.shapes.now) (total a.shapes.now) a.to_shapes.now a.to.now ≡ false =
    elim c.then-to_shapes-shapes.branch [
      | then-to_shapes-shapes-via-then-to_shapes-shapes w ↦ few_words _ _ _ _ (omega (arith, w.if-to_shapes-shapes.true))
      | then-to_shapes-shapes-via-else-to_shapes-shapes+then-to-count w ↦ few_numbers _ _ _ _ (omega (arith, n, w.if-to-count.true))
    ] in
    let h = refused_so _ _ _ _ _ _ (no_room _ _ _ _ _ _ (path_opens 512 _ _ _ f.0) f.1 f.2 r) in
    record { answer = rw c.at.ensures h.0; shapes = h.1; anchors = h.2 }

pub map_anchors-requires : goal.map_anchors-requires
map_anchors-requires c =
    let o = path_opens 512 _ _ _ (c.if-not-all_but_room.ensures tt).0 in
    let n = c.total_of-count.ensures in
    let f = o.few in
    let l = o.long in
    (omega arith, omega arith, omega (arith, c.if-to-count.false))

pub returns : goal.returns
returns c =
    let a = c.args in
    let n = c.total_of-count.ensures in
    let f = c.if-not-all_but_room.ensures tt in
    let h = written _ _ _ _ _ _ (path_opens 512 _ _ _ f.0) f.1 f.2 (room (length a.shapes.now) (total a.shapes.now) a.to_shapes.now a.to.now (omega (arith, c.if-to_shapes-shapes.false)) (omega (arith, n, c.if-to-count.false))) in
    record {
      answer = rw n h.0;
      shapes = c.copy.ensures 0 ∙ h.1;
      anchors = c.map_anchors.ensures ∙ ap (λ k. overwrite (k * 6) (anchor_numbers (mapped_at a.m a.anchors.now)) a.to.now) n ∙ h.2;
    }
