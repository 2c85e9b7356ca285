-- Each return cites what the tests before it found.
use Rattle.std.proofs.Common.{rules, ◌≡◌, ◌<◌, length, true, false, refl, Err}
use mathlib.Core.Path.{ap, ◌∙◌}
use native.Mathlib.Omega.{arith}
use Rattle.std.proofs.lemmas.Iterator.{IsFirst-from_position, YieldsList-from_slice}
use Rattle.path.specs.Limit.{anchor_good}
use Rattle.path.specs.Flat.{put_all}
use Rattle.call.specs.Tests.{room_for}
use Rattle.call.proofs.Handings.{room, few_words, few_numbers, outline-refused, outline_accepted, list_kept, list_written, anchors_kept, anchors_written}
use Rattle.shape.specs.Calls.{shape_answer, shape_word, shape_numbers}
use Rattle.shape.proofs.Handed.{anchor_refused, room_refused, none_refused, one_written, one_more, all_put}
use Rattle.shape.proofs.calls.hand_over.Goals as goal
use Rattle.shape.proofs.calls.hand_over.Goals.{then-is_empty-via-then-is_empty, then-is_empty-via-else-is_empty+then-to-anchors}

pub returns-in-Some : goal.returns-in-Some
unfolding shape_answer shape_word shape_numbers
returns-in-Some c =
    let found = IsFirst-from_position _ _ c.position.result (λ a. anchor_good a ≡ false) (λ a. anchor_good a ≡ true) c.position.ensures.ran (YieldsList-from_slice c.args.anchors.now cc) (λ x q k. search rules) (λ x q k. search rules) in
    let v = anchor_refused _ _ _ _ (rw c.in-Some.is at found) in
    record { answer = ap Err c.at.ensures ∙ outline-refused _ _ v; shapes = list_kept _ _ _ v; anchors = anchors_kept _ _ v }

pub returns-then-is_empty : goal.returns-then-is_empty
unfolding shape_answer shape_word shape_numbers
returns-then-is_empty c =
    let found = IsFirst-from_position _ _ c.position.result (λ a. anchor_good a ≡ false) (λ a. anchor_good a ≡ true) c.position.ensures.ran (YieldsList-from_slice c.args.anchors.now cc) (λ x q k. search rules) (λ x q k. search rules) in
    let r : room_for 1 (length c.args.anchors.now) c.args.to_shapes.now c.args.to.now ≡ false =
    elim c.then-is_empty.branch [
      | then-is_empty-via-then-is_empty w ↦ few_words _ _ _ _ (search rules)
      | then-is_empty-via-else-is_empty+then-to-anchors w ↦ few_numbers _ _ _ _ w.if-to-anchors.true
    ] in
    let v = room_refused _ _ _ (rw c.in_default.is at found) r in
    record { answer = ap Err c.at-then-is_empty.ensures ∙ outline-refused _ _ v; shapes = list_kept _ _ _ v; anchors = anchors_kept _ _ v }

pub loop-k-init : goal.loop-k-init
unfolding put_all
loop-k-init c = refl

pub loop-k-preserved : goal.loop-k-preserved
loop-k-preserved c = c.put_anchor.ensures ∙ one_more _ _ _ _ _ (omega arith) c.loop-k.invariant

pub returns : goal.returns
unfolding shape_answer shape_word shape_numbers
returns c =
    let found = IsFirst-from_position _ _ c.position.result (λ a. anchor_good a ≡ false) (λ a. anchor_good a ≡ true) c.position.ensures.ran (YieldsList-from_slice c.args.anchors.now cc) (λ x q k. search rules) (λ x q k. search rules) in
    let some : 0 < length c.args.to_shapes.now = search rules in
    let v = none_refused _ _ _ (rw c.in_default.is at found) (room _ _ _ _ some c.if-to-anchors.false) in
    record {
      answer = outline_accepted _ _ v;
      shapes = rw c.word.ensures (one_written _ _ some ∙ list_written _ _ _ v);
      anchors = c.loop-k.invariant ∙ all_put _ _ _ (omega arith) c.if-to-anchors.false ∙ anchors_written _ _ v;
    }
