-- `joining::calls::join_opened` meets its contract: one law for each answer.
use Rattle.std.proofs.Common.{◌≡◌, ℕ, arith, length}
use mathlib.Core.Path.{sym, ap, ◌∙◌}
use borrow.Author.Tests.{eqb-true, eqb-false}
use Rattle.refusal.specs.Reasons.{refusal_at}
use Rattle.refusal.specs.declared.Reason.TheVariants.{Output, Made}
use Rattle.refusal.specs.Order.{refused}
use Rattle.path.specs.Limit.{anchor_good}
use Rattle.joining.specs.Joined.{target_at, joint_of}
use Rattle.joining.specs.Call.{join_verdict}
use Rattle.joining.proofs.Outcomes.{join-refused, empty_target, full, joint_refused, short_shapes, short_anchors, join_accepted}
use Rattle.joining.proofs.calls.join_opened.Goals as goal
use Rattle.joining.proofs.calls.join_opened.Goals.{then-is_empty-via-then-is_empty, then-is_empty-via-else-is_empty+then-to-before}

pub returns-then-n-eq0 : goal.returns-then-n-eq0
returns-then-n-eq0 c =
    let a = c.args in
    let q = c.requires in
    let v = empty_target _ _ _ a.word _ _ _ q.drawn q.target q.good (omega (arith, c.count_of-n.ensures, c.if-n-eq0.true)) in
    let h = join-refused a.drawn.now a.count a.target.now a.word a.at_start a.to_shapes.now a.to.now _ v in
    record { answer = rw c.at.ensures h.0; shapes = h.1; anchors = h.2 }

pub returns-then-before-n-gt512 : goal.returns-then-before-n-gt512
returns-then-before-n-gt512 c =
    let a = c.args in
    let q = c.requires in
    let n = c.count_of-n.ensures in
    let d = c.saturating_sub-before.ensures in
    let v = full _ _ _ a.word _ _ _ q.drawn q.target q.good (omega (arith, n, c.if-n-eq0.false)) (omega (arith, n, d, c.if-before-n-gt512.true)) in
    let h = join-refused a.drawn.now a.count a.target.now a.word a.at_start a.to_shapes.now a.to.now _ v in
    record { answer = rw c.at-then-before-n-gt512.ensures h.0; shapes = h.1; anchors = h.2 }

pub returns-then-not-in_limit : goal.returns-then-not-in_limit
returns-then-not-in_limit c =
    let a = c.args in
    let q = c.requires in
    let n = c.count_of-n.ensures in
    let d = c.saturating_sub-before.ensures in
    let j = c.joint_of-joint.ensures ∙ ap (joint_of a.drawn.now a.count) (c.anchor.ensures ∙ ap (λ (m : ℕ). target_at a.target.now m a.at_start 0) n) in
    let out = ap anchor_good (sym j) ∙ sym c.in_limit.ensures ∙ c.if-not-in_limit.true in
    let v = joint_refused _ _ _ a.word _ _ _ q.drawn q.target q.good (omega (arith, n, c.if-n-eq0.false)) (omega (arith, n, d, c.if-before-n-gt512.false)) out ∙ ap (λ (k : ℕ). refused (refusal_at Made k)) (sym d) in
    let h = join-refused a.drawn.now a.count a.target.now a.word a.at_start a.to_shapes.now a.to.now _ v in
    record { answer = rw c.at-then-not-in_limit.ensures h.0; shapes = h.1; anchors = h.2 }

pub returns-then-is_empty : goal.returns-then-is_empty
returns-then-is_empty c =
    let a = c.args in
    let q = c.requires in
    let n = c.count_of-n.ensures in
    let d = c.saturating_sub-before.ensures in
    let j = c.joint_of-joint.ensures ∙ ap (joint_of a.drawn.now a.count) (c.anchor.ensures ∙ ap (λ (m : ℕ). target_at a.target.now m a.at_start 0) n) in
    let inside = ap anchor_good (sym j) ∙ sym c.in_limit.ensures ∙ c.if-not-in_limit.false in
    let v : join_verdict a.drawn.now a.count a.target.now a.word a.at_start a.to_shapes.now a.to.now ≡ refused (refusal_at Output 0) =
    elim c.then-is_empty.branch [
      | then-is_empty-via-then-is_empty w ↦ short_shapes _ _ _ _ _ _ _ q.drawn q.target q.good (omega (arith, n, c.if-n-eq0.false)) (omega (arith, n, d, c.if-before-n-gt512.false)) inside (omega (arith, eqb-true (length a.to_shapes.now) 0 (sym w.if-is_empty.ensures)))
      | then-is_empty-via-else-is_empty+then-to-before w ↦ short_anchors _ _ _ _ _ _ _ q.drawn q.target q.good (omega (arith, n, c.if-n-eq0.false)) (omega (arith, n, d, c.if-before-n-gt512.false)) inside (omega (arith, n, d, w.if-to-before.true))
    ] in
    let h = join-refused a.drawn.now a.count a.target.now a.word a.at_start a.to_shapes.now a.to.now _ v in
    record { answer = rw c.at-then-is_empty.ensures h.0; shapes = h.1; anchors = h.2 }

pub returns : goal.returns
returns c =
    let a = c.args in
    let q = c.requires in
    let n = c.count_of-n.ensures in
    let d = c.saturating_sub-before.ensures in
    let j = c.joint_of-joint.ensures ∙ ap (joint_of a.drawn.now a.count) (c.anchor.ensures ∙ ap (λ (m : ℕ). target_at a.target.now m a.at_start 0) n) in
    let inside = ap anchor_good (sym j) ∙ sym c.in_limit.ensures ∙ c.if-not-in_limit.false in
    let h =
    join_accepted a.drawn.now a.count a.target.now a.word a.at_start a.to_shapes.now a.to.now q.drawn q.target q.good (omega (arith, n, c.if-n-eq0.false)) (omega (arith, n, d, c.if-before-n-gt512.false))
    inside (omega (arith, eqb-false (length a.to_shapes.now) 0 (sym c.if-is_empty.ensures))) (omega (arith, n, d, c.if-to-before.false)) _ _ _ _ d n j c.word.ensures in
    record { answer = h.0; shapes = h.1; anchors = c.put_joined.ensures ∙ h.2 }
