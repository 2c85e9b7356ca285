-- `cached_split::planning::plan_split`: 7, 5, 6 and 10, else it is the next function's.
use Rattle.std.proofs.Common.{◌≡◌, Err, sym, ap, ◌∙◌, rules, arith}
use Rattle.session.specs.Drawing.{drawn}
use Rattle.session.specs.Edits.{split, edit_of}
use Rattle.cached.specs.Opening.{lent, ready_of}
use Rattle.cached.proofs.Openings.{edit_closed}
use Rattle.cached_split.proofs.Splitting.{split_nowhere, split_full}
use Rattle.cached_split.proofs.planning.plan_split.Goals as goal

pub returns-in_err-ready : goal.returns-in_err-ready
unfolding edit_of
returns-in_err-ready c =
    let a = c.args in
    let l = lent a.shapes.now a.anchors.now a.radii.now a.numbers.now a.flags.now in
    let t = sym (ap (ready_of l a.kind) c.in_limit.ensures) ∙ sym c.in_err-ready.ensures in
    let e : c.from_residual.result ≡ Err c.in_err-ready.field-0.0 = search rules in
    rw e (edit_closed l a.kind (edit_of (drawn l a.kind) (split a.at.subpath a.at.anchor a.t)) _ t)

pub returns-then-not-has_segment : goal.returns-then-not-has_segment
returns-then-not-has_segment c =
    let a = c.args in
    let l = lent a.shapes.now a.anchors.now a.radii.now a.numbers.now a.flags.now in
    let t = sym (ap (ready_of l a.kind) c.in_limit.ensures) ∙ sym c.in_ok-ready.ensures in
    rw c.at.ensures (split_nowhere l a.kind a.at.subpath a.at.anchor a.t _ t (sym c.has_segment.ensures ∙ c.if-not-has_segment.true))

pub returns-then-ready-ge512 : goal.returns-then-ready-ge512
returns-then-ready-ge512 c =
    let a = c.args in
    let l = lent a.shapes.now a.anchors.now a.radii.now a.numbers.now a.flags.now in
    let t = sym (ap (ready_of l a.kind) c.in_limit.ensures) ∙ sym c.in_ok-ready.ensures in
    rw c.at-then-ready-ge512.ensures (split_full l a.kind a.at.subpath a.at.anchor a.t _ t (sym c.has_segment.ensures ∙ c.if-not-has_segment.false) (omega arith))

pub plan_begun-requires : goal.plan_begun-requires
plan_begun-requires c =
    let a = c.args in
    let l = lent a.shapes.now a.anchors.now a.radii.now a.numbers.now a.flags.now in
    let t = sym (ap (ready_of l a.kind) c.in_limit.ensures) ∙ sym c.in_ok-ready.ensures in
    record { ready = t; segment = sym c.has_segment.ensures ∙ c.if-not-has_segment.false; few = omega arith }
