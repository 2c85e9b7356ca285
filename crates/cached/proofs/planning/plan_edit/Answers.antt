-- `cached::planning::plan_edit`: one law for each answer.
use Rattle.std.proofs.Common.{◌≡◌, ◌<◌, Err, sym, ap, ◌∙◌, rules, arith}
use Rattle.cut_calls.specs.PlainCut.{sub_at}
use Rattle.session.specs.Drawing.{drawn, view_in}
use Rattle.session.specs.Edits.{edit_of}
use Rattle.cached.specs.Opening.{lent, ready_of}
use Rattle.cached.specs.Planning.{reach_of, anchor_call}
use Rattle.cached.proofs.Openings.{edit_closed}
use Rattle.cached.proofs.Plans.{inside_of, plan_nowhere, one_inside, one_stands, one_put, one_decided}
use Rattle.cached.proofs.OneAnchor.{one_of, loose_of, reach-small}
use Rattle.cached.proofs.planning.plan_edit.Goals as goal

-- ---- 7 and 5
pub returns-in_err-ready : goal.returns-in_err-ready
returns-in_err-ready c =
    let a = c.args in
    let l = lent a.shapes.now a.anchors.now a.radii.now a.numbers.now a.flags.now in
    let t = ap (ready_of l a.kind) (sym (c.in_limit.ensures ∙ loose_of (drawn l a.kind) a.at a.e)) in
    let e : c.from_residual.result ≡ Err c.in_err-ready.field-0.0 = search rules in
    rw e (edit_closed l a.kind (edit_of (drawn l a.kind) (anchor_call a.at a.e)) _ (t ∙ sym c.in_err-ready.ensures))

-- ---- 6
pub returns-then-not-has_anchor : goal.returns-then-not-has_anchor
returns-then-not-has_anchor c =
    let a = c.args in
    let l = lent a.shapes.now a.anchors.now a.radii.now a.numbers.now a.flags.now in
    let t = ap (ready_of l a.kind) (sym (c.in_limit.ensures ∙ loose_of (drawn l a.kind) a.at a.e)) in
    rw c.at.ensures
    (plan_nowhere l a.kind (anchor_call a.at a.e) _ (t ∙ sym c.in_ok-ready.ensures) ((one_of l a.kind a.at a.e).known ∙ sym c.has_anchor.ensures ∙ c.if-not-has_anchor.true))

-- there is such an anchor
pub sub_at-sub-requires : goal.sub_at-sub-requires
sub_at-sub-requires c =
    let a = c.args in
    let l = lent a.shapes.now a.anchors.now a.radii.now a.numbers.now a.flags.now in
    let t = ap (ready_of l a.kind) (sym (c.in_limit.ensures ∙ loose_of (drawn l a.kind) a.at a.e)) ∙ sym c.in_ok-ready.ensures in
    let has = sym c.has_anchor.ensures ∙ c.if-not-has_anchor.false in
    let o = one_of l a.kind a.at a.e in
    let z = one_stands l a.kind (anchor_call a.at a.e) a.at.subpath a.at.anchor (reach_of a.e) _ _ o _ t has in
    (z.there, z.words)

pub overflow_add-k : goal.overflow_add-k
overflow_add-k c =
    let a = c.args in
    let l = lent a.shapes.now a.anchors.now a.radii.now a.numbers.now a.flags.now in
    let t = ap (ready_of l a.kind) (sym (c.in_limit.ensures ∙ loose_of (drawn l a.kind) a.at a.e)) ∙ sym c.in_ok-ready.ensures in
    let has = sym c.has_anchor.ensures ∙ c.if-not-has_anchor.false in
    let o = one_of l a.kind a.at a.e in
    let i : a.at.anchor < c.sub_at-sub.result.n = rw c.sub_at-sub.ensures (one_inside l a.kind (anchor_call a.at a.e) a.at.subpath a.at.anchor (reach_of a.e) _ _ o _ t has) in
    let p = (inside_of l a.at.subpath (one_stands l a.kind (anchor_call a.at a.e) a.at.subpath a.at.anchor (reach_of a.e) _ _ o _ t has) c.sub_at-sub.result c.sub_at-sub.ensures).path in
    record { fits = omega arith }

pub anchor_at-requires : goal.anchor_at-requires
anchor_at-requires c =
    let a = c.args in
    let l = lent a.shapes.now a.anchors.now a.radii.now a.numbers.now a.flags.now in
    let t = ap (ready_of l a.kind) (sym (c.in_limit.ensures ∙ loose_of (drawn l a.kind) a.at a.e)) ∙ sym c.in_ok-ready.ensures in
    let has = sym c.has_anchor.ensures ∙ c.if-not-has_anchor.false in
    let o = one_of l a.kind a.at a.e in
    let i : a.at.anchor < c.sub_at-sub.result.n = rw c.sub_at-sub.ensures (one_inside l a.kind (anchor_call a.at a.e) a.at.subpath a.at.anchor (reach_of a.e) _ _ o _ t has) in
    let h = inside_of l a.at.subpath (one_stands l a.kind (anchor_call a.at a.e) a.at.subpath a.at.anchor (reach_of a.e) _ _ o _ t has) c.sub_at-sub.result c.sub_at-sub.ensures in
    let x = h.anchors in
    omega arith

pub offset_bounds-radii-k : goal.offset_bounds-radii-k
offset_bounds-radii-k c =
    let a = c.args in
    let l = lent a.shapes.now a.anchors.now a.radii.now a.numbers.now a.flags.now in
    let t = ap (ready_of l a.kind) (sym (c.in_limit.ensures ∙ loose_of (drawn l a.kind) a.at a.e)) ∙ sym c.in_ok-ready.ensures in
    let has = sym c.has_anchor.ensures ∙ c.if-not-has_anchor.false in
    let o = one_of l a.kind a.at a.e in
    let i : a.at.anchor < c.sub_at-sub.result.n = rw c.sub_at-sub.ensures (one_inside l a.kind (anchor_call a.at a.e) a.at.subpath a.at.anchor (reach_of a.e) _ _ o _ t has) in
    let h = inside_of l a.at.subpath (one_stands l a.kind (anchor_call a.at a.e) a.at.subpath a.at.anchor (reach_of a.e) _ _ o _ t has) c.sub_at-sub.result c.sub_at-sub.ensures in
    let p = h.path in
    search rules

pub bounds-radii-k : goal.bounds-radii-k
bounds-radii-k c =
    let a = c.args in
    let l = lent a.shapes.now a.anchors.now a.radii.now a.numbers.now a.flags.now in
    let t = ap (ready_of l a.kind) (sym (c.in_limit.ensures ∙ loose_of (drawn l a.kind) a.at a.e)) ∙ sym c.in_ok-ready.ensures in
    let has = sym c.has_anchor.ensures ∙ c.if-not-has_anchor.false in
    let o = one_of l a.kind a.at a.e in
    let i : a.at.anchor < c.sub_at-sub.result.n = rw c.sub_at-sub.ensures (one_inside l a.kind (anchor_call a.at a.e) a.at.subpath a.at.anchor (reach_of a.e) _ _ o _ t has) in
    let h = inside_of l a.at.subpath (one_stands l a.kind (anchor_call a.at a.e) a.at.subpath a.at.anchor (reach_of a.e) _ _ o _ t has) c.sub_at-sub.result c.sub_at-sub.ensures in
    let x = h.radii in
    omega arith

-- ---- 9, or the places
pub plan_put-requires : goal.plan_put-requires
plan_put-requires c =
    let a = c.args in
    let l = lent a.shapes.now a.anchors.now a.radii.now a.numbers.now a.flags.now in
    let t = ap (ready_of l a.kind) (sym (c.in_limit.ensures ∙ loose_of (drawn l a.kind) a.at a.e)) ∙ sym c.in_ok-ready.ensures in
    let has = sym c.has_anchor.ensures ∙ c.if-not-has_anchor.false in
    let o = one_of l a.kind a.at a.e in
    let i : a.at.anchor < c.sub_at-sub.result.n = rw c.sub_at-sub.ensures (one_inside l a.kind (anchor_call a.at a.e) a.at.subpath a.at.anchor (reach_of a.e) _ _ o _ t has) in
    let h = inside_of l a.at.subpath (one_stands l a.kind (anchor_call a.at a.e) a.at.subpath a.at.anchor (reach_of a.e) _ _ o _ t has) c.sub_at-sub.result c.sub_at-sub.ensures in
    let p = h.path in
    (record { few = omega arith; index = i; reach = rw c.reach.ensures (reach-small a.e) }, h.anchors, h.radii)

pub returns : goal.returns
unfolding sub_at
returns c =
    let a = c.args in
    let l = lent a.shapes.now a.anchors.now a.radii.now a.numbers.now a.flags.now in
    let t = ap (ready_of l a.kind) (sym (c.in_limit.ensures ∙ loose_of (drawn l a.kind) a.at a.e)) ∙ sym c.in_ok-ready.ensures in
    let has = sym c.has_anchor.ensures ∙ c.if-not-has_anchor.false in
    let o = one_of l a.kind a.at a.e in
    let e = c.sub_at-sub.ensures in
    let put = one_put l a.kind (anchor_call a.at a.e) a.at.subpath a.at.anchor (reach_of a.e) _ _ o _ t has in
    let d = c.plan_put.ensures.1 (view_in (edit_of (drawn l a.kind) (anchor_call a.at a.e)).made a.at.subpath) (rw (c.radius-radius.ensures, c.anchor-new.ensures, c.anchor_at.ensures, e) put) in
    one_decided l a.kind (anchor_call a.at a.e) a.at.subpath a.at.anchor (reach_of a.e) _ _ o _ t has c.plan_put.result c.plan_put.ensures.0 (rw (c.reach.ensures, e) at d)
