-- `cached_split::planning::plan_begun`: one law for each answer.
use Rattle.std.proofs.Common.{◌≡◌, Err, sym, ◌∙◌, rules, arith}
use Rattle.session.specs.Drawing.{drawn, view_in}
use Rattle.session.specs.Edits.{split_at}
use Rattle.session.specs.Model.{lengths_of}
use Rattle.cached.specs.Opening.{lent}
use Rattle.cached_split.proofs.Splitting.{placed, ended, put_found, split-put_bad, halving_at, split-recut_bad, split-short, split-granted}
use Rattle.cached_split.proofs.planning.plan_begun.Goals as goal

-- ---- the ends of the segment
pub sub_at-sub-requires : goal.sub_at-sub-requires
sub_at-sub-requires c =
    let a = c.args in
    let l = lent a.shapes.now a.anchors.now a.radii.now a.numbers.now a.flags.now in
    let p = c.requires in
    let x = placed l a.d.kind a.at.subpath a.at.anchor a.t a.d.ready p.ready p.segment in
    (x.there, x.words)

pub overflow_add-from : goal.overflow_add-from
overflow_add-from c =
    let a = c.args in
    let l = lent a.shapes.now a.anchors.now a.radii.now a.numbers.now a.flags.now in
    let p = c.requires in
    let n = ended l a.d.kind a.at.subpath a.at.anchor a.t a.d.ready p.ready p.segment c.sub_at-sub.result c.sub_at-sub.ensures in
    record { fits = omega (arith, n.from, p.few) }

pub next-requires : goal.next-requires
next-requires c =
    let a = c.args in
    let l = lent a.shapes.now a.anchors.now a.radii.now a.numbers.now a.flags.now in
    let p = c.requires in
    let n = ended l a.d.kind a.at.subpath a.at.anchor a.t a.d.ready p.ready p.segment c.sub_at-sub.result c.sub_at-sub.ensures in
    n.index

pub overflow_add-to : goal.overflow_add-to
overflow_add-to c =
    let a = c.args in
    let l = lent a.shapes.now a.anchors.now a.radii.now a.numbers.now a.flags.now in
    let p = c.requires in
    let n = ended l a.d.kind a.at.subpath a.at.anchor a.t a.d.ready p.ready p.segment c.sub_at-sub.result c.sub_at-sub.ensures in
    let e = c.next.ensures in
    record { fits = omega (arith, n.to, p.few) }

pub halved-h-requires : goal.halved-h-requires
halved-h-requires c =
    let a = c.args in
    let l = lent a.shapes.now a.anchors.now a.radii.now a.numbers.now a.flags.now in
    let p = c.requires in
    let n = ended l a.d.kind a.at.subpath a.at.anchor a.t a.d.ready p.ready p.segment c.sub_at-sub.result c.sub_at-sub.ensures in
    let e = c.next.ensures in
    let z = (placed l a.d.kind a.at.subpath a.at.anchor a.t a.d.ready p.ready p.segment).anchors in
    (omega (arith, n.from), omega (arith, n.to))

pub first_put-requires : goal.first_put-requires
first_put-requires c =
    let a = c.args in
    let l = lent a.shapes.now a.anchors.now a.radii.now a.numbers.now a.flags.now in
    let p = c.requires in
    let n = ended l a.d.kind a.at.subpath a.at.anchor a.t a.d.ready p.ready p.segment c.sub_at-sub.result c.sub_at-sub.ensures in
    let e = c.next.ensures in
    (omega (arith, n.from, p.few), omega (arith, n.to, p.few), λ q. n.apart (omega arith))

-- ---- 9, of the anchors put
pub returns-in-Some : goal.returns-in-Some
returns-in-Some c =
    let a = c.args in
    let l = lent a.shapes.now a.anchors.now a.radii.now a.numbers.now a.flags.now in
    let p = c.requires in
    rw c.at.ensures (split-put_bad l a.d.kind a.at.subpath a.at.anchor a.t a.d.ready p.ready p.segment p.few _ (sym (put_found l a.d.kind a.at.subpath a.at.anchor a.t a.d.ready p.ready p.segment p.few c.sub_at-sub.result c.sub_at-sub.ensures _ c.next.ensures c.halved-h.result c.halved-h.ensures c.first_put.result c.first_put.ensures) ∙ c.in-Some.is))

pub plan_halves-requires : goal.plan_halves-requires
plan_halves-requires c =
    let a = c.args in
    let l = lent a.shapes.now a.anchors.now a.radii.now a.numbers.now a.flags.now in
    let p = c.requires in
    let n = ended l a.d.kind a.at.subpath a.at.anchor a.t a.d.ready p.ready p.segment c.sub_at-sub.result c.sub_at-sub.ensures in
    let z = placed l a.d.kind a.at.subpath a.at.anchor a.t a.d.ready p.ready p.segment in
    record {
      n_bound = (omega (arith, n.path, p.few), n.index, n.leaving);
      n_in_bounds = (omega (arith, n.path, z.anchors), omega (arith, n.path, z.radii));
    }

-- ---- 9, of the places recut
pub returns-in_err-plan : goal.returns-in_err-plan
returns-in_err-plan c =
    let a = c.args in
    let l = lent a.shapes.now a.anchors.now a.radii.now a.numbers.now a.flags.now in
    let p = c.requires in
    let v = view_in (split_at (drawn l a.d.kind) a.at.subpath a.at.anchor a.t) a.at.subpath in
    let none = sym (put_found l a.d.kind a.at.subpath a.at.anchor a.t a.d.ready p.ready p.segment p.few c.sub_at-sub.result c.sub_at-sub.ensures _ c.next.ensures c.halved-h.result c.halved-h.ensures c.first_put.result c.first_put.ensures) ∙ c.in_default.is in
    let h = halving_at l a.d.kind a.at.subpath a.at.anchor a.t a.d.ready p.ready p.segment p.few none c.sub_at-sub.result c.sub_at-sub.ensures _ c.next.ensures c.halved-h.result c.halved-h.ensures in
    let d = rw c.sub_at-sub.ensures at (c.in_err-plan.ensures.1 v h) in
    let e : c.from_residual.result ≡ Err c.in_err-plan.field-0.0 = search rules in
    rw e (split-recut_bad l a.d.kind a.at.subpath a.at.anchor a.t a.d.ready p.ready p.segment p.few none _ d.0 d.1)

-- ---- 8
pub returns-then-not-has_room : goal.returns-then-not-has_room
unfolding lengths_of
returns-then-not-has_room c =
    let a = c.args in
    let l = lent a.shapes.now a.anchors.now a.radii.now a.numbers.now a.flags.now in
    let p = c.requires in
    let v = view_in (split_at (drawn l a.d.kind) a.at.subpath a.at.anchor a.t) a.at.subpath in
    let none = sym (put_found l a.d.kind a.at.subpath a.at.anchor a.t a.d.ready p.ready p.segment p.few c.sub_at-sub.result c.sub_at-sub.ensures _ c.next.ensures c.halved-h.result c.halved-h.ensures c.first_put.result c.first_put.ensures) ∙ c.in_default.is in
    let h = halving_at l a.d.kind a.at.subpath a.at.anchor a.t a.d.ready p.ready p.segment p.few none c.sub_at-sub.result c.sub_at-sub.ensures _ c.next.ensures c.halved-h.result c.halved-h.ensures in
    let d = rw c.sub_at-sub.ensures at (c.in_ok-plan.ensures.1 v h) in
    rw c.at-then-not-has_room.ensures (split-short l a.d.kind a.at.subpath a.at.anchor a.t a.d.ready p.ready p.segment p.few none c.in_ok-plan.plan d (sym c.has_room.ensures ∙ c.if-not-has_room.true))

pub returns : goal.returns
unfolding lengths_of
returns c =
    let a = c.args in
    let l = lent a.shapes.now a.anchors.now a.radii.now a.numbers.now a.flags.now in
    let p = c.requires in
    let v = view_in (split_at (drawn l a.d.kind) a.at.subpath a.at.anchor a.t) a.at.subpath in
    let none = sym (put_found l a.d.kind a.at.subpath a.at.anchor a.t a.d.ready p.ready p.segment p.few c.sub_at-sub.result c.sub_at-sub.ensures _ c.next.ensures c.halved-h.result c.halved-h.ensures c.first_put.result c.first_put.ensures) ∙ c.in_default.is in
    let h = halving_at l a.d.kind a.at.subpath a.at.anchor a.t a.d.ready p.ready p.segment p.few none c.sub_at-sub.result c.sub_at-sub.ensures _ c.next.ensures c.halved-h.result c.halved-h.ensures in
    let d = rw c.sub_at-sub.ensures at (c.in_ok-plan.ensures.1 v h) in
    split-granted l a.d.kind a.at.subpath a.at.anchor a.t a.d.ready p.ready p.segment p.few none c.in_ok-plan.plan d c.in_ok-plan.ensures.0 (sym c.has_room.ensures ∙ c.if-not-has_room.false)
