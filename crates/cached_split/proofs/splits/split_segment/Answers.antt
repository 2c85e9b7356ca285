-- `cached_split::splits::split_segment`: a plan that refuses leaves the lists, one that accepts is written.
use Rattle.std.proofs.Common.{◌≡◌, ◌<◌, ◌-◌, Err, ap, ◌∙◌, rules, arith}
use lib.ListN.{length}
use Rattle.path.specs.Shape.{count_of, total, word_at, next}
use Rattle.cut.specs.Recut.{recut_numbers, recut_flags}
use Rattle.cut_calls.specs.PlainCut.{sub_at}
use Rattle.edit.proofs.Gaps.{length-gap}
use Rattle.session.specs.Drawing.{drawn, view_in}
use Rattle.session.specs.Edits.{split, split_at}
use Rattle.cached.specs.Opening.{lent}
use Rattle.cached.proofs.Plans.{does-refuse}
use Rattle.cached_split.proofs.Makes.{length-shifted}
use Rattle.cached_split.proofs.Leaving.{room, made_size, made_closed, made-places, split_done}
use Rattle.cached_split.proofs.splits.split_segment.Goals as goal

pub returns-in_err-plan : goal.returns-in_err-plan
returns-in_err-plan c =
    let a = c.args in
    let e : c.from_residual.result ≡ Err c.in_err-plan.field-0.0 = search rules in
    rw e (does-refuse (lent a.shapes.now a.anchors.now a.radii.now a.numbers.now a.flags.now) a.kind (split a.at.subpath a.at.anchor a.t) _ c.in_err-plan.ensures)

pub sub_at-sub-requires : goal.sub_at-sub-requires
sub_at-sub-requires c = (c.in_ok-plan.ensures.allowed.stands.there, c.in_ok-plan.ensures.allowed.stands.words)

pub overflow_add-w : goal.overflow_add-w
overflow_add-w c =
    let a = c.args in
    let g = c.in_ok-plan.ensures in
    let h = room (lent a.shapes.now a.anchors.now a.radii.now a.numbers.now a.flags.now) a.kind a.at.subpath a.at.anchor a.t c.in_ok-plan.plan g in
    record { fits = omega (arith, h.inside, h.path, g.few) }

-- ---- the ends of the segment
pub overflow_add-from : goal.overflow_add-from
unfolding sub_at
overflow_add-from c =
    let a = c.args in
    let l = lent a.shapes.now a.anchors.now a.radii.now a.numbers.now a.flags.now in
    let g = c.in_ok-plan.ensures in
    let h = room l a.kind a.at.subpath a.at.anchor a.t c.in_ok-plan.plan g in
    let n = ap (λ x. x.n) c.sub_at-sub.ensures in
    let f = ap (λ x. x.first) c.sub_at-sub.ensures in
    record { fits = omega (arith, h.inside, h.path, g.few) }

pub next-requires : goal.next-requires
unfolding sub_at
next-requires c =
    let a = c.args in
    let l = lent a.shapes.now a.anchors.now a.radii.now a.numbers.now a.flags.now in
    let g = c.in_ok-plan.ensures in
    let h = room l a.kind a.at.subpath a.at.anchor a.t c.in_ok-plan.plan g in
    let n = ap (λ x. x.n) c.sub_at-sub.ensures in
    let f = ap (λ x. x.first) c.sub_at-sub.ensures in
    rw n h.inside

pub overflow_add-to : goal.overflow_add-to
unfolding sub_at
overflow_add-to c =
    let a = c.args in
    let l = lent a.shapes.now a.anchors.now a.radii.now a.numbers.now a.flags.now in
    let g = c.in_ok-plan.ensures in
    let h = room l a.kind a.at.subpath a.at.anchor a.t c.in_ok-plan.plan g in
    let n = ap (λ x. x.n) c.sub_at-sub.ensures in
    let f = ap (λ x. x.first) c.sub_at-sub.ensures in
    let y : c.next.result < c.sub_at-sub.result.n = rw (c.next.ensures, n) h.next-inside in
    record { fits = omega (arith, h.path, g.few) }

-- ---- what is written
pub write_drawing-requires-clause-n_bound : goal.write_drawing-requires-clause-n_bound
unfolding sub_at
write_drawing-requires-clause-n_bound c =
    let a = c.args in
    let l = lent a.shapes.now a.anchors.now a.radii.now a.numbers.now a.flags.now in
    let g = c.in_ok-plan.ensures in
    let h = room l a.kind a.at.subpath a.at.anchor a.t c.in_ok-plan.plan g in
    let n = ap (λ x. x.n) c.sub_at-sub.ensures in
    let f = ap (λ x. x.first) c.sub_at-sub.ensures in
    let y : c.next.result < c.sub_at-sub.result.n = rw (c.next.ensures, n) h.next-inside in
    let e : c.next.result ≡ next (count_of (word_at a.shapes.now a.at.subpath)) a.at.anchor = rw (c.next.ensures, n) in
    let k = g.count in
    (record { ends = record { from = omega (arith, h.inside, h.path); to = omega (arith, h.path); apart = λ q. h.other (omega arith); few = omega (arith, g.few) }; room = omega (arith, h.anchors) }, omega (arith, h.radii))

pub shift_cache-requires : goal.shift_cache-requires
unfolding sub_at
shift_cache-requires c =
    let a = c.args in
    let l = lent a.shapes.now a.anchors.now a.radii.now a.numbers.now a.flags.now in
    let g = c.in_ok-plan.ensures in
    let h = room l a.kind a.at.subpath a.at.anchor a.t c.in_ok-plan.plan g in
    let n = ap (λ x. x.n) c.sub_at-sub.ensures in
    let f = ap (λ x. x.first) c.sub_at-sub.ensures in
    let k = g.count in
    (omega (arith, g.few), omega (arith, h.inside, h.path), omega (arith, h.numbers), omega (arith, h.flags))

pub grown-requires : goal.grown-requires
unfolding sub_at
grown-requires c =
    let a = c.args in
    let l = lent a.shapes.now a.anchors.now a.radii.now a.numbers.now a.flags.now in
    let g = c.in_ok-plan.ensures in
    let h = room l a.kind a.at.subpath a.at.anchor a.t c.in_ok-plan.plan g in
    let n = ap (λ x. x.n) c.sub_at-sub.ensures in
    let f = ap (λ x. x.first) c.sub_at-sub.ensures in
    omega (arith, h.path, g.few)

pub write_places-requires : goal.write_places-requires
unfolding sub_at
write_places-requires c =
    let a = c.args in
    let l = lent a.shapes.now a.anchors.now a.radii.now a.numbers.now a.flags.now in
    let g = c.in_ok-plan.ensures in
    let h = room l a.kind a.at.subpath a.at.anchor a.t c.in_ok-plan.plan g in
    let n = ap (λ x. x.n) c.sub_at-sub.ensures in
    let f = ap (λ x. x.first) c.sub_at-sub.ensures in
    let e = c.grown.ensures in
    let en = ap (λ x. x.n) e in
    let ef = ap (λ x. x.first) e in
    let sh = c.shift_cache.ensures in
    let ln = ap length sh.numbers ∙ length-gap a.numbers.now _ _ 12 in
    let lf = ap length sh.flags ∙ length-shifted a.flags.now _ _ in
    let w = made-places l a.kind a.at.subpath a.at.anchor a.t c.in_ok-plan.plan g in
    record {
      n_bound = (record { few = omega (arith, h.path, g.few); index = omega (arith, h.inside); reach = omega arith }, rw (e, c.sub_at-sub.ensures) w.inside);
      by_index = rw (e, c.sub_at-sub.ensures) w.few;
      n_in_bounds = (omega (arith, h.path, h.numbers), omega (arith, h.path, h.flags));
    }

pub returns : goal.returns
unfolding sub_at
returns c =
    let a = c.args in
    let l = lent a.shapes.now a.anchors.now a.radii.now a.numbers.now a.flags.now in
    let g = c.in_ok-plan.ensures in
    let h = room l a.kind a.at.subpath a.at.anchor a.t c.in_ok-plan.plan g in
    let n = ap (λ x. x.n) c.sub_at-sub.ensures in
    let f = ap (λ x. x.first) c.sub_at-sub.ensures in
    let k = g.count in
    let whole : c.in_ok-plan.plan.total - 1 ≡ total a.shapes.now = omega arith in
    let wd = c.write_drawing.ensures in
    let sh = c.shift_cache.ensures in
    let wp = c.write_places.ensures in
    let w = made-places l a.kind a.at.subpath a.at.anchor a.t c.in_ok-plan.plan g in
    let e = c.grown.ensures in
    let es = c.sub_at-sub.ensures in
    let v = view_in (split_at (drawn l a.kind) a.at.subpath a.at.anchor a.t) a.at.subpath in
    let size = made_size l a.kind a.at.subpath a.at.anchor a.t c.in_ok-plan.plan g in
    let round = made_closed l a.kind a.at.subpath a.at.anchor a.t c.in_ok-plan.plan g in
    split_done l a.kind a.at.subpath a.at.anchor a.t c.in_ok-plan.plan g _
    wd.shapes
    (rw (c.next.ensures, whole, n, f) at wd.anchors)
    (rw (whole, f) at wd.radii)
    (rw (whole, e, f) at (wp.numbers v (rw (e, es) (size, round, w.numbers)) ∙ ap (recut_numbers v _ _ _) sh.numbers))
    (rw (whole, e, f) at (wp.flags v (rw (e, es) (size, round, w.flags)) ∙ ap (recut_flags v _ _ _) sh.flags))
