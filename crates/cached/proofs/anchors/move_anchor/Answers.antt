-- `cached::anchors::move_anchor`: a plan that refuses leaves the lists, one that accepts is written.
use Rattle.std.proofs.Common.{◌≡◌, ◌<◌, Err, refl, ◌∙◌, rules, arith}
use Rattle.cut.specs.Subpath.{view_of}
use Rattle.cut_calls.specs.PlainCut.{sub_at}
use Rattle.session.specs.Drawing.{drawn, view_in}
use Rattle.session.specs.Edits.{move, moved, edit_of}
use Rattle.cached.specs.Opening.{lent}
use Rattle.cached.specs.Planning.{reach_of, anchor_call}
use Rattle.cached.proofs.Plans.{inside_of, does-refuse}
use Rattle.cached.proofs.Moves.{move_done}
use Rattle.cached.proofs.anchors.move_anchor.Goals as goal

pub returns-in_err-plan : goal.returns-in_err-plan
unfolding anchor_call
returns-in_err-plan c =
    let a = c.args in
    let e : c.from_residual.result ≡ Err c.in_err-plan.field-0.0 = search rules in
    rw e (does-refuse (lent a.shapes.now a.anchors.now a.radii.now a.numbers.now a.flags.now) a.kind (move a.at.subpath a.at.anchor a.new) _ c.in_err-plan.ensures)

pub sub_at-sub-requires : goal.sub_at-sub-requires
sub_at-sub-requires c = (c.in_ok-plan.ensures.stands.there, c.in_ok-plan.ensures.stands.words)

pub put_anchor-requires : goal.put_anchor-requires
unfolding edit_of moved drawn anchor_call
put_anchor-requires c =
    let a = c.args in
    let w = c.in_ok-plan.ensures in
    let e = c.sub_at-sub.ensures in
    let i : a.at.anchor < c.sub_at-sub.result.n = rw e w.index in
    let x = (inside_of (lent a.shapes.now a.anchors.now a.radii.now a.numbers.now a.flags.now) a.at.subpath w.stands c.sub_at-sub.result e).anchors in
    omega arith

pub write_places-requires : goal.write_places-requires
unfolding edit_of moved drawn reach_of anchor_call
write_places-requires c =
    let a = c.args in
    let w = c.in_ok-plan.ensures in
    let e = c.sub_at-sub.ensures in
    let r = c.reach.ensures in
    let h = inside_of (lent a.shapes.now a.anchors.now a.radii.now a.numbers.now a.flags.now) a.at.subpath w.stands c.sub_at-sub.result e in
    let p = h.path in
    record {
      n_bound = (record { few = omega arith; index = rw e w.index; reach = rw r (omega arith) }, rw e w.places.inside);
      by_index = rw (r, e) w.places.few;
      n_in_bounds = (h.numbers, h.flags);
    }

pub returns : goal.returns
unfolding edit_of moved drawn sub_at view_in view_of reach_of anchor_call
returns c =
    let a = c.args in
    let l = lent a.shapes.now a.anchors.now a.radii.now a.numbers.now a.flags.now in
    let w = c.in_ok-plan.ensures in
    let e = c.sub_at-sub.ensures in
    let r = c.reach.ensures in
    let g = c.write_places.ensures in
    let v = view_in (edit_of (drawn l a.kind) (move a.at.subpath a.at.anchor a.new)).made a.at.subpath in
    move_done l a.kind a.at.subpath a.at.anchor a.new c.in_ok-plan.plan w _ _ _ (c.put_anchor.ensures ∙ rw e)
    (g.numbers v (rw (r, e) (refl, refl, w.places.numbers)) ∙ rw (r, e)) (g.flags v (rw (r, e) (refl, refl, w.places.flags)) ∙ rw (r, e))
