-- What the row leaves out the anchors give.
use Rattle.std.proofs.Common.{ℕ, ◌≡◌, ◌+◌}
use mathlib.Core.Path.{sym, ap, ap₂, subst, ◌∙◌}
use Rattle.path.specs.declared.anchor.Anchor.{Anchor}
use Rattle.path.specs.Flat.{anchor_at}
use Rattle.side.specs.Side.{OnLine}
use Rattle.corner.specs.Corner.{side_before, side_after, with_lengths}
use Rattle.cut.specs.declared.rows.Row.{Row}
use Rattle.cut.specs.Subpath.{view_of}
use Rattle.cut.specs.Rows.{row_of}
use Rattle.passes.proofs.FoundCorners.{corner-made, sides, held-some, before_side, after_side}
use Rattle.passes.proofs.corners.corner_of_row.Goals as goal

pub returns-clause-corner : goal.returns-clause-corner
unfolding view_of with_lengths row_of
returns-clause-corner c radius kind h =
    let a = c.args in
    let place : ℕ → Anchor = λ k. anchor_at a.anchors.now (a.sub.first + k) in
    let v = view_of (anchor_at a.anchors.now) radius kind 128 a.sub in
    let k = held-some v a.i a.r h in
    let s = sides v a.i _ k.is in
    let su : c.of-side_u.result ≡ before_side v a.i = c.of-side_u.ensures ∙ ap₂ side_before c.anchor-a.ensures (c.anchor-prev.ensures ∙ ap place c.before-2.ensures.index) in
    let sv : c.of-side_v.result ≡ after_side v a.i = c.of-side_v.ensures ∙ ap₂ side_after c.anchor-a.ensures (c.anchor-next.ensures ∙ ap place c.after.ensures.index) in
    let lu = c.measure.ensures.length (subst (λ z. OnLine 128 c.of-side_u.result z) (sym (ap (λ (r : Row). r.lu) k.row)) (subst (λ z. OnLine 128 z k.before.lu) (s.0 ∙ sym su) k.line_u)) in
    let lv = c.measure-2.ensures.length (subst (λ z. OnLine 128 c.of-side_v.result z) (sym (ap (λ (r : Row). r.lv) k.row)) (subst (λ z. OnLine 128 z k.before.lv) (s.1 ∙ sym sv) k.line_v)) in
    corner-made v a.i _ k.is _ _ _ _ _ _ _ (ap (λ (p : Anchor). p.p) c.anchor-a.ensures) (ap (λ (r : Row). r.u) k.row) (ap (λ (r : Row). r.v) k.row) su sv lu lv
