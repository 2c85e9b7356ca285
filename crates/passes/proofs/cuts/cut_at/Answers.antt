-- Each way out is what the definition says of the corner, its radius, and the one that fits.
use Rattle.std.proofs.Common.{Some, ◌≡◌}
use mathlib.Core.Path.{sym, ap, subst, ◌∙◌}
use lib.Ieee.{Float, lt}
use Rattle.views.specs.View.{entry}
use Rattle.cubic.specs.Cubic.{CEPS}
use Rattle.path.specs.Flat.{anchor_at}
use Rattle.corner.specs.Cut.{cut}
use Rattle.cut.specs.Subpath.{view_of}
use Rattle.cut.specs.Places.{corner_at, fitted_at, is_cut}
use Rattle.cut.specs.Rows.{RowHeld}
use Rattle.cut.proofs.Outlines.{cut_not, cut_none, cut_some}
use Rattle.passes.proofs.FoundCorners.{held-none, measured, fitted-held}
use Rattle.passes.proofs.SmallRadii.{small_uncut}
use Rattle.passes.proofs.cuts.cut_at.Goals as goal

pub returns-then-not-radius : goal.returns-then-not-radius
unfolding view_of
returns-then-not-radius c = sym (cut_not _ c.args.i (small_uncut _ c.args.i c.if-not-radius.true))

pub returns-in_err-row : goal.returns-in_err-row
unfolding view_of
returns-in_err-row c =
    let v = view_of (anchor_at c.args.anchors.now) (entry c.args.radii.now) (λ k. c.args.kind) 128 c.args.sub in
    c.from_residual.ensures ∙ sym (cut_none v c.args.i (held-none v c.args.i (subst (RowHeld v c.args.i) c.in_err-row.was c.requires.rows.here)))

-- the corner is that of the definition
found : (c : goal.Then-r) → corner_at (view_of (anchor_at c.args.anchors.now) (entry c.args.radii.now) (λ k. c.args.kind) 128 c.args.sub) c.args.i ≡ Some c.corner_of_row-c.result
unfolding view_of
found c =
    let v = view_of (anchor_at c.args.anchors.now) (entry c.args.radii.now) (λ k. c.args.kind) 128 c.args.sub in
    c.corner_of_row-c.ensures.corner (entry c.args.radii.now) (λ k. c.args.kind) (subst (RowHeld v c.args.i) c.in_ok-row.was c.requires.rows.here)

pub cut-requires : goal.cut-requires
unfolding view_of
cut-requires c = (measured _ c.args.i _ (found c), c.corner_of_row-c.ensures.table_u, c.corner_of_row-c.ensures.table_v)

pub returns-then-r : goal.returns-then-r
unfolding is_cut view_of
returns-then-r c =
    let v = view_of (anchor_at c.args.anchors.now) (entry c.args.radii.now) (λ k. c.args.kind) 128 c.args.sub in
    let f : corner_at v c.args.i ≡ Some c.corner_of_row-c.result = c.corner_of_row-c.ensures.corner (entry c.args.radii.now) (λ k. c.args.kind) (subst (RowHeld v c.args.i) c.in_ok-row.was c.requires.rows.here) in
    let fit : c.fitted_beside-r.result ≡ fitted_at v c.args.i = c.fitted_beside-r.ensures ∙ fitted-held v c.args.i c.args.rows.now c.requires.rows _ f in
    ap Some (c.cut.ensures ∙ ap (λ (r : Float). cut 128 c.corner_of_row-c.result r c.args.kind) fit)
    ∙ sym (cut_some v c.args.i _ f (sym (ap (lt CEPS) fit) ∙ c.if-r.true))

pub returns-else-r : goal.returns-else-r
unfolding is_cut view_of
returns-else-r c =
    let v = view_of (anchor_at c.args.anchors.now) (entry c.args.radii.now) (λ k. c.args.kind) 128 c.args.sub in
    let f : corner_at v c.args.i ≡ Some c.corner_of_row-c.result = c.corner_of_row-c.ensures.corner (entry c.args.radii.now) (λ k. c.args.kind) (subst (RowHeld v c.args.i) c.in_ok-row.was c.requires.rows.here) in
    let fit : c.fitted_beside-r.result ≡ fitted_at v c.args.i = c.fitted_beside-r.ensures ∙ fitted-held v c.args.i c.args.rows.now c.requires.rows _ f in
    sym (cut_not v c.args.i (sym (ap (lt CEPS) fit) ∙ c.if-r.false))
