-- The row of what is known of the corner before it is measured.
use Rattle.std.proofs.Common.{Option, Some, None}
use mathlib.Core.Path.{ap, subst}
use Rattle.views.specs.View.{entry}
use Rattle.path.specs.Flat.{anchor_at}
use Rattle.corner.specs.declared.corner.Corner.{Corner}
use Rattle.corner.specs.Corner.{Unmeasured}
use Rattle.cut.specs.Subpath.{view_of}
use Rattle.cut.specs.Places.{corner_at}
use Rattle.passes.proofs.corners.row_at.Goals as goal

pub returns-in_err-c : goal.returns-in_err-c
unfolding view_of
returns-in_err-c c kind =
    let v = view_of (anchor_at c.args.anchors.now) (entry c.args.radii.now) kind 128 c.args.sub in
    let m : Unmeasured 128 c.corner_at.result (corner_at v c.args.i) = c.corner_at.ensures (entry c.args.radii.now) kind in
    record { corner = None; unmeasured = subst (λ (k : Option Corner). Unmeasured 128 k (corner_at v c.args.i)) c.in_err-c.was m; is = c.from_residual.ensures }

pub returns : goal.returns
unfolding view_of
returns c kind =
    let v = view_of (anchor_at c.args.anchors.now) (entry c.args.radii.now) kind 128 c.args.sub in
    let m : Unmeasured 128 c.corner_at.result (corner_at v c.args.i) = c.corner_at.ensures (entry c.args.radii.now) kind in
    record { corner = Some c.in_ok-c.c; unmeasured = subst (λ (k : Option Corner). Unmeasured 128 k (corner_at v c.args.i)) c.in_ok-c.was m; is = ap Some c.row_of.ensures }
