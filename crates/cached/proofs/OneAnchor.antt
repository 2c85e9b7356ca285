-- A moved anchor and a set radius as edits of one anchor. Assumes nothing.
use mathlib.Core.Path.{◌≡◌, refl}
use Prim.Native.Nat.{ℕ, ◌+◌, ◌≤◌}
use native.Mathlib.Omega.{arith}
use Rattle.views.specs.View.{entry}
use Rattle.path.specs.declared.shape.AnchorRef.{AnchorRef}
use Rattle.path.specs.Flat.{anchor_at}
use Rattle.path.specs.Shape.{start}
use Rattle.session.specs.Drawing.{Drawing, Lent}
use Rattle.session.specs.Edits.{edit_of}
use Rattle.cached.specs.declared.planning.AnchorEdit.{AnchorEdit}
use Rattle.cached.specs.declared.planning.AnchorEdit.TheVariants.{Move, Radius}
use Rattle.cached.specs.Planning.{numbers_in, reach_of, anchor_then, radius_then, anchor_call}
use Rattle.cached.proofs.Plans.{One}
use Rattle.cached.proofs.Moves.{move_one}
use Rattle.cached.proofs.Radii.{radius_one}

pub one_of : (l : Lent) (kind : ℕ) (at : AnchorRef) (e : AnchorEdit)
    → One l kind (anchor_call at e) at.subpath at.anchor (reach_of e)
    (anchor_then e (anchor_at l.anchors (start l.shapes at.subpath + at.anchor)))
    (radius_then e (entry l.radii (start l.shapes at.subpath + at.anchor)))
unfolding anchor_call reach_of anchor_then radius_then
one_of l kind at (Move new) = move_one l kind at.subpath at.anchor new
one_of l kind at (Radius r) = radius_one l kind at.subpath at.anchor r

pub loose_of : (d : Drawing) (at : AnchorRef) (e : AnchorEdit) → numbers_in e ≡ (edit_of d (anchor_call at e)).loose
unfolding edit_of anchor_call numbers_in
loose_of d at (Move new) = refl
loose_of d at (Radius r) = refl

pub reach-small : (e : AnchorEdit) → reach_of e ≤ 4
unfolding reach_of
reach-small (Move new) = omega arith
reach-small (Radius r) = omega arith
