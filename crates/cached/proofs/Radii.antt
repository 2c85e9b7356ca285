-- A radius set: an edit of one anchor, and the lists that it leaves. Assumes nothing.
use mathlib.Core.Path.{◌≡◌, refl, ap, ◌∙◌}
use mathlib.Core.Bool.{cond}
use mathlib.Core.List.{List}
use Prim.Native.Nat.{ℕ, ◌+◌}
use lib.ListN.{set}
use lib.Ieee.{Float}
use Rattle.std.proofs.Common.{Ok}
use Rattle.views.specs.View.{entry}
use Rattle.path.specs.Flat.{anchor_at}
use Rattle.path.specs.Shape.{start}
use Rattle.cut.specs.Recut.{recut_numbers, recut_flags}
use Rattle.cut_calls.specs.PlainCut.{sub_at}
use Rattle.recutting.specs.declared.plans.Plan.{Plan}
use Rattle.session.specs.Drawing.{Lent, drawn, view_in}
use Rattle.session.specs.Edits.{set_radius, resized, edit_of}
use Rattle.session.specs.Calls.{written_good}
use Rattle.session.specs.Model.{recut_count}
use Rattle.session.proofs.Accepted.{radius_shapes_left, radius_anchors_left, radius_radii_left, radius-numbers-left, radius_flags_left}
use Rattle.cached.specs.Opening.{lent}
use Rattle.cached.specs.Doing.{Does}
use Rattle.cached.specs.Planning.{Allowed}
use Rattle.cached.proofs.Plans.{like_self, does_accept, One}
use Rattle.cached.proofs.Moves.{shifted-eqb, same-put}

module _ (l : Lent) (kind s i : ℕ) (radius : Float) where
  pub radius_one : One l kind (set_radius s i radius) s i 2 (anchor_at l.anchors (start l.shapes s + i)) radius
  unfolding edit_of resized drawn recut_count written_good
  radius_one = record {
    known = refl;
    shapes = refl;
    made-kind = refl;
    recuts = λ k. refl;
    written = λ g k. refl;
    anchor = λ k. same-put (λ k. anchor_at l.anchors (start l.shapes s + k)) k i;
    set-radius = λ k. ap (λ b. cond b radius (entry l.radii (start l.shapes s + k))) (shifted-eqb (start l.shapes s) k i);
    count = refl;
  }

  -- as the code leaves the lists
  pub radius_done : (p : Plan) → (a : Allowed l kind (set_radius s i radius) s i 2 p)
      → (radii numbers : List Float) (flags : List ℕ) → radii ≡ set l.radii (start l.shapes s + i) radius
      → numbers ≡ recut_numbers (view_in (edit_of (drawn l kind) (set_radius s i radius)).made s) (start l.shapes s) 2 i l.numbers
      → flags ≡ recut_flags (view_in (edit_of (drawn l kind) (set_radius s i radius)).made s) (start l.shapes s) 2 i l.flags
      → Does l kind (set_radius s i radius) (Ok (record { recut = p.count; anchors = p.total })) (lent l.shapes l.anchors radii numbers flags)
  unfolding edit_of resized drawn sub_at
  radius_done p a radii numbers flags x y z =
      let at = a.stands in
      let v = view_in (resized (drawn l kind) (start l.shapes s + i) radius) s in
      let e0 = radius_shapes_left l kind s i at.there a.index radius in
      let e1 = radius_anchors_left l kind s i at.there a.index radius in
      let e2 = x ∙ radius_radii_left l kind s i at.there a.index radius at.radii in
      let e3 = y ∙ radius-numbers-left l kind s i at.there a.index radius v (like_self v) at.numbers in
      let e4 = z ∙ radius_flags_left l kind s i at.there a.index radius v (like_self v) at.flags in
      does_accept l kind (set_radius s i radius) s i 2 p a (lent l.shapes l.anchors radii numbers flags)
      (λ t. record { shapes = e0 t; anchors = e1 t; radii = e2 t; numbers = e3 t; flags = e4 t })
