-- A moved anchor: an edit of one anchor, and the lists that it leaves. Assumes nothing.
use mathlib.Core.Path.{◌≡◌, refl, sym, ap, ◌∙◌}
use mathlib.Core.Logic.{⊎_elim}
use mathlib.Core.Bool.{Bool, true, false, not, ◌||◌, cond}
use mathlib.Core.List.{List}
use Prim.Native.Nat.{ℕ, ◌+◌}
use native.Mathlib.Omega.{arith}
use lib.Dec.{eqb}
use lib.Ieee.{Float}
use borrow.Author.Tests.{eq-eqb, ne_eqb}
use Rattle.std.proofs.Common.{Ok}
use Rattle.views.specs.View.{entry}
use Rattle.views.proofs.Laws.{same}
use Rattle.path.specs.declared.anchor.Anchor.{Anchor}
use Rattle.path.specs.Flat.{anchor_at, put_anchor}
use Rattle.path.specs.Limit.{anchor_good}
use Rattle.path.specs.Shape.{start}
use Rattle.cut.specs.Recut.{recut_numbers, recut_flags}
use Rattle.cut_calls.specs.PlainCut.{sub_at}
use Rattle.recutting.specs.declared.plans.Plan.{Plan}
use Rattle.session.specs.Drawing.{Lent, drawn, view_in}
use Rattle.session.specs.Edits.{move, moved, edit_of}
use Rattle.session.specs.Calls.{written_good}
use Rattle.session.specs.Model.{recut_count}
use Rattle.session.proofs.Accepted.{move_shapes_left, move_anchors_left, move_radii_left, move_numbers-left, move_flags_left}
use Rattle.cached.specs.Opening.{lent}
use Rattle.cached.specs.Doing.{Does}
use Rattle.cached.specs.Planning.{Allowed}
use Rattle.cached.proofs.Plans.{like_self, does_accept, One}

-- ---- an index of a subpath among its places
pub shifted-eqb : (f k i : ℕ) → eqb (f + k) (f + i) ≡ eqb k i
shifted-eqb f k i =
    ⊎_elim (λ (e : k ≡ i). eq-eqb (f + k) (f + i) (ap (λ z. f + z) e) ∙ sym (eq-eqb k i e))
    (λ (ne : k ≡ i → ⊥). ne_eqb (f + k) (f + i) (λ e. ne (omega arith)) ∙ sym (ne_eqb k i ne))
    (same k i)

-- what stands at an index, put there again
pub same-put : {A : Type 0} (f : ℕ → A) (k i : ℕ) → f k ≡ cond (eqb k i) (f i) (f k)
same-put f k i =
    ⊎_elim (λ (e : k ≡ i). rw (eq-eqb k i e) (ap f e)) (λ (ne : k ≡ i → ⊥). rw (ne_eqb k i ne)) (same k i)

module _ (l : Lent) (kind s i : ℕ) (new : Anchor) where
  pub move_one : One l kind (move s i new) s i 3 new (entry l.radii (start l.shapes s + i))
  unfolding edit_of moved drawn recut_count written_good
  move_one = record {
    known = refl;
    shapes = refl;
    made-kind = refl;
    recuts = λ k. refl;
    written = λ g k. fine g k (eqb k (start l.shapes s + i));
    anchor = λ k. ap (λ b. cond b new (anchor_at l.anchors (start l.shapes s + k))) (shifted-eqb (start l.shapes s) k i);
    set-radius = λ k. same-put (λ k. entry l.radii (start l.shapes s + k)) k i;
    count = refl;
  }
    where
      fine : anchor_good new ≡ true → (k : ℕ) (t : Bool) → (not t || anchor_good (cond t new (anchor_at l.anchors k))) ≡ true
      fine g k true = g
      fine g k false = refl

  -- as the code leaves the lists
  pub move_done : (p : Plan) → (a : Allowed l kind (move s i new) s i 3 p)
      → (anchors numbers : List Float) (flags : List ℕ) → anchors ≡ put_anchor l.anchors (start l.shapes s + i) new
      → numbers ≡ recut_numbers (view_in (edit_of (drawn l kind) (move s i new)).made s) (start l.shapes s) 3 i l.numbers
      → flags ≡ recut_flags (view_in (edit_of (drawn l kind) (move s i new)).made s) (start l.shapes s) 3 i l.flags
      → Does l kind (move s i new) (Ok (record { recut = p.count; anchors = p.total })) (lent l.shapes anchors l.radii numbers flags)
  unfolding edit_of moved drawn sub_at
  move_done p a anchors numbers flags x y z =
      let at = a.stands in
      let v = view_in (moved (drawn l kind) (start l.shapes s + i) new) s in
      let e0 = move_shapes_left l kind s i at.there a.index new in
      let e1 = x ∙ move_anchors_left l kind s i at.there a.index new at.anchors in
      let e2 = move_radii_left l kind s i at.there a.index new in
      let e3 = y ∙ move_numbers-left l kind s i at.there a.index new v (like_self v) at.numbers in
      let e4 = z ∙ move_flags_left l kind s i at.there a.index new v (like_self v) at.flags in
      does_accept l kind (move s i new) s i 3 p a (lent l.shapes anchors l.radii numbers flags)
      (λ t. record { shapes = e0 t; anchors = e1 t; radii = e2 t; numbers = e3 t; flags = e4 t })
