-- WHICH CORNERS DIFFER: the places of a call's line are exactly those that its edit recuts, and at every other place the cut is what it was. Assumes nothing.
use mathlib.Core.Path.{◌≡◌, refl, sym, ap, ◌∙◌}
use mathlib.Core.Logic.{⊎_elim}
use mathlib.Core.Bool.{Bool, true, false, ◌&&◌, ◌||◌, or-true, or-false}
use mathlib.Core.List.{List, [], ◌∷◌, ◌++◌}
use Prim.Native.Nat.{ℕ, zero, suc, ◌+◌, ◌≤◌, ◌<◌}
use native.Mathlib.Omega.{arith}
use lib.Dec.{leb, ltb, eqb}
use lib.Arith.{lt_of_le-ne}
use borrow.Author.Tests.{lt-ltb, le-ltb, eq-eqb, ne_eqb}
use Rattle.views.proofs.Laws.{order, same}
use Rattle.views.proofs.Bools.{and_false}
use Rattle.path.specs.Shape.{total}
use Rattle.cut.specs.declared.subpath.Sub.{Sub}
use Rattle.cut.specs.declared.subpath.Window.{Window}
use Rattle.cut.specs.Subpath.{view_of}
use Rattle.cut.specs.Recut.{reached}
use Rattle.cut_calls.specs.PlainCut.{sub_at}
use Rattle.job.specs.Order.{member}
use Rattle.session.specs.Drawing.{Drawing, view_in}
use Rattle.session.specs.Edits.{Call, move, set_radius, split, edit_of, places_of}
use Rattle.session.proofs.Effects.{faithful}
use Rattle.recutting.specs.Near.{reached_in}
use Rattle.replay.specs.Encoding.{subpath_of}
use Rattle.reporting.specs.Codes.{which_of, index_of, sub_left, window_in}
use Rattle.call_lines.specs.Lines.{passing, window_of, sub_from, recut_places}
use Rattle.call_lines.proofs.Places.{passing-same, passing_more}

-- ---- in the list are exactly the places that pass
member-append : (k : ℕ) (a b : List ℕ) → member k (a ++ b) ≡ (member k a || member k b)
unfolding member
member-append k [] b = refl
member-append k (x ∷ a) b = go (eqb k x) (member-append k a b)
  where
    go : (t : Bool) → member k (a ++ b) ≡ (member k a || member k b) → (t || member k (a ++ b)) ≡ (t || member k a || member k b)
    go true h = refl
    go false h = h

pub member-passing : (p : ℕ → Bool) (n k : ℕ) → member k (passing p n) ≡ (ltb k n && p k)
unfolding passing member
member-passing p zero k = rw (le-ltb k 0 (omega arith))
member-passing p (suc n) k = go (p n) refl (member-passing p n k)
  where
    old : k < n → (ltb k n && p k) ≡ (ltb k (suc n) && p k)
    old l = rw (lt-ltb k n l, lt-ltb k (suc n) (omega arith))

    past : n < k → (ltb k n && p k) ≡ (ltb k (suc n) && p k)
    past l = rw (le-ltb k n (omega arith), le-ltb k (suc n) (omega arith))

    other : (k ≡ n → ⊥) → (ltb k n && p k) ≡ (ltb k (suc n) && p k)
    other ne = ⊎_elim (λ l. past (lt_of_le-ne l (λ e. ne (sym e)))) (λ l. old l) (order n k)

    now : k ≡ n → p n ≡ true → (ltb k (suc n) && p k) ≡ true
    now e t = rw (e, lt-ltb n (suc n) (omega arith), t)

    gone : k ≡ n → p n ≡ false → (ltb k n && p k) ≡ (ltb k (suc n) && p k)
    gone e f = rw (e, le-ltb n n (omega arith), lt-ltb n (suc n) (omega arith), f)

    go : (t : Bool) → p n ≡ t → member k (passing p n) ≡ (ltb k n && p k) → member k (passing p (suc n)) ≡ (ltb k (suc n) && p k)
    go true e h =
        ap (member k) (passing_more p n e) ∙ member-append k (passing p n) (n ∷ [])
        ∙ ⊎_elim
        (λ s. rw (eq-eqb k n s) (or-true (member k (passing p n)) ∙ sym (now s e)))
        (λ ne. rw (ne_eqb k n ne) (or-false (member k (passing p n)) ∙ h ∙ other ne))
        (same k n)
    go false e h = ap (member k) (passing-same p n e) ∙ h ∙ ⊎_elim (λ s. gone s e) (λ ne. other ne) (same k n)

-- ---- of a call's line: those that are reached
pub reached_past : (sub : Sub) (w : Window) (k : ℕ) → sub.first + sub.n ≤ k → reached_in sub w k ≡ false
unfolding reached_in
reached_past sub w k h = rw (le-ltb k (sub.first + sub.n) h) (and_false (leb sub.first k))

pub printed-reached : (sub : Sub) (w : Window) (k : ℕ) → member k (recut_places sub w) ≡ reached_in sub w k
unfolding recut_places
printed-reached sub w k =
    member-passing (reached_in sub w) (sub.first + sub.n) k
    ∙ ⊎_elim
    (λ l. rw (le-ltb k (sub.first + sub.n) l) (sym (reached_past sub w k l)))
    (λ l. rw (lt-ltb k (sub.first + sub.n) l))
    (order (sub.first + sub.n) k)

-- THE PLACES THAT ARE PRINTED ARE THOSE THAT THE EDIT RECUTS (demand 3)
pub recuts_reached : (d : Drawing) (c : Call) (k : ℕ) → (edit_of d c).recuts k ≡ reached_in (sub_left d c) (window_in c) k
unfolding edit_of reached reached_in view_in view_of sub_at sub_from window_of which_of subpath_of index_of
recuts_reached d (move s i new) k = refl
recuts_reached d (set_radius s i r) k = refl
recuts_reached d (split s a t) k = refl

pub printed-recut : (d : Drawing) (c : Call) (k : ℕ) → member k (recut_places (sub_left d c) (window_in c)) ≡ (edit_of d c).recuts k
printed-recut d c k = printed-reached (sub_left d c) (window_in c) k ∙ sym (recuts_reached d c k)

-- AND WHERE NOTHING IS PRINTED NOTHING DIFFERS: the plain cut has at a place what it had where that place stood before the edit
pub unprinted_same : (d : Drawing) (c : Call) → total d.shapes ≤ 512 → (edit_of d c).known ≡ true → (k : ℕ) → k < total (edit_of d c).made.shapes
    → member k (recut_places (sub_left d c) (window_in c)) ≡ false → places_of (edit_of d c).made k ≡ places_of d ((edit_of d c).stood k)
unprinted_same d c few known k l h = (faithful d c few known).cut_kept k l (sym (printed-recut d c k) ∙ h)
