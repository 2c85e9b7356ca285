-- An answer's five words fit: no place or count is above 512, and an accepted call's subpath is there. Assumes nothing.
use mathlib.Core.Path.{◌≡◌, refl, sym, ap, ◌∙◌}
use mathlib.Core.Logic.{◌⊎◌, inl, inr, ⊎_elim}
use mathlib.Core.Bool.{Bool, true, false, ◌&&◌, cond}
use Prim.Native.Nat.{ℕ, zero, suc, ◌≤◌, ◌<◌, zero-le, suc-le-suc}
use native.Mathlib.Omega.{arith}
use lib.Dec.{leb, ltb}
use lib.ListN.{length}
use borrow.Author.Tests.{leb-true, ltb-true}
use Rattle.path.proofs.Shapes.{has_says}
use Rattle.views.specs.Search.{first_false, count}
use Rattle.views.proofs.Bools.{and_left, and_right}
use Rattle.refusal.specs.declared.Refusal.{Refusal}
use Rattle.refusal.specs.declared.Reason.TheVariants.{Arguments, Reference, Lists, Output, Made, Capacity}
use Rattle.refusal.specs.declared.Reason.{Reason}
use Rattle.refusal.specs.Order.{Test, passes, fails, holds, judge, Verdict, accepted, refused, answering}
use Rattle.refusal.proofs.Verdicts.{in_order, holds_says, accepted_says, refusing}
use Rattle.path.specs.Shape.{total}
use Rattle.path.specs.Limit.{place_in}
use Rattle.call.specs.Tests.{places, drawing_limit}
use Rattle.corner.specs.Kinds.{kind_of, is_known}
use Rattle.session.specs.Drawing.{Lent, drawn}
use Rattle.session.specs.Edits.{Call, move, set_radius, split, Edit, edit_of}
use Rattle.session.specs.Calls.{lists_fit, written_good, recut_good, edit_limit, edit_verdict, edit_answer, edited_lists, lists_after, call_verdict, call_answer, call_lists}
use Rattle.session.specs.Model.{lengths_of, long_for, small_path}
use Rattle.session.proofs.Lents.{fits-same}
use Rattle.session.proofs.Effects.{segment-sub}
use Rattle.session.proofs.Step.{words_kept}
use Rattle.replay.specs.Encoding.{Small, subpath_of}

-- ---- at which place a test fails
same_place : (p k : ℕ) → fails p ≡ fails k → p ≡ k
same_place p k e = cc

apart : (k : ℕ) → passes ≡ fails k → ⊥
apart k e = let z : ◌≡◌ {A = ℕ} 0 1 = cc in omega arith

holds_place : (b : Bool) (p k : ℕ) → holds b p ≡ fails k → k ≡ p
unfolding holds
holds_place true p k e = absurd (apart k e)
holds_place false p k e = sym (same_place p k e)

places_place : (good : ℕ → Bool) (n : ℕ) (after : Test) (k : ℕ) → places good n after ≡ fails k → (k < n) ⊎ (after ≡ fails k)
unfolding places
places_place good n after k = go (ltb (first_false good n) n) refl
  where
    go : (b : Bool) → ltb (first_false good n) n ≡ b → cond b (fails (first_false good n)) after ≡ fails k → (k < n) ⊎ (after ≡ fails k)
    go true t e = let z = same_place (first_false good n) k e in let h = ltb-true (first_false good n) n t in inl (omega arith)
    go false t e = inr e

-- a verdict is the first test's, or that of those after it
same_refusal : (x y : Refusal) → refused x ≡ refused y → x ≡ y
same_refusal x y e = cc

judged : (t : Test) (r : Reason) (later : Verdict) (why : Refusal) → judge t r later ≡ refused why → (t ≡ fails why.place) ⊎ ((t ≡ passes) × (later ≡ refused why))
unfolding judge
judged passes r later why e = inr (refl, e)
judged (fails p) r later why e = inl (ap (λ (x : Refusal). fails x.place) (same_refusal _ why e))

zero-small : (b : Bool) (k : ℕ) → holds b 0 ≡ fails k → k ≤ 512
zero-small b k e = let z = holds_place b 0 k e in omega arith

-- ---- a path whose lists fit
fits-small : (l : Lent) → lists_fit l ≡ true → (length l.shapes ≤ 32) × (total l.shapes ≤ 512)
unfolding small_path
fits-small l h =
    let n = total l.shapes in
    let s = and_left (small_path l.shapes) (long_for (lengths_of l) n) (sym (fits-same l) ∙ h) in
    (leb-true _ _ (and_left (leb (length l.shapes) 32) (leb n 512) s), leb-true _ _ (and_right (leb (length l.shapes) 32) (leb n 512) s))

count_most : (p : ℕ → Bool) (n : ℕ) → count p n ≤ n
unfolding count
count_most p zero = zero-le
count_most p (suc n) = go (p zero) (count_most (λ k. p (suc k)) n)
  where
    go : (b : Bool) → count (λ k. p (suc k)) n ≤ n → cond b (suc (count (λ k. p (suc k)) n)) (count (λ k. p (suc k)) n) ≤ suc n
    go true h = suc-le-suc h
    go false h = omega arith

-- ---- the places of refusals
module _ (l : Lent) (kind : ℕ) (e : Edit) where
  abbrev n : ℕ
  n = total l.shapes

  abbrev after : ℕ
  after = total e.made.shapes

  loose_small : lists_fit l ≡ true → (k : ℕ) → drawing_limit l.shapes l.anchors l.radii (is_known (kind_of kind) && e.loose) ≡ fails k → k ≤ 512
  unfolding drawing_limit
  loose_small fits k h =
      let w = (fits-small l fits).1 in
      ⊎_elim (λ x. omega arith) (λ x. let z = holds_place (is_known (kind_of kind) && e.loose) n k x in omega arith)
      (places_place (place_in l.anchors l.radii) n (holds (is_known (kind_of kind) && e.loose) n) k h)

  result_small : after ≤ 512 → (k : ℕ) → edit_limit e ≡ fails k → k ≤ 512
  unfolding edit_limit
  result_small few k h =
      ⊎_elim (λ x. omega arith) (λ y. ⊎_elim (λ x. omega arith) (λ x. absurd (apart k x)) (places_place (recut_good e) after passes k y))
      (places_place (written_good e) after (places (recut_good e) after passes) k h)

  pub refused-small : (why : Refusal) → edit_verdict l kind e ≡ refused why → why.place ≤ 512
  unfolding edit_verdict
  refused-small why h =
      let k = why.place in
      ⊎_elim (zero-small _ k)
      (λ p7. ⊎_elim (loose_small (holds_says (lists_fit l) 0 p7.0) k)
      (λ p5. ⊎_elim (zero-small _ k)
      (λ p6. ⊎_elim (zero-small _ k)
      (λ p10. ⊎_elim (result_small (leb-true after 512 (holds_says (leb after 512) 0 p10.0)) k)
      (λ p9. ⊎_elim (zero-small _ k)
      (λ p8. absurd (refusing why (sym p8.1)))
      (judged _ Output _ why p9.1))
      (judged _ Made _ why p10.1))
      (judged _ Capacity _ why p6.1))
      (judged _ Reference _ why p5.1))
      (judged _ Arguments _ why p7.1))
      (judged _ Lists _ why (sym (in_order _ _ _ _ _ _) ∙ h))

-- ---- an accepted call's subpath
known_sub : (l : Lent) (kind : ℕ) (c : Call) → (edit_of (drawn l kind) c).known ≡ true → subpath_of c < length l.shapes
unfolding edit_of subpath_of drawn
known_sub l kind (move s i new) h = (has_says l.shapes s i h).0
known_sub l kind (set_radius s i r) h = (has_says l.shapes s i h).0
known_sub l kind (split s a t) h = segment-sub l.shapes s a h

words_same : (l : Lent) (kind : ℕ) (c : Call) → length (edit_of (drawn l kind) c).made.shapes ≡ length l.shapes
unfolding drawn
words_same l kind c = words_kept (drawn l kind) c

module _ (l : Lent) (kind : ℕ) (c : Call) (yes : edit_verdict l kind (edit_of (drawn l kind) c) ≡ accepted) where
  abbrev e : Edit
  e = edit_of (drawn l kind) c

  abbrev m : ℕ
  m = total e.made.shapes

  accepted_small : (count e.recuts m ≤ 512) × (m ≤ 512) × (subpath_of c < length e.made.shapes) × (length e.made.shapes ≤ 32) × (m ≤ 512)
  unfolding edit_verdict
  accepted_small =
      let p = accepted_says _ _ _ _ _ _ yes in
      let few = leb-true m 512 (holds_says (leb m 512) 0 p.capacity) in
      let most = count_most e.recuts m in
      let there = known_sub l kind c (holds_says e.known 0 p.reference) in
      let words = words_same l kind c in
      let short = (fits-small l (holds_says (lists_fit l) 0 p.lists)).0 in
      (omega arith, few, omega arith, omega arith, few)

-- ---- every answer
pub small-answer : (l : Lent) (kind : ℕ) (c : Call) → Small (call_answer l kind c) (call_lists l kind c).shapes (subpath_of c)
unfolding call_answer call_lists call_verdict edit_answer answering lists_after edited_lists
small-answer l kind c = go (edit_verdict l kind (edit_of (drawn l kind) c)) refl
  where
    go : (v : Verdict) → edit_verdict l kind (edit_of (drawn l kind) c) ≡ v
        → Small (edit_answer v (count (edit_of (drawn l kind) c).recuts (total (edit_of (drawn l kind) c).made.shapes)) (total (edit_of (drawn l kind) c).made.shapes))
        (lists_after v (edited_lists l (edit_of (drawn l kind) c)) l).shapes (subpath_of c)
    go (refused why) h = refused-small l kind (edit_of (drawn l kind) c) why h
    go accepted h = accepted_small l kind c h
