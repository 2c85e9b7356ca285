-- Anchors in flat lists: what a list reads once an anchor is put to its place. Assumes nothing.
use mathlib.Core.Path.{◌≡◌, refl, ap, ◌∙◌, sym}
use mathlib.Core.Logic.{◌⊎◌, inl, inr, ⊎_elim}
use mathlib.Core.Bool.{cond}
use mathlib.Core.List.{List}
use Prim.Native.Nat.{ℕ, zero, suc, ◌+◌, ◌-◌, ◌*◌, ◌/◌, ◌%◌, ◌≤◌, ◌<◌}
use native.Mathlib.Nat.{add-zero}
use native.Mathlib.Omega.{arith}
use lib.Dec.{lit<, eqb}
use lib.ListN.{length}
use lib.Seq.{sets, length-sets}
use lib.Ieee.{Float, nan}
use borrow.Author.Tests.{eq-eqb, ne_eqb}
use Rattle.views.specs.View.{entry}
use Rattle.views.proofs.Laws.{order, same}
use Rattle.views.proofs.Runs.{get_d_sets_in, get_d_sets_out}
use Rattle.path.specs.declared.anchor.Anchor.{Anchor}
use Rattle.path.specs.Flat.{anchor_at, numbers, anchor_numbers, put_anchor}

-- ---- number by number
-- number i of anchor k
pub anchor-number : (f : ℕ → Anchor) (k i : ℕ) → i < 6 → anchor_numbers f (k * 6 + i) ≡ entry (numbers (f k)) i
unfolding anchor_numbers
anchor-number f k i h =
    let a : (k * 6 + i) / 6 ≡ k = omega arith in
    let b : (k * 6 + i) % 6 ≡ i = omega arith in
    rw (a, b)

number_at : (xs : List Float) (k i : ℕ) → i < 6 → entry (numbers (anchor_at xs k)) i ≡ entry xs (k * 6 + i)
unfolding numbers
number_at xs k zero h = rw add-zero
number_at xs k (suc zero) h = refl
number_at xs k (suc (suc zero)) h = refl
number_at xs k (suc (suc (suc zero))) h = refl
number_at xs k (suc (suc (suc (suc zero)))) h = refl
number_at xs k (suc (suc (suc (suc (suc zero))))) h = refl
number_at xs k (suc (suc (suc (suc (suc (suc i)))))) h = absurd (omega arith)

-- the numbers of the anchors of a list are the list's
pub numbers_at : (xs : List Float) (j : ℕ) → anchor_numbers (anchor_at xs) j ≡ entry xs j
unfolding anchor_numbers
numbers_at xs j =
    let e : j / 6 * 6 + j % 6 ≡ j = omega arith in
    number_at xs (j / 6) (j % 6) (omega arith) ∙ ap (entry xs) e

module _ (xs : List Float) (k : ℕ) (a : Anchor) where
  -- ---- an anchor put is a run of six stores
  pub put_run : put_anchor xs k a ≡ sets xs (k * 6) (numbers a)
  unfolding numbers
  put_run =
      let e1 : k * 6 + 1 ≡ suc (k * 6) = omega arith in
      let e2 : k * 6 + 2 ≡ suc (suc (k * 6)) = omega arith in
      let e3 : k * 6 + 3 ≡ suc (suc (suc (k * 6))) = omega arith in
      let e4 : k * 6 + 4 ≡ suc (suc (suc (suc (k * 6)))) = omega arith in
      let e5 : k * 6 + 5 ≡ suc (suc (suc (suc (suc (k * 6))))) = omega arith in
      rw (e1, e2, e3, e4, e5)

  pub length-put : length (put_anchor xs k a) ≡ length xs
  length-put = ap length put_run ∙ length-sets xs (k * 6) (numbers a)

  -- a number outside place k is as it was
  pub put_out : (j : ℕ) → (j < k * 6) ⊎ (k * 6 + 6 ≤ j) → entry (put_anchor xs k a) j ≡ entry xs j
  unfolding numbers
  put_out j o = ap (λ l. entry l j) put_run ∙ get_d_sets_out nan (numbers a) xs (k * 6) j o

  pub put_in : k * 6 + 6 ≤ length xs → (i : ℕ) → i < 6 → entry (put_anchor xs k a) (k * 6 + i) ≡ entry (numbers a) i
  unfolding numbers
  put_in h i l = ap (λ z. entry z (k * 6 + i)) put_run ∙ get_d_sets_in nan (numbers a) xs (k * 6) i h l

  -- place k reads back what was put
  pub at_put : k * 6 + 6 ≤ length xs → anchor_at (put_anchor xs k a) k ≡ a
  unfolding numbers
  at_put h =
      rw (rw add-zero at (put_in h 0 (lit< tt)), put_in h 1 (lit< tt), put_in h 2 (lit< tt), put_in h 3 (lit< tt), put_in h 4 (lit< tt), put_in h 5 (lit< tt))

  -- another place is as it was
  pub at_put_other : (j : ℕ) → (j ≡ k → ⊥) → anchor_at (put_anchor xs k a) j ≡ anchor_at xs j
  at_put_other j ne =
      rw (rw add-zero at (other 0 (lit< tt)), other 1 (lit< tt), other 2 (lit< tt), other 3 (lit< tt), other 4 (lit< tt), other 5 (lit< tt))
    where
      other : (i : ℕ) → i < 6 → entry (put_anchor xs k a) (j * 6 + i) ≡ entry xs (j * 6 + i)
      other i l =
          put_out (j * 6 + i) (⊎_elim (λ h. inr (omega arith)) (λ h. inl (omega arith)) (order (k + 1) j))

  -- every place
  pub put_at : k * 6 + 6 ≤ length xs → (j : ℕ) → anchor_at (put_anchor xs k a) j ≡ cond (eqb j k) a (anchor_at xs j)
  put_at h j =
      ⊎_elim
      (λ e. rw (eq-eqb j k e) (ap (anchor_at (put_anchor xs k a)) e ∙ at_put h))
      (λ ne. rw (ne_eqb j k ne) (at_put_other j ne))
      (same j k)

  -- ---- a loop that puts anchors from the front: one more, below it and from it on
  pub put_more : (f : ℕ → Anchor) → k * 6 + 6 ≤ length xs → ((j : ℕ) → j < k * 6 → entry xs j ≡ anchor_numbers f j) → a ≡ f k
      → (j : ℕ) → j < (k + 1) * 6 → entry (put_anchor xs k a) j ≡ anchor_numbers f j
  put_more f h below e j l =
      ⊎_elim
      (λ m. inside (j - k * 6) (omega arith) (omega arith))
      (λ m. put_out j (inl m) ∙ below j m)
      (order (k * 6) j)
    where
      inside : (i : ℕ) → j ≡ k * 6 + i → i < 6 → entry (put_anchor xs k a) j ≡ anchor_numbers f j
      inside i p m = rw p (put_in h i m ∙ ap (λ b. entry (numbers b) i) e ∙ sym (anchor-number f k i m))

  pub put_keep : (ys : List Float) → ((j : ℕ) → k * 6 ≤ j → entry xs j ≡ entry ys j) → (j : ℕ) → (k + 1) * 6 ≤ j → entry (put_anchor xs k a) j ≡ entry ys j
  put_keep ys kept j l = put_out j (inr (omega arith)) ∙ kept j (omega arith)
