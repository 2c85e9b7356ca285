-- The indices of a subpath into which an anchor is put: `old` and `shifted` undo each other, no index comes to be the new one, and a count over them is one short. Assumes nothing.
use mathlib.Core.Path.{◌≡◌, sym, ap, ◌∙◌}
use mathlib.Core.Logic.{◌⊎◌, inl, inr, ⊎_elim}
use mathlib.Core.Bool.{Bool, true}
use Prim.Native.Nat.{ℕ, ◌+◌, ◌-◌, ◌≤◌, ◌<◌}
use native.Mathlib.Omega.{arith}
use borrow.Author.Tests.{le-leb, lt-leb}
use Rattle.views.specs.Search.{count}
use Rattle.views.proofs.Laws.{order}
use Rattle.views.proofs.Searches.{count_cong, count_add, count_more}
use Rattle.cut.specs.Near.{old, shifted}

pub old_low : (a j : ℕ) → j ≤ a → old a j ≡ j
unfolding old
old_low a j h = rw (le-leb j a h)

pub old_high : (a j : ℕ) → a < j → old a j ≡ j - 1
unfolding old
old_high a j h = rw (lt-leb j a h)

pub shifted_low : (a j : ℕ) → j ≤ a → shifted a j ≡ j
unfolding shifted
shifted_low a j h = rw (le-leb j a h)

pub shifted_high : (a j : ℕ) → a < j → shifted a j ≡ j + 1
unfolding shifted
shifted_high a j h = rw (lt-leb j a h)

-- ---- there and back
pub old-shifted : (a j : ℕ) → old a (shifted a j) ≡ j
old-shifted a j =
    ⊎_elim
    (λ (l : j ≤ a). rw (shifted_low a j l) (old_low a j l))
    (λ (l : a < j). rw (shifted_high a j l) (old_high a (j + 1) (omega arith) ∙ omega arith))
    (order j a)

pub shifted-old : (a k : ℕ) → (k ≡ a + 1 → ⊥) → shifted a (old a k) ≡ k
shifted-old a k ne =
    ⊎_elim
    (λ (l : k ≤ a). rw (old_low a k l) (shifted_low a k l))
    (λ (l : a < k). let g : a + 1 < k = after l (order k (a + 1)) in rw (old_high a k l) (shifted_high a (k - 1) (omega arith) ∙ omega arith))
    (order k a)
  where
    after : a < k → (k ≤ a + 1) ⊎ (a + 1 < k) → a + 1 < k
    after l (inl g) = absurd (ne (omega arith))
    after l (inr g) = g

pub shifted_once : (a j k : ℕ) → shifted a j ≡ shifted a k → j ≡ k
shifted_once a j k e = sym (old-shifted a j) ∙ ap (old a) e ∙ old-shifted a k

-- ---- the new anchor, and the one before it
pub shifted-new : (a k : ℕ) → shifted a k ≡ a + 1 → ⊥
shifted-new a k e = ⊎_elim (λ (l : k ≤ a). let z = shifted_low a k l in omega arith) (λ (l : a < k). let z = shifted_high a k l in omega arith) (order k a)

pub shifted_self : (a k : ℕ) → shifted a k ≡ a → k ≡ a
shifted_self a k e = shifted_once a k a (e ∙ sym (shifted_low a a (omega arith)))

-- ---- counted: each index but the new one, and that one
pub count-shifted : (p : ℕ → Bool) (a n : ℕ) → a < n → p (a + 1) ≡ true → count (λ k. p (shifted a k)) n + 1 ≡ count p (n + 1)
count-shifted p a n h e =
    let m = n - (a + 1) in
    let q : ℕ → Bool = λ k. p (shifted a k) in
    let past : ℕ → Bool = λ i. p (a + 1 + 1 + i) in
    let low : count q (a + 1) ≡ count p (a + 1) = count_cong q p (a + 1) (λ k l. ap p (shifted_low a k (omega arith))) in
    let high : count (λ i. q (a + 1 + i)) m ≡ count past m = count_cong (λ i. q (a + 1 + i)) past m (λ i l. ap p (shifted_high a (a + 1 + i) (omega arith) ∙ omega arith)) in
    let without : count q n ≡ count q (a + 1) + count (λ i. q (a + 1 + i)) m = ap (count q) (omega arith) ∙ count_add q (a + 1) m in
    let with-new : count p (n + 1) ≡ count p (a + 1 + 1) + count past m = ap (count p) (omega arith) ∙ count_add p (a + 1 + 1) m in
    omega (arith, low, high, without, with-new, count_more p (a + 1) e)
