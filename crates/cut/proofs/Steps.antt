-- Steps and neighbours: `prev` and `next` stay in the subpath, and each is one step. Assumes nothing.
use mathlib.Core.Path.{◌≡◌, refl, sym, ap, ◌∙◌}
use mathlib.Core.Logic.{◌⊎◌, inl, inr, ⊎_elim}
use mathlib.Core.Bool.{Bool, true, false, ◌&&◌, ◌||◌, or-false, cond}
use Prim.Native.Nat.{ℕ, zero, suc, ◌+◌, ◌-◌, ◌≤◌, ◌<◌}
use native.Mathlib.Omega.{arith}
use lib.Dec.{leb, ltb, eqb}
use borrow.Author.Tests.{leb-true, ltb-true, eqb-true, le-leb, lt-ltb, le-ltb}
use Rattle.views.proofs.Laws.{order}
use Rattle.views.proofs.Bools.{both, and_left, and_right, or_cases, or_left, or_right, not_both}
use Rattle.path.specs.Shape.{prev, next, is_segment}
use Rattle.cut.specs.Near.{gap, near, around, span_of}

-- ---- tests

pub refuted : (b : Bool) → (b ≡ true → ⊥) → b ≡ false
refuted true h = absurd (h refl)
refuted false h = refl

pub same_test : (p q : Bool) → (p ≡ true → q ≡ true) → (q ≡ true → p ≡ true) → p ≡ q
same_test true q f g = sym (f refl)
same_test false true f g = g refl
same_test false false f g = refl

-- ---- the neighbours

pub next_in : (n j : ℕ) → j + 1 < n → next n j ≡ j + 1
unfolding next
next_in n j h = rw (lt-ltb (j + 1) n h)

pub next-round : (n j : ℕ) → n ≤ j + 1 → next n j ≡ 0
unfolding next
next-round n j h = rw (le-ltb (j + 1) n h)

pub prev_in : (n j : ℕ) → 0 < j → prev n j ≡ j - 1
unfolding prev
prev_in n zero h = absurd (omega arith)
prev_in n (suc j) h = omega arith

pub prev-lt : (n j : ℕ) → j < n → prev n j < n
unfolding prev
prev-lt n zero h = omega arith
prev-lt n (suc j) h = omega arith

pub next-lt : (n j : ℕ) → j < n → next n j < n
next-lt n j h = ⊎_elim (λ (l : n ≤ j + 1). rw (next-round n j l) (omega arith)) (λ (l : j + 1 < n). rw (next_in n j l) l) (order n (j + 1))

pub next-prev : (n j : ℕ) → j < n → next n (prev n j) ≡ j
unfolding prev
next-prev n zero h = next-round n (n - 1) (omega arith)
next-prev n (suc j) h = let l : j + 1 < n = omega arith in next_in n j l ∙ omega arith

-- ---- the segments of a subpath
pub segment_cases : (n : ℕ) (c : Bool) (a : ℕ) → is_segment n c a ≡ true → (a + 1 < n) ⊎ ((c ≡ true) × (a + 1 ≡ n))
unfolding is_segment
segment_cases n c a = go (ltb (a + 1) n) refl (eqb (a + 1) n) refl
  where
    go : (p : Bool) → ltb (a + 1) n ≡ p → (q : Bool) → eqb (a + 1) n ≡ q → (p || c && (ltb 1 n && q)) ≡ true → (a + 1 < n) ⊎ ((c ≡ true) × (a + 1 ≡ n))
    go true e q f h = inl (ltb-true (a + 1) n e)
    go false e q f h = inr (and_left c (ltb 1 n && q) h, eqb-true (a + 1) n (f ∙ and_right (ltb 1 n) q (and_right c (ltb 1 n && q) h)))

-- ---- near

pub near_cases : (k n : ℕ) (c : Bool) (i j : ℕ) → near k n c i j ≡ true → (gap i j ≤ k) ⊎ ((c ≡ true) × (n ≤ gap i j + k))
unfolding near
near_cases k n c i j e =
    ⊎_elim (λ (a : leb (gap i j) k ≡ true). inl (leb-true (gap i j) k a))
    (λ (b : (c && leb n (gap i j + k)) ≡ true). let p = both c (leb n (gap i j + k)) b in inr (p.0, leb-true n (gap i j + k) p.1))
    (or_cases (leb (gap i j) k) (c && leb n (gap i j + k)) e)

-- steps in an open subpath are differences
pub near_open : (k n : ℕ) (c : Bool) (i j : ℕ) → c ≡ false → near k n c i j ≡ true → gap i j ≤ k
near_open k n c i j o h = ⊎_elim (λ (l : gap i j ≤ k). l) (λ (l : (c ≡ true) × (n ≤ gap i j + k)). absurd (not_both c o l.0)) (near_cases k n c i j h)

pub near_in : (k n : ℕ) (c : Bool) (i j : ℕ) → gap i j ≤ k → near k n c i j ≡ true
unfolding near
near_in k n c i j h = or_left (leb (gap i j) k) (c && leb n (gap i j + k)) (le-leb (gap i j) k h)

pub near-round : (k n : ℕ) (c : Bool) (i j : ℕ) → c ≡ true → n ≤ gap i j + k → near k n c i j ≡ true
unfolding near
near-round k n c i j e h = or_right (leb (gap i j) k) (c && leb n (gap i j + k)) (rw e (le-leb n (gap i j + k) h))

pub near_self : (k n : ℕ) (c : Bool) (i : ℕ) → near k n c i i ≡ true
unfolding gap
near_self k n c i = near_in k n c i i (omega arith)

pub near_more : (k n : ℕ) (c : Bool) (i j : ℕ) → near k n c i j ≡ true → near (suc k) n c i j ≡ true
near_more k n c i j h =
    ⊎_elim (λ (a : gap i j ≤ k). near_in (suc k) n c i j (omega arith))
    (λ (b : (c ≡ true) × (n ≤ gap i j + k)). near-round (suc k) n c i j b.0 (omega arith))
    (near_cases k n c i j h)

-- ---- the row in which the near ones are
not-around : (k n i : ℕ) → (ltb i k || leb n (i + k)) ≡ false → (k ≤ i) × (i + k < n)
not-around k n i e =
    ⊎_elim
    (λ (a : k ≤ i).
    ⊎_elim (λ (b : n ≤ i + k). absurd (not_both _ e (or_right (ltb i k) (leb n (i + k)) (le-leb n (i + k) b)))) (λ (b : i + k < n). (a, b)) (order n (i + k)))
    (λ (a : i < k). absurd (not_both _ e (or_left (ltb i k) (leb n (i + k)) (lt-ltb i k a))))
    (order k i)

module _ (k n : ℕ) (c : Bool) (i j : ℕ) (l : j < n) where
  up_to : gap i j ≤ k → j < cond (ltb (i + k) n) (i + k + 1) n
  unfolding gap
  up_to h = ⊎_elim (λ (a : n ≤ i + k). rw (le-ltb (i + k) n a) l) (λ (a : i + k < n). rw (lt-ltb (i + k) n a) (omega arith)) (order n (i + k))

  in_span : (b : Bool) → around k n c i ≡ b → near k n c i j ≡ true → (cond b 0 (i - k) ≤ j) × (j < cond b n (cond (ltb (i + k) n) (i + k + 1) n))
  unfolding around gap
  in_span true e h = (omega arith, l)
  in_span false e h =
      ⊎_elim (λ (a : gap i j ≤ k). (omega arith, up_to a))
      (λ (b : (c ≡ true) × (n ≤ gap i j + k)). let q = not-around k n i (rw b.0 at e) in absurd (omega arith))
      (near_cases k n c i j h)

  pub near-span : near k n c i j ≡ true → ((span_of k n c i).from ≤ j) × (j < (span_of k n c i).to)
  unfolding span_of
  near-span = in_span (around k n c i) refl

-- none is near before the span, nor after it
pub before-span : (k n : ℕ) (c : Bool) (i j : ℕ) → j < n → j < (span_of k n c i).from → near k n c i j ≡ false
before-span k n c i j l h = refuted _ (λ e. let q = (near-span k n c i j l e).0 in omega arith)

pub after-span : (k n : ℕ) (c : Bool) (i j : ℕ) → j < n → (span_of k n c i).to ≤ j → near k n c i j ≡ false
after-span k n c i j l h = refuted _ (λ e. let q = (near-span k n c i j l e).1 in omega arith)

-- and it lies in the subpath
pub span_in : (k n : ℕ) (c : Bool) (i : ℕ) → i ≤ n → ((span_of k n c i).from ≤ n) × ((span_of k n c i).to ≤ n)
unfolding span_of
span_in k n c i l = (from_in (around k n c i), to_in (around k n c i))
  where
    from_in : (b : Bool) → cond b 0 (i - k) ≤ n
    from_in true = omega arith
    from_in false = omega arith

    to_in : (b : Bool) → cond b n (cond (ltb (i + k) n) (i + k + 1) n) ≤ n
    to_in true = omega arith
    to_in false = ⊎_elim (λ (a : n ≤ i + k). rw (le-ltb (i + k) n a) (omega arith)) (λ (a : i + k < n). rw (lt-ltb (i + k) n a) (omega arith)) (order n (i + k))

-- a step back, where there is one
pub near-prev : (k n : ℕ) (c : Bool) (i j : ℕ) → i ≤ n → j < n → (c || ltb 0 j) ≡ true → near k n c i j ≡ true → near (suc k) n c i (prev n j) ≡ true
unfolding prev gap
near-prev k n c i zero hi hj e h =
    let closed : c ≡ true = sym (or-false c) ∙ e in
    ⊎_elim (λ (a : gap i 0 ≤ k). near-round (suc k) n c i (n - 1) closed (omega arith))
    (λ (b : (c ≡ true) × (n ≤ gap i 0 + k)). near_in (suc k) n c i (n - 1) (omega arith))
    (near_cases k n c i 0 h)
near-prev k n c i (suc j) hi hj e h =
    ⊎_elim (λ (a : gap i (suc j) ≤ k). near_in (suc k) n c i j (omega arith))
    (λ (b : (c ≡ true) × (n ≤ gap i (suc j) + k)). near-round (suc k) n c i j b.0 (omega arith))
    (near_cases k n c i (suc j) h)

-- a step on, where there is one
pub near_next : (k n : ℕ) (c : Bool) (i j : ℕ) → i ≤ n → j < n → (c || ltb (j + 1) n) ≡ true → near k n c i j ≡ true → near (suc k) n c i (next n j) ≡ true
unfolding gap
near_next k n c i j hi hj e h = ⊎_elim round within (order n (j + 1))
  where
    round : n ≤ j + 1 → near (suc k) n c i (next n j) ≡ true
    round l =
        let closed : c ≡ true = sym (or-false c) ∙ ap (λ (t : Bool). c || t) (sym (le-ltb (j + 1) n l)) ∙ e in
        rw (next-round n j l)
        (⊎_elim (λ (a : gap i j ≤ k). near-round (suc k) n c i 0 closed (omega arith))
        (λ (b : (c ≡ true) × (n ≤ gap i j + k)). near_in (suc k) n c i 0 (omega arith))
        (near_cases k n c i j h))

    within : j + 1 < n → near (suc k) n c i (next n j) ≡ true
    within l =
        rw (next_in n j l)
        (⊎_elim (λ (a : gap i j ≤ k). near_in (suc k) n c i (j + 1) (omega arith))
        (λ (b : (c ≡ true) × (n ≤ gap i j + k)). near-round (suc k) n c i (j + 1) b.0 (omega arith))
        (near_cases k n c i j h))

-- where a segment arrives at j, it leaves the one before
pub leaves-prev : (n j : ℕ) (c : Bool) → j < n → (c || ltb 0 j) ≡ true → (c || ltb (prev n j + 1) n) ≡ true
unfolding prev
leaves-prev n zero c h e = or_left c (ltb (n - 1 + 1) n) (sym (or-false c) ∙ e)
leaves-prev n (suc j) c h e = or_right c (ltb (j + 1) n) (lt-ltb (j + 1) n (omega arith))

-- k steps reach from any of 0 .. k to any other
pub near-all : (k n : ℕ) (c : Bool) (i j : ℕ) → i ≤ k → j ≤ k → near k n c i j ≡ true
unfolding gap
near-all k n c i j hi hj = near_in k n c i j (omega arith)
