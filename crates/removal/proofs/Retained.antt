-- Laws of `retained`: one index more, how many there are, and that it turns on the indices below n alone. Assumes nothing.
use mathlib.Core.Path.{◌≡◌, refl, ap, ◌∙◌}
use mathlib.Core.Bool.{Bool, true, false, cond}
use mathlib.Core.List.{List, [], ◌∷◌, ◌++◌, append-nil}
use Prim.Native.Nat.{ℕ, zero, suc, ◌+◌, ◌≤◌, ◌<◌}
use native.Mathlib.Nat.{le_refl}
use native.Mathlib.Numerals.{add-one}
use native.Mathlib.Omega.{arith}
use lib.ListN.{length, get_or, length-append}
use Rattle.std.specs.List.{count_by}
use Rattle.std.proofs.lemmas.List.Sums.{sum_by-cons}
use Rattle.views.specs.Search.{count}
use Rattle.views.proofs.Searches.{count_more, count_same}
use Rattle.path.specs.declared.anchor.Anchor.{Anchor}
use Rattle.removal.specs.Deleted.{retained}

module _ (keep : ℕ → Bool) (f : ℕ → Anchor) where
  pub retained-none : retained keep f 0 ≡ []
  unfolding retained
  retained-none = refl

  retained-next : (n : ℕ) → retained keep f (n + 1) ≡ retained keep f n ++ cond (keep n) (f n ∷ []) []
  unfolding retained
  retained-next n = rw (add-one n)

  pub retained_kept : (n : ℕ) → keep n ≡ true → retained keep f (n + 1) ≡ retained keep f n ++ f n ∷ []
  retained_kept n e = retained-next n ∙ rw e

  pub retained_gone : (n : ℕ) → keep n ≡ false → retained keep f (n + 1) ≡ retained keep f n
  retained_gone n e = retained-next n ∙ rw e (append-nil (retained keep f n))

  count-zero : 0 ≡ count keep 0
  unfolding count
  count-zero = refl

  pub retained-count : (n : ℕ) → length (retained keep f n) ≡ count keep n
  retained-count zero = ap length retained-none ∙ count-zero
  retained-count (suc n) = rw (← add-one n) (step (keep n) refl (retained-count n))
    where
      step : (b : Bool) → keep n ≡ b → length (retained keep f n) ≡ count keep n → length (retained keep f (n + 1)) ≡ count keep (n + 1)
      step true e h = omega (arith, ap length (retained_kept n e) ∙ length-append (retained keep f n) (f n ∷ []), count_more keep n e)
      step false e h = ap length (retained_gone n e) ∙ h ∙ count_same keep n e

  -- no more than there were
  pub retained_most : (n : ℕ) → length (retained keep f n) ≤ n
  retained_most zero = omega (arith, ap length retained-none)
  retained_most (suc n) = rw (← add-one n) (step (keep n) refl (retained_most n))
    where
      step : (b : Bool) → keep n ≡ b → length (retained keep f n) ≤ n → length (retained keep f (n + 1)) ≤ n + 1
      step true e h = omega (arith, ap length (retained_kept n e) ∙ length-append (retained keep f n) (f n ∷ []))
      step false e h = omega (arith, ap length (retained_gone n e))

pub retained-same : (keep keep' : ℕ → Bool) (f f' : ℕ → Anchor) (n : ℕ) → ((k : ℕ) → k < n → keep k ≡ keep' k) → ((k : ℕ) → k < n → f k ≡ f' k)
    → retained keep f n ≡ retained keep' f' n
unfolding retained
retained-same keep keep' f f' zero g h = refl
retained-same keep keep' f f' (suc n) g h =
    rw (g n (le_refl (suc n)), h n (le_refl (suc n)), retained-same keep keep' f f' n (λ k l. g k (omega arith)) (λ k l. h k (omega arith)))

-- ---- the places of a list that pass, as an iterator over it counts them
pub count_listed : (d : Bool) (p : Bool → Bool) (xs : List Bool) → count_by p xs ≡ count (λ i. p (get_or xs i d)) (length xs)
unfolding count
count_listed d p [] = refl
count_listed d p (x ∷ xs) = sum_by-cons (λ y. cond (p y) 1 0) x xs ∙ go (p x) (count_listed d p xs)
  where
    go : (b : Bool) → {m n : ℕ} → m ≡ n → cond b 1 0 + m ≡ cond b (suc n) n
    go true e = omega arith
    go false e = omega arith
