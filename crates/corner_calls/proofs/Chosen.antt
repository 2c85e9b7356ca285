-- The indices that pass, in order: one index more, how many there are, that each passes and they rise, and where each stands. Assumes nothing.
use mathlib.Core.Path.{◌≡◌, refl, sym, ap, ◌∙◌}
use mathlib.Core.Logic.{⊎_elim}
use mathlib.Core.Bool.{Bool, true, false, true≢false}
use mathlib.Core.List.{List, [], ◌∷◌, ◌++◌, append-nil}
use Prim.Native.Nat.{ℕ, zero, suc, ◌+◌, ◌≤◌, ◌<◌}
use native.Mathlib.Nat.{not-suc-le-zero}
use native.Mathlib.Numerals.{add-one}
use native.Mathlib.Omega.{arith}
use lib.Arith.{lt_of_le-ne}
use lib.ListN.{length, get_or, length-append, get_or-append}
use lib.Seq.{get_or-append_seam}
use Rattle.views.specs.Search.{count}
use Rattle.views.proofs.Laws.{order, same}
use Rattle.views.proofs.Searches.{count_more, count_same}
use Rattle.corner_calls.specs.Corners.{chosen}

-- ---- a list with one entry more
pub length_one : (xs : List ℕ) (y : ℕ) → length (xs ++ y ∷ []) ≡ length xs + 1
length_one xs y = length-append xs (y ∷ [])

pub before_one : (xs : List ℕ) (y i : ℕ) → i < length xs → get_or (xs ++ y ∷ []) i 0 ≡ get_or xs i 0
before_one xs y i h = get_or-append xs (y ∷ []) 0 i h

pub at_one : (xs : List ℕ) (y i : ℕ) → i ≡ length xs → get_or (xs ++ y ∷ []) i 0 ≡ y
at_one xs y i e = rw e (get_or-append_seam xs y [] 0)

module _ (p : ℕ → Bool) where
  pub chosen_none : chosen p 0 ≡ []
  unfolding chosen
  chosen_none = refl

  pub chosen_more : (n : ℕ) → p n ≡ true → chosen p (n + 1) ≡ chosen p n ++ n ∷ []
  unfolding chosen
  chosen_more n e = rw (add-one n, e)

  pub chosen-same : (n : ℕ) → p n ≡ false → chosen p (n + 1) ≡ chosen p n
  unfolding chosen
  chosen-same n e = rw (add-one n, e) (append-nil (chosen p n))

  -- a property of the chosen that holds for none, and for one index more, holds for all
  by_index : (P : ℕ → List ℕ → Type 0) → P 0 []
      → ((n : ℕ) → p n ≡ true → P n (chosen p n) → P (n + 1) (chosen p n ++ n ∷ []))
      → ((n : ℕ) → p n ≡ false → P n (chosen p n) → P (n + 1) (chosen p n)) → (n : ℕ) → P n (chosen p n)
  by_index P none more less zero = rw chosen_none none
  by_index P none more less (suc n) = go (p n) refl (by_index P none more less n)
    where
      go : (b : Bool) → p n ≡ b → P n (chosen p n) → P (suc n) (chosen p (suc n))
      go true e h = rw (← add-one n, chosen_more n e) (more n e h)
      go false e h = rw (← add-one n, chosen-same n e) (less n e h)

  -- ---- as many as pass
  pub chosen-count : (n : ℕ) → length (chosen p n) ≡ count p n
  unfolding count
  chosen-count =
      by_index
      (λ n ps. length ps ≡ count p n)
      refl
      (λ n e h. length_one (chosen p n) n ∙ ap (λ z. z + 1) h ∙ count_more p n e)
      (λ n e h. h ∙ count_same p n e)

  -- ---- each passes, and is below n
  pub chosen_in : (n i : ℕ) → i < length (chosen p n) → (get_or (chosen p n) i 0 < n) × (p (get_or (chosen p n) i 0) ≡ true)
  chosen_in =
      by_index
      (λ n ps. (i : ℕ) → i < length ps → (get_or ps i 0 < n) × (p (get_or ps i 0) ≡ true))
      (λ i l. absurd (not-suc-le-zero l))
      (λ n e h i l. ⊎_elim (λ a. last n e i (omega (arith, length_one (chosen p n) n))) (λ b. rw (before_one (chosen p n) n i b) (wider n _ (h i b))) (order (length (chosen p n)) i))
      (λ n e h i l. wider n _ (h i l))
    where
      wider : (n k : ℕ) → (k < n) × (p k ≡ true) → (k < n + 1) × (p k ≡ true)
      wider n k h = (let l = h.0 in omega arith, h.1)

      last : (n : ℕ) → p n ≡ true → (i : ℕ) → i ≡ length (chosen p n) → (get_or (chosen p n ++ n ∷ []) i 0 < n + 1) × (p (get_or (chosen p n ++ n ∷ []) i 0) ≡ true)
      last n e i f = rw (at_one (chosen p n) n i f) (omega arith, e)

  -- at most n of them
  pub chosen_most : (n : ℕ) → length (chosen p n) ≤ n
  chosen_most =
      by_index
      (λ n ps. length ps ≤ n)
      (omega arith)
      (λ n e h. let l = length_one (chosen p n) n in omega arith)
      (λ n e h. omega arith)

  -- ---- they rise
  pub chosen_rises : (n i j : ℕ) → i < j → j < length (chosen p n) → get_or (chosen p n) i 0 < get_or (chosen p n) j 0
  chosen_rises =
      by_index
      (λ n ps. (i j : ℕ) → i < j → j < length ps → get_or ps i 0 < get_or ps j 0)
      (λ i j l h. absurd (not-suc-le-zero h))
      (λ n e h i j l m. rw (before_one (chosen p n) n i (omega (arith, length_one (chosen p n) n)))
      (⊎_elim
      (λ a. rw (at_one (chosen p n) n j (omega (arith, length_one (chosen p n) n))) (chosen_in n i (omega (arith, length_one (chosen p n) n))).0)
      (λ b. rw (before_one (chosen p n) n j b) (h i j l b))
      (order (length (chosen p n)) j)))
      (λ n e h i j l m. h i j l m)

  -- ---- index k, where it passes, stands at the count of those before it
  pub chosen_at : (n k : ℕ) → k < n → p k ≡ true → (count p k < length (chosen p n)) × (get_or (chosen p n) (count p k) 0 ≡ k)
  chosen_at =
      by_index
      (λ n ps. (k : ℕ) → k < n → p k ≡ true → (count p k < length ps) × (get_or ps (count p k) 0 ≡ k))
      (λ k l e. absurd (not-suc-le-zero l))
      (λ n f h k l e. ⊎_elim (λ (q : k ≡ n). rw q (newest n)) (λ (ne : k ≡ n → ⊥). older n k (h k (lt_of_le-ne (omega arith) ne) e)) (same k n))
      (λ n f h k l e. ⊎_elim (λ (q : k ≡ n). absurd (true≢false (sym e ∙ ap p q ∙ f))) (λ (ne : k ≡ n → ⊥). h k (lt_of_le-ne (omega arith) ne) e) (same k n))
    where
      newest : (n : ℕ) → (count p n < length (chosen p n ++ n ∷ [])) × (get_or (chosen p n ++ n ∷ []) (count p n) 0 ≡ n)
      newest n = (omega (arith, length_one (chosen p n) n, chosen-count n), at_one (chosen p n) n (count p n) (sym (chosen-count n)))

      older : (n k : ℕ) → (count p k < length (chosen p n)) × (get_or (chosen p n) (count p k) 0 ≡ k)
          → (count p k < length (chosen p n ++ n ∷ [])) × (get_or (chosen p n ++ n ∷ []) (count p k) 0 ≡ k)
      older n k h = (let l = h.0 in omega (arith, length_one (chosen p n) n), before_one (chosen p n) n (count p k) h.0 ∙ h.1)
