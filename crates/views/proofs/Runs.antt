-- What a list holds after a run of stores. Assumes nothing.
use mathlib.Core.Path.{◌≡◌, refl, ap, ◌∙◌}
use mathlib.Core.Logic.{◌⊎◌, inl, inr, ⊎_elim}
use mathlib.Core.List.{List, [], ◌∷◌}
use Prim.Native.Nat.{ℕ, zero, suc, ◌+◌, ◌-◌, ◌≤◌, ◌<◌}
use native.Mathlib.Nat.{not-suc-le-zero, le_of_suc-le-suc, add-zero}
use native.Mathlib.Omega.{arith}
use lib.ListN.{length, get_or, set, length-set}
use lib.Seq.{sets, get_or-set_same, get_or-set_other}
use Rattle.views.proofs.Laws.{order}

module _ {A : Type 0} (d : A) where
  -- outside the run the list is as it was
  pub get_d_sets_out : (vs l : List A) (i j : ℕ) → (j < i) ⊎ (i + length vs ≤ j) → get_or (sets l i vs) j d ≡ get_or l j d
  get_d_sets_out [] l i j o = refl
  get_d_sets_out (v ∷ vs) l i j o =
      get_d_sets_out vs (set l i v) (suc i) j (⊎_elim (λ h. inl (omega arith)) (λ h. inr (omega arith)) o)
      ∙ get_or-set_other l i j v d (λ e. ⊎_elim (λ h. omega arith) (λ h. omega arith) o)

  -- inside it holds the run's
  pub get_d_sets_in : (vs l : List A) (i j : ℕ) → i + length vs ≤ length l → j < length vs → get_or (sets l i vs) (i + j) d ≡ get_or vs j d
  get_d_sets_in [] l i j h k = absurd (not-suc-le-zero k)
  get_d_sets_in (v ∷ vs) l i zero h k =
      get_d_sets_out vs (set l i v) (suc i) (i + 0) (inl (omega arith)) ∙ rw add-zero (get_or-set_same l i v d (omega arith))
  get_d_sets_in (v ∷ vs) l i (suc j) h k =
      ap (λ n. get_or (sets (set l i v) (suc i) vs) n d) (omega arith)
      ∙ get_d_sets_in vs (set l i v) (suc i) j (simp length-set (omega arith)) (le_of_suc-le-suc k)

  -- a run of stores: the view changes inside it alone
  pub at_sets : (xs vs : List A) (b : ℕ) (g : ℕ → A) → b + length vs ≤ length xs
      → ((i : ℕ) → i < length vs → get_or vs i d ≡ g (b + i)) → ((j : ℕ) → (j < b) ⊎ (b + length vs ≤ j) → get_or xs j d ≡ g j)
      → (j : ℕ) → get_or (sets xs b vs) j d ≡ g j
  at_sets xs vs b g h within off j =
      ⊎_elim
      (λ l. get_d_sets_out vs xs b j (inr l) ∙ off j (inr l))
      (λ l. ⊎_elim (λ k. inside (j - b) (omega arith) (omega arith)) (λ k. get_d_sets_out vs xs b j (inl k) ∙ off j (inl k)) (order b j))
      (order (b + length vs) j)
    where
      inside : (i : ℕ) → j ≡ b + i → i < length vs → get_or (sets xs b vs) j d ≡ g j
      inside i e l = rw e (get_d_sets_in vs xs b i h l ∙ within i l)
