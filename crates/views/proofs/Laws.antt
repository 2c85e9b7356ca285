-- Laws of lists as functions of the index: tables, a store, a loop that fills, a list whose first entries were written. Assumes nothing.
use mathlib.Core.Path.{◌≡◌, refl, sym, ap, ap₂, ◌∙◌}
use mathlib.Core.Logic.{◌⊎◌, inl, inr, ⊎_elim}
use mathlib.Core.Bool.{Bool, true, false, cond}
use mathlib.Core.List.{List, [], ◌∷◌, ◌++◌}
use Prim.Native.Nat.{ℕ, zero, suc, ◌+◌, ◌-◌, ◌≤◌, ◌<◌, zero-le, suc-le-suc}
use native.Mathlib.Nat.{sub-zero, not-suc-le-zero, le_of_suc-le-suc}
use native.Mathlib.Omega.{arith}
use lib.Dec.{leb, eqb}
use lib.Arith.{lt_of_le-ne}
use lib.ListN.{length, get_or, set, take, drop, take-append-drop}
use lib.Seq.{ext_get_or, get_or-set_same, get_or-set_other}
use borrow.Author.Tests.{leb-true, leb-false, eqb-true, eqb-false, eq-eqb, ne_eqb}
use Rattle.views.specs.View.{tabulate, overwrite}

-- ---- cases
pub order : (a b : ℕ) → (a ≤ b) ⊎ (b < a)
order a b = go (leb a b) refl
  where
    go : (t : Bool) → leb a b ≡ t → (a ≤ b) ⊎ (b < a)
    go true e = inl (leb-true a b e)
    go false e = inr (leb-false a b e)

pub same : (a b : ℕ) → (a ≡ b) ⊎ (a ≡ b → ⊥)
same a b = go (eqb a b) refl
  where
    go : (t : Bool) → eqb a b ≡ t → (a ≡ b) ⊎ (a ≡ b → ⊥)
    go true e = inl (eqb-true a b e)
    go false e = inr (eqb-false a b e)

-- ---- a table
pub length-tabulate : {A : Type 0} (n : ℕ) (f : ℕ → A) → length (tabulate n f) ≡ n
unfolding tabulate
length-tabulate zero f = refl
length-tabulate (suc n) f = ap suc (length-tabulate n (λ i. f (suc i)))

pub at_tabulate : {A : Type 0} (d : A) (n : ℕ) (f : ℕ → A) (i : ℕ) → i < n → get_or (tabulate n f) i d ≡ f i
unfolding tabulate
at_tabulate d zero f i h = absurd (not-suc-le-zero h)
at_tabulate d (suc n) f zero h = refl
at_tabulate d (suc n) f (suc i) h = at_tabulate d n (λ j. f (suc j)) i (le_of_suc-le-suc h)

-- a list is what its length and its entries say
pub as_tabulate : {A : Type 0} (d : A) (xs : List A) (n : ℕ) (f : ℕ → A) → length xs ≡ n → ((i : ℕ) → i < n → get_or xs i d ≡ f i) → xs ≡ tabulate n f
as_tabulate d xs n f l h =
    ext_get_or d xs (tabulate n f) (l ∙ sym (length-tabulate n f)) (λ i k. let b : i < n = omega arith in h i b ∙ sym (at_tabulate d n f i b))

pub tabulate_cong : {A : Type 0} (n : ℕ) (f g : ℕ → A) → ((i : ℕ) → i < n → f i ≡ g i) → tabulate n f ≡ tabulate n g
unfolding tabulate
tabulate_cong zero f g h = refl
tabulate_cong (suc n) f g h = rw (h zero (suc-le-suc zero-le), tabulate_cong n (λ i. f (suc i)) (λ i. g (suc i)) (λ i l. h (suc i) (suc-le-suc l)))

-- one entry more, at the end
pub tabulate_more : {A : Type 0} (n : ℕ) (f : ℕ → A) → tabulate (suc n) f ≡ tabulate n f ++ f n ∷ []
unfolding tabulate
tabulate_more zero f = refl
tabulate_more (suc n) f = ap (λ l. f zero ∷ l) (tabulate_more n (λ i. f (suc i)))

-- its first entries, the others, and both
pub take-tabulate : {A : Type 0} (m n : ℕ) (f : ℕ → A) → m ≤ n → take m (tabulate n f) ≡ tabulate m f
unfolding tabulate
take-tabulate zero n f h = refl
take-tabulate (suc m) zero f h = absurd (omega arith)
take-tabulate (suc m) (suc n) f h = ap (λ l. f zero ∷ l) (take-tabulate m n (λ i. f (suc i)) (omega arith))

pub drop-tabulate : {A : Type 0} (m n : ℕ) (f : ℕ → A) → drop m (tabulate n f) ≡ tabulate (n - m) (λ i. f (m + i))
unfolding tabulate
drop-tabulate zero n f = rw (sub-zero) (tabulate_cong n _ _ (λ i h. ap f (omega arith)))
drop-tabulate (suc m) zero f = let e : 0 ≡ 0 - suc m = omega arith in ap (λ k. tabulate k (λ i. f (suc m + i))) e
drop-tabulate (suc m) (suc n) f =
    let e : n - m ≡ suc n - suc m = omega arith in
    drop-tabulate m n (λ i. f (suc i)) ∙ ap (λ k. tabulate k (λ i. f (suc (m + i)))) e ∙ tabulate_cong (suc n - suc m) _ _ (λ i h. ap f (omega arith))

pub tabulate_parts : {A : Type 0} (m n : ℕ) (f : ℕ → A) → m ≤ n → tabulate m f ++ tabulate (n - m) (λ i. f (m + i)) ≡ tabulate n f
tabulate_parts m n f h = ap₂ ◌++◌ (sym (take-tabulate m n f h)) (sym (drop-tabulate m n f)) ∙ take-append-drop m (tabulate n f)

module _ {A : Type 0} (d : A) (xs : List A) (k : ℕ) (v : A) where
  -- ---- a store: the view changes at one index
  pub at_set : (g : ℕ → A) → k < length xs → v ≡ g k → ((i : ℕ) → (i ≡ k → ⊥) → get_or xs i d ≡ g i) → (i : ℕ) → get_or (set xs k v) i d ≡ g i
  at_set g h at off i =
      ⊎_elim
      (λ e. rw e (get_or-set_same xs k v d h ∙ at))
      (λ ne. get_or-set_other xs k i v d ne ∙ off i ne)
      (same i k)

  pub set_at : k < length xs → (i : ℕ) → get_or (set xs k v) i d ≡ cond (eqb i k) v (get_or xs i d)
  set_at h = at_set (λ i. cond (eqb i k) v (get_or xs i d)) h (rw (eq-eqb k k refl)) (λ i ne. rw (ne_eqb i k ne))

  -- ---- a loop that fills from the front: one store more, below k and from k on
  pub fill_more : (f : ℕ → A) → k < length xs → ((i : ℕ) → i < k → get_or xs i d ≡ f i) → v ≡ f k → (i : ℕ) → i < k + 1 → get_or (set xs k v) i d ≡ f i
  fill_more f h below at i l =
      ⊎_elim
      (λ e. rw e (get_or-set_same xs k v d h ∙ at))
      (λ ne. get_or-set_other xs k i v d ne ∙ below i (lt_of_le-ne (omega arith) ne))
      (same i k)

  pub keep_more : (ys : List A) → ((i : ℕ) → k ≤ i → get_or xs i d ≡ get_or ys i d) → (i : ℕ) → k + 1 ≤ i → get_or (set xs k v) i d ≡ get_or ys i d
  keep_more ys kept i l = get_or-set_other xs k i v d (λ e. omega arith) ∙ kept i (omega arith)

-- ---- a list whose first n entries were written
pub length-overwrite : {A : Type 0} (n : ℕ) (f : ℕ → A) (xs : List A) → length (overwrite n f xs) ≡ length xs
unfolding overwrite
length-overwrite n f [] = refl
length-overwrite zero f (x ∷ xs) = refl
length-overwrite (suc n) f (x ∷ xs) = ap suc (length-overwrite n (λ i. f (suc i)) xs)

pub at_overwrite : {A : Type 0} (d : A) (n : ℕ) (f : ℕ → A) (xs : List A) (i : ℕ) → i < n → i < length xs → get_or (overwrite n f xs) i d ≡ f i
unfolding overwrite
at_overwrite d n f [] i l h = absurd (not-suc-le-zero h)
at_overwrite d zero f (x ∷ xs) i l h = absurd (not-suc-le-zero l)
at_overwrite d (suc n) f (x ∷ xs) zero l h = refl
at_overwrite d (suc n) f (x ∷ xs) (suc i) l h = at_overwrite d n (λ j. f (suc j)) xs i (le_of_suc-le-suc l) (le_of_suc-le-suc h)

pub past_overwrite : {A : Type 0} (d : A) (n : ℕ) (f : ℕ → A) (xs : List A) (i : ℕ) → n ≤ i → get_or (overwrite n f xs) i d ≡ get_or xs i d
unfolding overwrite
past_overwrite d n f [] i l = refl
past_overwrite d zero f (x ∷ xs) i l = refl
past_overwrite d (suc n) f (x ∷ xs) zero l = absurd (not-suc-le-zero l)
past_overwrite d (suc n) f (x ∷ xs) (suc i) l = past_overwrite d n (λ j. f (suc j)) xs i (le_of_suc-le-suc l)

-- what a loop that writes the first n entries leaves
pub as_overwrite : {A : Type 0} (d : A) (ys xs : List A) (n : ℕ) (f : ℕ → A) → length ys ≡ length xs
    → ((i : ℕ) → i < n → get_or ys i d ≡ f i) → ((i : ℕ) → n ≤ i → get_or ys i d ≡ get_or xs i d) → ys ≡ overwrite n f xs
as_overwrite d ys xs n f l below kept =
    ext_get_or d ys (overwrite n f xs) (l ∙ sym (length-overwrite n f xs))
    (λ i h. ⊎_elim (λ k. kept i k ∙ sym (past_overwrite d n f xs i k)) (λ k. below i k ∙ sym (at_overwrite d n f xs i k (omega arith))) (order n i))

pub overwrite_cong : {A : Type 0} (n : ℕ) (f g : ℕ → A) (xs : List A) → ((i : ℕ) → i < n → f i ≡ g i) → overwrite n f xs ≡ overwrite n g xs
unfolding overwrite
overwrite_cong n f g [] h = refl
overwrite_cong zero f g (x ∷ xs) h = refl
overwrite_cong (suc n) f g (x ∷ xs) h = rw (h zero (suc-le-suc zero-le), overwrite_cong n (λ i. f (suc i)) (λ i. g (suc i)) xs (λ i l. h (suc i) (suc-le-suc l)))

-- written twice, the second time stays; written with what it has, it stays
pub overwrite-twice : {A : Type 0} (n : ℕ) (f g : ℕ → A) (xs : List A) → overwrite n f (overwrite n g xs) ≡ overwrite n f xs
unfolding overwrite
overwrite-twice n f g [] = refl
overwrite-twice zero f g (x ∷ xs) = refl
overwrite-twice (suc n) f g (x ∷ xs) = ap (λ l. f zero ∷ l) (overwrite-twice n (λ i. f (suc i)) (λ i. g (suc i)) xs)

pub overwrite-same : {A : Type 0} (d : A) (xs : List A) (n : ℕ) (f : ℕ → A) → ((i : ℕ) → i < n → get_or xs i d ≡ f i) → overwrite n f xs ≡ xs
overwrite-same d xs n f h = sym (as_overwrite d xs xs n f refl h (λ i l. refl))

-- the first n entries of one list before the rest of another
pub overwrite-taken : {A : Type 0} (d : A) (n : ℕ) (xs ys : List A) → n ≤ length xs → n ≤ length ys → take n xs ++ drop n ys ≡ overwrite n (λ i. get_or xs i d) ys
unfolding overwrite
overwrite-taken d zero xs [] h l = refl
overwrite-taken d zero xs (y ∷ ys) h l = refl
overwrite-taken d (suc n) [] ys h l = absurd (not-suc-le-zero h)
overwrite-taken d (suc n) (x ∷ xs) [] h l = absurd (not-suc-le-zero l)
overwrite-taken d (suc n) (x ∷ xs) (y ∷ ys) h l = ap (λ r. x ∷ r) (overwrite-taken d n xs ys (le_of_suc-le-suc h) (le_of_suc-le-suc l))
