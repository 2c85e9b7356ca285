-- Laws of the searches. Assumes nothing.
use mathlib.Core.Path.{◌≡◌, refl, sym, ap, ◌∙◌}
use mathlib.Core.Bool.{Bool, true, false, not, ◌&&◌, cond}
use mathlib.Core.List.{List, [], ◌∷◌}
use Prim.Native.Nat.{ℕ, zero, suc, ◌+◌, ◌≤◌, ◌<◌, zero-le, suc-le-suc}
use native.Mathlib.Nat.{le_of_suc-le-suc, not-suc-le-zero, le_refl, lt_trans, suc-add, add-zero}
use native.Mathlib.Numerals.{add-one}
use native.Mathlib.Omega.{arith}
use lib.Dec.{eqb}
use lib.ListN.{length, get_or, take, drop}
use Rattle.std.proofs.lemmas.List.{length-take-le, get_or-take, length-drop, get_or-drop}
use Rattle.std.specs.List.{list_all, AllWithin, HoldsAt, count_by}
use Rattle.std.proofs.lemmas.List.Sums.{sum_by-cons}
use Rattle.std.specs.Bool.{MatchBool}
use Rattle.std.proofs.Common.{Option, Some, None, MatchOption, unwrap_or}
use borrow.Author.Tests.{ne_eqb}
use Rattle.views.specs.Search.{all, first_false, count}
use Rattle.views.proofs.Bools.{and_false, both}

pub all_true : (p : ℕ → Bool) (n : ℕ) → ((k : ℕ) → k < n → p k ≡ true) → all p n ≡ true
unfolding all
all_true p zero h = refl
all_true p (suc n) h = rw (h zero (suc-le-suc zero-le)) (all_true (λ k. p (suc k)) n (λ k l. h (suc k) (suc-le-suc l)))

pub all_false : (p : ℕ → Bool) (n k : ℕ) → k < n → p k ≡ false → all p n ≡ false
unfolding all
all_false p zero k l e = absurd (not-suc-le-zero l)
all_false p (suc n) zero l e = rw e
all_false p (suc n) (suc k) l e = rw (all_false (λ j. p (suc j)) n k (le_of_suc-le-suc l) e) (and_false (p zero))

-- what passes on all passes at each
pub all_says : (p : ℕ → Bool) (n : ℕ) → all p n ≡ true → (k : ℕ) → k < n → p k ≡ true
unfolding all
all_says p zero e k l = absurd (not-suc-le-zero l)
all_says p (suc n) e zero l = (both (p zero) (all (λ j. p (suc j)) n) e).0
all_says p (suc n) e (suc k) l = all_says (λ j. p (suc j)) n (both (p zero) (all (λ j. p (suc j)) n) e).1 k (le_of_suc-le-suc l)

-- tests that agree at every index agree on all
pub all_cong : (p q : ℕ → Bool) (n : ℕ) → ((k : ℕ) → k < n → p k ≡ q k) → all p n ≡ all q n
unfolding all
all_cong p q zero h = refl
all_cong p q (suc n) h = rw (h zero (suc-le-suc zero-le), all_cong (λ k. p (suc k)) (λ k. q (suc k)) n (λ k l. h (suc k) (suc-le-suc l)))

-- and find the same place
pub first_cong : (p q : ℕ → Bool) (n : ℕ) → ((k : ℕ) → k < n → p k ≡ q k) → first_false p n ≡ first_false q n
unfolding first_false
first_cong p q zero h = refl
first_cong p q (suc n) h = rw (h zero (suc-le-suc zero-le), first_cong (λ k. p (suc k)) (λ k. q (suc k)) n (λ k l. h (suc k) (suc-le-suc l)))

pub first_all : (p : ℕ → Bool) (n : ℕ) → ((k : ℕ) → k < n → p k ≡ true) → first_false p n ≡ n
unfolding first_false
first_all p zero h = refl
first_all p (suc n) h = rw (h zero (suc-le-suc zero-le), first_all (λ k. p (suc k)) n (λ k l. h (suc k) (suc-le-suc l)))

pub first_at : (p : ℕ → Bool) (n k : ℕ) → k < n → ((j : ℕ) → j < k → p j ≡ true) → p k ≡ false → first_false p n ≡ k
unfolding first_false
first_at p zero k l h e = absurd (not-suc-le-zero l)
first_at p (suc n) zero l h e = rw e
first_at p (suc n) (suc k) l h e =
    rw (h zero (suc-le-suc zero-le), first_at (λ j. p (suc j)) n k (le_of_suc-le-suc l) (λ j m. h (suc j) (suc-le-suc m)) e)

-- and as many
pub count_cong : (p q : ℕ → Bool) (n : ℕ) → ((k : ℕ) → k < n → p k ≡ q k) → count p n ≡ count q n
unfolding count
count_cong p q zero h = refl
count_cong p q (suc n) h = rw (h zero (suc-le-suc zero-le), count_cong (λ k. p (suc k)) (λ k. q (suc k)) n (λ k l. h (suc k) (suc-le-suc l)))

-- ---- where no place passes after one that does not, the first that does not is the count of those that do
pub count_none : (p : ℕ → Bool) (n : ℕ) → ((k : ℕ) → k < n → p k ≡ false) → count p n ≡ 0
unfolding count
count_none p zero h = refl
count_none p (suc n) h = rw (h zero (suc-le-suc zero-le)) (count_none (λ k. p (suc k)) n (λ k l. h (suc k) (suc-le-suc l)))

fall : (a b : Bool) → (b ≡ true → a ≡ true) → a ≡ false → b ≡ false
fall a true h e = sym (h refl) ∙ e
fall a false h e = refl

stays : (p : ℕ → Bool) (n : ℕ) → ((k : ℕ) → suc k < n → p (suc k) ≡ true → p k ≡ true) → p zero ≡ false → (k : ℕ) → k < n → p k ≡ false
stays p n h e zero l = e
stays p n h e (suc k) l = fall (p k) (p (suc k)) (h k l) (stays p n h e k (lt_trans (lt-add_one' k) l))
  where
    lt-add_one' : (k : ℕ) → k < suc k
    lt-add_one' k = le_refl (suc k)

pub first_count : (p : ℕ → Bool) (n : ℕ) → ((k : ℕ) → suc k < n → p (suc k) ≡ true → p k ≡ true) → first_false p n ≡ count p n
unfolding first_false count
first_count p zero h = refl
first_count p (suc n) h = go (p zero) refl (first_count (λ k. p (suc k)) n (λ k l. h (suc k) (suc-le-suc l)))
  where
    go : (b : Bool) → p zero ≡ b → first_false (λ k. p (suc k)) n ≡ count (λ k. p (suc k)) n
        → cond b (suc (first_false (λ k. p (suc k)) n)) zero ≡ cond b (suc (count (λ k. p (suc k)) n)) (count (λ k. p (suc k)) n)
    go true e r = ap suc r
    go false e r = sym (count_none (λ k. p (suc k)) n (λ k l. stays p (suc n) h e (suc k) (suc-le-suc l)))

-- all pass where none is counted that does not
pub none_counted : (p : ℕ → Bool) (n : ℕ) → eqb (count (λ k. not (p k)) n) 0 ≡ all p n
unfolding count all
none_counted p zero = refl
none_counted p (suc n) = go (p zero) (none_counted (λ k. p (suc k)) n)
  where
    go : (b : Bool) → eqb (count (λ k. not (p (suc k))) n) 0 ≡ all (λ k. p (suc k)) n
        → eqb (cond (not b) (suc (count (λ k. not (p (suc k))) n)) (count (λ k. not (p (suc k))) n)) 0 ≡ (b && all (λ k. p (suc k)) n)
    go true e = e
    go false e = ne_eqb (suc (count (λ k. not (p (suc k))) n)) 0 (λ h. omega arith)

-- ---- one place more
count-suc : (p : ℕ → Bool) (n : ℕ) → count p (suc n) ≡ count p n + cond (p n) 1 0
unfolding count
count-suc p zero = go (p zero)
  where
    go : (b : Bool) → cond b 1 0 ≡ 0 + cond b 1 0
    go true = refl
    go false = refl
count-suc p (suc n) = go (p zero) (count-suc (λ k. p (suc k)) n)
  where
    go : (b : Bool) → count (λ k. p (suc k)) (suc n) ≡ count (λ k. p (suc k)) n + cond (p (suc n)) 1 0
        → cond b (suc (count (λ k. p (suc k)) (suc n))) (count (λ k. p (suc k)) (suc n)) ≡ cond b (suc (count (λ k. p (suc k)) n)) (count (λ k. p (suc k)) n) + cond (p (suc n)) 1 0
    go true e = ap suc e ∙ sym (suc-add (count (λ k. p (suc k)) n) (cond (p (suc n)) 1 0))
    go false e = e

pub count_more : (p : ℕ → Bool) (n : ℕ) → p n ≡ true → count p n + 1 ≡ count p (n + 1)
count_more p n e = sym (ap (count p) (add-one n) ∙ count-suc p n ∙ ap (λ b. count p n + cond b 1 0) e)

pub count_same : (p : ℕ → Bool) (n : ℕ) → p n ≡ false → count p n ≡ count p (n + 1)
count_same p n e = sym (ap (count p) (add-one n) ∙ count-suc p n ∙ ap (λ b. count p n + cond b 1 0) e ∙ add-zero (count p n))

-- those from n on that do not pass are not counted
pub count_idle : (p : ℕ → Bool) (n d : ℕ) → ((j : ℕ) → n ≤ j → j < n + d → p j ≡ false) → count p n ≡ count p (n + d)
count_idle p n zero h = ap (count p) (sym (add-zero n))
count_idle p n (suc d) h =
    count_idle p n d (λ j l m. h j l (omega arith))
    ∙ count_same p (n + d) (h (n + d) (omega arith) (omega arith))
    ∙ ap (count p) (omega arith)

-- a count in two parts
pub count_add : (p : ℕ → Bool) (a b : ℕ) → count p (a + b) ≡ count p a + count (λ i. p (a + i)) b
count_add p a zero = rw (add-zero, count_none (λ i. p (a + i)) 0 (λ k l. absurd (omega arith)), add-zero)
count_add p a (suc b) =
    let x : a + suc b ≡ a + b + 1 = omega arith in
    rw (x, ← add-one b) (step (p (a + b)) refl (count_add p a b))
  where
    step : (t : Bool) → p (a + b) ≡ t → count p (a + b) ≡ count p a + count (λ i. p (a + i)) b → count p (a + b + 1) ≡ count p a + count (λ i. p (a + i)) (b + 1)
    step true e h = omega (arith, count_more p (a + b) e, count_more (λ i. p (a + i)) b e)
    step false e h = omega (arith, count_same p (a + b) e, count_same (λ i. p (a + i)) b e)

-- ---- the same of a list's entries, as an iterator over it tests them
pub all_listed : {A : Type 0} (d : A) (p : A → Bool) (xs : List A) → list_all p xs ≡ all (λ i. p (get_or xs i d)) (length xs)
unfolding all
all_listed d p [] = refl
all_listed d p (x ∷ xs) = ap (λ b. p x && b) (all_listed d p xs)

-- what an iterator over a list answers of a test
pub all_from_cases : {A : Type 0} (d : A) (p : A → Bool) (xs : List A) (r : Bool) → MatchBool r (AllWithin (λ x. p x ≡ true) xs 0 (length xs)) ((k : ℕ) × (k < length xs) × HoldsAt (λ x. p x ≡ false) xs k) → r ≡ all (λ i. p (get_or xs i d)) (length xs)
all_from_cases d p xs true h = sym (all_true (λ i. p (get_or xs i d)) (length xs) (λ k l. h k d zero-le l))
all_from_cases d p xs false h = sym (all_false (λ i. p (get_or xs i d)) (length xs) h.0 h.1 (h.2 d))

-- what a count of those that fail says of all
pub none_listed : {A : Type 0} (d : A) (p : A → Bool) (xs : List A) → eqb (count_by (λ x. not (p x)) xs) 0 ≡ all (λ i. p (get_or xs i d)) (length xs)
unfolding all
none_listed d p [] = refl
none_listed d p (x ∷ xs) = rw (sum_by-cons (λ y. cond (not (p y)) 1 0) x xs) (go (p x) (count_by (λ y. not (p y)) xs) (all (λ i. p (get_or xs i d)) (length xs)) (none_listed d p xs))
  where
    go : (b : Bool) (n : ℕ) (rest : Bool) → eqb n 0 ≡ rest → eqb (cond (not b) 1 0 + n) 0 ≡ (b && rest)
    go true n rest e = let z : 0 + n ≡ n = omega arith in ap (λ k. eqb k 0) z ∙ e
    go false n rest e = ne_eqb (1 + n) 0 (λ z. omega arith)

-- ---- a test of a part of a list is one of those indices
pub all_taken : {A : Type 0} (d : A) (p : A → Bool) (xs : List A) (n : ℕ) → n ≤ length xs → all (λ i. p (get_or (take n xs) i d)) (length (take n xs)) ≡ all (λ i. p (get_or xs i d)) n
all_taken d p xs n h =
    let len = length-take-le n xs h in
    ap (all (λ i. p (get_or (take n xs) i d))) len ∙ all_cong _ _ n (λ k l. ap p (get_or-take n xs k d l))

pub all_dropped : {A : Type 0} (d : A) (p : A → Bool) (xs : List A) (a n : ℕ) → a + n ≤ length xs → all (λ i. p (get_or (take n (drop a xs)) i d)) (length (take n (drop a xs))) ≡ all (λ i. p (get_or xs (a + i) d)) n
all_dropped d p xs a n h =
    let room : n ≤ length (drop a xs) = rw (length-drop a xs) (omega arith) in
    all_taken d p (drop a xs) n room ∙ all_cong _ _ n (λ k l. ap p (get_or-drop a xs k d))

-- what an iterator over a list finds that fails, by its place
pub first_from_position : {A : Type 0} (d : A) (p : A → Bool) (xs : List A) (r : Option ℕ) →
    MatchOption r (AllWithin (λ x. p x ≡ true) xs 0 (length xs)) (λ i. (i < length xs) × HoldsAt (λ x. p x ≡ false) xs i × AllWithin (λ x. p x ≡ true) xs 0 i)
    → unwrap_or r (length xs) ≡ first_false (λ k. p (get_or xs k d)) (length xs)
first_from_position d p xs None h = sym (first_all _ _ (λ k l. h k d zero-le l))
first_from_position d p xs (Some i) (l, at, before) = sym (first_at _ _ i l (λ j m. before j d zero-le m) (at d))
