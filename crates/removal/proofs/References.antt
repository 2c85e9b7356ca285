-- Laws of references: what one that points into the path says, and one mark more. Assumes nothing.
use mathlib.Core.Path.{◌≡◌, refl, sym, ap, ◌∙◌}
use mathlib.Core.Logic.{⊎_elim}
use mathlib.Core.Bool.{Bool, true, false, not, ◌&&◌}
use mathlib.Core.List.{List, [], ◌∷◌, ◌++◌}
use Prim.Native.Nat.{ℕ, zero, suc, ◌+◌, ◌*◌, ◌≤◌, ◌<◌}
use native.Mathlib.Nat.{le_of_suc-le-suc, not-suc-le-zero}
use native.Mathlib.Numerals.{add-one}
use native.Mathlib.Omega.{arith}
use lib.Dec.{eqb}
use lib.ListN.{length, length-append, get_or, get_or-append, set, replicate, drop}
use lib.Seq.{drop-append_seam, get_or-set_same, get_or-set_other}
use borrow.Author.Tests.{eqb-true, eq-eqb}
use Rattle.std.proofs.lemmas.List.{drop-drop, length-drop, get_or-drop}
use Rattle.views.specs.Search.{all}
use Rattle.views.proofs.Laws.{same}
use Rattle.views.proofs.Searches.{all_false}
use Rattle.path.specs.Shape.{count_of, word_at, start}
use Rattle.removal.specs.Deleted.{named_subpath, named_anchor, names, unnamed}
use Rattle.removal.specs.Marks.{kept_in, Marked}

-- a place is one anchor's alone
pub one_anchor : (shapes : List ℕ) (s t a b : ℕ) → s < length shapes → t < length shapes → a < count_of (word_at shapes s) → b < count_of (word_at shapes t)
    → start shapes s + a ≡ start shapes t + b → (s ≡ t) × (a ≡ b)
one_anchor [] s t a b l m h k e = absurd (not-suc-le-zero l)
one_anchor (w ∷ ws) zero zero a b l m h k e = (refl, omega arith)
one_anchor (w ∷ ws) zero (suc t) a b l m h k e = absurd (omega arith)
one_anchor (w ∷ ws) (suc s) zero a b l m h k e = absurd (omega arith)
one_anchor (w ∷ ws) (suc s) (suc t) a b l m h k e =
    let r = one_anchor ws s t a b (le_of_suc-le-suc l) (le_of_suc-le-suc m) h k (omega arith) in
    (ap suc r.0, r.1)

-- ---- the next pair of a list that is passed two numbers at a time
pub pair_next : (which : List ℕ) (i : ℕ) (xs rest : List ℕ) → i * 2 ≤ length which → drop (i * 2) which ≡ xs ++ rest → length xs ≡ 2
    → (rest ≡ drop ((i + 1) * 2) which) × ((i + 1) * 2 ≤ length which) × (get_or xs 0 0 ≡ named_subpath which i) × (get_or xs 1 0 ≡ named_anchor which i)
pair_next which i xs rest l e two =
    let past : i * 2 + length xs ≡ (i + 1) * 2 = omega arith in (
      sym (drop-append_seam xs rest) ∙ ap (drop (length xs)) (sym e) ∙ drop-drop (length xs) (i * 2) which ∙ ap (λ n. drop n which) past,
      omega (arith, length-drop (i * 2) which, ap length e, length-append xs rest),
      entry 0 (2 * i) (omega arith) (omega arith),
      entry 1 (2 * i + 1) (omega arith) (omega arith),
    )
  where
    entry : (k j : ℕ) → k < length xs → i * 2 + k ≡ j → get_or xs k 0 ≡ get_or which j 0
    entry k j h f = sym (get_or-append xs rest 0 k h) ∙ ap (λ ys. get_or ys k 0) (sym e) ∙ get_or-drop (i * 2) which k 0 ∙ ap (λ n. get_or which n 0) f

-- ---- one pair more
all-suc : (p : ℕ → Bool) (n : ℕ) → p n ≡ true → all p (suc n) ≡ all p n
unfolding all
all-suc p zero e = rw e
all-suc p (suc n) e = ap (λ b. p zero && b) (all-suc (λ k. p (suc k)) n e)

module _ (which : List ℕ) (s k m : ℕ) where
  pub unnamed-none : unnamed which 0 s k ≡ true
  unfolding unnamed all
  unnamed-none = refl

  named : named_subpath which m ≡ s → named_anchor which m ≡ k → unnamed which (m + 1) s k ≡ false
  unfolding unnamed names
  named e f = all_false _ (m + 1) m (omega arith) (rw (eq-eqb (named_subpath which m) s e, eq-eqb (named_anchor which m) k f))

  other : (named_subpath which m ≡ s → named_anchor which m ≡ k → ⊥) → unnamed which (m + 1) s k ≡ unnamed which m s k
  unfolding unnamed names
  other ne = rw (add-one m) (all-suc _ m (go (eqb (named_subpath which m) s) (eqb (named_anchor which m) k) refl refl))
    where
      go : (p q : Bool) → eqb (named_subpath which m) s ≡ p → eqb (named_anchor which m) k ≡ q → not (p && q) ≡ true
      go true true e f = absurd (ne (eqb-true _ _ e) (eqb-true _ _ f))
      go true false e f = refl
      go false q e f = refl

-- ---- marks: none at first, then one for each pair
pub no_marks : (n k : ℕ) → get_or (replicate n false) k false ≡ false
no_marks zero k = refl
no_marks (suc n) zero = refl
no_marks (suc n) (suc k) = no_marks n k

module _ (shapes which : List ℕ) (gone : List Bool) where
  pub marked-none : ((k : ℕ) → get_or gone k false ≡ false) → Marked shapes which 0 gone
  unfolding kept_in
  marked-none h s k l m = ap not (h (start shapes s + k)) ∙ sym (unnamed-none which s k 0)

  module _ (m s k : ℕ) (e : named_subpath which m ≡ s) (f : named_anchor which m ≡ k) (l : s < length shapes) (h : k < count_of (word_at shapes s))
      (p : ℕ) (place : p ≡ start shapes s + k) (room : p < length gone) where
    pub marked_more : Marked shapes which m gone → Marked shapes which (m + 1) (set gone p true)
    unfolding kept_in
    marked_more marked t j lt lj =
        ⊎_elim
        (λ d.
        let o = one_anchor shapes t s j k lt l lj h (d ∙ place) in
        ap not (ap (λ i. get_or (set gone p true) i false) d ∙ get_or-set_same gone p true false room) ∙ sym (named which t j m (e ∙ sym o.0) (f ∙ sym o.1)))
        (λ d.
        ap not (get_or-set_other gone p (start shapes t + j) true false d)
        ∙ marked t j lt lj
        ∙ sym (other which t j m (λ x y. d (ap (λ i. start shapes i + j) (sym x ∙ e) ∙ ap (λ i. start shapes s + i) (sym y ∙ f) ∙ sym place))))
        (same (start shapes t + j) p)
