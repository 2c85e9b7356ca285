-- Laws of shape words: places of a path subpath by subpath, what an accepted size says, and neighbours by 000's formulas. Assumes nothing.
use mathlib.Core.Path.{◌≡◌, refl, ap}
use mathlib.Core.Logic.{⊎_elim}
use mathlib.Core.Bool.{Bool, true, false, ◌&&◌, cond}
use Rattle.std.proofs.Common.{Some, None, sum_by}
use Rattle.std.proofs.lemmas.List.Recursion.{is_sum_by}
use mathlib.Core.List.{List, [], ◌∷◌}
use Prim.Native.Nat.{ℕ, zero, suc, ◌+◌, ◌-◌, ◌%◌, ◌≤◌, ◌<◌}
use native.Mathlib.Nat.{le_of_suc-le-suc, not-suc-le-zero, mod-eq_of_lt, mod_self, add-mod_right}
use native.Mathlib.Numerals.{add-one}
use native.Mathlib.Omega.{arith}
use lib.Dec.{leb, ltb}
use lib.ListN.{length}
use lib.Seq.{take_all}
use borrow.Author.Tests.{leb-true, ltb-true, lt-ltb, le-ltb}
use Rattle.views.proofs.Laws.{order}
use Rattle.views.proofs.Bools.{both}
use Rattle.path.specs.Shape.{count_of, total, word_at, start, has_anchor, prev, next, sized_of}

-- ---- places
total-suc : (shapes : List ℕ) (s : ℕ) → s < length shapes → start shapes (suc s) ≡ start shapes s + count_of (word_at shapes s)
total-suc [] s l = absurd (not-suc-le-zero l)
total-suc (w ∷ ws) zero l = omega arith
total-suc (w ∷ ws) (suc s) l = let e = total-suc ws s (le_of_suc-le-suc l) in omega arith

-- the next subpath starts where subpath s ends
pub total-next : (shapes : List ℕ) (s : ℕ) → s < length shapes → start shapes (s + 1) ≡ start shapes s + count_of (word_at shapes s)
total-next shapes s l = rw (add-one s) (total-suc shapes s l)

-- the places of subpath s are places of the path
pub total_in : (shapes : List ℕ) (s : ℕ) → s < length shapes → start shapes s + count_of (word_at shapes s) ≤ total shapes
total_in [] s l = absurd (not-suc-le-zero l)
total_in (w ∷ ws) zero l = omega arith
total_in (w ∷ ws) (suc s) l = let e = total_in ws s (le_of_suc-le-suc l) in omega arith

-- an anchor that is there
pub has_says : (shapes : List ℕ) (s i : ℕ) → has_anchor shapes s i ≡ true → (s < length shapes) × (i < count_of (word_at shapes s))
unfolding has_anchor
has_says shapes s i h = let e = both (ltb s (length shapes)) (ltb i (count_of (word_at shapes s))) h in (ltb-true _ _ e.0, ltb-true _ _ e.1)

-- past the last subpath it is the whole path
pub total-end : (shapes : List ℕ) (s : ℕ) → length shapes ≤ s → start shapes s ≡ total shapes
total-end shapes s l = ap total (take_all s shapes l)

-- as an iterator sums it
pub total-sum : (shapes : List ℕ) → total shapes ≡ sum_by count_of shapes
total-sum shapes = is_sum_by total count_of refl (λ x xs. refl) shapes

-- ---- what an accepted size says
pub record Fits (shapes : List ℕ) (most n : ℕ) : Type 0 where
  pub words : length shapes ≤ 32
  pub anchors : total shapes ≤ most
  pub count : n ≡ total shapes

wrong : (n : ℕ) → None ≡ Some n → ⊥
wrong n e = let z : ◌≡◌ {A = ℕ} 0 1 = cc in omega arith

same_count : (t n : ℕ) → Some t ≡ Some n → n ≡ t
same_count t n e = cc

pub size_fits : (shapes : List ℕ) (most n : ℕ) → sized_of shapes most ≡ Some n → Fits shapes most n
unfolding sized_of
size_fits shapes most n = go (leb (length shapes) 32) (leb (total shapes) most) refl refl
  where
    go : (a b : Bool) → leb (length shapes) 32 ≡ a → leb (total shapes) most ≡ b → cond (a && b) (Some (total shapes)) None ≡ Some n → Fits shapes most n
    go true true p q e = record { words = leb-true _ _ p; anchors = leb-true _ _ q; count = same_count _ n e }
    go true false p q e = absurd (wrong n e)
    go false b p q e = absurd (wrong n e)

-- ---- 000's neighbours
pub prev-is : (n i : ℕ) → i < n → prev n i ≡ (i + n - 1) % n
unfolding prev
prev-is n zero h =
    let e : 0 + n - 1 ≡ n - 1 = omega arith in
    let l : n - 1 < n = omega arith in
    rw (e, mod-eq_of_lt l)
prev-is n (suc i) h =
    let e : suc i + n - 1 ≡ i + n = omega arith in
    let l : i < n = omega arith in
    rw (e, add-mod_right i n, mod-eq_of_lt l)

pub next-is : (n i : ℕ) → i < n → next n i ≡ (i + 1) % n
unfolding next
next-is n i h =
    ⊎_elim
    (λ l. let e : i + 1 ≡ n = omega arith in rw (le-ltb (i + 1) n l, e, mod_self n))
    (λ l. rw (lt-ltb (i + 1) n l, mod-eq_of_lt l))
    (order n (i + 1))

-- and they stay in the subpath
pub next_below : (n a : ℕ) → a < n → next n a < n
unfolding next
next_below n a h = ⊎_elim (λ l. rw (le-ltb (a + 1) n l) (omega arith)) (λ l. rw (lt-ltb (a + 1) n l) l) (order n (a + 1))
