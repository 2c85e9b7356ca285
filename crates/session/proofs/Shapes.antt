-- In which subpath a place lies, and where subpaths start once one has an anchor more. Assumes nothing.
use mathlib.Core.Path.{◌≡◌, refl, ap}
use mathlib.Core.Bool.{Bool, true, false, cond}
use mathlib.Core.List.{List, [], ◌∷◌}
use Prim.Native.Nat.{ℕ, zero, suc, ◌+◌, ◌-◌, ◌≤◌, ◌<◌, zero-le, suc-le-suc}
use native.Mathlib.Nat.{not-suc-le-zero, le_of_suc-le-suc}
use native.Mathlib.Omega.{arith}
use lib.Dec.{leb, ltb}
use lib.ListN.{length, set}
use lib.Seq.{take-set-le}
use borrow.Author.Tests.{lt-ltb, le-ltb, ltb-true, ltb-false, leb-true, leb-false, le-leb, lt-leb}
use Rattle.path.specs.Shape.{count_of, closed_of, total, word_at, start, sub_of}

-- place k lies in subpath s
pub record In (shapes : List ℕ) (k s : ℕ) : Type 0 where
  pub there : s < length shapes
  pub low : start shapes s ≤ k
  pub high : k < start shapes s + count_of (word_at shapes s)

in_suc : (w : ℕ) (ws : List ℕ) (k s : ℕ) → count_of w ≤ k → In ws (k - count_of w) s → In (w ∷ ws) k (suc s)
in_suc w ws k s h i = record { there = suc-le-suc i.there; low = omega arith; high = omega arith }

pub sub_in : (shapes : List ℕ) (k : ℕ) → k < total shapes → In shapes k (sub_of shapes k)
unfolding sub_of
sub_in [] k h = absurd (not-suc-le-zero h)
sub_in (w ∷ ws) k h = go (ltb k (count_of w)) refl (sub_in ws (k - count_of w))
  where
    go : (b : Bool) → ltb k (count_of w) ≡ b → (k - count_of w < total ws → In ws (k - count_of w) (sub_of ws (k - count_of w)))
        → In (w ∷ ws) k (cond b 0 (suc (sub_of ws (k - count_of w))))
    go true e ih = let l = ltb-true k (count_of w) e in record { there = suc-le-suc zero-le; low = zero-le; high = omega arith }
    go false e ih = let l = ltb-false k (count_of w) e in in_suc w ws k (sub_of ws (k - count_of w)) l (ih (omega arith))

pub sub_is : (shapes : List ℕ) (k s : ℕ) → In shapes k s → sub_of shapes k ≡ s
unfolding sub_of
sub_is [] k s i = absurd (not-suc-le-zero i.there)
sub_is (w ∷ ws) k zero i = rw (lt-ltb k (count_of w) (omega arith))
sub_is (w ∷ ws) k (suc s) i =
    rw (le-ltb k (count_of w) (omega arith))
    (ap suc (sub_is ws (k - count_of w) s (record { there = le_of_suc-le-suc i.there; low = omega arith; high = omega arith })))

pub sub-before : (shapes : List ℕ) (r s : ℕ) → s < length shapes → r < s → start shapes r + count_of (word_at shapes r) ≤ start shapes s
sub-before [] r s h l = absurd (not-suc-le-zero h)
sub-before (w ∷ ws) r zero h l = absurd (not-suc-le-zero l)
sub-before (w ∷ ws) zero (suc s) h l = omega arith
sub-before (w ∷ ws) (suc r) (suc s) h l = omega (arith, sub-before ws r s (le_of_suc-le-suc h) (le_of_suc-le-suc l))

-- ---- one subpath an anchor longer
module _ (v : ℕ) where
  pub start-le : (shapes : List ℕ) (s r : ℕ) → r ≤ s → start (set shapes s v) r ≡ start shapes r
  start-le shapes s r h = ap total (take-set-le r shapes s v h)

  pub total_more : (shapes : List ℕ) (s : ℕ) → s < length shapes → count_of v ≡ count_of (word_at shapes s) + 1 → total (set shapes s v) ≡ total shapes + 1
  total_more [] s h e = absurd (not-suc-le-zero h)
  total_more (w ∷ ws) zero h e = omega arith
  total_more (w ∷ ws) (suc s) h e = omega (arith, total_more ws s (le_of_suc-le-suc h) e)

  pub start_gt : (shapes : List ℕ) (s r : ℕ) → s < length shapes → s < r → count_of v ≡ count_of (word_at shapes s) + 1 → start (set shapes s v) r ≡ start shapes r + 1
  start_gt [] s r h l e = absurd (not-suc-le-zero h)
  start_gt (w ∷ ws) s zero h l e = absurd (not-suc-le-zero l)
  start_gt (w ∷ ws) zero (suc r) h l e = omega arith
  start_gt (w ∷ ws) (suc s) (suc r) h l e = omega (arith, start_gt ws s r (le_of_suc-le-suc h) (le_of_suc-le-suc l) e)

-- its word
pub count_next : (w : ℕ) → count_of w ≤ 512 → count_of (w + 1) ≡ count_of w + 1
count_next w h = omega arith

pub closed_next : (w : ℕ) → count_of w ≤ 512 → closed_of (w + 1) ≡ closed_of w
closed_next w h = go (leb 2147483648 w) refl
  where
    go : (b : Bool) → leb 2147483648 w ≡ b → leb 2147483648 (w + 1) ≡ b
    go true e = let l = leb-true 2147483648 w e in le-leb 2147483648 (w + 1) (omega arith)
    go false e = let l = leb-false 2147483648 w e in lt-leb 2147483648 (w + 1) (omega arith)
