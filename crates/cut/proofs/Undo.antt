-- What an undone split recuts: the anchors within three steps of either of the two that become neighbours again are those that the split had recut, within four of the anchor that goes. Assumes nothing.
use mathlib.Core.Path.{◌≡◌}
use mathlib.Core.Logic.{⊎_elim}
use mathlib.Core.Bool.{Bool, true, ◌||◌}
use Prim.Native.Nat.{ℕ, ◌+◌, ◌≤◌, ◌<◌}
use native.Mathlib.Omega.{arith}
use Rattle.views.proofs.Laws.{order}
use Rattle.views.proofs.Bools.{or_cases, or_left, or_right}
use Rattle.path.specs.Shape.{is_segment, next}
use Rattle.cut.specs.Near.{gap, near, shifted}
use Rattle.cut.proofs.Steps.{same_test, next_in, next-round, segment_cases, near_cases, near_in, near-round}
use Rattle.cut.proofs.Shifts.{shifted_low, shifted_high}

-- within three steps of a or of b, each straight or round the end
two_cases : {X : Type 0} (n : ℕ) (c : Bool) (a b j : ℕ) → (near 3 n c a j || near 3 n c b j) ≡ true
    → (gap a j ≤ 3 → X) → (c ≡ true → n ≤ gap a j + 3 → X) → (gap b j ≤ 3 → X) → (c ≡ true → n ≤ gap b j + 3 → X) → X
two_cases n c a b j h p q r s =
    ⊎_elim
    (λ x. ⊎_elim p (λ y. q y.0 y.1) (near_cases 3 n c a j x))
    (λ x. ⊎_elim r (λ y. s y.0 y.1) (near_cases 3 n c b j x))
    (or_cases (near 3 n c a j) (near 3 n c b j) h)

module _ (n : ℕ) (c : Bool) (a j : ℕ) (inside : j < n) where
  -- ---- j up to the segment's start, and after it, where the next index is its end
  low : j ≤ a → a + 1 < n → (near 3 n c a j || near 3 n c (a + 1) j) ≡ near 4 (n + 1) c (a + 1) j
  unfolding gap
  low l h =
      same_test _ _
      (λ x. two_cases n c a (a + 1) j x
      (λ y. near_in 4 (n + 1) c (a + 1) j (omega arith))
      (λ e y. near-round 4 (n + 1) c (a + 1) j e (omega arith))
      (λ y. near_in 4 (n + 1) c (a + 1) j (omega arith))
      (λ e y. near-round 4 (n + 1) c (a + 1) j e (omega arith)))
      (λ x. ⊎_elim
      (λ (y : gap (a + 1) j ≤ 4). or_left (near 3 n c a j) (near 3 n c (a + 1) j) (near_in 3 n c a j (omega arith)))
      (λ (y : (c ≡ true) × (n + 1 ≤ gap (a + 1) j + 4)). or_right (near 3 n c a j) (near 3 n c (a + 1) j) (near-round 3 n c (a + 1) j y.0 (omega arith)))
      (near_cases 4 (n + 1) c (a + 1) j x))

  high : a < j → (near 3 n c a j || near 3 n c (a + 1) j) ≡ near 4 (n + 1) c (a + 1) (j + 1)
  unfolding gap
  high l =
      same_test _ _
      (λ x. two_cases n c a (a + 1) j x
      (λ y. near_in 4 (n + 1) c (a + 1) (j + 1) (omega arith))
      (λ e y. near-round 4 (n + 1) c (a + 1) (j + 1) e (omega arith))
      (λ y. near_in 4 (n + 1) c (a + 1) (j + 1) (omega arith))
      (λ e y. near-round 4 (n + 1) c (a + 1) (j + 1) e (omega arith)))
      (λ x. ⊎_elim
      (λ (y : gap (a + 1) (j + 1) ≤ 4). or_right (near 3 n c a j) (near 3 n c (a + 1) j) (near_in 3 n c (a + 1) j (omega arith)))
      (λ (y : (c ≡ true) × (n + 1 ≤ gap (a + 1) (j + 1) + 4)). or_left (near 3 n c a j) (near 3 n c (a + 1) j) (near-round 3 n c a j y.0 (omega arith)))
      (near_cases 4 (n + 1) c (a + 1) (j + 1) x))

  -- ---- the closing segment
  last : c ≡ true → a + 1 ≡ n → (near 3 n c a j || near 3 n c 0 j) ≡ near 4 (n + 1) c (a + 1) j
  unfolding gap
  last k h =
      same_test _ _
      (λ x. two_cases n c a 0 j x
      (λ y. near_in 4 (n + 1) c (a + 1) j (omega arith))
      (λ e y. near-round 4 (n + 1) c (a + 1) j e (omega arith))
      (λ y. near-round 4 (n + 1) c (a + 1) j k (omega arith))
      (λ e y. near_in 4 (n + 1) c (a + 1) j (omega arith)))
      (λ x. ⊎_elim
      (λ (y : gap (a + 1) j ≤ 4). or_left (near 3 n c a j) (near 3 n c 0 j) (near_in 3 n c a j (omega arith)))
      (λ (y : (c ≡ true) × (n + 1 ≤ gap (a + 1) j + 4)). or_right (near 3 n c a j) (near 3 n c 0 j) (near_in 3 n c 0 j (omega arith)))
      (near_cases 4 (n + 1) c (a + 1) j x))

  pub undo_reach : is_segment n c a ≡ true → (near 3 n c a j || near 3 n c (next n a) j) ≡ near 4 (n + 1) c (a + 1) (shifted a j)
  undo_reach seg =
      ⊎_elim
      (λ (h : a + 1 < n).
      rw (next_in n a h) (⊎_elim (λ (l : j ≤ a). rw (shifted_low a j l) (low l h)) (λ (l : a < j). rw (shifted_high a j l) (high l)) (order j a)))
      (λ (h : (c ≡ true) × (a + 1 ≡ n)). let e = h.1 in rw (next-round n a (omega arith), shifted_low a j (omega arith)) (last h.0 e))
      (segment_cases n c a seg)
