-- The first bad place is the least one, and what makes a place good or bad. Assumes nothing.
use mathlib.Core.Path.{◌≡◌, refl, sym, ◌∙◌}
use mathlib.Core.Logic.{◌↔◌, ◌⊎◌, inl, inr}
use mathlib.Core.Bool.{Bool, true, false, ◌&&◌}
use Rattle.std.proofs.Common.{Option, Some, None, MatchOption, length, get_or}
use Rattle.std.specs.List.{range_with_len, AllWithin, HoldsAt}
use Rattle.std.proofs.lemmas.List.FromFn.{length-range_with_len, get_or-range_with_len}
use mathlib.Core.List.{List}
use Prim.Native.Nat.{ℕ, zero, suc, ◌+◌, ◌*◌, ◌<◌, zero-le}
use native.Mathlib.Nat.{le_refl}
use native.Mathlib.Numerals.{add-one}
use native.Mathlib.Omega.{arith}
use lib.Ieee.{Float, binary64, of_bits, neg}
use borrow.Author.Count.{below_none, below_more}
use borrow.Author.Tests.{lt-ltb, le-ltb}
use Rattle.views.specs.View.{entry}
use Rattle.views.proofs.Bools.{and_false, both}
use Rattle.views.specs.Search.{all}
use Rattle.views.proofs.Searches.{all_true, all_false, all_says, first_all, first_at}
use Rattle.real.specs.Limit.{in_limit}
use Rattle.real.proofs.Limits.{in_limit_lem}
use Rattle.path.specs.Limit.{within_limit, anchor_in, place_in, first_bad}

-- ---- the least place
-- every place below n is good
abbrev pub GoodBelow : (ℕ → Bool) → ℕ → Type 0
GoodBelow good n = (j : ℕ) → j < n → good j ≡ true

-- k is the least place below n that is not
pub record Least (good : ℕ → Bool) (n k : ℕ) : Type 0 where
  pub place : k < n
  pub bad : good k ≡ false
  pub below : GoodBelow good k

apart : (k : ℕ) → None ≡ Some k → ⊥
apart k e = let z : ◌≡◌ {A = ℕ} 0 1 = cc in omega arith

same_place : (i k : ℕ) → Some i ≡ Some k → i ≡ k
same_place i k e = cc

-- tests that agree below n
module _ (good fine : ℕ → Bool) (n : ℕ) (e : (k : ℕ) → k < n → good k ≡ fine k) where
  pub good_cong : GoodBelow good n → GoodBelow fine n
  good_cong g k l = sym (e k l) ∙ g k l

  pub least_cong : (k : ℕ) → Least good n k → Least fine n k
  least_cong k l = record {
    place = l.place;
    bad = sym (e k l.place) ∙ l.bad;
    below = λ j h. let p = l.place in sym (e j (omega arith)) ∙ l.below j h;
  }

module _ (good : ℕ → Bool) where
  least_at : (n k : ℕ) → Least good n k → first_bad good n ≡ Some k
  unfolding first_bad
  least_at n k l = rw (first_at good n k l.place l.below l.bad, lt-ltb k n l.place)

  none_at : (n : ℕ) → GoodBelow good n → first_bad good n ≡ None
  unfolding first_bad
  none_at n h = rw (first_all good n h, le-ltb n n (le_refl n))

  -- every place is good, or one is the least that is not
  pub search_to : (n : ℕ) → GoodBelow good n ⊎ ((k : ℕ) × Least good n k)
  search_to zero = inl (below_none _)
  search_to (suc n) = go (good n) refl (search_to n)
    where
      go : (b : Bool) → good n ≡ b → GoodBelow good n ⊎ ((k : ℕ) × Least good n k)
          → GoodBelow good (suc n) ⊎ ((k : ℕ) × Least good (suc n) k)
      go b e (inr (k, l)) = inr (k, record { place = let p = l.place in omega arith; bad = l.bad; below = l.below })
      go true e (inl h) = inl (rw (add-one n) at (below_more _ n h e))
      go false e (inl h) = inr (n, record { place = le_refl (suc n); bad = e; below = h })

  pub first_is : (n k : ℕ) → (first_bad good n ≡ Some k) ↔ Least good n k
  first_is n k = (go (search_to n), least_at n k)
    where
      go : GoodBelow good n ⊎ ((k : ℕ) × Least good n k) → first_bad good n ≡ Some k → Least good n k
      go (inl h) e = absurd (apart k (sym (none_at n h) ∙ e))
      go (inr (i, l)) e = rw (same_place i k (sym (least_at n i l) ∙ e)) at l

  pub none_is : (n : ℕ) → (first_bad good n ≡ None) ↔ GoodBelow good n
  none_is n = (go (search_to n), none_at n)
    where
      go : GoodBelow good n ⊎ ((k : ℕ) × Least good n k) → first_bad good n ≡ None → GoodBelow good n
      go (inl h) e = h
      go (inr (i, l)) e = absurd (apart i (sym e ∙ least_at n i l))

-- what an iterator over the indices below n finds
in_range : (n j : ℕ) → j < n → get_or (range_with_len 0 n) j 0 ≡ j
in_range n j l = let e : 0 + j ≡ j = omega arith in get_or-range_with_len 0 n j 0 l ∙ e

long : (n j : ℕ) → j < n → j < length (range_with_len 0 n)
long n j l = rw (length-range_with_len 0 n) l

pub found_is : (good : ℕ → Bool) (n : ℕ) (r : Option ℕ) →
    MatchOption r (AllWithin (λ k. good k ≡ true) (range_with_len 0 n) 0 (length (range_with_len 0 n)))
    (λ x. (good x ≡ false) × (i : ℕ) × (i < length (range_with_len 0 n)) × HoldsAt (λ y. y ≡ x) (range_with_len 0 n) i × AllWithin (λ k. good k ≡ true) (range_with_len 0 n) 0 i)
    → r ≡ first_bad good n
found_is good n None h = sym (none_at good n (λ j l. rw (in_range n j l) at (h j 0 zero-le (long n j l))))
found_is good n (Some x) (bad, i, l, at, before) =
    let below : i < n = rw (length-range_with_len 0 n) at l in
    let place : x ≡ i = sym (at 0) ∙ in_range n i below in
    sym
    (least_at good n x
    record {
      place = rw place below;
      bad = bad;
      below = λ j h. let k : j < i = rw place at h in let m : j < n = omega arith in rw (in_range n j m) at (before j 0 zero-le k);
    })

-- ---- what makes a place good or bad
module _ (anchors : List Float) (k : ℕ) where
  pub anchor_in_lem : ((i : ℕ) → i < 6 → in_limit (entry anchors (k * 6 + i)) ≡ true) → anchor_in anchors k ≡ true
  unfolding anchor_in
  anchor_in_lem h = all_true _ _ (λ i l. h i (omega arith))

  pub anchor_out : (i : ℕ) → i < 6 → in_limit (entry anchors (k * 6 + i)) ≡ false → anchor_in anchors k ≡ false
  unfolding anchor_in
  anchor_out i l e = all_false _ _ i (omega arith) e

  module _ (radii : List Float) where
    pub place_in_lem : anchor_in anchors k ≡ true → in_limit (entry radii k) ≡ true → place_in anchors radii k ≡ true
    unfolding place_in
    place_in_lem a r = rw a r

    -- the anchor's fault, and the radius's
    pub place_out : anchor_in anchors k ≡ false → place_in anchors radii k ≡ false
    unfolding place_in
    place_out a = rw a

    pub radius_out : in_limit (entry radii k) ≡ false → place_in anchors radii k ≡ false
    unfolding place_in
    radius_out r = rw (r, and_false)

-- ---- the places of numbers that are all in limit are good
pub within-is : (x : Float) → within_limit (of_bits binary64 0x4100_0000_0000_0000) x ≡ in_limit x
unfolding within_limit of_bits neg
within-is x = in_limit_lem x

abbrev InLimit : List Float → ℕ → Bool
InLimit xs n = all (λ i. in_limit (entry xs i)) n

pub anchors_in : (anchors : List Float) (n : ℕ) → InLimit anchors (n * 6) ≡ true → GoodBelow (anchor_in anchors) n
anchors_in anchors n e k l = anchor_in_lem anchors k (λ i h. all_says _ (n * 6) e (k * 6 + i) (omega arith))

pub places_in : (anchors radii : List Float) (n : ℕ) → (InLimit anchors (n * 6) && InLimit radii n) ≡ true → GoodBelow (place_in anchors radii) n
places_in anchors radii n e k l =
    let h = both (InLimit anchors (n * 6)) (InLimit radii n) e in
    place_in_lem anchors k radii (anchors_in anchors n h.0 k l) (all_says _ n h.1 k l)
