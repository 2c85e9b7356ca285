-- The limit over two lists: the first place that breaks it, among the drawn ones' or after them. Assumes nothing.
use mathlib.Core.Path.{◌≡◌, refl, sym, ap, ◌∙◌}
use mathlib.Core.Logic.{⊎_elim}
use mathlib.Core.Bool.{Bool, true, false, ◌&&◌, true≢false}
use mathlib.Core.List.{List}
use Prim.Native.Nat.{ℕ, ◌+◌, ◌-◌, ◌*◌, ◌≤◌, ◌<◌}
use native.Mathlib.Omega.{arith}
use lib.Dec.{leb}
use lib.ListN.{length}
use lib.Ieee.{Float}
use borrow.Author.Tests.{leb-true, lt-ltb, le-ltb, le-leb, lt-leb}
use Rattle.views.proofs.Laws.{order}
use Rattle.path.specs.Limit.{anchor_in, first_bad}
use Rattle.std.proofs.Common.{Some, None}
use Rattle.path.proofs.Limits.{GoodBelow, first_is, none_is}
use Rattle.joining.specs.Joined.{HoldsAnchors}
use Rattle.joining.specs.Call.{list_fits, either_in}

-- ---- 7
module _ (n : ℕ) (xs : List Float) where
  pub too_many : 512 < n → list_fits n xs ≡ false
  unfolding list_fits
  too_many h = rw (lt-leb n 512 h)

  pub by_length : n ≤ 512 → list_fits n xs ≡ leb (n * 6) (length xs)
  unfolding list_fits
  by_length h = rw (le-leb n 512 h)

  pub fits : HoldsAnchors xs n → list_fits n xs ≡ true
  fits h = by_length h.few ∙ le-leb (n * 6) (length xs) h.long

  pub fits_says : list_fits n xs ≡ true → HoldsAnchors xs n
  unfolding list_fits
  fits_says = go (leb n 512) (leb (n * 6) (length xs)) refl refl
    where
      go : (p q : Bool) → leb n 512 ≡ p → leb (n * 6) (length xs) ≡ q → (p && q) ≡ true → HoldsAnchors xs n
      go true true e f h = record { few = leb-true _ _ e; long = leb-true _ _ f }
      go true false e f h = absurd (true≢false (sym h))
      go false q e f h = absurd (true≢false (sym h))

-- ---- 5
module _ (drawn : List Float) (count : ℕ) (target : List Float) where
  at_drawn : (k : ℕ) → k < count → either_in drawn count target k ≡ anchor_in drawn k
  unfolding either_in
  at_drawn k l = rw (lt-ltb k count l)

  at_target : (k : ℕ) → either_in drawn count target (count + k) ≡ anchor_in target k
  unfolding either_in
  at_target k = let e : count + k - count ≡ k = omega arith in rw (le-ltb (count + k) count (omega arith), e)

  -- what the places of both say of each
  pub drawn_good : (n : ℕ) → GoodBelow (either_in drawn count target) (count + n) → GoodBelow (anchor_in drawn) count
  drawn_good n g k l = sym (at_drawn k l) ∙ g k (omega arith)

  pub target_good : (n : ℕ) → GoodBelow (either_in drawn count target) (count + n) → GoodBelow (anchor_in target) n
  target_good n g k l = sym (at_target k) ∙ g (count + k) (omega arith)

  both_good : (n : ℕ) → GoodBelow (anchor_in drawn) count → GoodBelow (anchor_in target) n → GoodBelow (either_in drawn count target) (count + n)
  both_good n g h k l =
      ⊎_elim
      (λ (m : count ≤ k). let e : count + (k - count) ≡ k = omega arith in ap (either_in drawn count target) (sym e) ∙ at_target (k - count) ∙ h (k - count) (omega arith))
      (λ (m : k < count). at_drawn k m ∙ g k m)
      (order count k)

  -- by what the two searches found
  module _ (n : ℕ) where
    pub bad_drawn : (k : ℕ) → first_bad (anchor_in drawn) count ≡ Some k → Some k ≡ first_bad (either_in drawn count target) (count + n)
    bad_drawn k e =
        let l = (first_is (anchor_in drawn) count k).0 e in
        let p = l.place in
        sym ((first_is (either_in drawn count target) (count + n) k).1 (record {
          place = omega arith;
          bad = at_drawn k p ∙ l.bad;
          below = λ j h. at_drawn j (omega arith) ∙ l.below j h;
        }))

    module _ (e : first_bad (anchor_in drawn) count ≡ None) where
      pub bad_target : (k : ℕ) → first_bad (anchor_in target) n ≡ Some k → Some (count + k) ≡ first_bad (either_in drawn count target) (count + n)
      bad_target k f =
          let l = (first_is (anchor_in target) n k).0 f in
          let p = l.place in
          sym ((first_is (either_in drawn count target) (count + n) (count + k)).1 (record {
            place = omega arith;
            bad = at_target k ∙ l.bad;
            below = both_good k ((none_is (anchor_in drawn) count).0 e) l.below;
          }))

      pub bad_nowhere : first_bad (anchor_in target) n ≡ None → None ≡ first_bad (either_in drawn count target) (count + n)
      bad_nowhere f =
          sym ((none_is (either_in drawn count target) (count + n)).1 (both_good n ((none_is (anchor_in drawn) count).0 e) ((none_is (anchor_in target) n).0 f)))
