-- The nearest of numbered candidates: nothing exactly when none is within, else the nearest of those within, the first on ties. For any number of candidates. Assumes nothing.
use mathlib.Core.Path.{◌≡◌, refl, sym, ◌∙◌}
use mathlib.Core.Logic.{◌↔◌, ◌⊎◌, inl, inr, ⊎_elim}
use mathlib.Core.Bool.{Bool, true, false, true≢false}
use Prim.Native.Nat.{ℕ, zero, suc, ◌<◌}
use native.Mathlib.Nat.{not-suc-le-zero, le_refl}
use native.Mathlib.Omega.{arith}
use lib.Ieee.{Float, is_nan, lt, le}
use Rattle.views.proofs.Laws.{order}
use Rattle.std.proofs.Common.{Some, None}
use Rattle.hit.specs.Nearest.{nearer, nearest}
use Rattle.hit.proofs.Walked.{same_at, apart}
use Rattle.real.proofs.Orders.{not_below, lt-is-le, le_self, lt-le_trans}

module _ (within : ℕ → Bool) (d : ℕ → Float) where
  -- none of the first n is within
  abbrev pub NoneWithin : ℕ → Type 0
  NoneWithin n = (i : ℕ) → i < n → within i ≡ false

  -- k is the nearest of the first n that are within, the first of those at its distance
  pub record NearestWithin (n k : ℕ) : Type 0 where
    pub place : k < n
    pub in_reach : within k ≡ true
    pub least : (i : ℕ) → i < n → within i ≡ true → le (d k) (d i) ≡ true
    pub first : (i : ℕ) → i < k → within i ≡ true → lt (d k) (d i) ≡ true

  -- what is within is a number
  module _ (number : (i : ℕ) → within i ≡ true → is_nan (d i) ≡ false) where
    pub data Outcome (n : ℕ) : Type 0 where
      nothing : NoneWithin n → nearest within d n ≡ None → Outcome n
      one : (k : ℕ) → NearestWithin n k → nearest within d n ≡ Some k → Outcome n

    itself : (i : ℕ) → within i ≡ true → le (d i) (d i) ≡ true
    itself i w = le_self (d i) (number i w)

    up_to : (n : ℕ) (i : ℕ) → i < suc n → (i < n) ⊎ (i ≡ n)
    up_to n i h = ⊎_elim (λ l. inr (omega arith)) (λ l. inl l) (order n i)

    -- one more: the cases of the definition
    keep_none : (n : ℕ) → NoneWithin n → within n ≡ false → NoneWithin (suc n)
    keep_none n h w i l = ⊎_elim (h i) (λ e. rw e w) (up_to n i l)

    only : (n : ℕ) → NoneWithin n → within n ≡ true → NearestWithin (suc n) n
    only n h w =
        record {
          place = le_refl (suc n);
          in_reach = w;
          least = λ i l v. ⊎_elim (λ j. absurd (true≢false (sym v ∙ h i j))) (λ e. rw e (itself n w)) (up_to n i l);
          first = λ i l v. absurd (true≢false (sym v ∙ h i l));
        }

    keep : (n k : ℕ) → NearestWithin n k → (within n ≡ true → lt (d n) (d k) ≡ false) → NearestWithin (suc n) k
    keep n k b h =
        record {
          place = let p = b.place in omega arith;
          in_reach = b.in_reach;
          least = λ i l v. ⊎_elim (λ j. b.least i j v) (λ e. rw e (last (rw e at v))) (up_to n i l);
          first = b.first;
        }
      where
        last : within n ≡ true → le (d k) (d n) ≡ true
        last w = not_below (d n) (d k) (number n w) (number k b.in_reach) (h w)

    renew : (n k : ℕ) → NearestWithin n k → within n ≡ true → lt (d n) (d k) ≡ true → NearestWithin (suc n) n
    renew n k b w h =
        record {
          place = le_refl (suc n);
          in_reach = w;
          least = λ i l v. ⊎_elim (λ j. lt-is-le (d n) (d i) (nearer-all i j v)) (λ e. rw e (itself n w)) (up_to n i l);
          first = nearer-all;
        }
      where
        nearer-all : (i : ℕ) → i < n → within i ≡ true → lt (d n) (d i) ≡ true
        nearer-all i l v = lt-le_trans (d n) (d k) (d i) (number i v) h (b.least i l v)

    pub outcome : (n : ℕ) → Outcome n
    unfolding nearest nearer
    outcome zero = nothing (λ i l. absurd (not-suc-le-zero l)) refl
    outcome (suc n) = go (outcome n) (within n) refl
      where
        go : Outcome n → (w : Bool) → within n ≡ w → Outcome (suc n)
        go (nothing h e) false w = nothing (keep_none n h w) (rw (w, e))
        go (nothing h e) true w = one n (only n h w) (rw (e, w))
        go (one k b e) false w = one k (keep n k b (λ v. absurd (true≢false (sym v ∙ w)))) (rw (w, e))
        go (one k b e) true w = test (lt (d n) (d k)) refl
          where
            test : (t : Bool) → lt (d n) (d k) ≡ t → Outcome (suc n)
            test true h = one n (renew n k b w h) (rw (e, w, h))
            test false h = one k (keep n k b (λ v. h)) (rw (e, w, h))

    -- ---- the theorem
    pub nothing_is : (n : ℕ) → (nearest within d n ≡ None) ↔ NoneWithin n
    nothing_is n = (to (outcome n), from (outcome n))
      where
        to : Outcome n → nearest within d n ≡ None → NoneWithin n
        to (nothing h e) f = h
        to (one k b e) f = absurd (apart k (sym f ∙ e))

        from : Outcome n → NoneWithin n → nearest within d n ≡ None
        from (nothing h e) g = e
        from (one k b e) g = absurd (true≢false (sym b.in_reach ∙ g k b.place))

    pub nearest-is : (n k : ℕ) → nearest within d n ≡ Some k → NearestWithin n k
    nearest-is n k f = to (outcome n)
      where
        to : Outcome n → NearestWithin n k
        to (nothing h e) = absurd (apart k (sym e ∙ f))
        to (one j b e) = rw (same_at j k (sym e ∙ f)) at b
