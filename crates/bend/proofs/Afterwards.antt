-- A path of which one or two anchors were put anew: it is the table of its anchors afterwards, and 9 asks for those that are new. Assumes nothing.
use mathlib.Core.Path.{◌≡◌, refl, sym, ap, ◌∙◌}
use mathlib.Core.Logic.{inr, ⊎_elim}
use mathlib.Core.Bool.{Bool, true, false, cond}
use mathlib.Core.List.{List}
use Prim.Native.Nat.{ℕ, ◌+◌, ◌*◌, ◌/◌, ◌%◌, ◌≤◌, ◌<◌}
use native.Mathlib.Omega.{arith}
use lib.ListN.{length}
use lib.Dec.{ltb}
use lib.Ieee.{Float, nan}
use borrow.Author.Tests.{ltb-true, ltb-false}
use Rattle.views.specs.View.{entry, tabulate}
use Rattle.views.proofs.Laws.{same, length-tabulate, at_tabulate, as_overwrite}
use Rattle.refusal.specs.Reasons.{refusal_at}
use Rattle.refusal.specs.declared.Reason.TheVariants.{Made}
use Rattle.refusal.specs.Order.{passes, judge, accepted, refused}
use Rattle.path.specs.declared.anchor.Anchor.{Anchor}
use Rattle.path.specs.Flat.{anchor_at, numbers, anchor_numbers, put_anchor, nth, listed}
use Rattle.path.specs.Limit.{anchor_good, anchor_in}
use Rattle.path.proofs.Limits.{GoodBelow}
use Rattle.path.proofs.Anchors.{anchor_good_lem}
use Rattle.path.proofs.Places.{numbers_at, length-put, put_out, at_put, at_put_other}
use Rattle.call.specs.Tests.{outline_in, outline_limit}
use Rattle.call.proofs.Openings.{places_fail, places_pass}
use Rattle.transform.proofs.Laid.{listed_table}
use Rattle.std.proofs.Common.{Some, None}
use Rattle.bend.specs.Edits.{last_verdict, first_out}

-- ---- n anchors f 0, f 1, ..
module _ (n : ℕ) (f : ℕ → Anchor) where
  made-within : (k : ℕ) → k < n → outline_in (tabulate n f) k ≡ anchor_good (f k)
  unfolding outline_in nth
  made-within k l = ap anchor_good (at_tabulate _ n f k l)

  pub made_bad : (k : ℕ) → k < n → anchor_good (f k) ≡ false → ((q : ℕ) → q < k → anchor_good (f q) ≡ true) → last_verdict (tabulate n f) ≡ refused (refusal_at Made k)
  unfolding last_verdict outline_limit judge
  made_bad k l e below =
      rw (length-tabulate n f, places_fail (outline_in (tabulate n f)) n passes k (record { place = l; bad = made-within k l ∙ e; below = λ q h. made-within q (omega arith) ∙ below q h }))

  pub made_good : ((q : ℕ) → q < n → anchor_good (f q) ≡ true) → last_verdict (tabulate n f) ≡ accepted
  unfolding last_verdict outline_limit judge
  made_good h = rw (length-tabulate n f, places_pass (outline_in (tabulate n f)) n passes (λ q l. made-within q l ∙ h q l))

  -- a list that has them in front, the rest as in xs
  pub by_places : (xs ys : List Float) → length ys ≡ length xs → ((k : ℕ) → k < n → anchor_at ys k ≡ f k) → ((j : ℕ) → n * 6 ≤ j → entry ys j ≡ entry xs j)
      → ys ≡ listed (tabulate n f) xs
  unfolding anchor_numbers
  by_places xs ys e at past = as_overwrite nan ys xs (n * 6) (anchor_numbers f) e number past ∙ listed_table n f xs
    where
      number : (j : ℕ) → j < n * 6 → entry ys j ≡ anchor_numbers f j
      number j l =
          let h : j / 6 < n = omega arith in
          sym (numbers_at ys j) ∙ ap (λ a. entry (numbers a) (j % 6)) (at (j / 6) h)

-- ---- a path of n anchors, all within the limit
module _ (xs : List Float) (n : ℕ) (f : ℕ → Anchor) (good : GoodBelow (anchor_in xs) n) (long : n * 6 ≤ length xs) where
  kept : (q : ℕ) → q < n → f q ≡ anchor_at xs q → anchor_good (f q) ≡ true
  kept q l e = ap anchor_good e ∙ sym (anchor_good_lem xs q) ∙ good q l

  -- no anchor anew
  module _ (all_kept : (q : ℕ) → f q ≡ anchor_at xs q) where
    pub none_good : last_verdict (tabulate n f) ≡ accepted
    none_good = made_good n f (λ q l. kept q l (all_kept q))

    pub none-put : xs ≡ listed (tabulate n f) xs
    none-put = by_places n f xs xs refl (λ k l. sym (all_kept k)) (λ j l. refl)

  -- one anchor anew
  module _ (k : ℕ) (a : Anchor) (inside : k < n) (new : f k ≡ a) (others : (q : ℕ) → (q ≡ k → ⊥) → f q ≡ anchor_at xs q) where
    pub one_bad : anchor_good a ≡ false → last_verdict (tabulate n f) ≡ refused (refusal_at Made k)
    one_bad e = made_bad n f k inside (ap anchor_good new ∙ e) (λ q l. kept q (omega arith) (others q (λ p. omega arith)))

    pub one_good : anchor_good a ≡ true → last_verdict (tabulate n f) ≡ accepted
    one_good e = made_good n f (λ q l. ⊎_elim (λ p. ap (λ z. anchor_good (f z)) p ∙ ap anchor_good new ∙ e) (λ ne. kept q l (others q ne)) (same q k))

    pub one_put : put_anchor xs k a ≡ listed (tabulate n f) xs
    one_put = by_places n f xs (put_anchor xs k a) (length-put xs k a) at (λ j l. put_out xs k a j (inr (omega arith)))
      where
        at : (q : ℕ) → q < n → anchor_at (put_anchor xs k a) q ≡ f q
        at q l = ⊎_elim (λ p. rw p (at_put xs k a (omega arith) ∙ sym new)) (λ ne. at_put_other xs k a q ne ∙ sym (others q ne)) (same q k)

  -- two anchors anew
  module _ (i j : ℕ) (a b : Anchor) (apart : i ≡ j → ⊥) (i-inside : i < n) (j-inside : j < n) (new-i : f i ≡ a) (new-j : f j ≡ b)
      (others : (q : ℕ) → (q ≡ i → ⊥) → (q ≡ j → ⊥) → f q ≡ anchor_at xs q) where
    within_below : (m : ℕ) → (i < m → anchor_good a ≡ true) → (j < m → anchor_good b ≡ true) → (q : ℕ) → q < m → q < n → anchor_good (f q) ≡ true
    within_below m wa wb q l h =
        ⊎_elim
        (λ e. ap (λ z. anchor_good (f z)) e ∙ ap anchor_good new-i ∙ wa (omega arith))
        (λ ni. ⊎_elim (λ e. ap (λ z. anchor_good (f z)) e ∙ ap anchor_good new-j ∙ wb (omega arith)) (λ nj. kept q h (others q ni nj)) (same q j))
        (same q i)

    i_bad : anchor_good a ≡ false → (j < i → anchor_good b ≡ true) → last_verdict (tabulate n f) ≡ refused (refusal_at Made i)
    i_bad e wb = made_bad n f i i-inside (ap anchor_good new-i ∙ e) (λ q l. within_below i (λ h. absurd (omega arith)) wb q l (omega arith))

    j_bad : anchor_good b ≡ false → (i < j → anchor_good a ≡ true) → last_verdict (tabulate n f) ≡ refused (refusal_at Made j)
    j_bad e wa = made_bad n f j j-inside (ap anchor_good new-j ∙ e) (λ q l. within_below j wa (λ h. absurd (omega arith)) q l (omega arith))

    different : (place : ℕ) → None ≡ Some place → ⊥
    different place e = let z : ◌≡◌ {A = ℕ} 0 1 = cc in omega arith

    same_refusal : (k place : ℕ) → Some k ≡ Some place → refused (refusal_at Made k) ≡ refused (refusal_at Made place)
    same_refusal k place e = let p : k ≡ place = cc in rw p

    pub two_bad : (place : ℕ) → first_out i a j b ≡ Some place → last_verdict (tabulate n f) ≡ refused (refusal_at Made place)
    unfolding first_out
    two_bad place = go (anchor_good a) (anchor_good b) (ltb i j) refl refl refl
      where
        go : (x y z : Bool) → anchor_good a ≡ x → anchor_good b ≡ y → ltb i j ≡ z
            → cond x (cond y None (Some j)) (cond z (Some i) (cond y (Some i) (Some j))) ≡ Some place → last_verdict (tabulate n f) ≡ refused (refusal_at Made place)
        go true true z ea eb el e = absurd (different place e)
        go true false z ea eb el e = j_bad eb (λ h. ea) ∙ same_refusal j place e
        go false y true ea eb el e = let l = ltb-true i j el in i_bad ea (λ h. absurd (omega arith)) ∙ same_refusal i place e
        go false true false ea eb el e = i_bad ea (λ h. eb) ∙ same_refusal i place e
        go false false false ea eb el e = let l = ltb-false i j el in j_bad eb (λ h. absurd (omega arith)) ∙ same_refusal j place e

    pub two_good : first_out i a j b ≡ None → last_verdict (tabulate n f) ≡ accepted
    unfolding first_out
    two_good = go (anchor_good a) (anchor_good b) (ltb i j) refl refl
      where
        go : (x y z : Bool) → anchor_good a ≡ x → anchor_good b ≡ y
            → cond x (cond y None (Some j)) (cond z (Some i) (cond y (Some i) (Some j))) ≡ None → last_verdict (tabulate n f) ≡ accepted
        go true true z ea eb e = made_good n f (λ q l. within_below n (λ h. ea) (λ h. eb) q l l)
        go true false z ea eb e = absurd (different j (sym e))
        go false y true ea eb e = absurd (different i (sym e))
        go false true false ea eb e = absurd (different i (sym e))
        go false false false ea eb e = absurd (different j (sym e))

    pub two_put : put_anchor (put_anchor xs i a) j b ≡ listed (tabulate n f) xs
    two_put =
        by_places n f xs (put_anchor (put_anchor xs i a) j b) (length-put (put_anchor xs i a) j b ∙ length-put xs i a) at
        (λ q l. put_out (put_anchor xs i a) j b q (inr (omega arith)) ∙ put_out xs i a q (inr (omega arith)))
      where
        room : j * 6 + 6 ≤ length (put_anchor xs i a)
        room = rw (length-put xs i a) (omega arith)

        at : (q : ℕ) → q < n → anchor_at (put_anchor (put_anchor xs i a) j b) q ≡ f q
        at q l =
            ⊎_elim
            (λ e. rw e (at_put (put_anchor xs i a) j b room ∙ sym new-j))
            (λ nj. at_put_other (put_anchor xs i a) j b q nj
            ∙ ⊎_elim (λ e. rw e (at_put xs i a (omega arith) ∙ sym new-i)) (λ ni. at_put_other xs i a q ni ∙ sym (others q ni nj)) (same q i))
            (same q j)
