-- Laws of `split`: the first place that breaks the limit, and the list that the stores leave. Assumes nothing.
use mathlib.Core.Path.{◌≡◌, refl, sym, ap, ◌∙◌}
use mathlib.Core.Logic.{◌⊎◌, inl, inr, ⊎_elim}
use mathlib.Core.Bool.{Bool, true, false, cond}
use mathlib.Core.List.{List}
use Prim.Native.Nat.{ℕ, ◌+◌, ◌-◌, ◌*◌, ◌/◌, ◌%◌, ◌≤◌, ◌<◌}
use native.Mathlib.Omega.{arith}
use lib.Dec.{eqb}
use lib.ListN.{length}
use lib.Ieee.{Float, nan}
use borrow.Author.Tests.{eq-eqb, ne_eqb, le-leb, lt-leb}
use Rattle.views.specs.View.{entry}
use Rattle.views.proofs.Laws.{order, same, length-tabulate, at_tabulate, as_overwrite}
use Rattle.geom.specs.Point.{point}
use Rattle.std.proofs.Common.{Some, None}
use Rattle.path.specs.Anchor.{without_handles}
use Rattle.path.specs.Flat.{anchor_at, numbers, anchor_numbers, put_anchor, nth, listed}
use Rattle.path.specs.Limit.{anchor_good, anchor_in, first_bad}
use Rattle.path.proofs.Limits.{GoodBelow, first_is, none_is}
use Rattle.path.proofs.Anchors.{anchor_good_lem}
use Rattle.path.proofs.Places.{anchor-number, numbers_at, length-put, put_in, put_out}
use Rattle.call.specs.Tests.{outline_in}
use Rattle.cut.specs.Near.{old}
use Rattle.cut.proofs.Shifts.{shifted_low, shifted_high}
use Rattle.edit.specs.declared.splitting.Halved.{Halved}
use Rattle.edit.specs.Gap.{gapped}
use Rattle.edit.specs.Split.{halves, shifted, split_anchors, puts_within, split_places}
use Rattle.edit.proofs.Gaps.{length-gap, gap_past, gap_below, gap_above}

-- ---- the first place that breaks the limit
module _ (h : Halved) (a b : ℕ) (p : a ≡ b → ⊥) (q : a + 1 ≡ b → ⊥) where
  at_left : puts_within h a b a ≡ anchor_good h.left
  unfolding puts_within
  at_left = rw (eq-eqb a a refl)

  at_middle : puts_within h a b (a + 1) ≡ anchor_good h.middle
  unfolding puts_within
  at_middle = rw (ne_eqb (a + 1) a (λ e. omega arith), eq-eqb (a + 1) (a + 1) refl)

  at_right : puts_within h a b b ≡ anchor_good h.right
  unfolding puts_within
  at_right = rw (ne_eqb b a (λ e. p (sym e)), ne_eqb b (a + 1) (λ e. q (sym e)), eq-eqb b b refl)

  elsewhere : (k : ℕ) → (k ≡ a → ⊥) → (k ≡ a + 1 → ⊥) → (k ≡ b → ⊥) → puts_within h a b k ≡ true
  unfolding puts_within
  elsewhere k x y z = rw (ne_eqb k a x, ne_eqb k (a + 1) y, ne_eqb k b z)

  good_below : (m : ℕ) → (a < m → anchor_good h.left ≡ true) → (a + 1 < m → anchor_good h.middle ≡ true) → (b < m → anchor_good h.right ≡ true) → GoodBelow (puts_within h a b) m
  good_below m l c r k i =
      ⊎_elim
      (λ e. rw e (at_left ∙ l (omega arith)))
      (λ x. ⊎_elim
      (λ e. rw e (at_middle ∙ c (omega arith)))
      (λ y. ⊎_elim (λ e. rw e (at_right ∙ r (omega arith))) (λ z. elsewhere k x y z) (same k b))
      (same k (a + 1)))
      (same k a)

  least : (n k : ℕ) → k < n → puts_within h a b k ≡ false → GoodBelow (puts_within h a b) k → Some k ≡ first_bad (puts_within h a b) n
  least n k l e g = sym ((first_is (puts_within h a b) n k).1 (record { place = l; bad = e; below = g }))

  module _ (n : ℕ) (i : a + 1 < n) (j : b < n) where
    pub right_first : b < a → anchor_good h.right ≡ false → Some b ≡ first_bad (puts_within h a b) n
    right_first l e = least n b j (at_right ∙ e) (good_below b (λ m. absurd (omega arith)) (λ m. absurd (omega arith)) (λ m. absurd (omega arith)))

    pub left_first : anchor_good h.left ≡ false → (b < a → anchor_good h.right ≡ true) → Some a ≡ first_bad (puts_within h a b) n
    left_first e r = least n a (omega arith) (at_left ∙ e) (good_below a (λ m. absurd (omega arith)) (λ m. absurd (omega arith)) r)

    pub middle_first : anchor_good h.left ≡ true → anchor_good h.middle ≡ false → (b < a → anchor_good h.right ≡ true) → Some (a + 1) ≡ first_bad (puts_within h a b) n
    middle_first l e r =
        least n (a + 1) i (at_middle ∙ e) (good_below (a + 1) (λ m. l) (λ m. absurd (omega arith)) (λ m. r (⊎_elim (λ (g : a ≤ b). absurd (p (omega arith))) (λ (g : b < a). g) (order a b))))

    pub right_last : anchor_good h.left ≡ true → anchor_good h.middle ≡ true → anchor_good h.right ≡ false → Some b ≡ first_bad (puts_within h a b) n
    right_last l c e = least n b j (at_right ∙ e) (good_below b (λ m. l) (λ m. c) (λ m. absurd (omega arith)))

    pub none_first : anchor_good h.left ≡ true → anchor_good h.middle ≡ true → anchor_good h.right ≡ true → None ≡ first_bad (puts_within h a b) n
    none_first l c r = sym ((none_is (puts_within h a b) n).1 (good_below n (λ m. l) (λ m. c) (λ m. r)))

-- ---- indices
-- the end of a segment goes neither to its start nor to the new anchor's place
pub record Apart (n a b : ℕ) : Type 0 where
  pub start : a ≡ shifted a b → ⊥
  pub middle : a + 1 ≡ shifted a b → ⊥
  pub place : shifted a b < n + 1

pub ends_apart : (n a b : ℕ) → b < n → (a ≡ b → ⊥) → Apart n a b
ends_apart n a b l p =
    ⊎_elim
    (λ m. let e = shifted_low a b m in record { start = λ x. p (x ∙ e); middle = λ x. omega arith; place = omega arith })
    (λ m. let e = shifted_high a b m in record { start = λ x. omega arith; middle = λ x. omega arith; place = omega arith })
    (order b a)

-- ---- the path, place by place
module _ (xs : List Float) (n a b : ℕ) (t : Float) where
  abbrev now : Halved
  now = halves (anchor_at xs a) (anchor_at xs b) t

  pub length-split : length (split_places xs n a b t) ≡ n + 1
  unfolding split_places
  length-split = length-tabulate (n + 1) _

  at_place : (k : ℕ) → k < n + 1 → nth (split_places xs n a b t) k ≡ split_anchors (anchor_at xs) a b t k
  unfolding split_places nth
  at_place k l = at_tabulate (without_handles (point nan nan)) (n + 1) _ k l

  -- what is in the limit
  pub split-within : a < n → GoodBelow (anchor_in xs) n → (k : ℕ) → k < n + 1 → outline_in (split_places xs n a b t) k ≡ puts_within now a (shifted a b) k
  unfolding outline_in split_anchors puts_within old
  split-within h g k l = ap anchor_good (at_place k l) ∙ go (eqb k a) (eqb k (a + 1)) (eqb k (shifted a b)) refl
    where
      other : (k ≡ a + 1 → ⊥) → anchor_good (anchor_at xs (old a k)) ≡ true
      other ne =
          ⊎_elim
          (λ m. rw (le-leb k a m) (sym (anchor_good_lem xs k) ∙ g k (omega arith)))
          (λ m. rw (lt-leb k a m) (sym (anchor_good_lem xs (k - 1)) ∙ g (k - 1) (omega arith)))
          (order k a)

      go : (x y z : Bool) → eqb k (a + 1) ≡ y
          → anchor_good (cond x now.left (cond y now.middle (cond z now.right (anchor_at xs (old a k)))))
          ≡ cond x (anchor_good now.left) (cond y (anchor_good now.middle) (cond z (anchor_good now.right) true))
      go true y z e = refl
      go false true z e = refl
      go false false true e = refl
      go false false false e = other (λ f. let w = eq-eqb k (a + 1) f in let v : ◌≡◌ {A = ℕ} 0 1 = cc in omega arith)

  -- ---- the stores
  module _ (p : a ≡ b → ⊥) (la : a < n) (lb : b < n) (room : n * 6 + 6 ≤ length xs) where
    abbrev gap : List Float
    gap = gapped xs (a + 1) n 6

    abbrev one : List Float
    one = put_anchor gap a now.left

    abbrev two : List Float
    two = put_anchor one (a + 1) now.middle

    abbrev pub stored : List Float
    stored = put_anchor two (shifted a b) now.right

    length_one : length one ≡ length xs
    length_one = length-put gap a now.left ∙ length-gap xs (a + 1) n 6

    length_two : length two ≡ length xs
    length_two = length-put one (a + 1) now.middle ∙ length_one

    pub length_stored : length stored ≡ length xs
    length_stored = length-put two (shifted a b) now.right ∙ length_two

    -- a place of the gapped list that no anchor is put to
    kept : (k i : ℕ) → k < n + 1 → i < 6 → (k ≡ a + 1 → ⊥) → entry gap (k * 6 + i) ≡ entry (numbers (anchor_at xs (old a k))) i
    unfolding old
    kept k i l m ne =
        ⊎_elim
        (λ h. rw (le-leb k a h) (gap_below xs (a + 1) n 6 (omega arith) room k i m (omega arith) ∙ sym (read k)))
        (λ h. rw (lt-leb k a h) (gap_above xs (a + 1) n 6 (omega arith) room k i m (omega arith) (omega arith) ∙ sym (read (k - 1))))
        (order k a)
      where
        read : (g : ℕ) → entry (numbers (anchor_at xs g)) i ≡ entry xs (g * 6 + i)
        read g = sym (anchor-number (anchor_at xs) g i m) ∙ numbers_at xs (g * 6 + i)

    -- another place than g
    beside : (k g i : ℕ) → i < 6 → (k ≡ g → ⊥) → (k * 6 + i < g * 6) ⊎ (g * 6 + 6 ≤ k * 6 + i)
    beside k g i m ne = ⊎_elim (λ h. inr (⊎_elim (λ (e : k ≤ g). absurd (ne (omega arith))) (λ (e : g < k). omega arith) (order k g))) (λ h. inl (omega arith)) (order g k)

    pub number : (k i : ℕ) → k < n + 1 → i < 6 → entry stored (k * 6 + i) ≡ entry (numbers (split_anchors (anchor_at xs) a b t k)) i
    unfolding split_anchors
    number k i l m =
        ⊎_elim
        (λ e. let f = sym e in rw (ne_eqb k a (λ x. s.start (sym x ∙ e)), ne_eqb k (a + 1) (λ x. s.middle (sym x ∙ e)), eq-eqb k (shifted a b) e)
        (ap (λ z. entry stored (z * 6 + i)) e ∙ put_in two (shifted a b) now.right (let w = length_two in let v = s.place in omega arith) i m))
        (λ x. put_out two (shifted a b) now.right (k * 6 + i) (beside k (shifted a b) i m x) ∙
        ⊎_elim
        (λ e. rw (ne_eqb k a (λ f. omega arith), eq-eqb k (a + 1) e)
        (ap (λ z. entry two (z * 6 + i)) e ∙ put_in one (a + 1) now.middle (let w = length_one in omega arith) i m))
        (λ y. put_out one (a + 1) now.middle (k * 6 + i) (beside k (a + 1) i m y) ∙
        ⊎_elim
        (λ e. rw (eq-eqb k a e)
        (ap (λ z. entry one (z * 6 + i)) e ∙ put_in gap a now.left (let w = length-gap xs (a + 1) n 6 in omega arith) i m))
        (λ z. rw (ne_eqb k a z, ne_eqb k (a + 1) y, ne_eqb k (shifted a b) x)
        (put_out gap a now.left (k * 6 + i) (beside k a i m z) ∙ kept k i l m y))
        (same k a))
        (same k (a + 1)))
        (same k (shifted a b))
      where
        s : Apart n a b
        s = ends_apart n a b lb p

    pub split_stored : stored ≡ listed (split_places xs n a b t) xs
    unfolding listed anchor_numbers
    split_stored = as_overwrite nan stored xs (length (split_places xs n a b t) * 6) _ length_stored below past
      where
        below : (j : ℕ) → j < length (split_places xs n a b t) * 6 → entry stored j ≡ anchor_numbers (nth (split_places xs n a b t)) j
        below j h =
            let w = length-split in
            let e : j ≡ j / 6 * 6 + j % 6 = omega arith in
            ap (entry stored) e ∙ number (j / 6) (j % 6) (omega arith) (omega arith) ∙ ap (λ c. entry (numbers c) (j % 6)) (sym (at_place (j / 6) (omega arith)))

        past : (j : ℕ) → length (split_places xs n a b t) * 6 ≤ j → entry stored j ≡ entry xs j
        past j h =
            let w = length-split in
            let s = ends_apart n a b lb p in
            let v = s.place in
            put_out two (shifted a b) now.right j (inr (omega arith))
            ∙ put_out one (a + 1) now.middle j (inr (omega arith))
            ∙ put_out gap a now.left j (inr (omega arith))
            ∙ gap_past xs (a + 1) n 6 j (omega arith)
