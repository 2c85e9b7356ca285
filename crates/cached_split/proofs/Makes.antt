-- The lists that a split makes: the drawing in place, and the cache shifted. Assumes nothing.
use mathlib.Core.Path.{◌≡◌, sym, ap, ◌∙◌}
use mathlib.Core.Logic.{⊎_elim}
use mathlib.Core.List.{List}
use Prim.Native.Nat.{ℕ, ◌+◌, ◌-◌, ◌*◌, ◌/◌, ◌%◌, ◌≤◌, ◌<◌}
use native.Mathlib.Omega.{arith}
use lib.ListN.{length, get_or, set, length-set}
use lib.Seq.{get_or-set_same, get_or-set_other}
use lib.Ieee.{Float, nan}
use Rattle.std.specs.List.{CopiedTo, SameBelow, SameFrom}
use borrow.Author.Tests.{eq-eqb, ne_eqb}
use Rattle.views.specs.View.{entry, overwrite}
use Rattle.views.proofs.Laws.{order, same, length-overwrite, at_overwrite, past_overwrite, as_overwrite}
use Rattle.real.specs.Operators.{0f}
use Rattle.path.specs.Flat.{anchor_at, anchor_numbers, put_anchor, listed}
use Rattle.cut.specs.Near.{old}
use Rattle.cut.proofs.Shifts.{old_low, old_high}
use Rattle.edit.specs.declared.splitting.Halved.{Halved}
use Rattle.edit.specs.Gap.{gapped}
use Rattle.edit.specs.Split.{halves, shifted, split_anchors, split_places}
use Rattle.edit.proofs.Gaps.{length-gap, gap_past, gap_below, gap_above}
use Rattle.edit.proofs.Splits.{length-split, stored, length_stored, number, split_stored}
use Rattle.session.specs.Edits.{split_radii}
use Rattle.cached_split.specs.Splitting.{shifted_flags}

-- ---- a gap after group a of n leaves in each group what stood there
module _ (xs : List Float) (a n w : ℕ) (la : a < n) (room : n * w + w ≤ length xs) where
  pub gap-stood : (g i : ℕ) → i < w → g ≤ n → entry (gapped xs a n w) (g * w + i) ≡ entry xs (old a g * w + i)
  gap-stood g i l h =
      ⊎_elim
      (λ (m : g ≤ a). rw (old_low a g m) (gap_below xs a n w (omega arith) room g i l m))
      (λ (m : a < g). rw (old_high a g m) (gap_above xs a n w (omega arith) room g i l m h))
      (order g a)

-- ---- anchors, in place
module _ (xs : List Float) (n a b : ℕ) (t : Float) (la : a < n) (lb : b < n) (p : a ≡ b → ⊥) where
  module _ (long : n * 6 + 6 ≤ length xs) where
    abbrev put : List Float
    put = stored xs n a b t p la lb long

    put_in : (j : ℕ) → j < (n + 1) * 6 → entry put j ≡ anchor_numbers (split_anchors (anchor_at xs) a b t) j
    unfolding anchor_numbers
    put_in j l =
        let e : j ≡ j / 6 * 6 + j % 6 = omega arith in
        ap (entry put) e ∙ number xs n a b t p la lb long (j / 6) (j % 6) (omega arith) (omega arith)

    put_past : (j : ℕ) → (n + 1) * 6 ≤ j → entry put j ≡ entry xs j
    unfolding listed
    put_past j l =
        let w = length-split xs n a b t in
        ap (λ q. entry q j) (split_stored xs n a b t p la lb long) ∙ past_overwrite nan (length (split_places xs n a b t) * 6) _ xs j (omega arith)

    pub anchors_put : (h : Halved) → h ≡ halves (anchor_at xs a) (anchor_at xs b) t
        → put_anchor (put_anchor (put_anchor (gapped xs (a + 1) n 6) a h.left) (a + 1) h.middle) (shifted a b) h.right
        ≡ overwrite ((n + 1) * 6) (anchor_numbers (split_anchors (anchor_at xs) a b t)) xs
    anchors_put h e =
        ap (λ h. put_anchor (put_anchor (put_anchor (gapped xs (a + 1) n 6) a h.left) (a + 1) h.middle) (shifted a b) h.right) e
        ∙ as_overwrite nan put xs ((n + 1) * 6) _ (length_stored xs n a b t p la lb long) put_in put_past

-- ---- radii, in place
module _ (xs : List Float) (n a : ℕ) (la : a < n) where
  module _ (long : n + 1 ≤ length xs) where
    abbrev gap : List Float
    gap = gapped xs a n 1

    shifted-radius : (k : ℕ) → k < n + 1 → entry gap k ≡ entry xs (old a k)
    shifted-radius k l =
        let u : k ≡ k * 1 + 0 = omega arith in
        let v : old a k * 1 + 0 ≡ old a k = omega arith in
        ap (entry gap) u ∙ gap-stood xs a n 1 la (omega arith) k 0 (omega arith) (omega arith) ∙ ap (entry xs) v

    radius_in : (k : ℕ) → k < n + 1 → entry (set gap (a + 1) 0f) k ≡ split_radii (entry xs) a k
    unfolding split_radii
    radius_in k l =
        let e = length-gap xs a n 1 in
        ⊎_elim
        (λ (m : k ≡ a + 1). rw (eq-eqb k (a + 1) m) (ap (entry (set gap (a + 1) 0f)) m ∙ get_or-set_same gap (a + 1) 0f nan (omega arith)))
        (λ (ne : k ≡ a + 1 → ⊥). rw (ne_eqb k (a + 1) ne) (get_or-set_other gap (a + 1) k 0f nan ne ∙ shifted-radius k l))
        (same k (a + 1))

    radius_past : (k : ℕ) → n + 1 ≤ k → entry (set gap (a + 1) 0f) k ≡ entry xs k
    radius_past k l = get_or-set_other gap (a + 1) k 0f nan (λ e. omega arith) ∙ gap_past xs a n 1 k (omega arith)

    pub radii_put : set (gapped xs a n 1) (a + 1) 0f ≡ overwrite (n + 1) (split_radii (entry xs) a) xs
    radii_put = as_overwrite nan (set gap (a + 1) 0f) xs (n + 1) (split_radii (entry xs) a) (length-set gap (a + 1) 0f ∙ length-gap xs a n 1) radius_in radius_past

-- ---- flags: what the copy leaves
pub flags_copied : (fs gs : List ℕ) (a n : ℕ) → a ≤ n → n < length fs → length gs ≡ length fs
    → CopiedTo fs gs a (a + 1) (n - a) → SameBelow fs gs (a + 1) → SameFrom fs gs (a + 1 + (n - a)) → gs ≡ shifted_flags fs a n
unfolding shifted_flags
flags_copied fs gs a n l room len copied low high =
    as_overwrite 0 gs fs (n + 1) (λ k. get_or fs (old a k) 0) len
    (λ j h. ⊎_elim
    (λ (m : a + 1 ≤ j). let e : a + (j - (a + 1)) ≡ j - 1 = omega arith in copied j 0 m (omega arith) ∙ ap (λ z. get_or fs z 0) (e ∙ sym (old_high a j (omega arith))))
    (λ (m : j < a + 1). low j 0 m ∙ ap (λ z. get_or fs z 0) (sym (old_low a j (omega arith))))
    (order (a + 1) j))
    (λ j h. high j 0 (omega arith))

pub length-shifted : (fs : List ℕ) (a n : ℕ) → length (shifted_flags fs a n) ≡ length fs
unfolding shifted_flags
length-shifted fs a n = length-overwrite (n + 1) _ fs

pub flags_stood : (fs : List ℕ) (a n k : ℕ) → n < length fs → k < n + 1 → get_or (shifted_flags fs a n) k 0 ≡ get_or fs (old a k) 0
unfolding shifted_flags
flags_stood fs a n k h l = at_overwrite 0 (n + 1) _ fs k l (omega arith)

pub flags_past : (fs : List ℕ) (a n k : ℕ) → n + 1 ≤ k → get_or (shifted_flags fs a n) k 0 ≡ get_or fs k 0
unfolding shifted_flags
flags_past fs a n k h = past_overwrite 0 (n + 1) _ fs k h
