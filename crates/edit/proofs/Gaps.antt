-- Laws of a gap: what the copy leaves, and what then stands in each group. Assumes nothing.
use mathlib.Core.Path.{◌≡◌, sym, ap, ◌∙◌}
use mathlib.Core.Logic.{⊎_elim}
use mathlib.Core.List.{List}
use Prim.Native.Nat.{ℕ, suc, ◌+◌, ◌-◌, ◌*◌, ◌≤◌, ◌<◌}
use native.Mathlib.Nat.{mul-le-mul_right, suc-mul}
use native.Mathlib.Omega.{arith}
use lib.ListN.{length}
use Rattle.std.specs.List.{CopiedTo, SameBelow, SameFrom}
use lib.Ieee.{Float, nan}
use borrow.Author.Tests.{lt-ltb, le-ltb}
use Rattle.views.specs.View.{entry}
use Rattle.views.proofs.Laws.{order, as_overwrite, length-overwrite, at_overwrite, past_overwrite}
use Rattle.edit.specs.Gap.{shifted_at, moved, gapped}

module _ (xs : List Float) (lo by j : ℕ) where
  pub below : j < lo + by → shifted_at xs lo by j ≡ entry xs j
  unfolding shifted_at
  below h = rw (lt-ltb j (lo + by) h)

  pub above : lo + by ≤ j → shifted_at xs lo by j ≡ entry xs (j - by)
  unfolding shifted_at
  above h = rw (le-ltb j (lo + by) h)

-- ---- what `copy_within` leaves
pub copied_up : (xs ys : List Float) (lo hi by : ℕ) → lo ≤ hi → hi + by ≤ length xs → length ys ≡ length xs
    → CopiedTo xs ys lo (lo + by) (hi - lo) → SameBelow xs ys (lo + by) → SameFrom xs ys (lo + by + (hi - lo)) → ys ≡ moved xs lo hi by
unfolding moved
copied_up xs ys lo hi by l room len copied low high =
    as_overwrite nan ys xs (hi + by) (shifted_at xs lo by) len
    (λ j h. ⊎_elim
    (λ m. let e : lo + (j - (lo + by)) ≡ j - by = omega arith in copied j nan m (omega arith) ∙ ap (entry xs) e ∙ sym (above xs lo by j m))
    (λ m. low j nan m ∙ sym (below xs lo by j m))
    (order (lo + by) j))
    (λ j h. high j nan (omega arith))

-- ---- the gap, group by group: number i of group g, of groups of w
pub length-gap : (xs : List Float) (from count w : ℕ) → length (gapped xs from count w) ≡ length xs
unfolding gapped moved
length-gap xs from count w = length-overwrite _ _ xs

pub gap_past : (xs : List Float) (from count w j : ℕ) → count * w + w ≤ j → entry (gapped xs from count w) j ≡ entry xs j
unfolding gapped moved
gap_past xs from count w j h = past_overwrite nan _ _ xs j h

module _ (xs : List Float) (from count w : ℕ) (f : from ≤ count) (room : count * w + w ≤ length xs) (g i : ℕ) (l : i < w) where
  at_gap : g * w + i < count * w + w → entry (gapped xs from count w) (g * w + i) ≡ shifted_at xs (from * w) w (g * w + i)
  unfolding gapped moved
  at_gap h = at_overwrite nan _ _ xs (g * w + i) h (omega arith)

  -- up to group `from` it is as it was
  pub gap_below : g ≤ from → entry (gapped xs from count w) (g * w + i) ≡ entry xs (g * w + i)
  gap_below h =
      let a = mul-le-mul_right w h in
      let b = mul-le-mul_right w f in
      at_gap (omega arith) ∙ below xs (from * w) w (g * w + i) (omega arith)

  -- after it each group is the one before
  pub gap_above : from < g → g ≤ count → entry (gapped xs from count w) (g * w + i) ≡ entry xs ((g - 1) * w + i)
  gap_above h k =
      let a = rw suc-mul at (mul-le-mul_right w h) in
      let b = mul-le-mul_right w k in
      let e : g ≡ suc (g - 1) = omega arith in
      let m : g * w ≡ (g - 1) * w + w = ap (λ z. z * w) e ∙ suc-mul (g - 1) w in
      let n : g * w + i - w ≡ (g - 1) * w + i = omega arith in
      at_gap (omega arith) ∙ above xs (from * w) w (g * w + i) (omega arith) ∙ ap (entry xs) n
