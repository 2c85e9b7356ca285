-- One subpath more is laid by a recut that covers it: the places before it stay. Assumes nothing.
use mathlib.Core.Path.{◌≡◌, refl, ◌∙◌}
use mathlib.Core.Logic.{⊎_elim}
use mathlib.Core.Bool.{Bool, false}
use mathlib.Core.List.{List}
use Prim.Native.Nat.{ℕ, zero, suc, ◌+◌, ◌*◌, ◌/◌, ◌≤◌, ◌<◌, zero-le}
use native.Mathlib.Nat.{not-suc-le-zero, le_refl}
use native.Mathlib.Numerals.{add-one}
use native.Mathlib.Omega.{arith}
use lib.Arith.{lt_of_le-ne}
use lib.ListN.{length, get_or}
use lib.Ieee.{Float, nan}
use borrow.Author.Tests.{lt-leb}
use Rattle.views.specs.View.{entry}
use Rattle.views.proofs.Laws.{same, length-tabulate, at_tabulate}
use Rattle.path.specs.Flat.{anchor_at}
use Rattle.path.specs.Shape.{count_of, closed_of, word_at, start}
use Rattle.path.proofs.Shapes.{total-next}
use Rattle.corner.specs.declared.kind.CornerKind.{CornerKind}
use Rattle.cut.specs.declared.subpath.Sub.{Sub}
use Rattle.cut.specs.View.{View}
use Rattle.cut.specs.Subpath.{view_of}
use Rattle.cut.specs.Recut.{reached, recut_numbers, recut_flags}
use Rattle.cut.proofs.Whole.{whole_place, whole_flag}
use Rattle.cut_calls.specs.PlainCut.{sub_at, view_at, LaidUpTo}

-- ---- a recut leaves what stands before the subpath
module _ (v : View) (first reach at : ℕ) where
  unreached : (k : ℕ) → k < first → reached v first reach at k ≡ false
  unfolding reached
  unreached k h = rw (lt-leb first k h)

  number-before : (xs : List Float) (j : ℕ) → j < length xs → j / 12 < first → entry (recut_numbers v first reach at xs) j ≡ entry xs j
  unfolding recut_numbers
  number-before xs j l h = at_tabulate nan (length xs) _ j l ∙ rw (unreached (j / 12) h)

  flag_before : (fs : List ℕ) (k : ℕ) → k < length fs → k < first → get_or (recut_flags v first reach at fs) k 0 ≡ get_or fs k 0
  unfolding recut_flags
  flag_before fs k l h = at_tabulate 0 (length fs) _ k l ∙ rw (unreached k h)

  pub length-numbers : (xs : List Float) → length (recut_numbers v first reach at xs) ≡ length xs
  unfolding recut_numbers
  length-numbers xs = length-tabulate _ _

  pub length_flags : (fs : List ℕ) → length (recut_flags v first reach at fs) ≡ length fs
  unfolding recut_flags
  length_flags fs = length-tabulate _ _

-- ---- an earlier subpath ends where a later one starts, or before
starts_apart : (shapes : List ℕ) (s m : ℕ) → s < m → m ≤ length shapes → start shapes s + count_of (word_at shapes s) ≤ start shapes m
starts_apart shapes s zero l h = absurd (not-suc-le-zero l)
starts_apart shapes s (suc m) l h =
    let e : start shapes (suc m) ≡ start shapes m + count_of (word_at shapes m) = rw add-one at (total-next shapes m (omega arith)) in
    ⊎_elim
    (λ (p : s ≡ m). rw p (omega arith))
    (λ (ne : s ≡ m → ⊥). let b = starts_apart shapes s m (lt_of_le-ne (omega arith) ne) (omega arith) in omega arith)
    (same s m)

-- ---- subpath s by its three fields
pub sub_of_lem : (shapes : List ℕ) (s first n : ℕ) (closed : Bool) → first ≡ start shapes s → n ≡ count_of (word_at shapes s) → closed ≡ closed_of (word_at shapes s)
    → record { first = first; n = n; closed = closed } ≡ sub_at shapes s
unfolding sub_at
sub_of_lem shapes s first n closed e f g = rw (e, f, g)

module _ (shapes : List ℕ) (anchors radii : List Float) (kind : CornerKind) where
  -- ---- a view has its word's count
  pub size_at : (s : ℕ) → (view_at shapes anchors radii kind s).n ≡ count_of (word_at shapes s)
  unfolding view_at view_of sub_at
  size_at s = refl

  -- ---- one subpath more
  module _ (m : ℕ) (inside : m < length shapes) (numbers : List Float) (flags : List ℕ) where
    abbrev v : View
    v = view_at shapes anchors radii kind m

    abbrev first : ℕ
    first = start shapes m

    laid_next : (first + v.n) * 12 ≤ length numbers → first + v.n ≤ length flags → LaidUpTo shapes (view_at shapes anchors radii kind) m numbers flags
        → LaidUpTo shapes (view_at shapes anchors radii kind) (m + 1) (recut_numbers v first v.n 0 numbers) (recut_flags v first v.n 0 flags)
    laid_next long longer laid = record {
      number = λ s i q l h w. ⊎_elim
          (λ (e : s ≡ m). rw e (whole_place v first v.n 0 i (rw e at h) zero-le (le_refl v.n) numbers long q w))
          (λ (ne : s ≡ m → ⊥). let b = before s i (lt_of_le-ne (omega arith) ne) h in number-before v first v.n 0 numbers ((start shapes s + i) * 12 + q) (omega arith) (omega arith) ∙ laid.number s i q (lt_of_le-ne (omega arith) ne) h w)
          (same s m);
      flag = λ s i l h. ⊎_elim
          (λ (e : s ≡ m). rw e (whole_flag v first v.n 0 i (rw e at h) zero-le (le_refl v.n) flags longer))
          (λ (ne : s ≡ m → ⊥). let b = before s i (lt_of_le-ne (omega arith) ne) h in flag_before v first v.n 0 flags (start shapes s + i) (omega arith) b ∙ laid.flag s i (lt_of_le-ne (omega arith) ne) h)
          (same s m);
    }
      where
        before : (s i : ℕ) → s < m → i < (view_at shapes anchors radii kind s).n → start shapes s + i < first
        before s i l h = omega (arith, starts_apart shapes s m l (omega arith), size_at s)

    -- the recut of the subpath that a loop holds
    pub laid_more : (sub : Sub) (numbers' : List Float) (flags' : List ℕ) → sub ≡ sub_at shapes m
        → (start shapes m + count_of (word_at shapes m)) * 12 ≤ length numbers → start shapes m + count_of (word_at shapes m) ≤ length flags
        → LaidUpTo shapes (view_at shapes anchors radii kind) m numbers flags
        → numbers' ≡ recut_numbers (view_of (anchor_at anchors) (entry radii) (λ k. kind) 128 sub) sub.first sub.n 0 numbers
        → flags' ≡ recut_flags (view_of (anchor_at anchors) (entry radii) (λ k. kind) 128 sub) sub.first sub.n 0 flags
        → LaidUpTo shapes (view_at shapes anchors radii kind) (m + 1) numbers' flags'
    unfolding view_at view_of sub_at
    laid_more sub numbers' flags' e long longer laid p q = rw (p, q, e) (laid_next long longer laid)
