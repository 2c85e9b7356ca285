-- One place more is searched: where it has no corner the lists stay as they are, else its place and numbers are put after the others'. Assumes nothing.
use mathlib.Core.Path.{◌≡◌, refl, sym, ap, ◌∙◌}
use mathlib.Core.Logic.{inl, ⊎_elim}
use mathlib.Core.Bool.{Bool}
use mathlib.Core.List.{List, [], ◌∷◌, ◌++◌}
use Prim.Native.Nat.{ℕ, zero, suc, ◌+◌, ◌-◌, ◌*◌, ◌/◌, ◌%◌, ◌≤◌, ◌<◌}
use native.Mathlib.Nat.{not-suc-le-zero, add-sub_cancel_left}
use native.Mathlib.Omega.{arith}
use lib.ListN.{length, get_or, set}
use lib.Seq.{length-sets}
use lib.Ieee.{Float, nan}
use borrow.Author.Tests.{lt-ltb, le-ltb}
use Rattle.std.proofs.Common.{Option, Some, None, is_some}
use Rattle.std.specs.Option.{option_map_or}
use Rattle.views.specs.View.{entry}
use Rattle.views.proofs.Laws.{order, fill_more}
use Rattle.views.proofs.Runs.{get_d_sets_out, get_d_sets_in}
use Rattle.real.specs.Operators.{0f}
use Rattle.path.specs.Shape.{count_of, closed_of, word_at, start, sub_of}
use Rattle.corner.specs.declared.corner.Corner.{Corner}
use Rattle.cut.specs.Places.{corner_at}
use Rattle.cut_calls.specs.PlainCut.{sub_at}
use Rattle.cut_calls.proofs.Laying.{sub_of_lem}
use Rattle.corner_calls.specs.Corners.{plain_view, path_corner, chosen, found_below, corner_numbers, numbers_of, put_corner, Holds}
use Rattle.corner_calls.proofs.Chosen.{length_one, before_one, at_one, chosen_more, chosen-same, chosen_most}

-- ---- place start + i of a path is index i of its subpath
sub_at_lem : (shapes : List ℕ) (s i : ℕ) → s < length shapes → i < count_of (word_at shapes s) → sub_of shapes (start shapes s + i) ≡ s
unfolding sub_of
sub_at_lem [] s i l h = absurd (not-suc-le-zero l)
sub_at_lem (w ∷ ws) zero i l h = let e : 0 + i ≡ i = omega arith in rw (e, lt-ltb i (count_of w) h)
sub_at_lem (w ∷ ws) (suc s) i l h =
    let n = count_of w in
    let b = start ws s in
    let e : n + b + i - n ≡ b + i = omega arith in
    rw (le-ltb (n + b + i) n (omega arith), e) (ap suc (sub_at_lem ws s i (omega arith) h))

pub corner_in : (shapes : List ℕ) (anchors : List Float) (s i : ℕ) → s < length shapes → i < count_of (word_at shapes s)
    → path_corner shapes anchors (start shapes s + i) ≡ corner_at (plain_view anchors (sub_at shapes s)) i
unfolding path_corner
corner_in shapes anchors s i l h = rw (sub_at_lem shapes s i l h, add-sub_cancel_left (start shapes s) i)

-- so is that of a subpath that is put together from its word
pub corner-is : (shapes : List ℕ) (anchors : List Float) (s first n : ℕ) (closed : Bool) (i : ℕ) → s < length shapes → first ≡ start shapes s → n ≡ count_of (word_at shapes s) → closed ≡ closed_of (word_at shapes s) → i < n
    → path_corner shapes anchors (first + i) ≡ corner_at (plain_view anchors (record { first = first; n = n; closed = closed })) i
corner-is shapes anchors s first n closed i l e f g h =
    rw (sub_of_lem shapes s first n closed e f g, e) (corner_in shapes anchors s i l (rw (← f) h))

-- ---- a corner's numbers
nine : (c : Corner) → length (corner_numbers c) ≡ 9
unfolding corner_numbers
nine c = refl

pub number-of : (corner : ℕ → Option Corner) (ps : List ℕ) (i q : ℕ) → q < 9 → numbers_of corner ps (i * 9 + q) ≡ option_map_or (λ c. entry (corner_numbers c) q) (corner (get_or ps i 0)) 0f
unfolding numbers_of
number-of corner ps i q h =
    let d : (i * 9 + q) / 9 ≡ i = omega arith in
    let m : (i * 9 + q) % 9 ≡ q = omega arith in
    rw (d, m)

pub length-put : (rows : List Float) (i : ℕ) (c : Corner) → length (put_corner rows i c) ≡ length rows
unfolding put_corner
length-put rows i c = length-sets rows (i * 9) (corner_numbers c)

module _ (corner : ℕ → Option Corner) where
  pub found_most : (k : ℕ) → length (found_below corner k) ≤ k
  unfolding found_below
  found_most k = chosen_most _ k

  found_same : (k : ℕ) → corner k ≡ None → found_below corner (k + 1) ≡ found_below corner k
  unfolding found_below
  found_same k e = chosen-same _ k (ap is_some e)

  found_more : (k : ℕ) (c : Corner) → corner k ≡ Some c → found_below corner (k + 1) ≡ found_below corner k ++ k ∷ []
  unfolding found_below
  found_more k c e = chosen_more _ k (ap is_some e)

  -- a place more behind changes no number of those before
  numbers-before : (ps : List ℕ) (k j : ℕ) → j < length ps * 9 → numbers_of corner ps j ≡ numbers_of corner (ps ++ k ∷ []) j
  unfolding numbers_of
  numbers-before ps k j l = ap (λ z. option_map_or (λ c. entry (corner_numbers c) (j % 9)) (corner z) 0f) (sym (before_one ps k (j / 9) (omega arith)))

  -- ---- before the first place
  pub holds-none : (at : List ℕ) (rows : List Float) → Holds corner 0 at rows 0
  unfolding found_below chosen
  holds-none at rows = record { count = refl; place = λ i l. absurd (not-suc-le-zero l); number = λ j l. absurd (not-suc-le-zero l) }

  module _ (k : ℕ) (at : List ℕ) (rows : List Float) (n : ℕ) (h : Holds corner k at rows n) where
    -- ---- no corner
    pub holds_same : corner k ≡ None → Holds corner (k + 1) at rows n
    holds_same e = let s = found_same k e in record { count = rw s h.count; place = rw s h.place; number = rw s h.number }

    -- ---- a corner
    abbrev before : List ℕ
    before = found_below corner k

    module _ (c : Corner) (e : corner k ≡ Some c) (long : n < length at) (longer : n * 9 + 9 ≤ length rows) where
      place_more : (i : ℕ) → i < n + 1 → get_or (set at n k) i 0 ≡ get_or (found_below corner k ++ k ∷ []) i 0
      place_more =
          fill_more 0 at n k _ long
          (λ i l. h.place i l ∙ sym (before_one before k i (omega (arith, h.count))))
          (sym (at_one before k n h.count))

      number_more : (j : ℕ) → j < (n + 1) * 9 → entry (put_corner rows n c) j ≡ numbers_of corner (found_below corner k ++ k ∷ []) j
      unfolding put_corner
      number_more j l = ⊎_elim (λ m. newest (j - n * 9) (omega arith) (omega arith)) (λ m. older j m) (order (n * 9) j)
        where
          newest : (q : ℕ) → j ≡ n * 9 + q → q < 9 → entry (put_corner rows n c) j ≡ numbers_of corner (found_below corner k ++ k ∷ []) j
          newest q p m =
              rw p
              (get_d_sets_in nan (corner_numbers c) rows (n * 9) q (omega (arith, nine c)) (omega (arith, nine c))
              ∙ sym (number-of corner (before ++ k ∷ []) n q m ∙ rw (at_one before k n h.count, e) refl))

          older : (i : ℕ) → i < n * 9 → entry (put_corner rows n c) i ≡ numbers_of corner (found_below corner k ++ k ∷ []) i
          older i m = get_d_sets_out nan (corner_numbers c) rows (n * 9) i (inl m) ∙ h.number i m ∙ numbers-before before k i (omega (arith, h.count))

      pub holds_more : Holds corner (k + 1) (set at n k) (put_corner rows n c) (n + 1)
      holds_more = record {
        count = let m = h.count in rw (found_more k c e) (omega (arith, length_one before k));
        place = rw (found_more k c e) place_more;
        number = rw (found_more k c e) number_more;
      }
