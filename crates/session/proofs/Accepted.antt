-- For the proofs of the code: the five lists of an accepted move, radius and split, each as its functions leave it. Assumes nothing.
use mathlib.Core.Path.{◌≡◌, refl, ap}
use mathlib.Core.Bool.{true}
use mathlib.Core.List.{List}
use Prim.Native.Nat.{ℕ, ◌+◌, ◌*◌, ◌/◌, ◌%◌, ◌≤◌, ◌<◌}
use native.Mathlib.Omega.{arith}
use lib.ListN.{length, get_or, set}
use lib.Ieee.{Float}
use Rattle.views.specs.View.{entry, overwrite}
use Rattle.path.specs.declared.anchor.Anchor.{Anchor}
use Rattle.path.specs.Shape.{count_of, closed_of, total, word_at, start, is_segment}
use Rattle.path.specs.Flat.{anchor_at, anchor_numbers, put_anchor}
use Rattle.path.proofs.Shapes.{total_in}
use Rattle.cut.specs.View.{View}
use Rattle.cut.specs.Near.{old}
use Rattle.cut.specs.Recut.{recut_numbers, recut_flags}
use Rattle.session.specs.Drawing.{Lent, drawn, view_in}
use Rattle.edit.specs.Split.{split_anchors, split_shapes}
use Rattle.session.specs.Edits.{move, set_radius, split, Edit, moved, resized, segment_start, segment_end, split_radii, split_at, edit_of}
use Rattle.session.specs.Calls.{edited_lists}
use Rattle.session.proofs.Splits.{Like, split-start, split-length}
use Rattle.session.proofs.Recutting.{recut-numbers, recut_flags_lem, move_anchors, move_radii, radius_anchors, radius_radii}

module _ (l : Lent) (kind s i : ℕ) (there : s < length l.shapes) (inside : i < count_of (word_at l.shapes s)) where
  abbrev first : ℕ
  first = start l.shapes s

  abbrev n : ℕ
  n = total l.shapes

  -- ---- move
  module _ (new : Anchor) where
    abbrev move_edit : Edit
    move_edit = edit_of (drawn l kind) (move s i new)

    pub move_shapes_left : l.shapes ≡ (edited_lists l (edit_of (drawn l kind) (move s i new))).shapes
    unfolding edited_lists edit_of moved drawn
    move_shapes_left = refl

    pub move_anchors_left : n * 6 ≤ length l.anchors → put_anchor l.anchors (first + i) new ≡ (edited_lists l (edit_of (drawn l kind) (move s i new))).anchors
    unfolding edited_lists edit_of moved drawn
    move_anchors_left long = move_anchors l.anchors n (first + i) new (omega (arith, total_in l.shapes s there)) long

    pub move_radii_left : l.radii ≡ (edited_lists l (edit_of (drawn l kind) (move s i new))).radii
    unfolding edited_lists edit_of moved drawn
    move_radii_left = move_radii l.radii n

    module _ (w : View) (like : Like (view_in (moved (drawn l kind) (first + i) new) s) w) where
      pub move_numbers-left : n * 12 ≤ length l.numbers → recut_numbers w first 3 i l.numbers ≡ (edited_lists l (edit_of (drawn l kind) (move s i new))).numbers
      unfolding edited_lists edit_of moved drawn
      move_numbers-left long = recut-numbers move_edit s first 3 i there refl (λ k. refl) w like l.numbers l.numbers long refl (λ j h. ap (entry l.numbers) (omega arith)) (λ j h. refl)

      pub move_flags_left : n ≤ length l.flags → recut_flags w first 3 i l.flags ≡ (edited_lists l (edit_of (drawn l kind) (move s i new))).flags
      unfolding edited_lists edit_of moved drawn
      move_flags_left long = recut_flags_lem move_edit s first 3 i there refl (λ k. refl) w like l.flags l.flags long refl (λ k h. refl) (λ k h. refl)

  -- ---- set a radius
  module _ (r : Float) where
    abbrev radius_edit : Edit
    radius_edit = edit_of (drawn l kind) (set_radius s i r)

    pub radius_shapes_left : l.shapes ≡ (edited_lists l (edit_of (drawn l kind) (set_radius s i r))).shapes
    unfolding edited_lists edit_of resized drawn
    radius_shapes_left = refl

    pub radius_anchors_left : l.anchors ≡ (edited_lists l (edit_of (drawn l kind) (set_radius s i r))).anchors
    unfolding edited_lists edit_of resized drawn
    radius_anchors_left = radius_anchors l.anchors n

    pub radius_radii_left : n ≤ length l.radii → set l.radii (first + i) r ≡ (edited_lists l (edit_of (drawn l kind) (set_radius s i r))).radii
    unfolding edited_lists edit_of resized drawn
    radius_radii_left long = radius_radii l.radii n (first + i) r (omega (arith, total_in l.shapes s there)) long

    module _ (w : View) (like : Like (view_in (resized (drawn l kind) (first + i) r) s) w) where
      pub radius-numbers-left : n * 12 ≤ length l.numbers → recut_numbers w first 2 i l.numbers ≡ (edited_lists l (edit_of (drawn l kind) (set_radius s i r))).numbers
      unfolding edited_lists edit_of resized drawn
      radius-numbers-left long = recut-numbers radius_edit s first 2 i there refl (λ k. refl) w like l.numbers l.numbers long refl (λ j h. ap (entry l.numbers) (omega arith)) (λ j h. refl)

      pub radius_flags_left : n ≤ length l.flags → recut_flags w first 2 i l.flags ≡ (edited_lists l (edit_of (drawn l kind) (set_radius s i r))).flags
      unfolding edited_lists edit_of resized drawn
      radius_flags_left long = recut_flags_lem radius_edit s first 2 i there refl (λ k. refl) w like l.flags l.flags long refl (λ k h. refl) (λ k h. refl)

-- ---- split: the cache's lists are shifted first, from the new place on
module _ (l : Lent) (kind s a : ℕ) (t : Float) (there : s < length l.shapes)
    (seg : is_segment (count_of (word_at l.shapes s)) (closed_of (word_at l.shapes s)) a ≡ true) (small : count_of (word_at l.shapes s) ≤ 512) where
  abbrev at : ℕ
  at = start l.shapes s + a

  abbrev after : ℕ
  after = total (split_shapes l.shapes s)

  abbrev split_edit : Edit
  split_edit = edit_of (drawn l kind) (split s a t)

  pub split_shapes_left_lem : set l.shapes s (word_at l.shapes s + 1) ≡ (edited_lists l (edit_of (drawn l kind) (split s a t))).shapes
  unfolding edited_lists edit_of split_at drawn split_shapes
  split_shapes_left_lem = refl

  made_there : s < length (split_shapes l.shapes s)
  unfolding drawn
  made_there = omega (arith, split-length l.shapes s a there seg small)

  made-start : start (split_shapes l.shapes s) s ≡ start l.shapes s
  unfolding drawn
  made-start = split-start l.shapes s a there seg small

  module _ (w : View) (like : Like (view_in (split_at (drawn l kind) s a t) s) w) where
    pub split-numbers-left : (shifted : List Float) → after * 12 ≤ length l.numbers → length shifted ≡ length l.numbers
        → ((j : ℕ) → j < after * 12 → entry shifted j ≡ entry l.numbers (old at (j / 12) * 12 + j % 12)) → ((j : ℕ) → after * 12 ≤ j → entry shifted j ≡ entry l.numbers j)
        → recut_numbers w (start l.shapes s) 4 (a + 1) shifted ≡ (edited_lists l (edit_of (drawn l kind) (split s a t))).numbers
    unfolding edited_lists edit_of segment_start split_at drawn
    split-numbers-left shifted long size stood rest = recut-numbers split_edit s (start l.shapes s) 4 (a + 1) made_there made-start (λ k. refl) w like l.numbers shifted long size stood rest

    pub split_flags_left : (shifted : List ℕ) → after ≤ length l.flags → length shifted ≡ length l.flags
        → ((k : ℕ) → k < after → get_or shifted k 0 ≡ get_or l.flags (old at k) 0) → ((k : ℕ) → after ≤ k → get_or shifted k 0 ≡ get_or l.flags k 0)
        → recut_flags w (start l.shapes s) 4 (a + 1) shifted ≡ (edited_lists l (edit_of (drawn l kind) (split s a t))).flags
    unfolding edited_lists edit_of segment_start split_at drawn
    split_flags_left shifted long size stood rest = recut_flags_lem split_edit s (start l.shapes s) 4 (a + 1) made_there made-start (λ k. refl) w like l.flags shifted long size stood rest

  -- anchors and radii by place
  pub split_anchors_left_lem : overwrite (after * 6) (anchor_numbers (split_anchors (anchor_at l.anchors) (segment_start l.shapes s a) (segment_end l.shapes s a) t)) l.anchors
      ≡ (edited_lists l (edit_of (drawn l kind) (split s a t))).anchors
  unfolding edited_lists edit_of split_at drawn
  split_anchors_left_lem = refl

  pub split_radii_left : overwrite after (split_radii (entry l.radii) (segment_start l.shapes s a)) l.radii ≡ (edited_lists l (edit_of (drawn l kind) (split s a t))).radii
  unfolding edited_lists edit_of split_at drawn
  split_radii_left = refl
