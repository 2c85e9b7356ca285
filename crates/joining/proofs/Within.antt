-- The limit on the anchors of a join: those that were given keep it, so the joint alone can break it. Assumes nothing.
use mathlib.Core.Path.{◌≡◌, refl, sym, ap, ◌∙◌}
use mathlib.Core.Logic.{⊎_elim}
use mathlib.Core.Bool.{Bool, true, false, ◌&&◌}
use mathlib.Core.List.{List, ◌∷◌, ◌++◌}
use Prim.Native.Nat.{ℕ, suc, ◌+◌, ◌-◌, ◌≤◌, ◌<◌}
use native.Mathlib.Omega.{arith}
use lib.ListN.{length, length-append, get_or-append}
use lib.Seq.{get_or-append_seam, get_or-append-add}
use lib.Ieee.{Float}
use borrow.Author.Tests.{lt-ltb, le-leb}
use Rattle.views.specs.View.{tabulate}
use Rattle.views.proofs.Laws.{order, same, length-tabulate, at_tabulate}
use Rattle.geom.specs.Point.{point_in}
use Rattle.path.specs.declared.anchor.Anchor.{Anchor}
use Rattle.path.specs.Flat.{anchor_at, nth}
use Rattle.path.specs.Limit.{anchor_good, anchor_in}
use Rattle.path.proofs.Limits.{GoodBelow, Least}
use Rattle.path.proofs.Anchors.{good_points, anchor_good_lem}
use Rattle.call.specs.Tests.{outline_in}
use Rattle.edit.specs.Reversed.{turned, reversed_anchors}
use Rattle.joining.specs.Joined.{target_at, target_rest, joint_of, joined_anchors}

-- ---- the target's anchors
pub reversed_at : (f : ℕ → Anchor) (n k : ℕ) → k < n → reversed_anchors f 0 n k ≡ turned (f (n - 1 - k))
unfolding reversed_anchors
reversed_at f n k l =
    let e : 0 + (0 + n - 1 - k) ≡ n - 1 - k = omega arith in
    rw (le-leb 0 k (omega arith), lt-ltb k (0 + n) (omega arith), e)

turned_good : (a : Anchor) → anchor_good (turned a) ≡ anchor_good a
unfolding turned
turned_good a = good_points (turned a) ∙ go (point_in a.p) (point_in a.h_in) (point_in a.h_out) ∙ sym (good_points a)
  where
    go : (p i o : Bool) → (p && (o && i)) ≡ (p && (i && o))
    go false i o = refl
    go true true true = refl
    go true true false = refl
    go true false true = refl
    go true false false = refl

target_good : (target : List Float) (n : ℕ) (at_start : Bool) (k : ℕ) → GoodBelow (anchor_in target) n → k < n → anchor_good (target_at target n at_start k) ≡ true
unfolding target_at
target_good target n true k g l = sym (anchor_good_lem target k) ∙ g k l
target_good target n false k g l =
    ap anchor_good (reversed_at (anchor_at target) n k l) ∙ turned_good (anchor_at target (n - 1 - k)) ∙ sym (anchor_good_lem target (n - 1 - k)) ∙ g (n - 1 - k) (omega arith)

-- ---- one anchor between two lists that keep the limit
module _ (xs ys : List Anchor) (a : Anchor) where
  abbrev all : List Anchor
  all = xs ++ (a ∷ ys)

  at_seam : outline_in all (length xs) ≡ anchor_good a
  unfolding outline_in nth
  at_seam = ap anchor_good (get_or-append_seam xs a ys _)

  module _ (before : GoodBelow (λ k. anchor_good (nth xs k)) (length xs)) (after : GoodBelow (λ k. anchor_good (nth ys k)) (length ys)) where
    left_in : (k : ℕ) → k < length xs → outline_in all k ≡ true
    unfolding outline_in nth
    left_in k l = ap anchor_good (get_or-append xs (a ∷ ys) _ k l) ∙ before k l

    right_in : (k : ℕ) → k < length ys → outline_in all (length xs + suc k) ≡ true
    unfolding outline_in nth
    right_in k l = ap anchor_good (get_or-append-add xs (a ∷ ys) (suc k) _) ∙ after k l

    pub seam_out : anchor_good a ≡ false → Least (outline_in all) (length all) (length xs)
    seam_out e = record { place = let n = length-append xs (a ∷ ys) in omega arith; bad = at_seam ∙ e; below = left_in }

    pub seam_in : anchor_good a ≡ true → GoodBelow (outline_in all) (length all)
    seam_in e k l =
        ⊎_elim
        (λ (h : k ≡ length xs). ap (outline_in all) h ∙ at_seam ∙ e)
        (λ ne. ⊎_elim
        (λ (h : length xs ≤ k).
        let n = length-append xs (a ∷ ys) in
        let i : length xs + suc (k - length xs - 1) ≡ k = omega arith in
        ap (outline_in all) (sym i) ∙ right_in (k - length xs - 1) (omega arith))
        (λ (h : k < length xs). left_in k h)
        (order (length xs) k))
        (same k (length xs))

-- ---- the join
pub length_rest : (target : List Float) (n : ℕ) (at_start : Bool) → length (target_rest target n at_start) ≡ n - 1
unfolding target_rest
length_rest target n at_start = length-tabulate (n - 1) _

module _ (drawn : List Float) (count : ℕ) (target : List Float) (n : ℕ) (at_start : Bool) where
  abbrev joint : Anchor
  joint = joint_of drawn count (target_at target n at_start 0)

  pub length-joined : 0 < n → length (joined_anchors drawn count target n at_start) ≡ count - 1 + n
  unfolding joined_anchors
  length-joined h =
      let d = length-tabulate (count - 1) (anchor_at drawn) in
      let r = length_rest target n at_start in
      let l = length-append (tabulate (count - 1) (anchor_at drawn)) (joint ∷ target_rest target n at_start) in
      omega arith

  module _ (g : GoodBelow (anchor_in drawn) count) (h : GoodBelow (anchor_in target) n) where
    drawn_in : GoodBelow (λ k. anchor_good (nth (tabulate (count - 1) (anchor_at drawn)) k)) (length (tabulate (count - 1) (anchor_at drawn)))
    unfolding nth
    drawn_in k l =
        let d = length-tabulate (count - 1) (anchor_at drawn) in
        ap anchor_good (at_tabulate _ (count - 1) (anchor_at drawn) k (omega arith)) ∙ sym (anchor_good_lem drawn k) ∙ g k (omega arith)

    rest_in : GoodBelow (λ k. anchor_good (nth (target_rest target n at_start) k)) (length (target_rest target n at_start))
    unfolding nth target_rest
    rest_in k l =
        let d = length-tabulate (n - 1) (λ i. target_at target n at_start (i + 1)) in
        ap anchor_good (at_tabulate _ (n - 1) (λ i. target_at target n at_start (i + 1)) k (omega arith)) ∙ target_good target n at_start (k + 1) h (omega arith)

    pub joint_out : anchor_good joint ≡ false → Least (outline_in (joined_anchors drawn count target n at_start)) (length (joined_anchors drawn count target n at_start)) (count - 1)
    unfolding joined_anchors
    joint_out e =
        rw (length-tabulate (count - 1) (anchor_at drawn)) at (seam_out (tabulate (count - 1) (anchor_at drawn)) (target_rest target n at_start) joint drawn_in rest_in e)

    pub joint_in : anchor_good joint ≡ true → GoodBelow (outline_in (joined_anchors drawn count target n at_start)) (length (joined_anchors drawn count target n at_start))
    unfolding joined_anchors
    joint_in e = seam_in (tabulate (count - 1) (anchor_at drawn)) (target_rest target n at_start) joint drawn_in rest_in e
