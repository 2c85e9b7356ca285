-- What a shape's call answers and leaves: where its arguments are refused, and what is tested after them. Assumes nothing.
use mathlib.Core.Path.{◌≡◌, refl, sym, ap, ◌∙◌}
use mathlib.Core.Bool.{Bool, true, false}
use mathlib.Core.List.{List, [], ◌∷◌}
use native.Mathlib.Nat.{not-suc-le-zero}
use native.Mathlib.Omega.{arith}
use Rattle.std.proofs.Common.{Err}
use Rattle.std.proofs.lemmas.List.{take_more, length-take-le}
use Prim.Native.Nat.{ℕ, ◌+◌, ◌*◌, ◌≤◌, ◌<◌, zero-le}
use lib.ListN.{length, get_or, set, take}
use lib.Seq.{take_all}
use lib.Ieee.{Float, nan}
use Rattle.std.specs.List.{AllWithin, HoldsAt}
use Rattle.views.specs.View.{overwrite}
use Rattle.geom.specs.Point.{point}
use Rattle.refusal.specs.Reasons.{refusal_at}
use Rattle.refusal.specs.declared.Reason.TheVariants.{Arguments, Output, Made}
use Rattle.refusal.specs.Order.{passes, holds, judge, first_failing, accepted, refused, verdict, tests}
use Rattle.refusal.proofs.Verdicts.{holds_false, by_arguments}
use Rattle.path.specs.declared.anchor.Anchor.{Anchor}
use Rattle.path.specs.Anchor.{without_handles}
use Rattle.path.specs.Shape.{total, word_of}
use Rattle.path.specs.Flat.{nth, put_anchor, put_all, listed}
use Rattle.path.proofs.Puts.{put_next, put-listed}
use Rattle.path.specs.Limit.{anchor_good}
use Rattle.path.proofs.Limits.{GoodBelow, Least}
use Rattle.call.specs.Tests.{outline_in, outline_limit, room_for}
use Rattle.call.proofs.Openings.{places_fail, places_pass}
use Rattle.call.proofs.Handings.{outline-refused, list_kept, anchors_kept}
use Rattle.shape.specs.Calls.{shape_verdict, shape_answer, shape_word, shape_numbers}

-- the anchors that the word of one subpath calls for
pub total_one : (n : ℕ) (closed : Bool) → n ≤ 8 → total (word_of n closed ∷ []) ≡ n
unfolding word_of
total_one n true h = omega arith
total_one n false h = omega arith

module _ (ps : List Anchor) (to_shapes : List ℕ) (to : List Float) where
  -- an argument beyond the limit
  pub arguments_refused : (given : Bool) → given ≡ false → shape_verdict given ps to_shapes to ≡ refused (refusal_at Arguments 0)
  unfolding shape_verdict
  arguments_refused given g = by_arguments _ _ _ _ _ _ refl 0 (holds_false 0 g)

  -- none: 9 and 8 are left
  arguments_pass : shape_verdict true ps to_shapes to ≡ judge (outline_limit ps) Made (judge (holds (room_for 1 (length ps) to_shapes to) 0) Output accepted)
  unfolding shape_verdict verdict first_failing tests judge holds
  arguments_pass = refl

  abbrev nowhere : Anchor
  nowhere = without_handles (point nan nan)

  pub anchor_refused : (k : ℕ) → (k < length ps) × HoldsAt (λ a. anchor_good a ≡ false) ps k × AllWithin (λ a. anchor_good a ≡ true) ps 0 k → shape_verdict true ps to_shapes to ≡ refused (refusal_at Made k)
  unfolding outline_in nth outline_limit judge
  anchor_refused k h =
      let l : Least (outline_in ps) (length ps) k = record { place = h.0; bad = h.1 nowhere; below = λ j m. h.2 j nowhere zero-le m } in
      arguments_pass ∙ rw (places_fail (outline_in ps) (length ps) passes k l)

  module _ (good : AllWithin (λ a. anchor_good a ≡ true) ps 0 (length ps)) where
    within : GoodBelow (outline_in ps) (length ps)
    unfolding outline_in nth
    within j l = good j nowhere zero-le l

    pub room_refused : room_for 1 (length ps) to_shapes to ≡ false → shape_verdict true ps to_shapes to ≡ refused (refusal_at Output 0)
    unfolding outline_limit judge holds
    room_refused r = arguments_pass ∙ rw (places_pass (outline_in ps) (length ps) passes within, r)

    pub none_refused : room_for 1 (length ps) to_shapes to ≡ true → shape_verdict true ps to_shapes to ≡ accepted
    unfolding outline_limit judge holds
    none_refused r = arguments_pass ∙ rw (places_pass (outline_in ps) (length ps) passes within, r)

-- ---- one shape word, and the anchors one after the other
pub one_written : (w : ℕ) (xs : List ℕ) → 0 < length xs → set xs 0 w ≡ overwrite 1 (λ i. w) xs
unfolding overwrite
one_written w [] h = absurd (not-suc-le-zero h)
one_written w (x ∷ []) h = refl
one_written w (x ∷ y ∷ ys) h = refl

pub one_more : (ps : List Anchor) (xs ys : List Float) (k : ℕ) (d : Anchor) → k < length ps → ys ≡ put_all xs 0 (take k ps) → put_anchor ys k (get_or ps k d) ≡ put_all xs 0 (take (k + 1) ps)
unfolding put_all
one_more ps xs ys k d h e =
    rw (take_more ps k d h)
    (put_next xs ys (put_anchor ys k (get_or ps k d)) 0 k (take k ps) (get_or ps k d ∷ []) (omega (arith, length-take-le k ps (omega arith))) e refl)

pub all_put : (ps : List Anchor) (xs : List Float) (k : ℕ) → length ps ≤ k → length ps * 6 ≤ length xs → put_all xs 0 (take k ps) ≡ listed ps xs
all_put ps xs k h room = ap (put_all xs 0) (take_all k ps h) ∙ put-listed ps xs room

-- ---- an argument beyond the limit: what is answered and left
pub refused_answer : (given : Bool) (ps : List Anchor) (to_shapes : List ℕ) (to : List Float) → given ≡ false → shape_answer given ps to_shapes to ≡ Err (refusal_at Arguments 0)
unfolding shape_answer
refused_answer given ps to_shapes to g = sym (outline-refused _ _ (arguments_refused ps to_shapes to given g))

pub refused_word : (given : Bool) (ps : List Anchor) (closed : Bool) (to_shapes : List ℕ) (to : List Float) → given ≡ false → shape_word given ps closed to_shapes to ≡ to_shapes
unfolding shape_word
refused_word given ps closed to_shapes to g = sym (list_kept _ _ _ (arguments_refused ps to_shapes to given g))

pub refused_numbers : (given : Bool) (ps : List Anchor) (to_shapes : List ℕ) (to : List Float) → given ≡ false → shape_numbers given ps to_shapes to ≡ to
unfolding shape_numbers
refused_numbers given ps to_shapes to g = sym (anchors_kept _ _ (arguments_refused ps to_shapes to given g))
