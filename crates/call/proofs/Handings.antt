-- What a path that was made comes to, and what is then answered and left. Assumes nothing.
use mathlib.Core.Path.{◌≡◌, refl, sym, ap, ◌∙◌}
use mathlib.Core.Logic.{⊎_elim}
use mathlib.Core.Bool.{true, false}
use mathlib.Core.List.{List}
use Prim.Native.Nat.{ℕ, ◌+◌, ◌*◌, ◌≤◌, ◌<◌}
use native.Mathlib.Omega.{arith}
use lib.Dec.{leb}
use lib.ListN.{length, get_or}
use lib.Ieee.{Float, nan}
use borrow.Author.Tests.{le-leb, lt-leb}
use Rattle.std.proofs.Common.{Ok, Err}
use Rattle.views.specs.View.{entry, overwrite}
use Rattle.views.proofs.Bools.{and_false}
use Rattle.views.proofs.Laws.{at_overwrite, overwrite_cong}
use Rattle.views.proofs.Searches.{all_cong}
use Rattle.real.specs.Limit.{in_limit}
use Rattle.refusal.proofs.Verdicts.{answers_ok, answers_err}
use Rattle.refusal.specs.Reasons.{refusal_at}
use Rattle.refusal.specs.declared.Refusal.{Refusal}
use Rattle.refusal.specs.declared.Reason.TheVariants.{Output, Made}
use Rattle.refusal.specs.Order.{passes, holds, judge, Verdict, accepted, refused}
use Rattle.path.specs.declared.anchor.Anchor.{Anchor}
use Rattle.path.specs.Shape.{total}
use Rattle.path.specs.Flat.{listed}
use Rattle.path.specs.Limit.{anchor_in, anchor_good}
use Rattle.path.proofs.Limits.{GoodBelow, Least, search_to}
use Rattle.path.proofs.Places.{anchor-number}
use Rattle.call.specs.Tests.{places, outline_in, outline_limit, room_for}
use Rattle.call.specs.Answers.{outline_answer, list_left, anchors_left, handed_verdict, handed_answer, handed_shapes, handed_anchors}
use Rattle.call.proofs.Openings.{places_fail, places_pass}

-- ---- room
module _ (m count : ℕ) (to_shapes : List ℕ) (to : List Float) where
  pub room : m ≤ length to_shapes → count * 6 ≤ length to → room_for m count to_shapes to ≡ true
  unfolding room_for
  room h l = rw (le-leb _ _ h, le-leb _ _ l)

  pub few_words : length to_shapes < m → room_for m count to_shapes to ≡ false
  unfolding room_for
  few_words h = rw (lt-leb _ _ h)

  pub few_numbers : length to < count * 6 → room_for m count to_shapes to ≡ false
  unfolding room_for
  few_numbers h = rw (lt-leb _ _ h) (and_false (leb m (length to_shapes)))

-- ---- what a verdict answers and leaves
pub outline-refused : {v : Verdict} {why : Refusal} (m count : ℕ) → v ≡ refused why → Err why ≡ outline_answer v m count
unfolding outline_answer
outline-refused m count e = answers_err _ e

pub outline_accepted : {v : Verdict} (m count : ℕ) → v ≡ accepted → Ok (record { subpaths = m; anchors = count }) ≡ outline_answer v m count
unfolding outline_answer
outline_accepted m count e = answers_ok _ e

pub list_kept : {A : Type 0} {v : Verdict} {why : Refusal} (m : ℕ) (f : ℕ → A) (xs : List A) → v ≡ refused why → xs ≡ list_left v m f xs
unfolding list_left
list_kept m f xs e = rw e

pub list_written : {A : Type 0} {v : Verdict} (m : ℕ) (f : ℕ → A) (xs : List A) → v ≡ accepted → overwrite m f xs ≡ list_left v m f xs
unfolding list_left
list_written m f xs e = rw e

pub anchors_kept : {v : Verdict} {why : Refusal} (ps : List Anchor) (xs : List Float) → v ≡ refused why → xs ≡ anchors_left v ps xs
unfolding anchors_left
anchors_kept ps xs e = rw e

pub anchors_written : {v : Verdict} (ps : List Anchor) (xs : List Float) → v ≡ accepted → listed ps xs ≡ anchors_left v ps xs
unfolding anchors_left
anchors_written ps xs e = rw e

-- ---- a path in scratch lists: a number beyond the limit, a list too short, neither
module _ (words : List ℕ) (made : List Float) (to_shapes : List ℕ) (to : List Float) where
  pub handed_bad : (k : ℕ) → Least (anchor_in made) (total words) k → handed_verdict words made to_shapes to ≡ refused (refusal_at Made k)
  unfolding handed_verdict judge
  handed_bad k l = rw (places_fail (anchor_in made) (total words) passes k l)

  module _ (good : GoodBelow (anchor_in made) (total words)) where
    pub handed-short : room_for (length words) (total words) to_shapes to ≡ false → handed_verdict words made to_shapes to ≡ refused (refusal_at Output 0)
    unfolding handed_verdict judge holds
    handed-short r = rw (places_pass (anchor_in made) (total words) passes good, r)

    pub handed-all : room_for (length words) (total words) to_shapes to ≡ true → handed_verdict words made to_shapes to ≡ accepted
    unfolding handed_verdict judge holds
    handed-all r = rw (places_pass (anchor_in made) (total words) passes good, r)

  -- what is answered and left
  module _ (why : Refusal) (e : handed_verdict words made to_shapes to ≡ refused why) where
    pub handed-refused : (Err why ≡ handed_answer words made to_shapes to) × (to_shapes ≡ handed_shapes words made to_shapes to) × (to ≡ handed_anchors words made to_shapes to)
    unfolding handed_answer handed_shapes handed_anchors
    handed-refused = (outline-refused _ _ e, list_kept _ _ _ e, list_kept _ _ _ e)

  module _ (e : handed_verdict words made to_shapes to ≡ accepted) where
    pub handed_accepted : (Ok (record { subpaths = length words; anchors = total words }) ≡ handed_answer words made to_shapes to)
        × (overwrite (length words) (λ i. get_or words i 0) to_shapes ≡ handed_shapes words made to_shapes to)
        × (overwrite (total words * 6) (entry made) to ≡ handed_anchors words made to_shapes to)
    unfolding handed_answer handed_shapes handed_anchors
    handed_accepted = (outline_accepted _ _ e, list_written _ _ _ e, list_written _ _ _ e)

-- ---- the same of a path whose anchors are known: ps, in front of the list
module _ (ps : List Anchor) (xs : List Float) (long : length ps * 6 ≤ length xs) where
  listed_in : (k : ℕ) → k < length ps → anchor_in (listed ps xs) k ≡ outline_in ps k
  unfolding anchor_in outline_in anchor_good listed
  listed_in k l = all_cong _ _ 6 (λ i h. ap in_limit (at_overwrite nan _ _ xs (k * 6 + i) (omega arith) (omega arith) ∙ anchor-number _ k i h))

  first_out_lem : (k : ℕ) → Least (anchor_in (listed ps xs)) (length ps) k → Least (outline_in ps) (length ps) k
  first_out_lem k l = record {
    place = l.place;
    bad = rw (listed_in k l.place) at l.bad;
    below = λ j h. let w = l.place in rw (listed_in j (omega arith)) at (l.below j h);
  }

  listed_limit : places (anchor_in (listed ps xs)) (length ps) passes ≡ outline_limit ps
  unfolding outline_limit
  listed_limit =
      ⊎_elim
      (λ g. places_pass (anchor_in (listed ps xs)) (length ps) passes g ∙ sym (places_pass (outline_in ps) (length ps) passes (λ k l. rw (listed_in k l) at (g k l))))
      (λ kl. places_fail (anchor_in (listed ps xs)) (length ps) passes kl.0 kl.1 ∙ sym (places_fail (outline_in ps) (length ps) passes kl.0 (first_out_lem kl.0 kl.1)))
      (search_to (anchor_in (listed ps xs)) (length ps))

  module _ (words : List ℕ) (made : List Float) (to_shapes : List ℕ) (to : List Float) (e : made ≡ listed ps xs) (n : total words ≡ length ps) where
    pub listed-verdict : handed_verdict words made to_shapes to ≡ judge (outline_limit ps) Made (judge (holds (room_for (length words) (length ps) to_shapes to) 0) Output accepted)
    unfolding handed_verdict
    listed-verdict = rw (e, n, listed_limit)

    pub listed_anchors : handed_anchors words made to_shapes to ≡ anchors_left (handed_verdict words made to_shapes to) ps to
    unfolding handed_anchors list_left anchors_left listed
    listed_anchors = go (handed_verdict words made to_shapes to)
      where
        go : (v : Verdict) → list_left v (total words * 6) (entry made) to ≡ anchors_left v ps to
        go (refused why) = refl
        go accepted = rw (e, n) (overwrite_cong _ _ _ to (λ i l. at_overwrite nan _ _ xs i l (omega arith)))
