-- For the proofs of the code: one law for each way a cached edit ends from 6 on, with its verdict. Assumes nothing.
use mathlib.Core.Path.{◌≡◌, ◌∙◌}
use mathlib.Core.Bool.{true, false, ◌&&◌}
use Prim.Native.Nat.{ℕ, ◌≤◌, ◌<◌}
use borrow.Author.Tests.{le-leb, lt-leb}
use Rattle.std.proofs.Common.{Ok, Err}
use Rattle.refusal.specs.Reasons.{refusal_at}
use Rattle.refusal.specs.declared.Refusal.{Refusal}
use Rattle.refusal.specs.declared.Reason.TheVariants.{Reference, Output, Made, Capacity}
use Rattle.refusal.specs.Order.{passes, holds, accepted, refused, answering}
use Rattle.refusal.proofs.Verdicts.{holds_true, holds_false, by_reference, by_capacity, by_result, by_output, by_none, answers_err}
use Rattle.path.specs.Shape.{total}
use Rattle.path.specs.Limit.{place_in}
use Rattle.path.proofs.Limits.{GoodBelow, Least}
use Rattle.call.specs.Tests.{drawing_limit}
use Rattle.call.proofs.Openings.{places_fail, places_pass}
use Rattle.corner.specs.Kinds.{kind_of, is_known}
use Rattle.session.specs.Drawing.{Lent, drawn}
use Rattle.session.specs.Edits.{Call, Edit, edit_of}
use Rattle.session.specs.Calls.{lists_fit, written_good, recut_good, edit_limit, room_in, edit_verdict, edit_answer, edited_lists, lists_after, call_verdict, call_answer, call_lists}
use Rattle.session.specs.Model.{recut_count}
use Rattle.session.proofs.Counts.{recut-count}

-- ---- the verdict, test by test, in the order in which the code tests
module _ (l : Lent) (kind : ℕ) (e : Edit) where
  abbrev n : ℕ
  n = total l.shapes

  abbrev after : ℕ
  after = total e.made.shapes

  module _ (fits : lists_fit l ≡ true) where
    module _ (good : GoodBelow (place_in l.anchors l.radii) n) where
      module _ (loose : (is_known (kind_of kind) && e.loose) ≡ true) where
        numbers_pass : drawing_limit l.shapes l.anchors l.radii (is_known (kind_of kind) && e.loose) ≡ passes
        unfolding drawing_limit
        numbers_pass = places_pass (place_in l.anchors l.radii) n (holds (is_known (kind_of kind) && e.loose) n) good ∙ holds_true n loose

        pub out_reference : e.known ≡ false → edit_verdict l kind e ≡ refused (refusal_at Reference 0)
        unfolding edit_verdict
        out_reference h = by_reference _ _ _ _ _ _ (holds_true 0 fits) numbers_pass 0 (holds_false 0 h)

        module _ (known : e.known ≡ true) where
          pub out_capacity : 512 < after → edit_verdict l kind e ≡ refused (refusal_at Capacity 0)
          unfolding edit_verdict
          out_capacity h = by_capacity _ _ _ _ _ _ (holds_true 0 fits) numbers_pass (holds_true 0 known) 0 (holds_false 0 (lt-leb after 512 h))

          module _ (few : after ≤ 512) where
            pub out_written : (k : ℕ) → Least (written_good e) after k → edit_verdict l kind e ≡ refused (refusal_at Made k)
            unfolding edit_verdict edit_limit
            out_written k h = by_result _ _ _ _ _ _ (holds_true 0 fits) numbers_pass (holds_true 0 known) (holds_true 0 (le-leb after 512 few)) k (places_fail (written_good e) after _ k h)

            module _ (written : GoodBelow (written_good e) after) where
              pub out_recut : (k : ℕ) → Least (recut_good e) after k → edit_verdict l kind e ≡ refused (refusal_at Made k)
              unfolding edit_verdict edit_limit
              out_recut k h =
                  by_result _ _ _ _ _ _ (holds_true 0 fits) numbers_pass (holds_true 0 known) (holds_true 0 (le-leb after 512 few)) k
                  (places_pass (written_good e) after _ written ∙ places_fail (recut_good e) after passes k h)

              module _ (recut : GoodBelow (recut_good e) after) where
                result_pass : edit_limit e ≡ passes
                unfolding edit_limit
                result_pass = places_pass (written_good e) after _ written ∙ places_pass (recut_good e) after passes recut

                pub out_room : room_in l after ≡ false → edit_verdict l kind e ≡ refused (refusal_at Output 0)
                unfolding edit_verdict
                out_room h = by_output _ _ _ _ _ _ (holds_true 0 fits) numbers_pass (holds_true 0 known) (holds_true 0 (le-leb after 512 few)) result_pass 0 (holds_false 0 h)

                pub out_pass : room_in l after ≡ true → edit_verdict l kind e ≡ accepted
                unfolding edit_verdict
                out_pass h = by_none _ _ _ _ _ _ (holds_true 0 fits) numbers_pass (holds_true 0 known) (holds_true 0 (le-leb after 512 few)) result_pass (holds_true 0 h)

-- ---- what a verdict answers and leaves
module _ (l : Lent) (kind : ℕ) (c : Call) where
  pub refused-answer : (why : Refusal) → edit_verdict l kind (edit_of (drawn l kind) c) ≡ refused why → Err why ≡ call_answer l kind c
  unfolding call_answer call_verdict edit_answer
  refused-answer why h = answers_err _ h

  pub refused_lists : (why : Refusal) → edit_verdict l kind (edit_of (drawn l kind) c) ≡ refused why → l ≡ call_lists l kind c
  unfolding call_lists call_verdict lists_after
  refused_lists why h = rw h

  module _ (h : edit_verdict l kind (edit_of (drawn l kind) c) ≡ accepted) where
    pub accepted_answer : total l.shapes ≤ 512 → (edit_of (drawn l kind) c).known ≡ true → Ok (record { recut = recut_count (drawn l kind) c; anchors = total (edit_of (drawn l kind) c).made.shapes }) ≡ call_answer l kind c
    unfolding call_answer call_verdict edit_answer answering drawn
    accepted_answer few known = rw (h, recut-count (drawn l kind) c few known)

    pub accepted_lists : edited_lists l (edit_of (drawn l kind) c) ≡ call_lists l kind c
    unfolding call_lists call_verdict lists_after
    accepted_lists = rw h
