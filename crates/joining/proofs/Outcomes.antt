-- What `join` comes to: one law for each of its answers. Assumes nothing.
use mathlib.Core.Path.{◌≡◌, refl, ap, ◌∙◌}
use mathlib.Core.Bool.{Bool, true, false, ◌&&◌}
use mathlib.Core.List.{List, [], ◌∷◌, ◌++◌}
use Prim.Native.Nat.{ℕ, ◌+◌, ◌-◌, ◌*◌, ◌≤◌, ◌<◌}
use native.Mathlib.Omega.{arith}
use lib.Dec.{leb, ltb}
use lib.ListN.{length, set}
use lib.Ieee.{Float}
use borrow.Author.Tests.{lt-ltb, le-ltb, le-leb, lt-leb}
use Rattle.views.specs.View.{tabulate, overwrite}
use Rattle.views.proofs.Bools.{and_false}
use Rattle.refusal.specs.Reasons.{refusal_at}
use Rattle.refusal.specs.declared.Refusal.{Refusal}
use Rattle.refusal.specs.declared.Reason.TheVariants.{Arguments, Reference, Lists, Output, Made, Capacity}
use Rattle.refusal.specs.Order.{passes, fails, holds, accepted, refused}
use Rattle.refusal.proofs.Verdicts.{holds_true, holds_false, by_lists, by_arguments, by_reference, by_capacity, by_result, by_output, by_none}
use Rattle.path.specs.declared.anchor.Anchor.{Anchor}
use Rattle.std.proofs.Common.{Some, Ok, Err}
use Rattle.path.specs.Shape.{count_of, word_of}
use Rattle.path.specs.Flat.{anchor_at, listed}
use Rattle.path.specs.Limit.{anchor_good, first_bad}
use Rattle.path.proofs.Limits.{GoodBelow, first_is}
use Rattle.call.specs.Tests.{places, outline_limit, room_for}
use Rattle.call.proofs.Openings.{places_fail, places_pass}
use Rattle.call.proofs.Handings.{room, few_words, few_numbers, outline-refused, outline_accepted, list_kept, list_written, anchors_kept, anchors_written}
use Rattle.joining.specs.Joined.{HoldsAnchors, target_at, target_rest, joint_of, joined_anchors}
use Rattle.joining.specs.Call.{list_fits, either_in, joined_path, join_verdict, join_answer, join_shapes_left, join_anchors_left}
use Rattle.joining.proofs.Eithers.{fits, drawn_good, target_good}
use Rattle.joining.proofs.Within.{length-joined, joint_out, joint_in}

-- the first word of a list
pub first_word : (w : ℕ) (xs : List ℕ) → 0 < length xs → set xs 0 w ≡ overwrite 1 (λ i. w) xs
unfolding overwrite
first_word w [] h = absurd (omega arith)
first_word w (x ∷ []) h = refl
first_word w (x ∷ (y ∷ xs)) h = refl

module _ (drawn : List Float) (count : ℕ) (target : List Float) (word : ℕ) (at_start : Bool) (to_shapes : List ℕ) (to : List Float) where
  pub join-refused : (why : Refusal) → join_verdict drawn count target word at_start to_shapes to ≡ refused why
      → (Err why ≡ join_answer drawn count target word at_start to_shapes to)
      × (to_shapes ≡ join_shapes_left drawn count target word at_start to_shapes to)
      × (to ≡ join_anchors_left drawn count target word at_start to_shapes to)
  unfolding join_answer join_shapes_left join_anchors_left
  join-refused why e = (outline-refused _ _ e, list_kept _ _ _ e, anchors_kept _ _ e)

  -- ---- 7
  pub no_drawn : list_fits count drawn ≡ false → join_verdict drawn count target word at_start to_shapes to ≡ refused (refusal_at Lists 0)
  unfolding join_verdict
  no_drawn e = by_lists _ _ _ _ _ _ 0 (holds_false 0 (ap (λ b. b && list_fits (count_of word) target) e))

  pub no_target : list_fits (count_of word) target ≡ false → join_verdict drawn count target word at_start to_shapes to ≡ refused (refusal_at Lists 0)
  unfolding join_verdict
  no_target e = by_lists _ _ _ _ _ _ 0 (holds_false 0 (ap (λ b. list_fits count drawn && b) e ∙ and_false (list_fits count drawn)))

  module _ (held : HoldsAnchors drawn count) (held-t : HoldsAnchors target (count_of word)) where
    lists_pass : holds (list_fits count drawn && list_fits (count_of word) target) 0 ≡ passes
    lists_pass = holds_true 0 (rw (fits count drawn held, fits (count_of word) target held-t))

    -- ---- 5
    pub out_of_limit : (k : ℕ) → first_bad (either_in drawn count target) (count + count_of word) ≡ Some k → join_verdict drawn count target word at_start to_shapes to ≡ refused (refusal_at Arguments k)
    unfolding join_verdict
    out_of_limit k e =
        by_arguments _ _ _ _ _ _ lists_pass k (places_fail (either_in drawn count target) (count + count_of word) passes k ((first_is (either_in drawn count target) (count + count_of word) k).0 e))

    module _ (good : GoodBelow (either_in drawn count target) (count + count_of word)) where
      arguments_pass : places (either_in drawn count target) (count + count_of word) passes ≡ passes
      arguments_pass = places_pass (either_in drawn count target) (count + count_of word) passes good

      -- ---- 6
      pub empty_target : count_of word ≡ 0 → join_verdict drawn count target word at_start to_shapes to ≡ refused (refusal_at Reference 0)
      unfolding join_verdict
      empty_target e = by_reference _ _ _ _ _ _ lists_pass arguments_pass 0 (holds_false 0 (le-ltb 0 (count_of word) (omega arith)))

      module _ (some : 0 < count_of word) where
        some_pass : holds (ltb 0 (count_of word)) 0 ≡ passes
        some_pass = holds_true 0 (lt-ltb 0 (count_of word) some)

        all-of_them : length (joined_path drawn count target word at_start) ≡ count - 1 + count_of word
        unfolding joined_path
        all-of_them = length-joined drawn count target (count_of word) at_start some

        -- ---- 10
        pub full : 512 < count - 1 + count_of word → join_verdict drawn count target word at_start to_shapes to ≡ refused (refusal_at Capacity 0)
        unfolding join_verdict
        full h =
            by_capacity _ _ _ _ _ _ lists_pass arguments_pass some_pass 0 (holds_false 0 (lt-leb (length (joined_path drawn count target word at_start)) 512 (let e = all-of_them in omega arith)))

        module _ (h : count - 1 + count_of word ≤ 512) where
          capacity_pass : holds (leb (length (joined_path drawn count target word at_start)) 512) 0 ≡ passes
          capacity_pass = holds_true 0 (le-leb (length (joined_path drawn count target word at_start)) 512 (let e = all-of_them in omega arith))

          abbrev joint : Anchor
          joint = joint_of drawn count (target_at target (count_of word) at_start 0)

          -- ---- 9
          joint_fails : anchor_good joint ≡ false → outline_limit (joined_path drawn count target word at_start) ≡ fails (count - 1)
          unfolding outline_limit joined_path
          joint_fails e =
              places_fail _ _ passes (count - 1)
              (joint_out drawn count target (count_of word) at_start (drawn_good drawn count target (count_of word) good) (target_good drawn count target (count_of word) good) e)

          pub joint_refused : anchor_good joint ≡ false → join_verdict drawn count target word at_start to_shapes to ≡ refused (refusal_at Made (count - 1))
          unfolding join_verdict
          joint_refused e = by_result _ _ _ _ _ _ lists_pass arguments_pass some_pass capacity_pass (count - 1) (joint_fails e)

          module _ (inside : anchor_good joint ≡ true) where
            result_pass : outline_limit (joined_path drawn count target word at_start) ≡ passes
            unfolding outline_limit joined_path
            result_pass =
                places_pass _ _ passes
                (joint_in drawn count target (count_of word) at_start (drawn_good drawn count target (count_of word) good) (target_good drawn count target (count_of word) good) inside)

            -- ---- 8
            no_room : room_for 1 (length (joined_path drawn count target word at_start)) to_shapes to ≡ false → join_verdict drawn count target word at_start to_shapes to ≡ refused (refusal_at Output 0)
            unfolding join_verdict
            no_room r = by_output _ _ _ _ _ _ lists_pass arguments_pass some_pass capacity_pass result_pass 0 (holds_false 0 r)

            pub short_shapes : length to_shapes < 1 → join_verdict drawn count target word at_start to_shapes to ≡ refused (refusal_at Output 0)
            short_shapes l = no_room (few_words 1 (length (joined_path drawn count target word at_start)) to_shapes to l)

            pub short_anchors : length to < (count - 1 + count_of word) * 6 → join_verdict drawn count target word at_start to_shapes to ≡ refused (refusal_at Output 0)
            short_anchors l = no_room (few_numbers 1 (length (joined_path drawn count target word at_start)) to_shapes to (let n = all-of_them in omega arith))

            -- ---- accepted
            module _ (l : 1 ≤ length to_shapes) (m : (count - 1 + count_of word) * 6 ≤ length to) where
              verdict_accepted : join_verdict drawn count target word at_start to_shapes to ≡ accepted
              unfolding join_verdict
              verdict_accepted =
                  by_none _ _ _ _ _ _ lists_pass arguments_pass some_pass capacity_pass result_pass
                  (holds_true 0 (room 1 (length (joined_path drawn count target word at_start)) to_shapes to l (let n = all-of_them in omega arith)))

              made-is : (before n : ℕ) (j : Anchor) → before ≡ count - 1 → n ≡ count_of word → j ≡ joint
                  → tabulate before (anchor_at drawn) ++ (j ∷ target_rest target n at_start) ≡ joined_path drawn count target word at_start
              unfolding joined_path joined_anchors
              made-is before n j e f g = rw (e, f, g)

              pub join_accepted : (before n w : ℕ) (j : Anchor) → before ≡ count - 1 → n ≡ count_of word → j ≡ joint → w ≡ word_of (before + n) false
                  → (Ok (record { subpaths = 1; anchors = before + n }) ≡ join_answer drawn count target word at_start to_shapes to)
                  × (set to_shapes 0 w ≡ join_shapes_left drawn count target word at_start to_shapes to)
                  × (listed (tabulate before (anchor_at drawn) ++ (j ∷ target_rest target n at_start)) to ≡ join_anchors_left drawn count target word at_start to_shapes to)
              unfolding join_answer join_shapes_left join_anchors_left
              join_accepted before n w j e f g q =
                  let v = verdict_accepted in
                  let s : before + n ≡ length (joined_path drawn count target word at_start) = let c = all-of_them in omega arith in (
                    rw s (outline_accepted _ _ v),
                    ap (set to_shapes 0) (q ∙ ap (λ i. word_of i false) s) ∙ first_word _ to_shapes (omega arith) ∙ list_written _ _ _ v,
                    ap (λ ps. listed ps to) (made-is before n j e f g) ∙ anchors_written _ _ v,
                  )
