-- What `transform` comes to: one law for each of its returns, with the answer and both lists. Assumes nothing.
use mathlib.Core.Path.{◌≡◌, sym, ap, ◌∙◌}
use mathlib.Core.Bool.{true, false}
use mathlib.Core.List.{List}
use Prim.Native.Nat.{ℕ, ◌*◌, ◌≤◌}
use native.Mathlib.Omega.{arith}
use lib.ListN.{length, get_or}
use lib.Ieee.{Float}
use Rattle.std.proofs.Common.{Ok, Err}
use Rattle.views.specs.View.{overwrite}
use Rattle.views.proofs.Laws.{length-tabulate}
use Rattle.refusal.specs.Reasons.{refusal_at}
use Rattle.refusal.specs.declared.Refusal.{Refusal}
use Rattle.refusal.specs.declared.Reason.TheVariants.{Arguments, Output, Made}
use Rattle.refusal.specs.Order.{passes, holds, judge, accepted, refused}
use Rattle.refusal.proofs.Verdicts.{holds_true, holds_false, in_order, by_arguments}
use Rattle.path.specs.Shape.{total}
use Rattle.path.specs.Flat.{anchor_numbers, listed}
use Rattle.call.specs.Tests.{outline_limit, room_for, opened_path}
use Rattle.call.specs.Answers.{outline_answer, list_left, anchors_left, handed_verdict, handed_answer, handed_shapes, handed_anchors}
use Rattle.call.proofs.Openings.{PathOpens, path_refused}
use Rattle.call.proofs.Handings.{outline-refused, outline_accepted, list_kept, list_written, anchors_kept, anchors_written, listed-verdict, listed_anchors}
use Rattle.transform.specs.Mapped.{mapped_at, mapped_path, map_in}
use Rattle.transform.specs.Call.{transform_verdict, transform_answer, transform_shapes, transform_anchors}
use Rattle.transform.proofs.Laid.{listed_table}

module _ (shapes : List ℕ) (anchors m : List Float) (to_shapes : List ℕ) (to : List Float) where
  pub refused_so : (why : Refusal) → transform_verdict shapes anchors m to_shapes to ≡ refused why
      → (Err why ≡ transform_answer shapes anchors m to_shapes to) × (to_shapes ≡ transform_shapes shapes anchors m to_shapes to) × (to ≡ transform_anchors shapes anchors m to_shapes to)
  unfolding transform_answer transform_shapes transform_anchors
  refused_so why v = (outline-refused _ _ v, list_kept _ _ _ v, anchors_kept _ _ v)

  pub path_fails : (why : Refusal) → opened_path 512 shapes anchors ≡ Err why → transform_verdict shapes anchors m to_shapes to ≡ refused why
  unfolding transform_verdict
  path_fails why e = in_order _ _ _ _ _ _ ∙ path_refused 512 shapes anchors why e (map_in m) _

  module _ (n : ℕ) (o : PathOpens 512 shapes anchors n) where
    pub map_fails : map_in m ≡ false → transform_verdict shapes anchors m to_shapes to ≡ refused (refusal_at Arguments n)
    unfolding transform_verdict
    map_fails e = rw o.count (by_arguments _ _ _ _ _ _ o.lists_pass (total shapes) (o.places_good (map_in m) ∙ holds_false (total shapes) e))

    module _ (e : map_in m ≡ true) where
      -- 9 and 8 are left
      passes_on : transform_verdict shapes anchors m to_shapes to
          ≡ judge (outline_limit (mapped_path m shapes anchors)) Made (judge (holds (room_for (length shapes) (total shapes) to_shapes to) 0) Output accepted)
      unfolding transform_verdict judge
      passes_on = in_order _ _ _ _ _ _ ∙ rw (o.lists_pass, o.places_good (map_in m), holds_true (total shapes) e)

      -- where 9 is known to pass, 8 alone is left
      module _ (p9 : outline_limit (mapped_path m shapes anchors) ≡ passes) where
        pub no_room : room_for (length shapes) (total shapes) to_shapes to ≡ false → transform_verdict shapes anchors m to_shapes to ≡ refused (refusal_at Output 0)
        unfolding judge
        no_room r = passes_on ∙ rw (p9, holds_false 0 r)

        room-left : room_for (length shapes) (total shapes) to_shapes to ≡ true → transform_verdict shapes anchors m to_shapes to ≡ accepted
        unfolding judge
        room-left r = passes_on ∙ rw (p9, holds_true 0 r)

        pub written : room_for (length shapes) (total shapes) to_shapes to ≡ true
            → (Ok (record { subpaths = length shapes; anchors = total shapes }) ≡ transform_answer shapes anchors m to_shapes to)
            × (overwrite (length shapes) (λ i. get_or shapes i 0) to_shapes ≡ transform_shapes shapes anchors m to_shapes to)
            × (overwrite (total shapes * 6) (anchor_numbers (mapped_at m anchors)) to ≡ transform_anchors shapes anchors m to_shapes to)
        unfolding transform_answer transform_shapes transform_anchors mapped_path
        written r =
            let v = room-left r in (
              outline_accepted _ _ v,
              list_written _ _ _ v,
              listed_table (total shapes) (mapped_at m anchors) to ∙ anchors_written _ _ v,
            )

      module _ (xs made : List Float) (room : 3072 ≤ length xs) (w : made ≡ overwrite (n * 6) (anchor_numbers (mapped_at m anchors)) xs) where
        count : length (mapped_path m shapes anchors) ≡ total shapes
        unfolding mapped_path
        count = length-tabulate (total shapes) (mapped_at m anchors)

        long : length (mapped_path m shapes anchors) * 6 ≤ length xs
        long = let f = o.few in let c = count in omega arith

        laid : made ≡ listed (mapped_path m shapes anchors) xs
        unfolding mapped_path
        laid = w ∙ rw o.count (listed_table (total shapes) (mapped_at m anchors) xs)

        same-verdict : handed_verdict shapes made to_shapes to ≡ transform_verdict shapes anchors m to_shapes to
        same-verdict =
            listed-verdict (mapped_path m shapes anchors) xs long shapes made to_shapes to laid (sym count)
            ∙ ap (λ k. judge (outline_limit (mapped_path m shapes anchors)) Made (judge (holds (room_for (length shapes) k to_shapes to) 0) Output accepted)) count
            ∙ sym passes_on

        pub handed : (handed_answer shapes made to_shapes to ≡ transform_answer shapes anchors m to_shapes to)
            × (handed_shapes shapes made to_shapes to ≡ transform_shapes shapes anchors m to_shapes to)
            × (handed_anchors shapes made to_shapes to ≡ transform_anchors shapes anchors m to_shapes to)
        unfolding handed_answer handed_shapes transform_answer transform_shapes transform_anchors
        handed = (
          ap (λ v. outline_answer v (length shapes) (total shapes)) same-verdict,
          ap (λ v. list_left v (length shapes) (λ i. get_or shapes i 0) to_shapes) same-verdict,
          listed_anchors (mapped_path m shapes anchors) xs long shapes made to_shapes to laid (sym count)
              ∙ ap (λ v. anchors_left v (mapped_path m shapes anchors) to) same-verdict,
        )
