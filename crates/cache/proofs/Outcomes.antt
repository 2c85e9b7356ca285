-- What the tests of the calls on caches come to, and what is then answered and left. Assumes nothing.
use mathlib.Core.Path.{◌≡◌, ◌∙◌}
use mathlib.Core.Bool.{Bool, true, false}
use mathlib.Core.List.{List}
use Prim.Native.Nat.{ℕ, ◌*◌}
use lib.ListN.{length}
use lib.Ieee.{Float}
use Rattle.refusal.specs.Reasons.{refusal_at}
use Rattle.refusal.specs.declared.Refusal.{Refusal}
use Rattle.refusal.specs.declared.Reason.TheVariants.{Arguments, Lists, Made}
use Rattle.refusal.specs.Order.{passes, holds, judge, accepted, refused}
use Rattle.refusal.proofs.Verdicts.{in_order, by_lists, by_arguments, holds_false}
use Rattle.path.specs.Shape.{total}
use Rattle.path.proofs.Limits.{GoodBelow, Least}
use Rattle.corner.specs.declared.kind.CornerKind.{CornerKind}
use Rattle.assembly.specs.Assembled.{place_read, outline_of, outline_shapes}
use Rattle.call.specs.Tests.{opened_drawing}
use Rattle.call.specs.Answers.{outline_answer, list_left}
use Rattle.call.proofs.Openings.{places_fail, places_pass, DrawingOpens, drawing-refused}
use Rattle.call.proofs.Handings.{outline-refused, list_kept, anchors_kept}
use Rattle.std.proofs.Common.{Some, None, Err}
use Rattle.corner.specs.Kinds.{kind_of, is_known}
use Rattle.cut_calls.specs.PlainCut.{view_at}
use Rattle.cut_calls.specs.Made.{made_verdict, made_answer, made_shapes, made_anchors}
use Rattle.cache.specs.Cache.{place_of_path, cached_numbers, cached_flags, cached_in}
use Rattle.cache.specs.Tests.{cache_fits, cache_verdict}
use Rattle.cache.specs.Calls.{
  cut_places,
  build_verdict,
  build_answer,
  build_numbers,
  build_flags,
  held_outline,
  assemble_verdict,
  assemble_answer,
  assemble_shapes,
  assemble_anchors,
}

-- ---- the last test of a cache
module _ (good : ℕ → Bool) (n : ℕ) where
  pub cache_bad : (k : ℕ) → Least good n k → cache_verdict good n ≡ refused (refusal_at Made k)
  unfolding cache_verdict judge
  cache_bad k l = rw (places_fail good n passes k l)

  pub cache_good : GoodBelow good n → cache_verdict good n ≡ accepted
  unfolding cache_verdict judge
  cache_good g = rw (places_pass good n passes g)

-- ---- `build`
module _ (shapes : List ℕ) (anchors radii : List Float) (kind : ℕ) (numbers : List Float) (flags : List ℕ) where
  pub build_lists : cache_fits shapes numbers flags ≡ false → build_verdict shapes anchors radii kind numbers flags ≡ refused (refusal_at Lists 0)
  unfolding build_verdict
  build_lists e = by_lists _ _ _ _ _ _ 0 (holds_false 0 (rw e))

  -- what a refusal answers and leaves
  pub build_refuses : (why : Refusal) → build_verdict shapes anchors radii kind numbers flags ≡ refused why
      → (Err why ≡ build_answer shapes anchors radii kind numbers flags)
      × (numbers ≡ build_numbers shapes anchors radii kind numbers flags)
      × (flags ≡ build_flags shapes anchors radii kind numbers flags)
  unfolding build_answer build_numbers build_flags
  build_refuses why e = (outline-refused _ _ e, list_kept _ _ _ e, list_kept _ _ _ e)

  module _ (fit : cache_fits shapes numbers flags ≡ true) where
    pub build_opening : (why : Refusal) → opened_drawing shapes anchors radii ≡ Err why → build_verdict shapes anchors radii kind numbers flags ≡ refused why
    unfolding build_verdict
    build_opening why e = in_order _ _ _ _ _ _ ∙ rw fit (drawing-refused shapes anchors radii why e _ _)

    module _ (n : ℕ) (o : DrawingOpens shapes anchors radii n) where
      pub build-kind : (m : ℕ) → m ≡ total shapes → kind_of kind ≡ None → build_verdict shapes anchors radii kind numbers flags ≡ refused (refusal_at Arguments m)
      unfolding build_verdict is_known
      build-kind m c e = rw c (by_arguments _ _ _ _ _ _ (rw fit o.lists_pass) (total shapes) (o.places_good _ ∙ holds_false (total shapes) (rw e)))

      -- a known kind: what is left is the cache's
      module _ (k : CornerKind) (known : kind_of kind ≡ Some k) where
        pub build-made : build_verdict shapes anchors radii kind numbers flags ≡ cache_verdict (cached_in (place_of_path shapes (view_at shapes anchors radii k))) (total shapes)
        unfolding build_verdict cache_verdict judge holds is_known cut_places
        build-made = in_order _ _ _ _ _ _ ∙ rw (fit, o.lists_pass, o.places_good, known)

        pub build-answers : outline_answer (cache_verdict (cached_in (place_of_path shapes (view_at shapes anchors radii k))) (total shapes)) (length shapes) (total shapes)
            ≡ build_answer shapes anchors radii kind numbers flags
        unfolding build_answer
        build-answers = rw build-made

        pub build-numbers : list_left (cache_verdict (cached_in (place_of_path shapes (view_at shapes anchors radii k))) (total shapes)) (total shapes * 12) (cached_numbers (place_of_path shapes (view_at shapes anchors radii k))) numbers
            ≡ build_numbers shapes anchors radii kind numbers flags
        unfolding build_numbers cut_places
        build-numbers = rw (build-made, known)

        pub build_flags_lem : list_left (cache_verdict (cached_in (place_of_path shapes (view_at shapes anchors radii k))) (total shapes)) (total shapes) (cached_flags (place_of_path shapes (view_at shapes anchors radii k))) flags
            ≡ build_flags shapes anchors radii kind numbers flags
        unfolding build_flags cut_places
        build_flags_lem = rw (build-made, known)

-- ---- `assemble`
module _ (shapes : List ℕ) (numbers : List Float) (flags : List ℕ) (to_shapes : List ℕ) (to : List Float) where
  pub assemble_lists : cache_fits shapes numbers flags ≡ false
      → (Err (refusal_at Lists 0) ≡ assemble_answer shapes numbers flags to_shapes to)
      × (to_shapes ≡ assemble_shapes shapes numbers flags to_shapes to)
      × (to ≡ assemble_anchors shapes numbers flags to_shapes to)
  unfolding assemble_answer assemble_shapes assemble_anchors assemble_verdict
  assemble_lists e =
      let v = by_lists _ _ _ _ _ _ 0 (holds_false 0 e) in
      (outline-refused _ _ v, list_kept _ _ _ v, anchors_kept _ _ v)

  module _ (fit : cache_fits shapes numbers flags ≡ true) where
    pub assemble-made : assemble_verdict shapes numbers flags to_shapes to ≡ made_verdict (length shapes) (outline_of shapes (place_read numbers flags)) to_shapes to
    unfolding assemble_verdict made_verdict judge holds held_outline
    assemble-made = in_order _ _ _ _ _ _ ∙ rw fit

    pub assemble-answers : made_answer (length shapes) (outline_of shapes (place_read numbers flags)) to_shapes to ≡ assemble_answer shapes numbers flags to_shapes to
    unfolding made_answer assemble_answer held_outline
    assemble-answers = rw assemble-made

    pub assemble_shapes_lem : made_shapes (length shapes) (outline_of shapes (place_read numbers flags)) (outline_shapes shapes (place_read numbers flags)) to_shapes to
        ≡ assemble_shapes shapes numbers flags to_shapes to
    unfolding made_shapes assemble_shapes
    assemble_shapes_lem = rw assemble-made

    pub assemble_anchors_lem : made_anchors (length shapes) (outline_of shapes (place_read numbers flags)) to_shapes to ≡ assemble_anchors shapes numbers flags to_shapes to
    unfolding made_anchors assemble_anchors held_outline
    assemble_anchors_lem = rw assemble-made
