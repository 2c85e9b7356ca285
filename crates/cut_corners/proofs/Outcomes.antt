-- What the tests of `cut_corners` come to, and what is then answered and left. Assumes nothing.
use mathlib.Core.Path.{◌≡◌, ◌∙◌}
use mathlib.Core.List.{List}
use Prim.Native.Nat.{ℕ}
use lib.ListN.{length}
use lib.Ieee.{Float}
use Rattle.refusal.specs.Reasons.{refusal_at}
use Rattle.refusal.specs.declared.Refusal.{Refusal}
use Rattle.refusal.specs.declared.Reason.TheVariants.{Arguments}
use Rattle.refusal.specs.Order.{holds, judge, refused}
use Rattle.refusal.proofs.Verdicts.{in_order, by_arguments, holds_false}
use Rattle.path.specs.Shape.{total}
use Rattle.corner.specs.declared.kind.CornerKind.{CornerKind}
use Rattle.call.specs.Tests.{opened_drawing}
use Rattle.call.proofs.Openings.{DrawingOpens, drawing-refused}
use Rattle.call.proofs.Handings.{outline-refused, list_kept, anchors_kept}
use Rattle.std.proofs.Common.{Some, None, Err}
use Rattle.corner.specs.Kinds.{kind_of, is_known}
use Rattle.cut_calls.specs.PlainCut.{view_at, cut_up_to, cut_shape}
use Rattle.cut_calls.specs.Made.{made_verdict, made_answer, made_shapes, made_anchors}
use Rattle.cut_corners.specs.Calls.{cut_outline, cut_words, cut_verdict, cut_answer, cut_shapes_left, cut_anchors_left}

module _ (shapes : List ℕ) (anchors radii : List Float) (kind : ℕ) (to_shapes : List ℕ) (to : List Float) where
  -- ---- what refuses
  pub opening_fails : (why : Refusal) → opened_drawing shapes anchors radii ≡ Err why → cut_verdict shapes anchors radii kind to_shapes to ≡ refused why
  unfolding cut_verdict
  opening_fails why e = in_order _ _ _ _ _ _ ∙ drawing-refused shapes anchors radii why e _ _

  pub kind_fails : (n : ℕ) → DrawingOpens shapes anchors radii n → kind_of kind ≡ None → cut_verdict shapes anchors radii kind to_shapes to ≡ refused (refusal_at Arguments n)
  unfolding cut_verdict is_known
  kind_fails n o e = rw o.count (by_arguments _ _ _ _ _ _ o.lists_pass (total shapes) (o.places_good _ ∙ holds_false (total shapes) (rw e)))

  -- what a refusal answers and leaves
  pub refuses : (why : Refusal) → cut_verdict shapes anchors radii kind to_shapes to ≡ refused why
      → (Err why ≡ cut_answer shapes anchors radii kind to_shapes to)
      × (to_shapes ≡ cut_shapes_left shapes anchors radii kind to_shapes to)
      × (to ≡ cut_anchors_left shapes anchors radii kind to_shapes to)
  unfolding cut_answer cut_shapes_left cut_anchors_left
  refuses why e = (outline-refused _ _ e, list_kept _ _ _ e, anchors_kept _ _ e)

  -- ---- past the first tests, with a known kind: what is left is the outline's
  module _ (n : ℕ) (o : DrawingOpens shapes anchors radii n) (k : CornerKind) (known : kind_of kind ≡ Some k) where
    pub as_made : cut_verdict shapes anchors radii kind to_shapes to ≡ made_verdict (length shapes) (cut_up_to (view_at shapes anchors radii k) (length shapes)) to_shapes to
    unfolding cut_verdict made_verdict judge holds is_known cut_outline
    as_made = in_order _ _ _ _ _ _ ∙ rw (o.lists_pass, o.places_good, known)

    pub answer-handed : made_answer (length shapes) (cut_up_to (view_at shapes anchors radii k) (length shapes)) to_shapes to ≡ cut_answer shapes anchors radii kind to_shapes to
    unfolding cut_answer made_answer cut_outline
    answer-handed = rw (as_made, known)

    pub shapes_handed : made_shapes (length shapes) (cut_up_to (view_at shapes anchors radii k) (length shapes)) (cut_shape (view_at shapes anchors radii k)) to_shapes to
        ≡ cut_shapes_left shapes anchors radii kind to_shapes to
    unfolding cut_shapes_left made_shapes cut_words
    shapes_handed = rw (as_made, known)

    pub anchors_handed : made_anchors (length shapes) (cut_up_to (view_at shapes anchors radii k) (length shapes)) to_shapes to ≡ cut_anchors_left shapes anchors radii kind to_shapes to
    unfolding cut_anchors_left made_anchors cut_outline
    anchors_handed = rw (as_made, known)
