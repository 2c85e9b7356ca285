-- What `cut_corners` answers, and what it leaves in the lists lent to it (document 01, 'Plain cut'). Assumes nothing.
use Rattle.std.specs.Prelude.{ℕ, List, [], length, Float, Option, Some, None, Result}
use Rattle.refusal.specs.declared.Refusal.{Refusal}
use Rattle.refusal.specs.Order.{passes, holds, Verdict, verdict, tests}
use Rattle.path.specs.declared.anchor.Anchor.{Anchor}
use Rattle.call.specs.declared.answers.Outline.{Outline}
use Rattle.call.specs.Tests.{drawing_fits, drawing_limit, outline_limit, room_for}
use Rattle.call.specs.Answers.{outline_answer, list_left, anchors_left}
use Rattle.corner.specs.declared.kind.CornerKind.{CornerKind}
use Rattle.corner.specs.Kinds.{kind_of, is_known}
use Rattle.cut_calls.specs.PlainCut.{view_at, cut_up_to, cut_shape}

-- the cut outline and its shape words, where the kind is known
unfoldable pub cut_outline : List ℕ → List Float → List Float → Option CornerKind → List Anchor
cut_outline shapes anchors radii (Some k) = cut_up_to (view_at shapes anchors radii k) (length shapes)
cut_outline shapes anchors radii None = []

unfoldable pub cut_words : List ℕ → List Float → List Float → Option CornerKind → ℕ → ℕ
cut_words shapes anchors radii (Some k) s = cut_shape (view_at shapes anchors radii k) s
cut_words shapes anchors radii None s = 0

-- a kind that is not known stands after the places, at the anchor count, as every loose argument
unfoldable pub cut_verdict : List ℕ → List Float → List Float → ℕ → List ℕ → List Float → Verdict
cut_verdict shapes anchors radii kind to_shapes to =
    let k = kind_of kind in
    let ps = cut_outline shapes anchors radii k in
    verdict
    (tests
    (holds (drawing_fits shapes anchors radii) 0)
    (drawing_limit shapes anchors radii (is_known k))
    passes
    passes
    (outline_limit ps)
    (holds (room_for (length shapes) (length ps) to_shapes to) 0))

unfoldable pub cut_answer : List ℕ → List Float → List Float → ℕ → List ℕ → List Float → Result Outline Refusal
cut_answer shapes anchors radii kind to_shapes to =
    outline_answer (cut_verdict shapes anchors radii kind to_shapes to) (length shapes) (length (cut_outline shapes anchors radii (kind_of kind)))

unfoldable pub cut_shapes_left : List ℕ → List Float → List Float → ℕ → List ℕ → List Float → List ℕ
cut_shapes_left shapes anchors radii kind to_shapes to =
    list_left (cut_verdict shapes anchors radii kind to_shapes to) (length shapes) (cut_words shapes anchors radii (kind_of kind)) to_shapes

unfoldable pub cut_anchors_left : List ℕ → List Float → List Float → ℕ → List ℕ → List Float → List Float
cut_anchors_left shapes anchors radii kind to_shapes to =
    anchors_left (cut_verdict shapes anchors radii kind to_shapes to) (cut_outline shapes anchors radii (kind_of kind)) to
