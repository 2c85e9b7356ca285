-- What `transform` answers, and what it leaves in the lists lent to it: refusals 7, 5, 9, 8. Assumes nothing.
use Rattle.std.specs.Prelude.{ℕ, List, length, get_or, Float, Result}
use Rattle.refusal.specs.declared.Refusal.{Refusal}
use Rattle.refusal.specs.Order.{passes, holds, Verdict, verdict, tests}
use Rattle.path.specs.Shape.{total}
use Rattle.call.specs.declared.answers.Outline.{Outline}
use Rattle.call.specs.Tests.{path_fits, path_limit, outline_limit, room_for}
use Rattle.call.specs.Answers.{outline_answer, list_left, anchors_left}
use Rattle.transform.specs.Mapped.{mapped_path, map_in}

unfoldable pub transform_verdict : List ℕ → List Float → List Float → List ℕ → List Float → Verdict
transform_verdict shapes anchors m to_shapes to =
    verdict
    (tests
    (holds (path_fits 512 shapes anchors) 0)
    (path_limit shapes anchors (map_in m))
    passes
    passes
    (outline_limit (mapped_path m shapes anchors))
    (holds (room_for (length shapes) (total shapes) to_shapes to) 0))

unfoldable pub transform_answer : List ℕ → List Float → List Float → List ℕ → List Float → Result Outline Refusal
transform_answer shapes anchors m to_shapes to = outline_answer (transform_verdict shapes anchors m to_shapes to) (length shapes) (total shapes)

-- the shape words stay what they are
unfoldable pub transform_shapes : List ℕ → List Float → List Float → List ℕ → List Float → List ℕ
transform_shapes shapes anchors m to_shapes to = list_left (transform_verdict shapes anchors m to_shapes to) (length shapes) (λ i. get_or shapes i 0) to_shapes

unfoldable pub transform_anchors : List ℕ → List Float → List Float → List ℕ → List Float → List Float
transform_anchors shapes anchors m to_shapes to = anchors_left (transform_verdict shapes anchors m to_shapes to) (mapped_path m shapes anchors) to
