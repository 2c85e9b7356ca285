-- What the calls that make a shape answer, and what they leave in the lists lent to them (document 01, 'Who can cause a refusal'):
-- 5 and 8 at place 0, there being no path that is given, 9 at the place in the shape. Assumes nothing.
use Rattle.std.specs.Prelude.{ℕ, Bool, ◌&&◌, List, length, Float, Result}
use Rattle.geom.specs.declared.point.P.{P}
use Rattle.geom.specs.Point.{point_in}
use Rattle.refusal.specs.declared.Refusal.{Refusal}
use Rattle.refusal.specs.Order.{passes, holds, Verdict, verdict, tests}
use Rattle.path.specs.declared.anchor.Anchor.{Anchor}
use Rattle.path.specs.Shape.{word_of}
use Rattle.call.specs.declared.answers.Outline.{Outline}
use Rattle.call.specs.Tests.{outline_limit, room_for}
use Rattle.call.specs.Answers.{outline_answer, list_left, anchors_left}

-- two points within the limit
unfoldable pub pair_in : P → P → Bool
pair_in a b = point_in a && point_in b

-- ---- one subpath of the anchors ps, where `given` says that the arguments are within the limit
unfoldable pub shape_verdict : Bool → List Anchor → List ℕ → List Float → Verdict
shape_verdict given ps to_shapes to =
    verdict (tests passes (holds given 0) passes passes (outline_limit ps) (holds (room_for 1 (length ps) to_shapes to) 0))

unfoldable pub shape_answer : Bool → List Anchor → List ℕ → List Float → Result Outline Refusal
shape_answer given ps to_shapes to = outline_answer (shape_verdict given ps to_shapes to) 1 (length ps)

unfoldable pub shape_word : Bool → List Anchor → Bool → List ℕ → List Float → List ℕ
shape_word given ps closed to_shapes to = list_left (shape_verdict given ps to_shapes to) 1 (λ i. word_of (length ps) closed) to_shapes

unfoldable pub shape_numbers : Bool → List Anchor → List ℕ → List Float → List Float
shape_numbers given ps to_shapes to = anchors_left (shape_verdict given ps to_shapes to) ps to
