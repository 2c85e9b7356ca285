-- An outline of m subpaths that is made, and lists lent for it: what is still tested, answered and left. Assumes nothing.
use Rattle.std.specs.Prelude.{ℕ, List, length, Float, Result}
use Rattle.refusal.specs.declared.Refusal.{Refusal}
use Rattle.refusal.specs.declared.Reason.TheVariants.{Output, Made}
use Rattle.refusal.specs.Order.{holds, judge, Verdict, accepted}
use Rattle.path.specs.declared.anchor.Anchor.{Anchor}
use Rattle.call.specs.declared.answers.Outline.{Outline}
use Rattle.call.specs.Tests.{outline_limit, room_for}
use Rattle.call.specs.Answers.{outline_answer, list_left, anchors_left}

unfoldable pub made_verdict : ℕ → List Anchor → List ℕ → List Float → Verdict
made_verdict m ps to_shapes to = judge (outline_limit ps) Made (judge (holds (room_for m (length ps) to_shapes to) 0) Output accepted)

unfoldable pub made_answer : ℕ → List Anchor → List ℕ → List Float → Result Outline Refusal
made_answer m ps to_shapes to = outline_answer (made_verdict m ps to_shapes to) m (length ps)

-- its shape words are f 0, .., f (m - 1)
unfoldable pub made_shapes : ℕ → List Anchor → (ℕ → ℕ) → List ℕ → List Float → List ℕ
made_shapes m ps f to_shapes to = list_left (made_verdict m ps to_shapes to) m f to_shapes

unfoldable pub made_anchors : ℕ → List Anchor → List ℕ → List Float → List Float
made_anchors m ps to_shapes to = anchors_left (made_verdict m ps to_shapes to) ps to
