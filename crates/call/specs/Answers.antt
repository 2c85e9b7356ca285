-- What a call that makes a path answers, and what it leaves in the lists lent for it. Assumes nothing.
use Rattle.std.proofs.Common.{Result}
use Rattle.std.specs.Prelude.{ℕ, ◌*◌, List, length, get_or, Float}
use Rattle.views.specs.View.{entry, overwrite}
use Rattle.refusal.specs.declared.Refusal.{Refusal}
use Rattle.refusal.specs.declared.Reason.TheVariants.{Output, Made}
use Rattle.refusal.specs.Order.{passes, holds, judge, Verdict, accepted, refused, answering}
use Rattle.path.specs.declared.anchor.Anchor.{Anchor}
use Rattle.path.specs.Shape.{total}
use Rattle.path.specs.Flat.{listed}
use Rattle.path.specs.Limit.{anchor_in}
use Rattle.call.specs.declared.answers.Outline.{Outline}
use Rattle.call.specs.Tests.{places, room_for}

-- how many subpaths and anchors
unfoldable pub outline_answer : Verdict → ℕ → ℕ → Result Outline Refusal
outline_answer v m count = answering v (record { subpaths = m; anchors = count })

-- a lent list afterwards: its first m entries f 0, .., f (m - 1), then as it was; a refusal leaves every bit
unfoldable pub list_left : {A : Type 0} → Verdict → ℕ → (ℕ → A) → List A → List A
list_left accepted m f xs = overwrite m f xs
list_left (refused why) m f xs = xs

-- with these anchors in front
unfoldable pub anchors_left : Verdict → List Anchor → List Float → List Float
anchors_left accepted ps xs = listed ps xs
anchors_left (refused why) ps xs = xs

-- ---- a path that stands in scratch lists, handed over to lent ones: what is still tested, answered and left
unfoldable pub handed_verdict : List ℕ → List Float → List ℕ → List Float → Verdict
handed_verdict words made to_shapes to =
    judge (places (anchor_in made) (total words) passes) Made (judge (holds (room_for (length words) (total words) to_shapes to) 0) Output accepted)

unfoldable pub handed_answer : List ℕ → List Float → List ℕ → List Float → Result Outline Refusal
handed_answer words made to_shapes to = outline_answer (handed_verdict words made to_shapes to) (length words) (total words)

unfoldable pub handed_shapes : List ℕ → List Float → List ℕ → List Float → List ℕ
handed_shapes words made to_shapes to = list_left (handed_verdict words made to_shapes to) (length words) (λ i. get_or words i 0) to_shapes

unfoldable pub handed_anchors : List ℕ → List Float → List ℕ → List Float → List Float
handed_anchors words made to_shapes to = list_left (handed_verdict words made to_shapes to) (total words * 6) (entry made) to
