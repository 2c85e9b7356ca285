-- `reversed`: the anchors of a subpath in the other direction, its handles on the other sides. Assumes nothing.
use Rattle.std.specs.Prelude.{ℕ, ◌+◌, ◌-◌, true, ◌&&◌, cond, List, leb, ltb, length, Float, Result}
use Rattle.views.specs.View.{tabulate}
use Rattle.refusal.specs.declared.Refusal.{Refusal}
use Rattle.refusal.specs.Order.{passes, holds, Verdict, verdict, tests}
use Rattle.path.specs.declared.anchor.Anchor.{Anchor}
use Rattle.path.specs.Flat.{anchor_at}
use Rattle.path.specs.Shape.{count_of, total, word_at, start}
use Rattle.call.specs.declared.answers.Outline.{Outline}
use Rattle.call.specs.Tests.{drawing_fits, drawing_limit}
use Rattle.call.specs.Answers.{outline_answer, anchors_left}

-- an anchor passed the other way
unfoldable pub turned : Anchor → Anchor
turned a = record { p = a.p; h_in = a.h_out; h_out = a.h_in }

-- the anchors f 0, f 1, .. with the n from `first` on in the other direction
unfoldable pub reversed_anchors : (ℕ → Anchor) → ℕ → ℕ → ℕ → Anchor
reversed_anchors f first n k = cond (leb first k && ltb k (first + n)) (turned (f (first + (first + n - 1 - k)))) (f k)

-- those of subpath s of a path
unfoldable pub reversed_path : List ℕ → List Float → ℕ → List Anchor
reversed_path shapes anchors s = tabulate (total shapes) (reversed_anchors (anchor_at anchors) (start shapes s) (count_of (word_at shapes s)))

-- the result has no other numbers than the drawing, so 9 is not met
unfoldable pub reversed_verdict : List ℕ → List Float → List Float → ℕ → Verdict
reversed_verdict shapes anchors radii s =
    verdict
    (tests
    (holds (drawing_fits shapes anchors radii) 0)
    (drawing_limit shapes anchors radii true)
    (holds (ltb s (length shapes)) 0)
    passes
    passes
    passes)

unfoldable pub reversed_answer : List ℕ → List Float → List Float → ℕ → Result Outline Refusal
reversed_answer shapes anchors radii s = outline_answer (reversed_verdict shapes anchors radii s) (length shapes) (total shapes)

unfoldable pub reversed_left : List ℕ → List Float → List Float → ℕ → List Float
reversed_left shapes anchors radii s = anchors_left (reversed_verdict shapes anchors radii s) (reversed_path shapes anchors s) anchors
