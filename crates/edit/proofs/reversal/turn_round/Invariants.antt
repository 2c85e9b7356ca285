-- The i anchors at either end have changed places, the others have not.
use Rattle.std.proofs.Common.{◌≡◌, ℕ, ◌*◌, ◌≤◌, length}
use Rattle.views.specs.View.{entry}
use Rattle.edit.proofs.Turning.{Turned, Kept}
use Rattle.edit.proofs.reversal.turn_round.Given as goal

abbrev pub invariant-loop-i : goal.invariant-loop-i
invariant-loop-i l =
    (length l.anchors ≡ length l.initial.anchors) × Turned l.initial.anchors l.first l.n l.i l.anchors × Kept l.initial.anchors l.first l.n l.i l.anchors
    × ((j : ℕ) → l.all * 6 ≤ j → entry l.anchors j ≡ entry l.initial.anchors j)
