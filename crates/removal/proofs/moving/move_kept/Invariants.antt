-- Those before k that are kept stand from `at` on.
use Rattle.removal.proofs.Moved.{MovedTo}
use Rattle.removal.proofs.moving.move_kept.Given as goal

abbrev pub invariant-loop-k : goal.invariant-loop-k
invariant-loop-k l = MovedTo l.gone l.initial.anchors l.first l.at l.anchors l.next l.k
