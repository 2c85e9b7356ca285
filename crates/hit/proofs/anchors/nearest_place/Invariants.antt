-- After k anchors the best is the nearest of those.
use lib.Ieee.{le}
use Rattle.hit.specs.Best.{Barred}
use Rattle.hit.specs.Calls.{anchor_distance}
use Rattle.hit.proofs.Walked.{Stands}
use Rattle.hit.proofs.anchors.nearest_place.Given as goal

abbrev pub invariant-loop-k : goal.invariant-loop-k
invariant-loop-k l = record {
  stands : Stands (λ j. le (anchor_distance l.anchors l.q j) l.tol) (anchor_distance l.anchors l.q) l.k l.best;
  barred : Barred l.tol l.best;
}
