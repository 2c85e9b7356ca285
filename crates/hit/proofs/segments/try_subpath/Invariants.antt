-- After a anchors the best is that of the segments that start there.
use Rattle.std.proofs.Common.{◌≡◌}
use Rattle.hit.specs.Best.{Barred}
use Rattle.hit.specs.Tried.{tried_from}
use Rattle.hit.proofs.segments.try_subpath.Given as goal

abbrev pub invariant-loop-a : goal.invariant-loop-a
invariant-loop-a l = record {
  best : l.best ≡ tried_from l.tol 48 l.q l.anchors l.k l.n l.closed l.fn.best l.a;
  barred : Barred l.tol l.best;
}
