-- After j chords the best is that of those, and `from` ends the last.
use Rattle.std.proofs.Common.{◌≡◌}
use Rattle.cubic.specs.Sample.{step_at}
use Rattle.hit.specs.Best.{Barred}
use Rattle.hit.specs.Steps.{step_offset}
use Rattle.hit.specs.Tried.{tried}
use Rattle.hit.proofs.segments.try_curve.Given as goal

abbrev pub invariant-loop-j : goal.invariant-loop-j
invariant-loop-j l = record {
  at : l.from ≡ step_at l.c 48 l.j;
  best : l.best ≡ tried l.tol l.i (step_offset 48 l.q l.c) l.fn.best l.j;
  barred : Barred l.tol l.best;
}
