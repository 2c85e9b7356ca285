-- After k points the box is grown by those.
use Rattle.std.proofs.Common.{◌≡◌}
use Rattle.views.specs.View.{tabulate}
use Rattle.cubic.specs.Sample.{step_at}
use Rattle.bounds.specs.Points.{grown_by}
use Rattle.bounds.proofs.boxes.add_curve.Given as goal

abbrev pub invariant-loop-k : goal.invariant-loop-k
invariant-loop-k l = l.b ≡ grown_by l.fn.b (tabulate l.k (step_at l.c l.m))
