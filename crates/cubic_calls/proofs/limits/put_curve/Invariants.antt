-- The numbers of the first k points are written, the rest is as it was.
use Rattle.std.proofs.Common.{◌≡◌, ℕ, ◌*◌, ◌≤◌, ◌<◌, length}
use Rattle.views.specs.View.{entry}
use Rattle.geom.specs.Flat.{pt, coordinates}
use Rattle.cubic_calls.proofs.limits.put_curve.Given as goal

abbrev pub invariant-loop-k : goal.invariant-loop-k
invariant-loop-k l =
    (8 ≤ length l.to)
    × ((j : ℕ) → j < 2 * l.k → entry l.to j ≡ coordinates (pt l.fn.c) j)
    × ((j : ℕ) → 2 * l.k ≤ j → entry l.to j ≡ entry l.fn.to j)
