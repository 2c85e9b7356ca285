-- Before point k `out` has the 2k numbers of the points before it, and the rest as it was; there is room for all.
use Rattle.std.proofs.Common.{◌≡◌, ◌+◌, ◌*◌, ◌≤◌, ◌<◌, ℕ, length}
use Rattle.views.specs.View.{entry}
use Rattle.geom.specs.Flat.{coordinates}
use Rattle.cubic.specs.Sample.{step_at}
use Rattle.cubic.proofs.sampling.sample.Given as goal

abbrev pub invariant-loop-k : goal.invariant-loop-k
invariant-loop-k l =
    (2 * (l.m + 1) ≤ length l.out)
    × ((j : ℕ) → j < 2 * l.k → entry l.out j ≡ coordinates (step_at l.c l.m) j)
    × ((j : ℕ) → 2 * l.k ≤ j → entry l.out j ≡ entry l.fn.out j)
