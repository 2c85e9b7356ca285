-- No end before this one is far enough from the start.
use Rattle.std.proofs.Common.{ℕ, ◌≡◌, ◌<◌, false}
use lib.Ieee.{lt, nan}
use lib.ListN.{get_or}
use Rattle.geom.specs.Point.{point, minus, len}
use Rattle.cubic.specs.Cubic.{CEPS}
use Rattle.side.proofs.side.Side.direction.Given as goal

abbrev pub invariant-loop-end : goal.invariant-loop-end
invariant-loop-end l = (j : ℕ) → j < l.end-index → lt CEPS (len (minus (get_or l.end-items j (point nan nan)) l.start)) ≡ false
