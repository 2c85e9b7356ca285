-- q * q and y units of d make m * 2 ^ 54, which is below (q + d) ^ 2; d is a power of two.
use Rattle.std.proofs.Common.{◌≡◌, ℕ, ◌*◌, ◌^◌, ◌≤◌}
use Rattle.root.proofs.Whole.{Part}
use Rattle.root.proofs.isqrt_wide.Given as goal

abbrev pub invariant-loop-d : goal.invariant-loop-d
invariant-loop-d l = Part (l.m * 2 ^ 54) l.q l.y l.d × (l.d ≤ 2 ^ 54) × ((j : ℕ) × (l.d ≡ 2 ^ j))

abbrev pub decreases-loop-d : goal.decreases-loop-d
decreases-loop-d l = l.d
