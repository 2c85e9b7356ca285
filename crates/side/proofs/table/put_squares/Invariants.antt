-- Before chord k the squares of the chords before it stand from index 1 on, and p is the point at their end.
use Rattle.std.proofs.Common.{◌≡◌, ◌+◌, ◌<◌, ℕ}
use Rattle.views.specs.View.{entry}
use Rattle.cubic.specs.Sample.{step_at}
use Rattle.side.specs.Side.{chord_square}
use Rattle.side.proofs.table.put_squares.Given as goal

abbrev pub invariant-loop-k : goal.invariant-loop-k
invariant-loop-k l = (l.p ≡ step_at l.c 128 l.k) × ((i : ℕ) → i < l.k → entry l.table (i + 1) ≡ chord_square l.c 128 i)
