-- Before chord k the length is the sum of the chords before it, and p the point at their end.
use Rattle.std.proofs.Common.{◌≡◌}
use Rattle.real.specs.Sums.{running}
use Rattle.cubic.specs.Sample.{step_at, chord}
use Rattle.side.proofs.table.curve_length.Given as goal

abbrev pub invariant-loop-k : goal.invariant-loop-k
invariant-loop-k l = (l.p ≡ step_at l.c 128 l.k) × (l.len ≡ running (chord l.c 128) l.k)
