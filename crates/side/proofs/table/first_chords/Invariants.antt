-- Before chord k the sum is that of the chords before it, which is not above 1e-9, and p the point at their end.
use Rattle.std.proofs.Common.{◌≡◌, false}
use Rattle.std.specs.Float.Ieee.{lt}
use Rattle.real.specs.Sums.{running}
use Rattle.cubic.specs.Cubic.{CEPS}
use Rattle.cubic.specs.Sample.{step_at, chord}
use Rattle.side.proofs.table.first_chords.Given as goal

abbrev pub invariant-loop-k : goal.invariant-loop-k
invariant-loop-k l = (l.p ≡ step_at l.c 128 l.k) × (l.so_far ≡ running (chord l.c 128) l.k) × (lt CEPS l.so_far ≡ false)
