-- One chord more, until the sum is above 1e-9; the sums of a curve in limit are finite, and none is below the one before it.
use mathlib.Core.Path.{refl, ap, sym, ◌∙◌}
use Prim.Native.Nat.{◌+◌}
use native.Mathlib.Omega.{arith}
use lib.Dec.{lit<, lit≤}
use lib.Ieee.{lt, of_bits}
use Rattle.real.specs.Sums.{running}
use Rattle.cubic.specs.Cubic.{CEPS}
use Rattle.cubic.proofs.FiniteChords.{chords_is_finite, chords_above}
use Rattle.side.specs.Side.{long_enough}
use Rattle.side.proofs.Lengths.{length_next}
use Rattle.side.proofs.table.first_chords.Goals as goal

pub loop-k-init : goal.loop-k-init
unfolding running lt of_bits
loop-k-init c = (c.step_at-p.ensures, refl, refl)

pub returns-then-so_far : goal.returns-then-so_far
unfolding long_enough
returns-then-so_far c =
    let curve = c.args.c in
    let k = c.loop-k.k in
    let i = c.loop-k.invariant in
    let next = length_next curve 128 k i.0 c.step_at-q.ensures i.1 c.dist-so_far.ensures in
    let above = ap (lt CEPS) (sym next) ∙ c.if-so_far.true in
    rw (
      next,
      above,
      chords_above curve 128 c.requires (lit< tt) (lit< tt) CEPS (k + 1) (omega arith) above,
      chords_is_finite curve 128 c.requires (lit< tt) (lit< tt) (k + 1) (omega arith),
      chords_is_finite curve 128 c.requires (lit< tt) (lit< tt) 128 (lit≤ tt),
    )
