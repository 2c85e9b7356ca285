-- Each point is one more, and there are at most 17.
use Rattle.std.proofs.Common.{◌≤◌}
use native.Mathlib.Omega.{arith}
use Rattle.bounds.proofs.Growths.{points_none, points_more, curve_done, sixteen}
use Rattle.bounds.proofs.boxes.add_curve.Goals as goal

pub overflow_add-k-end : goal.overflow_add-k-end
overflow_add-k-end c = let m : c.steps-m.result ≤ 16 = rw c.steps-m.ensures (sixteen _) in record { fits = omega arith }

pub loop-k-init : goal.loop-k-init
loop-k-init c = points_none _ _

pub step_at-requires : goal.step_at-requires
step_at-requires c = let m : c.steps-m.result ≤ 16 = rw c.steps-m.ensures (sixteen _) in (omega arith, omega arith)

pub loop-k-preserved : goal.loop-k-preserved
loop-k-preserved c = points_more _ _ _ _ c.loop-k.k _ c.loop-k.invariant c.step_at.ensures c.add.ensures

pub returns : goal.returns
returns c = curve_done _ _ _ _ c.loop-k.k c.steps-m.ensures (omega arith) c.loop-k.invariant
