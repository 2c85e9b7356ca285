-- After k points the list has their 2k numbers, and the rest as it was.
use Rattle.std.proofs.Common.{◌≡◌, ◌+◌}
use mathlib.Core.Path.{refl, sym}
use native.Mathlib.Nat.{not-suc-le-zero}
use native.Mathlib.Omega.{arith}
use lib.ListN.{length-set}
use lib.Ieee.{nan}
use Rattle.views.proofs.Laws.{as_overwrite}
use Rattle.geom.proofs.Flats.{store_more, store_keep}
use Rattle.cubic.specs.Sample.{step_at, sample_count}
use Rattle.cubic.proofs.sampling.sample.Goals as goal

pub loop-k-init : goal.loop-k-init
unfolding sample_count
loop-k-init c = (rw (sym c.steps-m.ensures) at c.requires.1, λ j h. absurd (not-suc-le-zero h), λ j h. refl)

pub loop-k-preserved : goal.loop-k-preserved
loop-k-preserved c =
    let l = c.loop-k in (
      simp length-set l.invariant.0,
      store_more l.out l.k c.step_at-p.result (step_at _ _) (omega arith) l.invariant.1 c.step_at-p.ensures,
      store_keep l.out l.k c.step_at-p.result c.args.out.now l.invariant.2,
    )

pub returns-clause-count : goal.returns-clause-count
unfolding sample_count
returns-clause-count c = rw c.steps-m.ensures refl

pub returns-clause-points : goal.returns-clause-points
unfolding sample_count
returns-clause-points c =
    let l = c.loop-k in
    let end : l.k ≡ c.steps-m.result + 1 = omega arith in
    rw (← c.steps-m.ensures)
    (as_overwrite nan l.out c.args.out.now _ _ l.auto.out (λ j h. l.invariant.1 j (omega arith)) (λ j h. l.invariant.2 j (omega arith)))
