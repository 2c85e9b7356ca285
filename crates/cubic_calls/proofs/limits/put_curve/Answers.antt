-- Each point is stored after those before it.
use mathlib.Core.Path.{refl}
use native.Mathlib.Omega.{arith}
use lib.ListN.{length-set}
use lib.Ieee.{nan}
use Rattle.views.proofs.Laws.{as_overwrite}
use Rattle.geom.specs.Flat.{pt}
use Rattle.geom.proofs.Flats.{store_more, store_keep}
use Rattle.cubic_calls.proofs.limits.put_curve.Goals as goal

pub loop-k-preserved : goal.loop-k-preserved
loop-k-preserved c =
    let l = c.loop-k in
    let p = pt c.args.c l.k in
    let i = l.invariant in
    (simp length-set i.0, store_more l.to l.k p (pt c.args.c) (omega (arith, i.0)) i.1 refl, store_keep l.to l.k p c.args.to.now i.2)

pub returns : goal.returns
returns c =
    let l = c.loop-k in
    as_overwrite nan l.to c.args.to.now 8 _ l.auto.to (λ j h. l.invariant.1 j (omega arith)) (λ j h. l.invariant.2 j (omega arith))
