-- `recutting::plans::plan_put`: the stretch holds the subpath as the edit leaves it.
use native.Mathlib.Omega.{arith}
use Rattle.cut.proofs.Shifts.{old_low}
use Rattle.recutting.proofs.Unrolling.{stretch_put}
use Rattle.recutting.proofs.plans.plan_put.Goals as goal

pub gather-g-requires-clause-by_index : goal.gather-g-requires-clause-by_index
gather-g-requires-clause-by_index c i l =
    let p = c.requires in
    let e = old_low c.args.sub.n i (omega arith) in
    (omega arith, omega arith, omega arith)

pub returns : goal.returns
returns c =
    let a = c.args in
    let s = c.stretch_of-s in
    let g = c.gather-g in
    (c.plan_recut.ensures.0, λ v f. c.plan_recut.ensures.1 v (rw c.put_anchor.ensures (stretch_put a.sub a.w s.result s.ensures c.requires.0.index v a.kind a.new a.radius a.anchors.now a.radii.now f g.result g.ensures)))
