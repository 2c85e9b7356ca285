-- `cached_split::planning::plan_halves`: the stretch holds the subpath as the split leaves it.
use Rattle.std.proofs.Common.{ap, arith}
use lib.ListN.{length, length-set}
use Rattle.cut.proofs.Steps.{next-lt}
use Rattle.session.proofs.Splits.{old_below}
use Rattle.cached_split.proofs.Halves.{start_in, end_in, stretch_halves}
use Rattle.cached_split.proofs.planning.plan_halves.Goals as goal

pub gather-g-requires-clause-by_index : goal.gather-g-requires-clause-by_index
gather-g-requires-clause-by_index c i l =
    let a = c.args in
    let p = c.requires in
    let en = ap (λ x. x.n) c.grown-more.ensures in
    let ef = ap (λ x. x.first) c.grown-more.ensures in
    let o = old_below a.sub.n a.a i p.n_bound.1 (omega arith) in
    (omega (arith, p.n_bound.0, p.n_in_bounds.0), omega (arith, p.n_in_bounds.1), omega (arith, p.n_bound.0))

pub rolled-end-requires : goal.rolled-end-requires
rolled-end-requires c =
    let p = c.requires in
    let en = ap (λ x. x.n) c.grown-more.ensures in
    let q = c.next.ensures in
    (record { few = omega (arith, p.n_bound.0); inside = c.stretch_of-s.ensures.inside }, rw q (next-lt _ _ (omega (arith, p.n_bound.1))))

pub put_anchor-requires : goal.put_anchor-requires
put_anchor-requires c =
    let a = c.args in
    let p = c.requires in
    let e = c.grown-more.ensures in
    let ab = rw e at c.stretch_of-s.ensures in
    let k = start_in a.sub a.a p.n_bound.1 p.n_bound.2 c.stretch_of-s.result ab in
    let q = rw e at c.rolled-start.ensures in
    omega (arith, c.gather-g.ensures.anchors_long)

pub put_anchor-requires-3 : goal.put_anchor-requires-3
put_anchor-requires-3 c =
    let a = c.args in
    let p = c.requires in
    let e = c.grown-more.ensures in
    let ab = rw e at c.stretch_of-s.ensures in
    let g = simp length-set at (ap length c.put_anchor.ensures) in
    let g2 = simp length-set at (ap length c.put_anchor-2.ensures) in
    let k = end_in a.sub a.a p.n_bound.1 p.n_bound.2 c.stretch_of-s.result ab in
    let q = rw (c.next.ensures, e) at c.rolled-end.ensures in
    omega (arith, c.gather-g.ensures.anchors_long)

pub returns : goal.returns
returns c =
    let a = c.args in
    let p = c.requires in
    let e = c.grown-more.ensures in
    let ab = rw e at c.stretch_of-s.ensures in
    let g = c.gather-g in (
      c.plan_recut.ensures.0,
      λ v f. rw e at (c.plan_recut.ensures.1 v
          (rw (c.put_anchor-3.ensures, c.put_anchor-2.ensures, c.put_anchor.ensures, c.rolled-end.ensures, c.next.ensures, c.rolled-start.ensures, e)
          (stretch_halves a.sub a.a p.n_bound.1 p.n_bound.2 c.stretch_of-s.result ab v a.kind a.h a.anchors.now a.radii.now f g.result (rw e at g.ensures)))),
    )
