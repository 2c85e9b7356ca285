-- `transform::mapping::map_anchors` meets its contract: one anchor more at each turn.
use Rattle.std.proofs.Common.{◌≡◌, ◌*◌, length, arith, rules}
use mathlib.Core.Path.{ap, ◌∙◌}
use lib.Ieee.{nan}
use Rattle.views.specs.View.{entry}
use Rattle.views.proofs.Laws.{as_overwrite}
use Rattle.path.proofs.Places.{length-put, put_more, put_keep}
use Rattle.transform.specs.Mapped.{mapped_at}
use Rattle.transform.proofs.mapping.map_anchors.Goals as goal

pub loop-k-preserved : goal.loop-k-preserved
unfolding mapped_at
loop-k-preserved c =
    let l = c.loop-k in
    let a = c.args in
    let v = c.mapped.result in
    let is : v ≡ mapped_at a.m a.anchors.now l.k = search rules in
    let e = c.put_anchor.ensures in (
      ap length e ∙ length-put l.made l.k v ∙ l.invariant.0,
      λ j h. ap (λ z. entry z j) e ∙ put_more l.made l.k v _ (omega (arith, l.invariant.0, c.requires.2)) l.invariant.1 is j h,
      λ j h. ap (λ z. entry z j) e ∙ put_keep l.made l.k v a.made.now l.invariant.2 j h,
    )

pub returns : goal.returns
returns c =
    let a = c.args in
    let l = c.loop-k in
    as_overwrite nan l.made a.made.now (a.n * 6) _ l.invariant.0 (λ j h. l.invariant.1 j (omega arith)) (λ j h. l.invariant.2 j (omega arith))
