-- Each anchor is one candidate more.
use Rattle.std.proofs.Common.{rules, ◌≡◌}
use mathlib.Core.Path.{ap, ◌∙◌}
use native.Mathlib.Omega.{arith}
use Rattle.geom.specs.Point.{minus}
use Rattle.path.specs.declared.anchor.Anchor.{Anchor}
use Rattle.hit.specs.Nearest.{nearest}
use Rattle.hit.specs.Calls.{nearest_anchor}
use Rattle.hit.proofs.Walked.{stands-none, stands_number}
use Rattle.hit.proofs.Outcomes.{anchor_more}
use Rattle.hit.proofs.anchors.nearest_place.Goals as goal

pub loop-k-init : goal.loop-k-init
loop-k-init c = record { stands = stands-none _ _ _ c.nothing-best.ensures.found; barred = c.nothing-best.ensures.bar }

pub loop-k-preserved : goal.loop-k-preserved
loop-k-preserved c =
    record {
      stands = anchor_more _ _ _ _ _ _ _ c.loop-k.invariant.stands (c.sub.ensures ∙ ap (λ (o : Anchor). minus o.p c.args.q) c.anchor_at.ensures) c.take-best.ensures.best;
      barred = c.take-best.ensures.bar;
    }

pub returns : goal.returns
unfolding nearest_anchor
returns c =
    let e : c.loop-k.k ≡ c.args.n = omega arith in
    search rules ∙ stands_number _ _ _ _ c.loop-k.invariant.stands ∙ ap (nearest _ _) e
