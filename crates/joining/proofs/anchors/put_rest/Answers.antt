-- `joining::anchors::put_rest` meets its contract: one anchor more at each turn.
use Rattle.std.proofs.Common.{◌≡◌, ◌+◌, ◌-◌, arith, length, refl}
use mathlib.Core.Path.{ap, ◌∙◌}
use Rattle.views.specs.View.{tabulate}
use Rattle.path.specs.Flat.{put_all}
use Rattle.path.proofs.Places.{length-put}
use Rattle.joining.specs.Joined.{target_at, target_rest}
use Rattle.joining.proofs.Laid.{put_table}
use Rattle.joining.proofs.anchors.put_rest.Goals as goal

pub loop-k-init : goal.loop-k-init
unfolding tabulate put_all
loop-k-init c = (refl, refl)

pub loop-k-preserved : goal.loop-k-preserved
loop-k-preserved c =
    let l = c.loop-k in
    let a = c.args in
    let e = c.put_anchor.ensures in
    (ap length e ∙ length-put l.to (a.from + l.k) _ ∙ l.invariant.0, put_table a.to.now l.to _ a.from l.k (λ i. target_at a.target.anchors.now a.target.n a.target.at_start (i + 1)) _ l.invariant.1 c.anchor.ensures e)

pub returns : goal.returns
unfolding target_rest
returns c =
    let l = c.loop-k in
    let a = c.args in
    let e : l.k ≡ a.target.n - 1 = omega arith in
    l.invariant.1 ∙ ap (λ i. put_all a.to.now a.from (tabulate i (λ j. target_at a.target.anchors.now a.target.n a.target.at_start (j + 1)))) e
