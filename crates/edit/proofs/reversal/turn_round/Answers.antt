-- `edit::reversal::turn_round` meets its contract: two anchors more change places at each turn.
use Rattle.std.proofs.Common.{◌≡◌, ◌+◌, ◌-◌, ◌*◌, ◌/◌, ◌≤◌, ◌<◌, arith, length, refl}
use mathlib.Core.Path.{ap, ◌∙◌}
use mathlib.Core.Logic.{inr, ⊎_elim}
use Rattle.path.specs.Flat.{anchor_at, put_anchor}
use Rattle.path.proofs.Places.{length-put, put_out}
use Rattle.edit.specs.Reversed.{turned}
use Rattle.edit.proofs.Turning.{turned_more, kept_more, turned_round}
use Rattle.edit.proofs.reversal.turn_round.Goals as goal

pub loop-i-init : goal.loop-i-init
loop-i-init c = (refl, (λ k a b o. ⊎_elim (λ h. absurd (omega arith)) (λ h. absurd (omega arith)) o), (λ k o. refl), λ j h. refl)

pub loop-i-preserved : goal.loop-i-preserved
loop-i-preserved c =
    let a = c.args in
    let l = c.loop-i in
    let e = c.exchange.ensures in
    let u = a.first + l.i in
    let v = a.first + (a.n - 1 - l.i) in
    let x = turned (anchor_at l.anchors v) in
    let y = turned (anchor_at l.anchors u) in
    let less : l.i < (a.n + 1) / 2 = omega arith in
    let room : (a.first + a.n) * 6 ≤ length l.anchors = omega (arith, l.invariant.0) in (
      ap length e ∙ length-put (put_anchor l.anchors u x) v y ∙ length-put l.anchors u x ∙ l.invariant.0,
      rw e (turned_more a.anchors.now a.first a.n l.i less l.anchors room l.invariant.1 l.invariant.2),
      rw e (kept_more a.anchors.now a.first a.n l.i less l.anchors room l.invariant.1 l.invariant.2),
      λ j h. rw e (put_out (put_anchor l.anchors u x) v y j (inr (omega arith)) ∙ put_out l.anchors u x j (inr (omega arith)) ∙ l.invariant.3 j h),
    )

pub returns : goal.returns
returns c =
    let a = c.args in
    let l = c.loop-i in
    let e : l.i ≡ (a.n + 1) / 2 = omega arith in
    turned_round a.anchors.now a.first a.n a.all l.anchors l.invariant.0 (omega arith) (omega arith) (rw e at l.invariant.1) (rw e at l.invariant.2) l.invariant.3
