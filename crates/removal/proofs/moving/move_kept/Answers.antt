-- `removal::moving::move_kept` meets its contract: one anchor more, which is kept or not.
use mathlib.Core.Path.{ap, ◌∙◌}
use Rattle.std.proofs.Common.{arith}
use Rattle.path.specs.Flat.{put_anchor}
use Rattle.removal.proofs.Moved.{moved_none, moved_gone, moved_kept}
use Rattle.removal.proofs.moving.move_kept.Goals as goal
use Rattle.removal.proofs.moving.move_kept.Goals.{then-not-mark, else-not-mark}

pub loop-k-init : goal.loop-k-init
loop-k-init c = moved_none c.args.gone.now c.args.anchors.now c.args.first c.args.at c.requires.2

pub put_anchor-requires : goal.put_anchor-requires
put_anchor-requires c = omega (arith, c.loop-k.invariant.0, c.loop-k.invariant.1, c.requires.1)

pub loop-k-preserved : goal.loop-k-preserved
loop-k-preserved c =
    let a = c.args in
    let l = c.loop-k in
    elim c.if-not-mark.branch [
      | then-not-mark w ↦
          rw (w.anchors-is, w.next-is)
          (moved_kept a.gone.now a.anchors.now a.first a.at l.anchors l.next l.k l.invariant w.if-not-mark.true _ (w.put_anchor.ensures ∙ ap (put_anchor l.anchors l.next) w.anchor_at-a.ensures))
      | else-not-mark w ↦
          rw (w.anchors-is, w.next-is) (moved_gone a.gone.now a.anchors.now a.first a.at l.anchors l.next l.k l.invariant w.if-not-mark.false)
    ]
