-- Each chord is one candidate more.
use mathlib.Core.Path.{refl}
use Rattle.hit.specs.Tried.{tried}
use Rattle.hit.proofs.Offsets.{chord-offset, tried_more}
use Rattle.hit.proofs.segments.try_curve.Goals as goal

pub loop-j-init : goal.loop-j-init
unfolding tried
loop-j-init c = record { at = c.step_at-from.ensures; best = refl; barred = c.requires.0 }

pub loop-j-preserved : goal.loop-j-preserved
loop-j-preserved c =
    let l = c.loop-j in
    record {
      at = c.step_at-to.ensures;
      best = tried_more _ _ _ _ _ _ l.j _ l.invariant.best (chord-offset 48 _ _ l.j _ _ _ l.invariant.at c.step_at-to.ensures c.offset.ensures) c.take-best.ensures.best;
      barred = c.take-best.ensures.bar;
    }
