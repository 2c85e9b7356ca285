-- A segment's chords are tried, or there is no segment.
use mathlib.Core.Path.{refl, sym, ◌∙◌}
use Rattle.hit.specs.Tried.{tried_from}
use Rattle.hit.proofs.Offsets.{from_skip, from_more}
use Rattle.hit.proofs.segments.try_subpath.Goals as goal
use Rattle.hit.proofs.segments.try_subpath.Goals.{then-has_segment, else-has_segment}

pub loop-a-init : goal.loop-a-init
unfolding tried_from
loop-a-init c = record { best = refl; barred = c.requires.0 }

pub loop-a-preserved : goal.loop-a-preserved
loop-a-preserved c =
    let l = c.loop-a in
    elim c.if-has_segment.branch [
      | then-has_segment w ↦ rw w.best-is
          (record {
            best = from_more _ _ _ _ _ _ _ _ _ l.a l.invariant.best (sym c.has_segment.ensures ∙ w.if-has_segment.true) _ _ w.curve_at.ensures w.try_curve-best.ensures.best;
            barred = w.try_curve-best.ensures.bar;
          })
      | else-has_segment w ↦ rw w.best-is
          (record {
            best = from_skip _ _ _ _ _ _ _ _ _ l.a l.invariant.best (sym c.has_segment.ensures ∙ w.if-has_segment.false);
            barred = l.invariant.barred;
          })
    ]
