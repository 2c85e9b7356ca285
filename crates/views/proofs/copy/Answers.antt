-- One entry more is copied.
use mathlib.Core.Path.{refl, ◌∙◌}
use native.Mathlib.Omega.{arith}
use lib.ListN.{get_or}
use borrow.Author.Count.{below_none}
use Rattle.std.proofs.lemmas.List.{get_or_default}
use Rattle.views.proofs.Laws.{fill_more, keep_more, as_overwrite}
use Rattle.views.proofs.copy.Goals as goal

pub loop-i-init : goal.loop-i-init
loop-i-init g c = (λ d. below_none _, λ d j h. refl)

pub loop-i-preserved : goal.loop-i-preserved
loop-i-preserved g c =
    let l = c.loop-i in (
      λ d. fill_more d l.to l.i _ (λ j. get_or c.args.from.now j d) (omega arith) (l.invariant.0 d) (c.index-from-i.is ∙ get_or_default _ l.i _ d (omega arith)),
      λ d. keep_more d l.to l.i _ c.args.to.now (l.invariant.1 d),
    )

pub returns : goal.returns
returns g c d =
    let l = c.loop-i in
    as_overwrite d l.to c.args.to.now c.args.n _ l.auto.to (λ j h. l.invariant.0 d j (omega arith)) (λ j h. l.invariant.1 d j (omega arith))
