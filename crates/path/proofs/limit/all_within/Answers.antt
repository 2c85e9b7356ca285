-- All pass where none is counted that does not.
use Rattle.std.proofs.Common.{◌≡◌, ◌+◌, arith, length}
use mathlib.Core.Path.{ap, sym, refl, ◌∙◌}
use mathlib.Core.Bool.{not}
use lib.Dec.{eqb}
use Rattle.views.specs.View.{entry}
use Rattle.views.specs.Search.{count}
use Rattle.views.proofs.Searches.{count_more, count_same, none_counted}
use Rattle.path.specs.Limit.{within_limit}
use Rattle.path.proofs.limit.all_within.Goals as goal
use Rattle.path.proofs.limit.all_within.Goals.{then-not-within_limit, else-not-within_limit}

pub loop-x-init : goal.loop-x-init
unfolding count
loop-x-init c = (omega arith, refl)

pub overflow_add-outside : goal.overflow_add-outside
overflow_add-outside c = record { fits = omega arith }

pub loop-x-preserved : goal.loop-x-preserved
loop-x-preserved c =
    let n = c.loop-x.invariant.1 in
    let told = ap not (sym c.within_limit.ensures) in
    elim c.if-not-within_limit.branch [
      | then-not-within_limit w ↦ (omega arith, w.outside-is ∙ ap (λ k. k + 1) n ∙ count_more _ c.loop-x.x-index (told ∙ ap not w.if-not-within_limit.true))
      | else-not-within_limit w ↦ (omega arith, w.outside-is ∙ n ∙ count_same _ c.loop-x.x-index (told ∙ ap not w.if-not-within_limit.false))
    ]

pub returns : goal.returns
returns c =
    let l = c.args.list.now in
    let e : c.loop-x.x-index ≡ length l = omega arith in
    ap (λ z. eqb z 0) (c.loop-x.invariant.1 ∙ ap (count (λ j. not (within_limit c.args.limit (entry l j)))) e) ∙ none_counted _ (length l)
