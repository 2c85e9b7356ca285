-- `transform::reach::stays_in_limit` meets its contract, by what its four tests found.
use mathlib.Core.Path.{sym, ◌∙◌}
use mathlib.Core.Bool.{true≢false}
use lib.Ieee.{nan}
use lib.Ieee.Bits.{is_true}
use Rattle.std.proofs.Common.{◌*◌}
use Rattle.views.proofs.Searches.{all_taken}
use Rattle.path.specs.Limit.{within_limit}
use Rattle.transform.proofs.Staying.{given_in, made_in}
use Rattle.transform.proofs.reach.stays_in_limit.Goals as goal
use Rattle.transform.proofs.reach.stays_in_limit.Goals.{then-in_limit, else-in_limit, then-keeps, else-keeps}

pub returns-then-keeps-2 : goal.returns-then-keeps-2
returns-then-keeps-2 c = λ t.
    let a = c.args in
    let r = c.reach_of-reach.result in
    let w = sym (all_taken nan (within_limit r) a.anchors.now (a.n * 6) c.requires.1) ∙ sym c.all_within.ensures ∙ is_true _ t in
    elim c.if-keeps.branch [
      | then-keeps y ↦ elim c.if-in_limit.branch [
        | then-in_limit x ↦
            let l = sym c.in_limit.ensures ∙ x.if-in_limit.true in
            let X = sym x.keeps.ensures ∙ sym x.value-is ∙ y.if-keeps.true in
            let Y = sym y.keeps-then-keeps.ensures ∙ sym y.value-is ∙ c.if-keeps-2.true in
            (given_in a.m r X Y a.anchors.now a.n c.reach_of-reach.ensures l w, made_in a.m r X Y a.anchors.now a.n c.reach_of-reach.ensures l w)
        | else-in_limit x ↦ absurd (true≢false (sym y.if-keeps.true ∙ x.value-is ∙ x.if-in_limit.false))
      ]
      | else-keeps y ↦ absurd (true≢false (sym c.if-keeps-2.true ∙ y.value-is ∙ y.if-keeps.false))
    ]
