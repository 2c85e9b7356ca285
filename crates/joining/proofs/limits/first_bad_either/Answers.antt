-- `joining::limits::first_bad_either` meets its contract: one law for each answer.
use Rattle.std.proofs.Common.{arith}
use mathlib.Core.Path.{sym, ◌∙◌}
use Rattle.path.proofs.Limits.{first_is}
use Rattle.joining.proofs.Eithers.{bad_drawn, bad_target, bad_nowhere}
use Rattle.joining.proofs.limits.first_bad_either.Goals as goal

pub returns-in_err-k : goal.returns-in_err-k
returns-in_err-k c =
    let a = c.args in
    c.from_residual.ensures ∙ bad_nowhere a.drawn.now a.count a.target.now a.n (sym c.first_bad_of.ensures ∙ c.in_default.is) (sym c.first_bad_of-2.ensures ∙ c.in_err-k.was)

pub overflow_add-result : goal.overflow_add-result
overflow_add-result c =
    let l = ((first_is _ _ _).0 (sym c.first_bad_of-2.ensures ∙ c.in_ok-k.was)).place in
    record { fits = omega (arith, l, c.requires.drawn.few, c.requires.target.few) }

pub returns : goal.returns
returns c =
    let a = c.args in
    bad_target a.drawn.now a.count a.target.now a.n (sym c.first_bad_of.ensures ∙ c.in_default.is) _ (sym c.first_bad_of-2.ensures ∙ c.in_ok-k.was)

pub returns-in-Some : goal.returns-in-Some
returns-in-Some c =
    let a = c.args in
    bad_drawn a.drawn.now a.count a.target.now a.n _ (sym c.first_bad_of.ensures ∙ c.in-Some.is)
