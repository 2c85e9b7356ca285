-- Each answer cites what the tests found.
use Rattle.std.proofs.Common.{rules, ◌≡◌, Err}
use mathlib.Core.Path.{sym, ap, ◌∙◌}
use Rattle.refusal.proofs.Verdicts.{answers_ok, answers_err}
use Rattle.call.proofs.Openings.{path_opens}
use Rattle.hit.proofs.Outcomes.{path_fails, query_fails, all_pass}
use Rattle.hit.proofs.opening.open_hit.Goals as goal

pub returns-in_err-n : goal.returns-in_err-n
returns-in_err-n c =
    let e : c.from_residual.result ≡ Err c.in_err-n.field-0.0 = search rules in
    e ∙ answers_err _ (path_fails _ _ _ _ _ (sym c.in_err-n.ensures))

pub returns-then-query_in : goal.returns-then-query_in
returns-then-query_in c =
    let o = path_opens _ _ _ _ (sym c.in_ok-n.ensures) in
    rw o.count (answers_ok _ (all_pass _ _ _ _ _ o (sym c.if-query_in.ensures)))

pub returns-else-query_in : goal.returns-else-query_in
returns-else-query_in c =
    ap Err c.at.ensures ∙ answers_err _ (query_fails _ _ _ _ _ (path_opens _ _ _ _ (sym c.in_ok-n.ensures)) (sym c.if-query_in.ensures))
