-- Each answer cites its outcome.
use Rattle.std.proofs.Common.{rules, ◌≡◌, Err, Ok, Some}
use mathlib.Core.Path.{sym, ap, ◌∙◌}
use native.Mathlib.Omega.{arith}
use Rattle.refusal.proofs.Verdicts.{err_says}
use Rattle.hit.proofs.Outcomes.{hit_opens, tolerance_in, found_below_lem, anchor-refused, anchor_missed, anchor_found}
use Rattle.hit.proofs.anchors.hit_anchor.Goals as goal

pub returns-in_err-n : goal.returns-in_err-n
returns-in_err-n c =
    let e : c.from_residual.result ≡ Err c.in_err-n.field-0.0 = search rules in
    e ∙ anchor-refused _ _ _ _ _ (err_says _ _ _ (sym c.in_err-n.ensures))

pub nearest_place-requires : goal.nearest_place-requires
nearest_place-requires c =
    let o = hit_opens _ _ _ _ _ (sym c.in_ok-n.ensures) in
    let p = o.path in
    (omega arith, omega arith, tolerance_in _ _ o.query)

pub locate-requires : goal.locate-requires
locate-requires c =
    let p = (hit_opens _ _ _ _ _ (sym c.in_ok-n.ensures)).path in
    omega (arith, found_below_lem _ _ _ _ _ (sym c.in-Some.ensures))

pub returns-in-Some : goal.returns-in-Some
returns-in-Some c = ap (λ r. Ok (Some r)) c.locate.ensures ∙ anchor_found _ _ _ _ _ (hit_opens _ _ _ _ _ (sym c.in_ok-n.ensures)) _ (sym c.in-Some.ensures)

pub returns-in-None : goal.returns-in-None
returns-in-None c = anchor_missed _ _ _ _ _ (hit_opens _ _ _ _ _ (sym c.in_ok-n.ensures)) (sym c.in-None.ensures)
