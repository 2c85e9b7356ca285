-- The path is opened or refused, then its corners are listed.
use mathlib.Core.Path.{sym, ◌∙◌}
use Rattle.std.proofs.Common.{rules, ◌≡◌, Err}
use Rattle.call.proofs.Openings.{path_opens}
use Rattle.corner_calls.proofs.Outcomes.{not_opened, as_found}
use Rattle.corner_calls.proofs.calls.path_corners.Goals as goal

pub returns-in_err-open_path : goal.returns-in_err-open_path
returns-in_err-open_path c =
    let r = not_opened c.args.shapes.now c.args.anchors.now c.args.places.now c.args.numbers.now _ (sym c.open_path.ensures ∙ c.in_err-open_path.was) in
    let e : c.from_residual.result ≡ Err c.in_err-open_path.field-0.0 = search rules in
    record { answer = e ∙ r.0; places = r.1.0; numbers = r.1.1 }

pub list_corners-requires : goal.list_corners-requires
list_corners-requires c = let o = path_opens _ _ _ _ (sym c.open_path.ensures ∙ c.in_ok-open_path.was) in (o.words, o.few, o.long)

pub returns : goal.returns
returns c =
    let a = c.args in
    let e = c.list_corners.ensures in
    let r = as_found a.shapes.now a.anchors.now a.places.now a.numbers.now (path_opens _ _ _ _ (sym c.open_path.ensures ∙ c.in_ok-open_path.was)) in
    record { answer = e.answer ∙ r.0; places = e.places ∙ r.1.0; numbers = e.numbers ∙ r.1.1 }
