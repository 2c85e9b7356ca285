-- The path is opened or refused, and only the room is left to test.
use mathlib.Core.Path.{sym, ◌∙◌}
use Rattle.std.proofs.Common.{rules, ◌≡◌, Err}
use Rattle.call.proofs.Openings.{path_opens}
use Rattle.svg_calls.proofs.Outcomes.{placed, not_opened, as_handed}
use Rattle.svg_calls.proofs.calls.to_svg_d.Goals as goal

pub returns-in_err-n : goal.returns-in_err-n
returns-in_err-n c =
    let a = not_opened _ _ c.args.out.now _ (sym c.open_path.ensures ∙ c.in_err-n.was) in
    let e : c.from_residual.result ≡ Err c.in_err-n.field-0.0 = search rules in
    record { answer = e ∙ a.0; left = a.1 }

pub hand_text-requires : goal.hand_text-requires
hand_text-requires c =
    let o = path_opens _ _ _ _ (sym c.open_path.ensures ∙ c.in_ok-n.was) in
    record { by_index = placed _ _ o.few o.long o.good; shapes_len_bound = (o.words, o.few, o.count) }

pub returns : goal.returns
returns c =
    let e = c.hand_text.ensures in
    let h = as_handed _ _ _ (path_opens _ _ _ _ (sym c.open_path.ensures ∙ c.in_ok-n.was)) in
    record { answer = e.answer ∙ h.0; left = e.left ∙ h.1 }
