-- `edit::reversal::reversed` meets its contract: one law for each answer.
use Rattle.std.proofs.Common.{◌≡◌, arith, rules, Err}
use mathlib.Core.Path.{◌∙◌, sym}
use Rattle.path.proofs.Shapes.{total_in}
use Rattle.call.proofs.Openings.{drawing_opens}
use Rattle.edit.proofs.Turning.{reversed-refused, not_opened, no_subpath, reversed_accepted}
use Rattle.edit.proofs.reversal.reversed.Goals as goal

pub returns-in_err-n : goal.returns-in_err-n
returns-in_err-n c =
    let e : c.from_residual.result ≡ Err c.in_err-n.field-0.0 = search rules in
    let h = reversed-refused _ _ _ _ _ (not_opened _ _ _ c.args.s _ (sym c.open_drawing.ensures ∙ c.in_err-n.was)) in
    record { answer = e ∙ h.0; anchors = h.1 }

pub returns-then-shapes-s : goal.returns-then-shapes-s
returns-then-shapes-s c =
    let o = drawing_opens _ _ _ _ (sym c.open_drawing.ensures ∙ c.in_ok-n.was) in
    let h = reversed-refused _ _ _ _ _ (no_subpath _ _ _ c.args.s _ o (omega (arith, c.if-shapes-s.true))) in
    record { answer = rw c.at.ensures h.0; anchors = h.1 }

pub start_of-requires : goal.start_of-requires
start_of-requires c = (omega (arith, c.if-shapes-s.false), (drawing_opens _ _ _ _ (sym c.open_drawing.ensures ∙ c.in_ok-n.was)).words)

pub turn_round-requires : goal.turn_round-requires
turn_round-requires c =
    let p = drawing_opens _ _ _ _ (sym c.open_drawing.ensures ∙ c.in_ok-n.was) in
    let t = total_in c.args.shapes.now c.args.s (omega (arith, c.if-shapes-s.false)) in
    let k = p.count in
    (omega (arith, p.few), omega (arith, p.long), omega (arith, c.start_of.ensures, c.count_of.ensures, t))

pub returns : goal.returns
returns c =
    let o = drawing_opens _ _ _ _ (sym c.open_drawing.ensures ∙ c.in_ok-n.was) in
    let h = reversed_accepted _ _ _ c.args.s _ o (omega (arith, c.if-shapes-s.false)) _ _ c.start_of.ensures c.count_of.ensures in
    record { answer = h.0; anchors = c.turn_round.ensures ∙ h.1 }
