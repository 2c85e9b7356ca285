-- `removal::deletion::delete` meets its contract: one law for each answer.
use Rattle.std.proofs.Common.{rules, arith, ◌≡◌, Ok, Err}
use mathlib.Core.Path.{sym, ap, ◌∙◌}
use Rattle.call.proofs.Openings.{path_opens}
use Rattle.removal.proofs.Outcomes.{whole, delete-refused, not-whole, not_opened, unknown, delete_accepted}
use Rattle.removal.proofs.deletion.delete.Goals as goal

pub returns-then-which-ne0 : goal.returns-then-which-ne0
returns-then-which-ne0 c =
    let a = c.args in
    let h = delete-refused a.shapes.now a.anchors.now a.which.now _ (not-whole a.shapes.now a.anchors.now a.which.now c.if-which-ne0.true) in
    record { answer = ap Err c.at.ensures ∙ h.0; shapes = h.1; anchors = h.2 }

pub returns-in_err-open_path : goal.returns-in_err-open_path
returns-in_err-open_path c =
    let a = c.args in
    let e : c.from_residual.result ≡ Err c.in_err-open_path.field-0.0 = search rules in
    let w = whole a.which.now c.if-which-ne0.false in
    let h = delete-refused a.shapes.now a.anchors.now a.which.now _ (not_opened a.shapes.now a.anchors.now a.which.now w _ (sym c.in_err-open_path.ensures)) in
    record { answer = e ∙ h.0; shapes = h.1; anchors = h.2 }

pub marks-requires : goal.marks-requires
marks-requires c = let o = path_opens 512 _ _ _ (sym c.in_ok-open_path.ensures) in (o.words, o.few)

pub returns-in_default : goal.returns-in_default
returns-in_default c =
    let a = c.args in
    let o = path_opens 512 a.shapes.now a.anchors.now _ (sym c.in_ok-open_path.ensures) in
    let w = whole a.which.now c.if-which-ne0.false in
    let h = delete-refused a.shapes.now a.anchors.now a.which.now _ (unknown a.shapes.now a.anchors.now a.which.now w _ o (rw c.in_default.is at c.marks.ensures)) in
    record { answer = ap Err c.at-in_default.ensures ∙ h.0; shapes = h.1; anchors = h.2 }

pub move_down-requires : goal.move_down-requires
move_down-requires c =
    let o = path_opens 512 _ _ _ (sym c.in_ok-open_path.ensures) in
    (o.words, o.few, omega (arith, o.few, c.in-Some.ensures.0), o.long)

pub returns : goal.returns
returns c =
    let a = c.args in
    let d = c.move_down.ensures in
    let m = c.in-Some.ensures in
    let o = path_opens 512 a.shapes.now a.anchors.now _ (sym c.in_ok-open_path.ensures) in
    let w = whole a.which.now c.if-which-ne0.false in
    let h = delete_accepted a.shapes.now a.anchors.now a.which.now w _ o m.1 _ m.2 in
    record { answer = ap Ok d.answer ∙ h.0; shapes = d.shapes ∙ h.1; anchors = d.anchors ∙ h.2 }
