-- Each answer cites its outcome.
use Rattle.std.proofs.Common.{rules, ◌≡◌, Err}
use mathlib.Core.Path.{sym, ap, ◌∙◌}
use native.Mathlib.Omega.{arith}
use Rattle.call.proofs.Openings.{path_opens}
use Rattle.bounds.proofs.Extents.{bounds-refused, bounds-empty, bounds_out, bounds_box}
use Rattle.bounds.proofs.boxes.bounds.Goals as goal

pub returns-in_err-n : goal.returns-in_err-n
returns-in_err-n c =
    let e : c.from_residual.result ≡ Err c.in_err-n.field-0.0 = search rules in
    e ∙ bounds-refused _ _ _ (sym c.in_err-n.ensures)

pub returns-then-n-eq0 : goal.returns-then-n-eq0
returns-then-n-eq0 c = bounds-empty _ _ _ (path_opens _ _ _ _ (sym c.in_ok-n.ensures)) c.if-n-eq0.true

pub box_of-b-requires : goal.box_of-b-requires
box_of-b-requires c = let p = path_opens _ _ _ _ (sym c.in_ok-n.ensures) in (omega arith, omega arith)

pub returns-then-box_in : goal.returns-then-box_in
returns-then-box_in c =
    bounds_box _ _ _ (path_opens _ _ _ _ (sym c.in_ok-n.ensures)) c.if-n-eq0.false _ c.box_of-b.ensures (sym c.if-box_in.ensures)

pub returns-else-box_in : goal.returns-else-box_in
returns-else-box_in c =
    ap Err c.at.ensures ∙ bounds_out _ _ _ (path_opens _ _ _ _ (sym c.in_ok-n.ensures)) c.if-n-eq0.false _ c.box_of-b.ensures (sym c.if-box_in.ensures)
