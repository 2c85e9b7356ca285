-- `cached::opening::open_edit`: each return cites what the tests before it told.
use Rattle.std.proofs.Common.{◌≡◌, Err, sym, ap, ◌∙◌, rules}
use mathlib.Core.Bool.{◌&&◌}
use Rattle.views.proofs.Bools.{and_false}
use Rattle.corner.specs.Kinds.{kind_of, is_known}
use Rattle.corner.proofs.TriedKinds.{tried_some, tried_none}
use Rattle.cached.specs.Opening.{lent}
use Rattle.cached.proofs.Openings.{ready_closed, ready_loose, ready_unknown, ready_known}
use Rattle.cached.proofs.opening.open_edit.Goals as goal

pub returns-in_err-n : goal.returns-in_err-n
returns-in_err-n c =
    let a = c.args in
    let e : c.from_residual.result ≡ Err c.in_err-n.field-0.0 = search rules in
    e ∙ ready_closed (lent a.shapes.now a.anchors.now a.radii.now a.numbers.now a.flags.now) a.kind a.loose _ (sym c.in_err-n.ensures)

pub returns-in_default : goal.returns-in_default
returns-in_default c =
    let a = c.args in
    rw c.at.ensures
    (ready_unknown (lent a.shapes.now a.anchors.now a.radii.now a.numbers.now a.flags.now) a.kind a.loose _ (sym c.in_ok-n.ensures) (tried_none _ _ _ (sym c.try_from.ensures ∙ c.in_default.is)))

pub returns-then-not-loose : goal.returns-then-not-loose
returns-then-not-loose c =
    let a = c.args in
    rw c.at-then-not-loose.ensures
    (ready_loose (lent a.shapes.now a.anchors.now a.radii.now a.numbers.now a.flags.now) a.kind a.loose _ (sym c.in_ok-n.ensures)
    (ap (λ b. is_known (kind_of a.kind) && b) c.if-not-loose.true ∙ and_false (is_known (kind_of a.kind))))

pub returns : goal.returns
returns c =
    let a = c.args in
    ready_known (lent a.shapes.now a.anchors.now a.radii.now a.numbers.now a.flags.now) a.kind a.loose _ (sym c.in_ok-n.ensures) _
    (tried_some _ _ _ (sym c.try_from.ensures ∙ c.in-Ok.is)) c.if-not-loose.false
