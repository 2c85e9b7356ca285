-- `transform::calls::by_scratch` meets its contract: each return cites what the tests before it found.
use Rattle.std.proofs.Common.{◌≡◌, arith, refl, rules, Err}
use mathlib.Core.Path.{sym, ◌∙◌}
use native.Mathlib.Nat.{le_refl}
use Rattle.call.proofs.Openings.{path_opens}
use Rattle.transform.proofs.Laid.{as_long}
use Rattle.transform.proofs.Outcomes.{refused_so, path_fails, map_fails, handed}
use Rattle.transform.proofs.calls.by_scratch.Goals as goal

pub returns-in_err-count : goal.returns-in_err-count
returns-in_err-count c =
    let e : c.from_residual.result ≡ Err c.in_err-count.field-0.0 = search rules in
    let h = refused_so _ _ _ _ _ _ (path_fails _ _ _ _ _ _ (sym c.open_path.ensures ∙ c.in_err-count.was)) in
    record { answer = e ∙ h.0; shapes = h.1; anchors = h.2 }

pub returns-then-not-map_in_limit : goal.returns-then-not-map_in_limit
returns-then-not-map_in_limit c =
    let o = path_opens 512 _ _ _ (sym c.open_path.ensures ∙ c.in_ok-count.was) in
    let h = refused_so _ _ _ _ _ _ (map_fails _ _ _ _ _ _ o (sym c.map_in_limit.ensures ∙ c.if-not-map_in_limit.true)) in
    record { answer = rw c.at.ensures h.0; shapes = h.1; anchors = h.2 }

pub map_anchors-requires : goal.map_anchors-requires
map_anchors-requires c =
    let o = path_opens 512 _ _ _ (sym c.open_path.ensures ∙ c.in_ok-count.was) in
    let n = o.count in
    let f = o.few in
    let l = o.long in
    (omega arith, omega arith, omega arith)

pub hand_over-requires : goal.hand_over-requires
hand_over-requires c =
    let o = path_opens 512 _ _ _ (sym c.open_path.ensures ∙ c.in_ok-count.was) in
    let f = o.few in
    let l = as_long {n = 3072} _ _ _ _ c.map_anchors.ensures refl in
    (o.words, omega arith, omega arith)

pub returns : goal.returns
returns c =
    let o = path_opens 512 _ _ _ (sym c.open_path.ensures ∙ c.in_ok-count.was) in
    let e = c.hand_over.ensures in
    let h = handed _ _ _ _ _ _ o (sym c.map_in_limit.ensures ∙ c.if-not-map_in_limit.false) _ _ (le_refl 3072) c.map_anchors.ensures in
    record { answer = e.answer ∙ h.0; shapes = e.shapes ∙ h.1; anchors = e.anchors ∙ h.2 }
