-- `replay::calls::replay`: one law for each way it ends.
use Rattle.std.proofs.Common.{◌≡◌, Err, sym, ◌∙◌, rules}
use Rattle.cached.specs.Opening.{lent}
use Rattle.replay.proofs.Outcomes.{fit_says, calls_short, refuses, refuses_unknown, refuses_built, accepts_built}
use Rattle.replay.proofs.calls.replay.Goals as goal

pub returns-then-not-calls_fit : goal.returns-then-not-calls_fit
returns-then-not-calls_fit c =
    let a = c.args in
    let l = lent a.shapes.now a.anchors.now a.radii.now a.numbers.now a.flags.now in
    let h = refuses l a.kind a.codes.now a.values.now a.answers.now _ (calls_short l a.kind a.codes.now a.values.now a.answers.now (sym c.calls_fit.ensures ∙ c.if-not-calls_fit.true)) in
    rw c.at.ensures (record { answer = h.0; lists = h.1; answers = h.2; demand = h.3 })

pub returns-then-not-calls_known : goal.returns-then-not-calls_known
returns-then-not-calls_known c =
    let a = c.args in
    let h = refuses_unknown (lent a.shapes.now a.anchors.now a.radii.now a.numbers.now a.flags.now) a.kind a.codes.now a.values.now a.answers.now (sym c.calls_fit.ensures ∙ c.if-not-calls_fit.false)
    (sym c.calls_known.ensures ∙ c.if-not-calls_known.true) c.refuse_unknown.result c.refuse_unknown.ensures in
    record { answer = h.0; lists = h.1; answers = h.2; demand = h.3 }

pub returns-in_err-build : goal.returns-in_err-build
returns-in_err-build c =
    let a = c.args in
    let r = c.in_err-build.ensures in
    let h = refuses_built (lent a.shapes.now a.anchors.now a.radii.now a.numbers.now a.flags.now) a.kind a.codes.now a.values.now a.answers.now (sym c.calls_fit.ensures ∙ c.if-not-calls_fit.false)
    (sym c.calls_known.ensures ∙ c.if-not-calls_known.false) _ _ r.numbers r.flags _ (sym r.answer) in
    let e : c.from_residual.result ≡ Err c.in_err-build.field-0.0 = search rules in
    rw e (record { answer = h.0; lists = h.1; answers = h.2; demand = h.3 })

pub run_calls-requires : goal.run_calls-requires
run_calls-requires c = fit_says _ _ _ (sym c.calls_fit.ensures ∙ c.if-not-calls_fit.false)

pub returns : goal.returns
returns c =
    let a = c.args in
    let r = c.in_ok-build.ensures in
    let o = c.run_calls.ensures in
    let h = accepts_built (lent a.shapes.now a.anchors.now a.radii.now a.numbers.now a.flags.now) a.kind a.codes.now a.values.now a.answers.now (sym c.calls_fit.ensures ∙ c.if-not-calls_fit.false)
    (sym c.calls_known.ensures ∙ c.if-not-calls_known.false) _ _ r.numbers r.flags _ (sym r.answer) _ o.lists _ o.answers in
    record { answer = h.0; lists = h.1; answers = h.2; demand = h.3 }
