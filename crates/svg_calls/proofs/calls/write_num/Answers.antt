-- Each return cites its outcome.
use mathlib.Core.Path.{◌≡◌, ◌∙◌, sym, ap}
use mathlib.Core.Bool.{true}
use Rattle.std.proofs.Common.{arith, Ok}
use Rattle.real.specs.Limit.{in_limit}
use Rattle.svg_calls.proofs.Outcomes.{without_room, put_in_room, number_outside, number-handed}
use Rattle.svg_calls.proofs.calls.write_num.Goals as goal

pub returns-then-not-in_limit : goal.returns-then-not-in_limit
returns-then-not-in_limit c =
    let a = number_outside c.args.x c.args.out.now (sym c.in_limit.ensures ∙ c.if-not-in_limit.true) in
    record { answer = rw c.at.ensures a.0; left = a.1 }

pub returns-then-out-bytes : goal.returns-then-out-bytes
returns-then-out-bytes c =
    let i : in_limit c.args.x ≡ true = sym c.in_limit.ensures ∙ c.if-not-in_limit.false in
    let a = without_room _ _ (omega (arith, c.if-out-bytes.true, c.put_number-bytes.ensures.end)) in
    let h = number-handed c.args.x c.args.out.now i in
    record { answer = rw c.at-then-out-bytes.ensures a.0 ∙ h.0; left = a.1 ∙ h.1 }

pub returns : goal.returns
returns c =
    let i : in_limit c.args.x ≡ true = sym c.in_limit.ensures ∙ c.if-not-in_limit.false in
    let p = c.put_number-bytes.ensures in
    let q = c.put_number.ensures in
    let a = put_in_room _ _ q (omega (arith, c.if-out-bytes.false, p.end)) in
    let h = number-handed c.args.x c.args.out.now i in
    record { answer = ap Ok (p.end ∙ sym q.end) ∙ a.0 ∙ h.0; left = a.1 ∙ h.1 }
