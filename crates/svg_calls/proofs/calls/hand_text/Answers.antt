-- A text that was put has room, by its bound or by its counted length.
use mathlib.Core.Path.{◌∙◌, sym, ap}
use Rattle.std.proofs.Common.{arith, Ok}
use Rattle.svg_calls.proofs.Outcomes.{without_room, put_in_room}
use Rattle.svg_calls.proofs.calls.hand_text.Goals as goal

pub returns-then-out-n : goal.returns-then-out-n
returns-then-out-n c =
    let p = c.put_path.ensures in
    let a = put_in_room _ _ p.text (omega (arith, p.text.end, p.room, c.requires.shapes_len_bound, c.if-out-n.true)) in
    record { answer = a.0; left = a.1 }

pub returns-then-out-length : goal.returns-then-out-length
returns-then-out-length c =
    let a = without_room _ c.args.out.now (omega (arith, c.if-out-length.true, c.put_path-length.ensures.text.end)) in
    record { answer = rw c.at.ensures a.0; left = a.1 }

pub returns : goal.returns
returns c =
    let p = c.put_path-length.ensures.text in
    let q = c.put_path-2.ensures.text in
    let a = put_in_room _ _ q (omega (arith, c.if-out-length.false, p.end)) in
    record { answer = ap Ok (p.end ∙ sym q.end) ∙ a.0; left = a.1 }
