-- A number's text by its sign, at most 11 bytes of it.
use Rattle.std.proofs.Common.{◌<◌, ◌^◌, length, rules, arith, sym, ◌∙◌}
use Rattle.decimal.proofs.Digits.{text-zero, text_positive, text-negative}
use Rattle.decimal.proofs.Puts.{then}
use Rattle.decimal.proofs.Room.{float-room}
use Rattle.decimal.proofs.text.Text.write_num.Goals as goal
use Rattle.decimal.proofs.text.Text.write_num.Goals.{then-t-ne0+then-negative, else-t-ne0, else-t-ne0-via-then-t-ne0+else-negative, else-t-ne0-via-else-t-ne0}

pub returns-clause-text : goal.returns-clause-text
returns-clause-text c =
    let h : length c.args.self.now.out.now < 2 ^ 64 = search rules in
    let t = c.thousandths-t.ensures in
    elim c.if-t-ne0.branch [
      | then-t-ne0+then-negative w ↦
          rw (text-negative c.args.x (λ e. omega (arith, t, w.if-t-ne0.true)) (sym w.negative.ensures ∙ w.if-negative.true), ← t)
          (then h w.put.ensures (rw w.self-is at c.put_size.ensures))
      | else-t-ne0 w ↦
          let put = rw w.self-is at c.put_size.ensures in
          elim w.else-t-ne0.branch [
            | else-t-ne0-via-then-t-ne0+else-negative v ↦ rw (text_positive c.args.x (sym v.negative.ensures ∙ v.if-negative.false), ← t) put
            | else-t-ne0-via-else-t-ne0 v ↦ rw (text-zero c.args.x (omega (arith, t, v.if-t-ne0.false)), ← t) put
          ]
    ]

pub returns-clause-room : goal.returns-clause-room
returns-clause-room c = omega (arith, (returns-clause-text c).end, float-room c.args.x c.requires)
