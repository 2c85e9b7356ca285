-- The digit at place i is the last of what is left.
use Rattle.std.proofs.Common.{suc, ◌≡◌, ◌+◌, ◌-◌, ◌%◌, sym, ap, ◌∙◌, arith}
use lib.ListN.{set, drop, length-drop}
use lib.Seq.{sets}
use Rattle.decimal.specs.Put.{Adds}
use Rattle.decimal.specs.Text.{whole_text}
use Rattle.decimal.proofs.Digits.{whole-small, last_of}
use Rattle.decimal.proofs.Puts.{sets_first, sets_first_past}
use Rattle.decimal.proofs.text.Text.put_whole.Goals as goal
use Rattle.decimal.proofs.text.Text.put_whole.Goals.{then-i-room, else-i-room}

pub returns-then-n-lt10 : goal.returns-then-n-lt10
returns-then-n-lt10 c = rw (whole-small c.args.n c.if-n-lt10.true) c.put_digit.ensures

pub loop-i-preserved : goal.loop-i-preserved
loop-i-preserved c =
    let l = c.loop-i in
    let t = whole_text c.args.n in
    let j = l.i - 1 in
    let list = c.args.self.now.out.now in
    let at = c.args.self.now.at + j in
    let digit = 48 + l.left % 10 in
    let next : l.i ≡ suc j = omega arith in
    let after : c.args.self.now.at + suc j ≡ suc at = omega arith in
    let stored : l.self.out.now ≡ sets list (suc at) (drop (suc j) t) = rw after at (rw next at l.invariant.list) in
    let d = last_of t (drop (suc j) t) l.left j (rw next at (l.invariant.left c.loop-i-test.true)) (omega (arith, length-drop (suc j) t, c.whole_length-length.ensures)) in
    let one = ap (λ u. sets list at u) (sym d.digit) in
    elim c.if-i-room.branch [
      | then-i-room w ↦ record {
        same = rw w.self-is l.invariant.same;
        at = rw w.self-is l.invariant.at;
        list = rw w.self-is (ap (λ m. set m at digit) stored ∙ sets_first (drop (suc j) t) list at digit ∙ one);
        left = d.rest;
      }
      | else-i-room w ↦ record {
        same = rw w.self-is l.invariant.same;
        at = rw w.self-is l.invariant.at;
        list = rw w.self-is (stored ∙ sets_first_past (drop (suc j) t) list at digit (omega (arith, w.if-i-room.false, c.saturating_sub-room.ensures)) ∙ one);
        left = d.rest;
      }
    ]
