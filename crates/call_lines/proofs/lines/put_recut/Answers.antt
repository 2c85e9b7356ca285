-- A place that is near is put after a blank.
use Rattle.std.proofs.Common.{◌≡◌, ◌<◌, ◌^◌, true, false, sym, ◌∙◌, length, rules, arith}
use Rattle.cut.specs.Near.{near}
use Rattle.decimal.proofs.Puts.{then}
use Rattle.call_lines.specs.Lines.{listed, recut_text, recut_places}
use Rattle.call_lines.proofs.Places.{recut-none, recut_skip, recut-put}
use Rattle.call_lines.proofs.lines.put_recut.Goals as goal
use Rattle.call_lines.proofs.lines.put_recut.Goals.{then-near, else-near}

pub loop-j-init : goal.loop-j-init
unfolding recut_text listed
loop-j-init c = rw (recut-none c.args.sub c.args.w) c.put_bytes.ensures

pub loop-j-preserved : goal.loop-j-preserved
loop-j-preserved c =
    let a = c.args in
    let l = c.loop-j in
    let h : length a.text.now.out.now < 2 ^ 64 = search rules in
    elim c.if-near.branch [
      | then-near w ↦
          let e : near a.w.reach a.sub.n a.sub.closed a.w.at l.j ≡ true = sym c.near.ensures ∙ w.if-near.true in
          rw (w.text-is, recut-put a.sub a.w l.j (omega arith) e) (then h (then h l.invariant w.put.ensures) w.put_whole.ensures)
      | else-near w ↦
          let e : near a.w.reach a.sub.n a.sub.closed a.w.at l.j ≡ false = sym c.near.ensures ∙ w.if-near.false in
          rw (w.text-is, recut_skip a.sub a.w l.j (omega arith) e) l.invariant
    ]

pub returns : goal.returns
unfolding recut_places
returns c =
    let e : c.loop-j.j ≡ c.args.sub.n = omega arith in
    rw e at c.loop-j.invariant
