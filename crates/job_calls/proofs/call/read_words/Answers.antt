-- `job_calls::call::read_words`: what a turn leaves to be read and laid, and what the end of the file comes to.
use Rattle.std.proofs.Common.{◌≡◌, ◌/◌, ◌<◌, Err, length, sym, ap, ◌∙◌, arith, rules}
use Rattle.job.specs.Reading.{scan_from, scanned}
use Rattle.job.specs.Lists.{lay_shapes, lay_numbers, lay_radii}
use Rattle.job_calls.proofs.Turns.{words-end, turn_stops, turn_passes, turn_small, turn_fair, turn_reads, turn_shapes, turn-numbers, turn_radii, end_lacks, end_done}
use Rattle.job_calls.proofs.call.read_words.Goals as goal

-- a word that is refused
pub returns-in_err-word-clause-answer : goal.returns-in_err-word-clause-answer
unfolding scanned
returns-in_err-word-clause-answer c =
    let l = c.loop-i in
    let e = c.in_err-word.field-0.0 in
    let r : c.from_residual.result ≡ Err e = search rules in
    r ∙ sym (turn_stops c.args.bytes.now l.i (omega arith) l.seen e (sym c.in_err-word.ensures)) ∙ l.invariant.1

-- one that is read
pub advance-requires-clause-passes : goal.advance-requires-clause-passes
advance-requires-clause-passes c =
    let l = c.loop-i in
    turn_passes c.args.bytes.now l.i (omega arith) l.seen c.in_ok-word.word (sym c.in_ok-word.ensures)

pub put_shape-requires : goal.put_shape-requires
put_shape-requires c =
    let l = c.loop-i in
    (turn_fair c.args.bytes.now l.i (omega arith) l.seen c.in_ok-word.word (sym c.in_ok-word.ensures) c.advance.new.self c.advance.ensures l.invariant.0).subpaths

pub put_number-requires : goal.put_number-requires
put_number-requires c =
    let l = c.loop-i in (
      (turn_fair c.args.bytes.now l.i (omega arith) l.seen c.in_ok-word.word (sym c.in_ok-word.ensures) c.advance.new.self c.advance.ensures l.invariant.0).anchors,
      turn_small c.args.bytes.now l.i (omega arith) l.seen c.in_ok-word.word (sym c.in_ok-word.ensures),
    )

pub put_radius-requires : goal.put_radius-requires
put_radius-requires c =
    let l = c.loop-i in (
      (turn_fair c.args.bytes.now l.i (omega arith) l.seen c.in_ok-word.word (sym c.in_ok-word.ensures) c.advance.new.self c.advance.ensures l.invariant.0).anchors,
      turn_small c.args.bytes.now l.i (omega arith) l.seen c.in_ok-word.word (sym c.in_ok-word.ensures),
    )

pub loop-i-preserved : goal.loop-i-preserved
loop-i-preserved c =
    let l = c.loop-i in
    let b = c.args.bytes.now in
    let w = c.in_ok-word.word in
    let h : l.i < length b / 4 = omega arith in
    let ok = sym c.in_ok-word.ensures in
    let t = c.advance.new.self in
    let e = c.advance.ensures in (
      turn_fair b l.i h l.seen w ok t e l.invariant.0,
      turn_reads b l.i h l.seen w ok t e ∙ l.invariant.1,
      rw (c.put_radius.ensures.shapes, c.put_number.ensures.shapes, c.put_shape.ensures.shapes) (turn_shapes b l.i h l.seen w ok t e l.lists.shapes ∙ l.invariant.2),
      rw (c.put_radius.ensures.numbers, c.put_number.ensures.numbers, c.put_shape.ensures.numbers) (turn-numbers b l.i h l.seen w ok t e l.lists.numbers ∙ l.invariant.3),
      rw (c.put_radius.ensures.radii, c.put_number.ensures.radii, c.put_shape.ensures.radii) (turn_radii b l.i h l.seen w ok t e l.lists.radii ∙ l.invariant.4),
    )

-- no word is left
pub returns-then-is_ended-clause-answer : goal.returns-then-is_ended-clause-answer
unfolding scanned
returns-then-is_ended-clause-answer c =
    let l = c.loop-i in
    let d = words-end c.args.bytes.now l.i (omega arith) in
    sym (ap (scan_from l.seen l.i) d ∙ end_done l.seen l.i (sym c.is_ended.ensures ∙ c.if-is_ended.true)) ∙ l.invariant.1

pub returns-then-is_ended-clause-shapes : goal.returns-then-is_ended-clause-shapes
unfolding lay_shapes
returns-then-is_ended-clause-shapes c s f =
    let l = c.loop-i in
    let d = words-end c.args.bytes.now l.i (omega arith) in
    sym (ap (λ u. lay_shapes l.seen.subpaths l.seen.shape u l.lists.shapes) d) ∙ l.invariant.2

pub returns-then-is_ended-clause-numbers : goal.returns-then-is_ended-clause-numbers
unfolding lay_numbers
returns-then-is_ended-clause-numbers c s f =
    let l = c.loop-i in
    let d = words-end c.args.bytes.now l.i (omega arith) in
    sym (ap (λ u. lay_numbers l.seen.anchors u l.lists.numbers) d) ∙ l.invariant.3

pub returns-then-is_ended-clause-radii : goal.returns-then-is_ended-clause-radii
unfolding lay_radii
returns-then-is_ended-clause-radii c s f =
    let l = c.loop-i in
    let d = words-end c.args.bytes.now l.i (omega arith) in
    sym (ap (λ u. lay_radii l.seen.anchors u l.lists.radii) d) ∙ l.invariant.4

pub returns-else-is_ended-clause-answer : goal.returns-else-is_ended-clause-answer
unfolding scanned
returns-else-is_ended-clause-answer c =
    let l = c.loop-i in
    let b = c.args.bytes.now in
    let e : l.i ≡ length b / 4 = omega arith in
    let d = words-end b l.i (omega arith) in
    let f = sym c.is_ended.ensures ∙ c.if-is_ended.false in
    rw (c.at.ensures, sym e) (sym (ap (scan_from l.seen l.i) d ∙ end_lacks l.seen l.i f) ∙ l.invariant.1)
