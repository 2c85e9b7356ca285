-- A line after another.
use Rattle.std.proofs.Common.{◌≡◌, ◌*◌, ◌≤◌, ◌<◌, ◌^◌, add-one, get_or, length, rules, arith, sym, ap, ◌∙◌}
use mathlib.Core.Logic.{⊎_elim}
use Rattle.std.proofs.lemmas.List.{length_push}
use Rattle.std.specs.Slice.Iter.{chunks_exact_rest, chunks_exact_size}
use Rattle.std.specs.Iterator.Adapters.{zip_first, zip_second}
use Rattle.decimal.specs.Put.{Put, Adds}
use Rattle.decimal.proofs.Puts.{then, no_text, from_start}
use Rattle.call_lines.specs.Lines.{call_line, line_at, call_lines}
use Rattle.call_lines.proofs.Chunks.{call_next, none_left}
use Rattle.call_lines.proofs.lines.put_calls.Goals as goal

pub loop-code-init : goal.loop-code-init
unfolding call_lines
loop-code-init c =
    let same = c.into_iter-code-iterator.ensures.into_iter_gives in
    let zipped = c.zip-code-items.ensures in
    let codes = c.chunks_exact-codes.ensures in
    let answers = c.chunks_exact-answers.ensures in
    record {
      three = ap (λ z. chunks_exact_size (zip_first z)) same ∙ ap chunks_exact_size zipped.first ∙ codes.size;
      five = ap (λ z. chunks_exact_size (zip_second z)) same ∙ ap chunks_exact_size zipped.second ∙ answers.size;
      codes = ap (λ z. chunks_exact_rest (zip_first z)) same ∙ ap chunks_exact_rest zipped.first ∙ codes.rest;
      answers = ap (λ z. chunks_exact_rest (zip_second z)) same ∙ ap chunks_exact_rest zipped.second ∙ answers.rest;
      to = omega arith;
      text = no_text (omega (arith, c.new-text.ensures.empty));
      room = omega (arith, c.new-text.ensures.empty);
    }

pub bounds-code-2 : goal.bounds-code-2
bounds-code-2 c = omega (arith, c.in-Some.ensures.steps.0.1.1, c.loop-code.invariant.three)

pub bounds-answer-1 : goal.bounds-answer-1
bounds-answer-1 c = omega (arith, c.in-Some.ensures.steps.1.1.1, c.loop-code.invariant.five)

pub bounds-answer-3 : goal.bounds-answer-3
bounds-answer-3 c = omega (arith, c.in-Some.ensures.steps.1.1.1, c.loop-code.invariant.five)

pub bounds-answer-4 : goal.bounds-answer-4
bounds-answer-4 c = omega (arith, c.in-Some.ensures.steps.1.1.1, c.loop-code.invariant.five)

pub put_call-requires : goal.put_call-requires
put_call-requires c =
    let a = c.args in
    let l = c.loop-code in
    let k = l.invariant in
    let s = c.in-Some.ensures.steps in
    let n = call_next a.codes.now a.answers.now c.in-Some.code.now c.in-Some.answer.now _ _ (length l.yielded) a.m (omega (arith, c.requires.1)) (omega (arith, c.requires.2)) (sym k.codes ∙ s.0.1.0) (s.0.1.1 ∙ k.three) (sym k.answers ∙ s.1.1.0) (s.1.1.1 ∙ k.five) in
    rw (n.which, n.index, n.number, n.first, n.word) (c.requires.3 (length l.yielded) n.inside)

pub loop-code-preserved : goal.loop-code-preserved
unfolding call_lines line_at
loop-code-preserved c =
    let a = c.args in
    let l = c.loop-code in
    let k = l.invariant in
    let s = c.in-Some.ensures.steps in
    let n = call_next a.codes.now a.answers.now c.in-Some.code.now c.in-Some.answer.now _ _ (length l.yielded) a.m (omega (arith, c.requires.1)) (omega (arith, c.requires.2)) (sym k.codes ∙ s.0.1.0) (s.0.1.1 ∙ k.three) (sym k.answers ∙ s.1.1.0) (s.1.1.1 ∙ k.five) in
    let h : length c.new-text.result.out.now < 2 ^ 64 = search rules in
    let code = c.in-Some.code.now in
    let answer = c.in-Some.answer.now in
    let q = c.put_call.ensures in
    let line : Adds l.text (call_line (get_or code 0 0) (get_or code 2 0) (get_or answer 0 0) (get_or answer 1 0) (get_or answer 3 0) (get_or answer 4 0)) c.put_call.new.text = q.text in
    rw (length_push l.yielded (c.in-Some.code, c.in-Some.answer)) (record {
      three = s.0.0 ∙ k.three;
      five = s.1.0 ∙ k.five;
      codes = n.codes_rest;
      answers = n.answers_rest;
      to = omega (arith, n.inside);
      text = rw add-one (then h k.text (rw (n.which, n.index, n.number, n.second, n.first, n.word) at line));
      room = omega (arith, q.room, k.room);
    })

pub returns-clause-text : goal.returns-clause-text
returns-clause-text c =
    let a = c.args in
    let l = c.loop-code in
    let k = l.invariant in
    let j = length l.yielded in
    let codes_room : a.m * 3 ≤ length a.codes.now = omega (arith, c.requires.1) in
    let answers_room : a.m * 5 ≤ length a.answers.now = omega (arith, c.requires.2) in
    let e : j ≡ a.m =
    ⊎_elim
    (λ u. omega (arith, k.to, none_left a.codes.now (j * 3) (a.m * 3) 3 codes_room (omega (arith, k.to)) (rw (k.codes, k.three) at u.1.1.0)))
    (λ u. omega (arith, k.to, none_left a.answers.now (j * 5) (a.m * 5) 5 answers_room (omega (arith, k.to)) (rw (k.answers, k.five) at u.1.1.0)))
    c.in-None.ensures.steps in
    let n = c.new-text.ensures in
    let p : Put a.out.now 0 (call_lines a.codes.now a.answers.now a.m) l.text.out.now l.text.at =
    rw e at (from_start n.untouched n.empty k.text (omega arith)) in
    search (rules, p)

pub returns-clause-room : goal.returns-clause-room
returns-clause-room c = let l = c.loop-code in omega (arith, l.invariant.room, l.invariant.to)
