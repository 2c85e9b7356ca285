-- The five words are stored in the place of answer j.
use Rattle.std.proofs.Common.{◌≡◌, append_assoc, ◌+◌, ◌-◌, ◌*◌, drop, length, sym, arith}
use Rattle.std.proofs.lemmas.List.{drop-drop}
use Rattle.std.proofs.lemmas.List.Edits.{sets-eq}
use Rattle.replay.specs.Encoding.{answer_words}
use Rattle.replay.proofs.Stages.{five-words}
use Rattle.replay.proofs.telling.put_answer.Goals as goal

pub returns : goal.returns
returns c =
    let a = c.args in
    let words = answer_words a.answered a.shapes.now a.s in
    let five : length words ≡ 5 = five-words a.answered a.shapes.now a.s in
    let width : a.j * 5 + 5 - a.j * 5 ≡ 5 = omega arith in
    let past : drop (a.j * 5 + 5) a.answers.now ≡ drop 5 (drop (a.j * 5) a.answers.now) = sym (drop-drop 5 (a.j * 5) a.answers.now) in
    rw (c.copy_from_slice.ensures.after, c.words_of.ensures, sets-eq words a.answers.now (a.j * 5) (omega arith), five, width, past, append_assoc)
