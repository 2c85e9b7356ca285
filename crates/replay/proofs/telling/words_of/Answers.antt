-- Each number fits its word: a refusal's number, its place and three zeros; or 0, the two counts, where the subpath starts, and its shape word.
use Rattle.std.proofs.Common.{[], ◌∷◌, ap, arith}
use Rattle.path.proofs.Shapes.{total_in}
use Rattle.replay.specs.Encoding.{told, stands, answer_words}
use Rattle.replay.proofs.telling.words_of.Goals as goal

pub start_of-requires : goal.start_of-requires
start_of-requires c = let s = rw c.in-Ok.is at c.requires in (omega arith, omega arith)

pub overflow_cast-result-in-Ok-3 : goal.overflow_cast-result-in-Ok-3
overflow_cast-result-in-Ok-3 c =
    let a = c.args in
    let s = rw c.in-Ok.is at c.requires in
    record { fits = omega (arith, c.start_of.ensures, total_in a.shapes.now a.s s.2, s.4) }

pub returns-in-Err : goal.returns-in-Err
unfolding answer_words told stands
returns-in-Err c = rw c.in-Err.is (ap (λ n. n ∷ c.in-Err.why.place ∷ 0 ∷ 0 ∷ 0 ∷ []) c.from.ensures)

pub returns-in-Ok : goal.returns-in-Ok
unfolding answer_words told stands
returns-in-Ok c = rw (c.in-Ok.is, c.start_of.ensures)
