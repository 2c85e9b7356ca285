-- `outline::outline_len`: the length is put where there is one.
use Rattle.answers.specs.Answers.{left, number_put}
use Rattle.outline.proofs.outline_len.Goals as goal
use Rattle.outline.proofs.outline_len.Goals.{in-Ok, in_default}

pub returns-clause-length : goal.returns-clause-length
unfolding left number_put
returns-clause-length c =
    rw (← c.new.ensures, ← c.len-a.ensures)
    (elim c.match-a.branch [
      | in-Ok w ↦ rw w.in-Ok.is w.length-is
      | in_default w ↦ rw w.in_default.is w.length-is
    ])
