-- `outline::outline_cubic_at`: the point is put where there is one.
use Rattle.answers.specs.Answers.{left, point_put}
use Rattle.outline.proofs.outline_cubic_at.Goals as goal
use Rattle.outline.proofs.outline_cubic_at.Goals.{in-Ok, in_default}

pub returns-clause-point : goal.returns-clause-point
unfolding left point_put
returns-clause-point c =
    rw (← c.curve.ensures, ← c.cubic_at-a.ensures)
    (elim c.match-a.branch [
      | in-Ok w ↦ rw w.in-Ok.is w.point-is
      | in_default w ↦ rw w.in_default.is w.point-is
    ])
