-- `outline::hits::outline_bounds`: the corners are put where there is a box.
use Rattle.answers.specs.Answers.{left, corners_put}
use Rattle.outline.proofs.hits.outline_bounds.Goals as goal
use Rattle.outline.proofs.hits.outline_bounds.Goals.{in-Ok+in-Some, in-Ok+in_default-found, in_default}

pub returns-clause-corners : goal.returns-clause-corners
unfolding left corners_put
returns-clause-corners c =
    rw (← c.bounds-a.ensures)
    (elim c.match-a.branch [
      | in-Ok+in-Some w ↦ rw (w.in-Ok.is, w.in-Some.is) w.corners-is
      | in-Ok+in_default-found w ↦ rw (w.in-Ok.is, w.in_default-found.is) w.corners-is
      | in_default w ↦ rw w.in_default.is w.corners-is
    ])
