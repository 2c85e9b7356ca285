-- `outline::hits::outline_hit_segment`: the parameter is put where a segment is found.
use Rattle.answers.specs.Answers.{left, parameter_put}
use Rattle.outline.proofs.hits.outline_hit_segment.Goals as goal
use Rattle.outline.proofs.hits.outline_hit_segment.Goals.{in-Ok+in-Some, in-Ok+in_default-found, in_default}

pub returns-clause-t : goal.returns-clause-t
unfolding left parameter_put
returns-clause-t c =
    rw (← c.new.ensures, ← c.hit_segment-a.ensures)
    (elim c.match-a.branch [
      | in-Ok+in-Some w ↦ rw (w.in-Ok.is, w.in-Some.is) w.t-is
      | in-Ok+in_default-found w ↦ rw (w.in-Ok.is, w.in_default-found.is) w.t-is
      | in_default w ↦ rw w.in_default.is w.t-is
    ])
