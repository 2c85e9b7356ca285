-- A magnitude is its own.
use mathlib.Core.Path.{sym, ap, ◌∙◌}
use Rattle.real.specs.StandIns.{abs}
use Rattle.real.proofs.Magnitudes.{abs_again}
use Rattle.transform.proofs.reach.reach_of.Goals as goal

pub returns : goal.returns
returns c = c.abs-5.ensures ∙ sym (abs_again _) ∙ ap abs (sym c.abs-5.ensures)
