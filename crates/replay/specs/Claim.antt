-- THE CLAIM that `replay` ensures when it is done: demand 3, about the lists and the answers at its own exit. Assumes nothing.
use Rattle.std.specs.Prelude.{ℕ, ◌≡◌, List, map, length}
use Rattle.session.specs.Drawing.{Lent, drawn}
use Rattle.session.specs.Edits.{Call}
use Rattle.session.specs.Calls.{built_lists}
use Rattle.session.specs.Model.{model_answers, model_after}
use Rattle.session.specs.Session.{Turn, fed, after_all, turns_of}
use Rattle.session.specs.Demand.{Agrees, Demand3}
use Rattle.replay.specs.Encoding.{told, told_in}

-- the calls on the fresh cache of the drawing in l, each lent the lists as the last one left them
abbrev pub turns : Lent → ℕ → List Call → List Turn
turns l kind calls = turns_of kind (built_lists l kind) calls

-- of the lists at entry, the calls, and the lists and answers at exit
pub record Claim (entry : Lent) (kind : ℕ) (calls : List Call) (exit : Lent) (answers : List ℕ) : Type 0 where
  -- demand 3 holds of the drawing lent, its fresh cache and these calls
  pub demand : Demand3 (drawn entry kind) (built_lists entry kind) (turns entry kind calls)
  -- the lists at exit are those that the last call left
  pub lists : exit ≡ after_all kind (built_lists entry kind) (turns entry kind calls)
  -- so they hold the model drawing, which follows from the calls alone, and its cut: outline, count and text are the plain cut's
  pub agrees : Agrees exit (model_after (drawn entry kind) (fed (turns entry kind calls)))
  -- the answers at exit tell what the model answers, call by call
  pub answered : told_in answers (length calls) ≡ map told (model_answers (drawn entry kind) (fed (turns entry kind calls)))
