-- What a cached edit does: its answer, and the lists that it leaves. Assumes nothing.
use Rattle.std.proofs.Common.{Result}
use Rattle.std.specs.Prelude.{ℕ, ◌≡◌}
use Rattle.session.specs.declared.answers.Edited.{Edited}
use Rattle.session.specs.Drawing.{Lent}
use Rattle.session.specs.Edits.{Call}
use Rattle.session.specs.Calls.{call_answer, call_lists}
use Rattle.refusal.specs.declared.Refusal.{Refusal}

-- WHAT THE CONTRACTS SAY: on the lists l an edit c answers r and leaves the lists `after`
pub record Does (l : Lent) (kind : ℕ) (c : Call) (r : Result Edited Refusal) (after : Lent) : Type 0 where
  pub answer : r ≡ call_answer l kind c
  pub lists : after ≡ call_lists l kind c
