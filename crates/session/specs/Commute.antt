-- Two edits that may reach a drawing in either order (request 14/14): which they are, and what is claimed of them. Assumes nothing.
use Rattle.std.specs.Prelude.{ℕ, ◌≡◌, Bool, true, false, not, ◌&&◌, eqb}
use Rattle.refusal.specs.Order.{accepted}
use Rattle.session.specs.Drawing.{Lent}
use Rattle.session.specs.Edits.{Call, move, set_radius, split}
use Rattle.session.specs.Calls.{call_verdict, call_answer, call_lists}

-- anchor i of subpath s is not anchor j of subpath r
unfoldable pub elsewhere : ℕ → ℕ → ℕ → ℕ → Bool
elsewhere s i r j = not (eqb s r && eqb i j)

-- two edits out of move and radius, at different places, or of different sorts at one place
unfoldable pub apart : Call → Call → Bool
apart (move s i new) (move r j other) = elsewhere s i r j
apart (move s i new) (set_radius r j x) = true
apart (set_radius s i x) (move r j new) = true
apart (set_radius s i x) (set_radius r j y) = elsewhere s i r j
apart (split s a t) d = false
apart (move s i new) (split r a t) = false
apart (set_radius s i x) (split r a t) = false

-- both orders are accepted at every step, from the same lists
pub record BothOrders (l : Lent) (kind : ℕ) (c d : Call) : Type 0 where
  pub first_c : call_verdict l kind c ≡ accepted
  pub then_d : call_verdict (call_lists l kind c) kind d ≡ accepted
  pub first_d : call_verdict l kind d ≡ accepted
  pub then_c : call_verdict (call_lists l kind d) kind c ≡ accepted

-- THE CLAIM: every list has the same bits in either order, past the used part too, and each edit the same answer, so the same count of recut places
pub record Commute (l : Lent) (kind : ℕ) (c d : Call) : Type 0 where
  pub lists : call_lists (call_lists l kind c) kind d ≡ call_lists (call_lists l kind d) kind c
  pub answer_c : call_answer (call_lists l kind d) kind c ≡ call_answer l kind c
  pub answer_d : call_answer (call_lists l kind c) kind d ≡ call_answer l kind d
