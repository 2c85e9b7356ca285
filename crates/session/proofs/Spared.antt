-- What a call leaves alone, on any cache: all after a refusal, all that it does not recut after an acceptance. Assumes nothing.
use mathlib.Core.Path.{◌≡◌, sym, ap, ◌∙◌}
use mathlib.Core.List.{List, [], ◌∷◌}
use Prim.Native.Nat.{ℕ, ◌+◌, ◌*◌}
use native.Mathlib.Omega.{arith}
use lib.ListN.{get_or}
use lib.Ieee.{nan}
use Rattle.views.specs.View.{entry}
use Rattle.views.proofs.Laws.{at_overwrite, past_overwrite}
use Rattle.refusal.specs.Order.{Verdict, accepted, refused}
use Rattle.refusal.proofs.Verdicts.{holds_says, accepted_says}
use Rattle.path.specs.Shape.{total}
use Rattle.refusal.specs.declared.Refusal.{Refusal}
use Rattle.refusal.proofs.Verdicts.{ok_says, err_says}
use Rattle.session.specs.Drawing.{Lent, drawn}
use Rattle.session.specs.Edits.{Call, Edit, edit_of}
use Rattle.session.specs.Calls.{room_in, edit_answer, numbers_after, flags_after, edited_lists, lists_after, edit_verdict, call_verdict, call_answer, call_lists}
use Rattle.session.specs.Model.{lengths_of}
use Rattle.session.specs.Session.{Turn}
use Rattle.session.specs.Demand.{Untouched, Spares, SparesAll}
use Rattle.session.proofs.Lents.{Long, long_says, room-same}
use Rattle.session.proofs.Twins.{number-after}

module _ (l : Lent) (kind : ℕ) (c : Call) (yes : call_verdict l kind c ≡ accepted) where
  abbrev e : Edit
  e = edit_of (drawn l kind) c

  abbrev n : ℕ
  n = total e.made.shapes

  room : Long (lengths_of l) n
  unfolding call_verdict edit_verdict
  room = long_says (lengths_of l) n (sym (room-same l n) ∙ holds_says (room_in l n) 0 (accepted_says _ _ _ _ _ _ yes).output)

  lists : call_lists l kind c ≡ edited_lists l e
  unfolding call_lists lists_after
  lists = rw yes

  untouched : Untouched (edit_of (drawn l kind) c) l (call_lists l kind c)
  unfolding edited_lists flags_after lengths_of
  untouched = record {
    numbers = λ k i kl w il.
        ap (λ (x : Lent). entry x.numbers (k * 12 + i)) lists
        ∙ at_overwrite nan (n * 12) (numbers_after e l.numbers) l.numbers (k * 12 + i) (omega arith) (omega (arith, room.numbers))
        ∙ number-after e l.numbers k i il
        ∙ rw w;
    flags = λ k kl w.
        ap (λ (x : Lent). get_or x.flags k 0) lists ∙ at_overwrite 0 n (flags_after e l.flags) l.flags k kl (omega (arith, room.flags)) ∙ rw w;
    numbers_past = λ j h. ap (λ (x : Lent). entry x.numbers j) lists ∙ past_overwrite nan (n * 12) (numbers_after e l.numbers) l.numbers j h;
    flags_past = λ k h. ap (λ (x : Lent). get_or x.flags k 0) lists ∙ past_overwrite 0 n (flags_after e l.flags) l.flags k h;
  }

-- ON ANY CACHE, also one that others wrote to
pub spares : (l : Lent) (kind : ℕ) (c : Call) → Spares l kind c
unfolding call_answer call_lists edit_answer lists_after
spares l kind c = record {
  refusal = λ why h. left why (call_verdict l kind c) (err_says _ _ why h);
  acceptance = λ x h. untouched l kind c (ok_says _ _ x h).0;
}
  where
    left : (why : Refusal) (v : Verdict) → v ≡ refused why → lists_after v (edited_lists l (edit_of (drawn l kind) c)) l ≡ l
    left why v e = rw e

pub spares-all : (kind : ℕ) (ts : List Turn) → SparesAll kind ts
spares-all kind [] = tt
spares-all kind (t ∷ ts) = (spares t.lent kind t.call, spares-all kind ts)
