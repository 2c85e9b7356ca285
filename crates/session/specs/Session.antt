-- A list of calls on the cache of a drawing: each gets the lists as the last one left them, and may be lent more or less of them. Assumes nothing.
use Rattle.std.proofs.Common.{Result}
use Rattle.std.specs.Prelude.{ℕ, ◌*◌, ◌<◌, ◌≡◌, List, [], ◌∷◌, ◌++◌, length, get_or, drop}
use Rattle.views.specs.View.{entry}
use Rattle.path.specs.Shape.{total}
use Rattle.session.specs.declared.answers.Edited.{Edited}
use Rattle.session.specs.Drawing.{Lent}
use Rattle.session.specs.Edits.{Call}
use Rattle.session.specs.Calls.{call_answer, call_lists}
use Rattle.session.specs.Model.{lengths_of, Fed}
use Rattle.refusal.specs.declared.Refusal.{Refusal}

-- a call, and the lists lent to it
pub record Turn : Type 0 where
  pub call : Call
  pub lent : Lent

-- the lists lent hold what the buffers hold in their used part, as far as they reach
pub record Carried (buffers lent : Lent) : Type 0 where
  pub shapes : lent.shapes ≡ buffers.shapes
  pub anchors : (j : ℕ) → j < total buffers.shapes * 6 → j < length lent.anchors → entry lent.anchors j ≡ entry buffers.anchors j
  pub radii : (k : ℕ) → k < total buffers.shapes → k < length lent.radii → entry lent.radii k ≡ entry buffers.radii k
  pub numbers : (j : ℕ) → j < total buffers.shapes * 12 → j < length lent.numbers → entry lent.numbers j ≡ entry buffers.numbers j
  pub flags : (k : ℕ) → k < total buffers.shapes → k < length lent.flags → get_or lent.flags k 0 ≡ get_or buffers.flags k 0

-- what a buffer holds once its first part was lent and came back as `now`
abbrev pub back : {A : Type 0} → List A → List A → List A
back now before = now ++ drop (length now) before

unfoldable pub returned : Lent → Lent → Lent
returned now before =
    record {
      shapes = now.shapes;
      anchors = back now.anchors before.anchors;
      radii = back now.radii before.radii;
      numbers = back now.numbers before.numbers;
      flags = back now.flags before.flags;
    }

-- ---- the calls one after the other, on a drawing of this kind
-- the buffers after a turn
unfoldable pub after : ℕ → Lent → Turn → Lent
after kind b t = returned (call_lists t.lent kind t.call) b

-- each turn is lent what the last one left
abbrev pub Linked : ℕ → Lent → List Turn → Type 0
Linked kind b [] = Unit
Linked kind b (t ∷ ts) = Carried b t.lent × Linked kind (after kind b t) ts

unfoldable pub answers : ℕ → List Turn → List (Result Edited Refusal)
answers kind [] = []
answers kind (t ∷ ts) = call_answer t.lent kind t.call ∷ answers kind ts

unfoldable pub after_all : ℕ → Lent → List Turn → Lent
after_all kind b [] = b
after_all kind b (t ∷ ts) = after_all kind (after kind b t) ts

-- what of it the model is fed: the call's arguments and the lists' lengths
unfoldable pub fed : List Turn → List Fed
fed [] = []
fed (t ∷ ts) = record { call = t.call; lengths = lengths_of t.lent } ∷ fed ts

-- ---- on one set of buffers, lent whole to every call
unfoldable pub played : ℕ → Lent → List Call → Lent
played kind l [] = l
played kind l (c ∷ cs) = played kind (call_lists l kind c) cs

unfoldable pub turns_of : ℕ → Lent → List Call → List Turn
turns_of kind l [] = []
turns_of kind l (c ∷ cs) = record { call = c; lent = l } ∷ turns_of kind (call_lists l kind c) cs
