-- DEMAND 3: what holds after every list of calls on the fresh cache of an accepted drawing. Assumes nothing.
use Rattle.std.proofs.Common.{Ok, Err}
use Rattle.std.specs.Prelude.{ℕ, ◌+◌, ◌*◌, ◌≤◌, ◌<◌, ◌≡◌, false, true, List, [], ◌∷◌, ◌++◌, length, get_or, take, drop, Float}
use Rattle.views.specs.View.{entry}
use Rattle.views.specs.Search.{count}
use Rattle.refusal.specs.declared.Refusal.{Refusal}
use Rattle.refusal.specs.Order.{accepted}
use Rattle.path.specs.Shape.{total}
use Rattle.path.specs.Flat.{anchor_at, nth}
use Rattle.call.specs.Tests.{room_for}
use Rattle.svg_calls.specs.Call.{to_svg_d_verdict, to_svg_d_left}
use Rattle.cut.specs.Places.{place_numbers}
use Rattle.cut.specs.Rows.{flag_of}
use Rattle.session.specs.declared.answers.Edited.{Edited}
use Rattle.session.specs.Drawing.{Drawing, Lent, drawn}
use Rattle.cache.specs.Calls.{assemble_verdict, assemble_shapes, assemble_anchors}
use Rattle.session.specs.Edits.{Call, Edit, edit_of, places_of}
use Rattle.session.specs.Calls.{call_answer, call_lists}
use Rattle.session.specs.Model.{model_answers, model_after}
use Rattle.session.specs.Session.{Turn, fed, answers, after_all}
use Rattle.session.specs.Outline.{plain_cut, plain_text, cut_in, assembled_from}

-- the buffers hold the drawing m, and the cache of its plain cut: twelve numbers and a flag a place
pub record Holds (b : Lent) (m : Drawing) : Type 0 where
  pub shapes : b.shapes ≡ m.shapes
  pub anchors_long : total m.shapes * 6 ≤ length b.anchors
  pub radii_long : total m.shapes ≤ length b.radii
  pub numbers_long : total m.shapes * 12 ≤ length b.numbers
  pub flags_long : total m.shapes ≤ length b.flags
  pub anchors : (k : ℕ) → k < total m.shapes → anchor_at b.anchors k ≡ m.anchor k
  pub radii : (k : ℕ) → k < total m.shapes → entry b.radii k ≡ m.radius k
  pub numbers : (k i : ℕ) → k < total m.shapes → i < 12 → entry b.numbers (k * 12 + i) ≡ entry (place_numbers (places_of m k)) i
  pub flags : (k : ℕ) → k < total m.shapes → get_or b.flags k 0 ≡ flag_of (places_of m k).cut

-- lists that hold the plain cut of m, in 000's order, and of which `to_svg_d` writes its text to `out`
pub record Outlined (m : Drawing) (shapes : List ℕ) (anchors : List Float) (out : List ℕ) : Type 0 where
  pub words : shapes ≡ (plain_cut m).words
  pub each : (k : ℕ) → k < length (plain_cut m).anchors → anchor_at anchors k ≡ nth (plain_cut m).anchors k
  pub accepts : to_svg_d_verdict shapes anchors out ≡ accepted
  pub text : to_svg_d_left shapes anchors out ≡ plain_text m ++ drop (length (plain_text m)) out

-- what holds of buffers b that agree with a drawing m and its plain cut
pub record Agrees (b : Lent) (m : Drawing) : Type 0 where
  -- the lent drawing has the bits of m, and the cache is the plain cut of m laid out
  pub held : Holds b m
  -- put together, it is the plain cut: `cut_corners` of each subpath, the same words, the same anchors
  pub outline : assembled_from b ≡ plain_cut m
  -- its anchors: those of m, and one for each place of m whose fitted radius exceeds 1e-9
  pub counted : length (assembled_from b).anchors ≡ total m.shapes + count (cut_in m) (total m.shapes)
  -- with room for it, assembling is accepted and leaves the plain cut; and the text of what it leaves is the plain cut's
  pub assembles : (to_shapes : List ℕ) (to : List Float) (out : List ℕ) → room_for (length (plain_cut m).words) (length (plain_cut m).anchors) to_shapes to ≡ true
      → length (plain_text m) ≤ length out
      → (assemble_verdict b.shapes b.numbers b.flags to_shapes to ≡ accepted)
      × Outlined m (take (length m.shapes) (assemble_shapes b.shapes b.numbers b.flags to_shapes to)) (assemble_anchors b.shapes b.numbers b.flags to_shapes to) out

-- what an accepted edit leaves alone, on ANY cache: a place that is not recut has the bits that it had (shifted, after a split), and so has all past the places
pub record Untouched (e : Edit) (before now : Lent) : Type 0 where
  pub numbers : (k i : ℕ) → k < total e.made.shapes → e.recuts k ≡ false → i < 12 → entry now.numbers (k * 12 + i) ≡ entry before.numbers (e.stood k * 12 + i)
  pub flags : (k : ℕ) → k < total e.made.shapes → e.recuts k ≡ false → get_or now.flags k 0 ≡ get_or before.flags (e.stood k) 0
  pub numbers_past : (j : ℕ) → total e.made.shapes * 12 ≤ j → entry now.numbers j ≡ entry before.numbers j
  pub flags_past : (k : ℕ) → total e.made.shapes ≤ k → get_or now.flags k 0 ≡ get_or before.flags k 0

-- a call on any lists: a refusal leaves every bit
pub record Spares (l : Lent) (kind : ℕ) (c : Call) : Type 0 where
  pub refusal : (why : Refusal) → call_answer l kind c ≡ Err why → call_lists l kind c ≡ l
  pub acceptance : (x : Edited) → call_answer l kind c ≡ Ok x → Untouched (edit_of (drawn l kind) c) l (call_lists l kind c)

abbrev pub SparesAll : ℕ → List Turn → Type 0
SparesAll kind [] = Unit
SparesAll kind (t ∷ ts) = Spares t.lent kind t.call × SparesAll kind ts

-- THE CLAIM, of a drawing d, the buffers b that hold it and its fresh cache, and the calls ts, each with the lists as the last one left them
pub record Demand3 (d : Drawing) (b : Lent) (ts : List Turn) : Type 0 where
  -- every answer is the model's: refusals with their places, and exactly the number of places within three, two, four
  pub answered : answers d.kind ts ≡ model_answers d (fed ts)
  -- the buffers agree with the model drawing, which follows from the calls alone
  pub agrees : Agrees (after_all d.kind b ts) (model_after d (fed ts))
  -- all other places keep their bits
  pub spares : SparesAll d.kind ts
