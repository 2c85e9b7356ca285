-- One call: its answer is the model's, and the buffers then hold the model's next drawing and its cut. Assumes nothing.
use mathlib.Core.Path.{◌≡◌, refl, sym, ap, subst, ◌∙◌}
use mathlib.Core.Bool.{true}
use mathlib.Core.List.{List}
use Prim.Native.Nat.{ℕ, ◌+◌, ◌*◌, ◌≤◌}
use native.Mathlib.Omega.{arith}
use lib.Dec.{leb}
use lib.ListN.{length, length-set}
use lib.Ieee.{Float, nan}
use borrow.Author.Tests.{leb-true}
use Rattle.views.specs.View.{entry}
use Rattle.views.proofs.Bools.{and_right}
use Rattle.views.specs.Search.{count}
use Rattle.refusal.specs.Order.{Verdict, accepted, refused, answering}
use Rattle.refusal.proofs.Verdicts.{holds_says, accepted_says}
use Rattle.path.specs.Shape.{total}
use Rattle.path.specs.Flat.{anchor_at}
use Rattle.path.proofs.Limits.{GoodBelow}
use Rattle.session.specs.Drawing.{Drawing, Lent, drawn}
use Rattle.cache.specs.Cache.{cached_in}
use Rattle.edit.specs.Split.{split_shapes}
use Rattle.session.specs.Edits.{Call, move, set_radius, split, Edit, edit_of, moved, resized, split_at, places_of}
use Rattle.session.specs.Calls.{lists_fit, room_in, edit_answer, edited_lists, lists_after, edit_verdict, call_verdict, call_answer, call_lists}
use Rattle.session.specs.Model.{lengths_of, long_for, small_path, whole_limit, model_verdict, recut_count, model_answer, drawing_after, model_next}
use Rattle.session.specs.Session.{Carried, back, returned}
use Rattle.session.specs.Demand.{Holds}
use Rattle.session.proofs.Judging.{places-say, places_then}
use Rattle.session.proofs.Effects.{draw, shapes_same, count_same}
use Rattle.session.proofs.Counts.{recut-count}
use Rattle.session.proofs.Lents.{Long, long_says, fits-same, room-same, anchor-same, back_kept, back_long}
use Rattle.session.proofs.Twins.{lent_alike, call_twin, edited-held}
use Rattle.session.proofs.Verdicts.{call_model}

-- a drawing of a path's size whose plain cut is within the limit
pub record Fine (m : Drawing) : Type 0 where
  pub words : length m.shapes ≤ 32
  pub few : total m.shapes ≤ 512
  pub places : GoodBelow (cached_in (places_of m)) (total m.shapes)

-- ---- a refusal: the buffers are as they were
still : (b l : Lent) (m : Drawing) → Holds b m → Carried b l → Holds (returned l b) m
unfolding returned
still b l m h c =
    let e : total b.shapes ≡ total m.shapes = ap total h.shapes in
    record {
      shapes = c.shapes ∙ h.shapes;
      anchors_long = back_long l.anchors b.anchors _ h.anchors_long;
      radii_long = back_long l.radii b.radii _ h.radii_long;
      numbers_long = back_long l.numbers b.numbers _ h.numbers_long;
      flags_long = back_long l.flags b.flags _ h.flags_long;
      anchors = λ k kl. anchor-same (back l.anchors b.anchors) b.anchors k (λ j jl. back_kept nan l.anchors b.anchors j (c.anchors j (omega arith))) ∙ h.anchors k kl;
      radii = λ k kl. back_kept nan l.radii b.radii k (c.radii k (omega arith)) ∙ h.radii k kl;
      numbers = λ k i kl il. back_kept nan l.numbers b.numbers (k * 12 + i) (c.numbers (k * 12 + i) (omega arith)) ∙ h.numbers k i kl il;
      flags = λ k kl. back_kept 0 l.flags b.flags k (c.flags k (omega arith)) ∙ h.flags k kl;
    }

-- ---- what every edit keeps
pub kind_kept : (m : Drawing) (c : Call) → (edit_of m c).made.kind ≡ m.kind
unfolding edit_of moved resized split_at
kind_kept m (move s i x) = refl
kind_kept m (set_radius s i x) = refl
kind_kept m (split s a t) = refl

pub words_kept : (m : Drawing) (c : Call) → length (edit_of m c).made.shapes ≡ length m.shapes
unfolding edit_of moved resized split_at split_shapes
words_kept m (move s i x) = refl
words_kept m (set_radius s i x) = refl
words_kept m (split s a t) = length-set m.shapes s _

-- ---- what a turn comes to
pub record Stepped (kind : ℕ) (b l : Lent) (m : Drawing) (c : Call) : Type 0 where
  pub answer : call_answer l kind c ≡ model_answer m (lengths_of l) c
  pub held : Holds (returned (call_lists l kind c) b) (model_next m (lengths_of l) c)
  pub fine : Fine (model_next m (lengths_of l) c)
  pub kept_kind : (model_next m (lengths_of l) c).kind ≡ m.kind

module _ (b : Lent) (m : Drawing) (an ra nu : List Float) (fl : List ℕ) (c : Call) where
  abbrev l : Lent
  l = record { shapes = m.shapes; anchors = an; radii = ra; numbers = nu; flags = fl }

  abbrev n : ℕ
  n = total m.shapes

  abbrev d : Drawing
  d = draw m.shapes m.kind (anchor_at an) (entry ra)

  abbrev e : Edit
  e = edit_of d c

  abbrev f : Edit
  f = edit_of m c

  module _ (held : Holds b m) (carried : Carried b l) (fine : Fine m) where
    long : lists_fit l ≡ true → Long (lengths_of l) n
    long h = long_says (lengths_of l) n (and_right (small_path m.shapes) (long_for (lengths_of l) n) (sym (fits-same l) ∙ h))

    judged : call_verdict l m.kind c ≡ model_verdict m (lengths_of l) c
    judged = call_model m.shapes m.kind an ra nu fl m.anchor m.radius c (λ h. lent_alike b m an ra nu fl held carried (long h)) fine.places

    -- ---- an accepted call
    module _ (yes : call_verdict l m.kind c ≡ accepted) where
      fits : lists_fit l ≡ true
      unfolding call_verdict edit_verdict drawn
      fits = holds_says (lists_fit l) 0 (accepted_says _ _ _ _ _ _ yes).lists

      known : e.known ≡ true
      unfolding call_verdict edit_verdict drawn
      known = holds_says e.known 0 (accepted_says _ _ _ _ _ _ yes).reference

      room : Long (lengths_of l) (total e.made.shapes)
      unfolding call_verdict edit_verdict drawn
      room = long_says (lengths_of l) (total e.made.shapes) (sym (room-same l (total e.made.shapes)) ∙ holds_says (room_in l (total e.made.shapes)) 0 (accepted_says _ _ _ _ _ _ yes).output)

      next-held : Holds (returned (edited_lists l e) b) f.made
      next-held =
          let like = lent_alike b m an ra nu fl held carried (long fits) in
          edited-held b m an ra nu fl held carried (long fits) e f (call_twin m.shapes m.kind (anchor_at an) m.anchor (entry ra) m.radius like c fine.few known) room

      answer-count : count e.recuts (total e.made.shapes) ≡ recut_count m c
      answer-count = recut-count d c fine.few known ∙ count_same m.shapes m.kind (anchor_at an) m.anchor (entry ra) m.radius c

    next_fine : model_verdict m (lengths_of l) c ≡ accepted → Fine f.made
    unfolding model_verdict whole_limit
    next_fine h =
        let p = accepted_says _ _ _ _ _ _ h in
        let y = total f.made.shapes in
        record {
          words = omega (arith, words_kept m c, fine.words);
          few = leb-true y 512 (holds_says (leb y 512) 0 p.capacity);
          places = places-say _ y _ (places_then _ y _ p.result);
        }

    step_here : Stepped m.kind b l m c
    unfolding call_answer call_lists model_answer model_next drawn lists_after drawing_after edit_answer answering
    step_here = go (model_verdict m (lengths_of l) c) refl
      where
        go : (v : Verdict) → model_verdict m (lengths_of l) c ≡ v → Stepped m.kind b l m c
        go (refused why) h =
            let w : call_verdict l m.kind c ≡ refused why = judged ∙ h in
            record {
              answer = rw (w, h);
              held = rw (w, h) (still b l m held carried);
              fine = rw h fine;
              kept_kind = rw h;
            }
        go accepted h =
            let w : call_verdict l m.kind c ≡ accepted = judged ∙ h in
            let q : e.made.shapes ≡ f.made.shapes = shapes_same m.shapes m.kind (anchor_at an) m.anchor (entry ra) m.radius c in
            record {
              answer = rw (w, h, answer-count w, q);
              held = rw (w, h) (next-held w);
              fine = rw h (next_fine h);
              kept_kind = rw h (kind_kept m c);
            }

-- the shape list lent is the model's
pub step : (kind : ℕ) (b l : Lent) (m : Drawing) (c : Call) → m.kind ≡ kind → Holds b m → Fine m → Carried b l → Stepped kind b l m c
step kind b l m c k held fine carried =
    subst (λ x. Stepped x b l m c) k
    (subst (λ shapes. Carried b (with_shapes shapes) → Stepped m.kind b (with_shapes shapes) m c) (sym (carried.shapes ∙ held.shapes))
    (λ r. step_here b m l.anchors l.radii l.numbers l.flags c held r fine) carried)
  where
    with_shapes : List ℕ → Lent
    with_shapes shapes = record { shapes = shapes; anchors = l.anchors; radii = l.radii; numbers = l.numbers; flags = l.flags }
