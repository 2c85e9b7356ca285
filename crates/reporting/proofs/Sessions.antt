-- Calls on lists that hold a drawing and its cut: their lines are those of the model drawing, and the lists at the end hold it. Assumes nothing.
use mathlib.Core.Path.{◌≡◌, refl, sym, ap, ap₂, subst, ◌∙◌}
use mathlib.Core.List.{List, [], ◌∷◌, ◌++◌}
use Prim.Native.Nat.{ℕ, ◌*◌}
use Rattle.views.proofs.Laws.{length-overwrite}
use Rattle.std.proofs.Common.{Ok, Err, Result}
use Rattle.refusal.specs.declared.Refusal.{Refusal}
use Rattle.refusal.specs.Order.{Verdict, accepted, refused}
use Rattle.path.specs.Shape.{total, word_at, start}
use Rattle.path.specs.Flat.{anchor_numbers}
use Rattle.edit.specs.Split.{split_shapes}
use Rattle.session.specs.declared.answers.Edited.{Edited}
use Rattle.session.specs.Drawing.{Drawing, Lent, drawn}
use Rattle.session.specs.Edits.{Call, move, set_radius, split, Edit, edit_of, moved, resized, split_at}
use Rattle.session.specs.Calls.{numbers_after, flags_after, edited_lists, lists_after, call_verdict, call_answer, call_lists}
use Rattle.session.specs.Model.{Lengths, lengths_of, model_answer, model_next, model_after}
use Rattle.session.specs.Session.{Carried, returned, after, after_all, played, turns_of}
use Rattle.session.specs.Demand.{Holds}
use Rattle.session.proofs.Step.{Fine, step}
use Rattle.session.proofs.Plays.{after-played}
use Rattle.recutting.specs.Near.{reached_in}
use Rattle.replay.specs.Encoding.{subpath_of}
use Rattle.reporting.specs.Codes.{window_in}
use Rattle.call_lines.specs.Lines.{sub_from, recut_text}
use Rattle.reporting.specs.Report.{edited_text, edited_line, model_lines, fed_all}
use Rattle.reporting.proofs.Theorems.{recuts_reached}
use Rattle.reporting.proofs.Turns.{passing_cong, turn_line}

-- the lines of calls on one set of lists
unfoldable pub turn_lines : ℕ → Lent → List Call → List ℕ
turn_lines kind l [] = []
turn_lines kind l (c ∷ cs) = turn_line l kind c ++ turn_lines kind (call_lists l kind c) cs

-- ---- a call changes no list's length
left-lengths : (v : Verdict) (l : Lent) (e : Edit) → lengths_of (lists_after v (edited_lists l e) l) ≡ lengths_of l
unfolding lengths_of lists_after edited_lists
left-lengths (refused why) l e = refl
left-lengths accepted l e =
    let n = total e.made.shapes in
    λ t. record {
      anchors = length-overwrite (n * 6) (anchor_numbers e.made.anchor) l.anchors t;
      radii = length-overwrite n e.made.radius l.radii t;
      numbers = length-overwrite (n * 12) (numbers_after e l.numbers) l.numbers t;
      flags = length-overwrite n (flags_after e l.flags) l.flags t;
    }

lengths-left : (l : Lent) (kind : ℕ) (c : Call) → lengths_of (call_lists l kind c) ≡ lengths_of l
unfolding call_lists
lengths-left l kind c = left-lengths (call_verdict l kind c) l (edit_of (drawn l kind) c)

whole : (l : Lent) (kind : ℕ) (c : Call) → returned (call_lists l kind c) l ≡ call_lists l kind c
unfolding turns_of after after_all played
whole l kind c = after-played kind (c ∷ []) l

itself : (l : Lent) → Carried l l
itself l = record { shapes = refl; anchors = λ j p q. refl; radii = λ k p q. refl; numbers = λ j p q. refl; flags = λ k p q. refl }

-- ---- which places an edit recuts turns on the shape words alone
made-same : (d m : Drawing) (c : Call) → d.shapes ≡ m.shapes → (edit_of d c).made.shapes ≡ (edit_of m c).made.shapes
unfolding edit_of moved resized split_at
made-same d m (move s i new) e = e
made-same d m (set_radius s i r) e = e
made-same d m (split s a t) e = ap (λ xs. split_shapes xs s) e

recuts_same : (d m : Drawing) (c : Call) → d.shapes ≡ m.shapes → (k : ℕ) → (edit_of d c).recuts k ≡ (edit_of m c).recuts k
recuts_same d m c e k =
    recuts_reached d c k
    ∙ ap₂ (λ xs ys. reached_in (sub_from (start xs (subpath_of c)) (word_at ys (subpath_of c))) (window_in c) k) e (made-same d m c e)
    ∙ sym (recuts_reached m c k)

text_same : (a : Result Edited Refusal) (d m : Drawing) (c : Call) → d.shapes ≡ m.shapes → edited_text a (edit_of d c) ≡ edited_text a (edit_of m c)
unfolding edited_text
text_same (Err why) d m c e = refl
text_same (Ok x) d m c e = ap recut_text (passing_cong _ _ x.anchors (λ k l. recuts_same d m c e k))

-- ---- the induction
pub record Ran (kind : ℕ) (cs : List Call) (b : Lent) (m : Drawing) (n : Lengths) : Type 0 where
  pub lines : turn_lines kind b cs ≡ model_lines m (fed_all n cs)
  pub held : Holds (played kind b cs) (model_after m (fed_all n cs))
  pub fine : Fine (model_after m (fed_all n cs))

drawn_shapes : (b : Lent) (kind : ℕ) (m : Drawing) → Holds b m → (drawn b kind).shapes ≡ m.shapes
unfolding drawn
drawn_shapes b kind m h = h.shapes

line_same : (b : Lent) (kind : ℕ) (m : Drawing) (c : Call) → Holds b m → call_answer b kind c ≡ model_answer m (lengths_of b) c
    → turn_line b kind c ≡ edited_line (model_answer m (lengths_of b) c) (edit_of m c)
unfolding edited_line
line_same b kind m c held a = rw a (ap (λ t. t ++ 10 ∷ []) (text_same (model_answer m (lengths_of b) c) (drawn b kind) m c (drawn_shapes b kind m held)))

pub ran : (kind : ℕ) (cs : List Call) (b : Lent) (m : Drawing) → m.kind ≡ kind → Holds b m → Fine m → Ran kind cs b m (lengths_of b)
unfolding turn_lines model_lines fed_all played model_after
ran kind [] b m k held fine = record { lines = refl; held = held; fine = fine }
ran kind (c ∷ cs) b m k held fine =
    let s = step kind b b m c k held fine (itself b) in
    let next = model_next m (lengths_of b) c in
    let r = ran kind cs (call_lists b kind c) next (s.kept_kind ∙ k) (subst (λ l. Holds l next) (whole b kind c) s.held) s.fine in
    let e = lengths-left b kind c in
    let q = subst (Ran kind cs (call_lists b kind c) next) e r in
    record { lines = ap₂ ◌++◌ (line_same b kind m c held s.answer) q.lines; held = q.held; fine = q.fine }
