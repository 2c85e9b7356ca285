-- Calls on one set of buffers are turns that are linked, so demand 3 holds of every list of them. Assumes nothing.
use mathlib.Core.Path.{◌≡◌, refl, ap, ◌∙◌}
use mathlib.Core.List.{List, [], ◌∷◌, ◌++◌, append-nil}
use Prim.Native.Nat.{ℕ, ◌*◌}
use lib.ListN.{length, drop}
use lib.Seq.{drop-length}
use Rattle.views.specs.View.{overwrite}
use Rattle.views.proofs.Laws.{length-overwrite}
use Rattle.refusal.specs.Order.{Verdict, accepted, refused}
use Rattle.path.specs.Shape.{total}
use Rattle.path.specs.Flat.{anchor_numbers}
use Rattle.session.specs.Drawing.{Lent, drawn}
use Rattle.session.specs.Edits.{Call, Edit, edit_of}
use Rattle.session.specs.Calls.{numbers_after, flags_after, edited_lists, lists_after, call_verdict, call_lists, built_verdict, built_lists}
use Rattle.session.specs.Session.{Carried, back, returned, after, Linked, after_all, played, turns_of}
use Rattle.session.specs.Demand.{Demand3}
use Rattle.session.proofs.Demand.{demand3}

back_whole : {A : Type 0} (now before : List A) → length now ≡ length before → back now before ≡ now
back_whole now before e = ap (λ n. now ++ drop n before) e ∙ ap (λ l. now ++ l) (drop-length before) ∙ append-nil now

written-whole : {A : Type 0} (n : ℕ) (f : ℕ → A) (xs : List A) → back (overwrite n f xs) xs ≡ overwrite n f xs
written-whole n f xs = back_whole (overwrite n f xs) xs (length-overwrite n f xs)

-- a call changes no list's length, so what it left is what the buffers hold
whole : (v : Verdict) (l : Lent) (e : Edit) → returned (lists_after v (edited_lists l e) l) l ≡ lists_after v (edited_lists l e) l
unfolding returned lists_after edited_lists
whole (refused why) l e = λ t. record {
  shapes = l.shapes;
  anchors = back_whole l.anchors l.anchors refl t;
  radii = back_whole l.radii l.radii refl t;
  numbers = back_whole l.numbers l.numbers refl t;
  flags = back_whole l.flags l.flags refl t;
}
whole accepted l e =
    let n = total e.made.shapes in
    λ t. record {
      shapes = e.made.shapes;
      anchors = written-whole (n * 6) (anchor_numbers e.made.anchor) l.anchors t;
      radii = written-whole n e.made.radius l.radii t;
      numbers = written-whole (n * 12) (numbers_after e l.numbers) l.numbers t;
      flags = written-whole n (flags_after e l.flags) l.flags t;
    }

left-whole : (l : Lent) (kind : ℕ) (c : Call) → returned (call_lists l kind c) l ≡ call_lists l kind c
unfolding call_lists
left-whole l kind c = whole (call_verdict l kind c) l (edit_of (drawn l kind) c)

itself : (l : Lent) → Carried l l
itself l = record { shapes = refl; anchors = λ j p q. refl; radii = λ k p q. refl; numbers = λ j p q. refl; flags = λ k p q. refl }

linked : (kind : ℕ) (cs : List Call) (l : Lent) → Linked kind l (turns_of kind l cs)
unfolding turns_of after
linked kind [] l = tt
linked kind (c ∷ cs) l = (itself l, rw (left-whole l kind c) (linked kind cs (call_lists l kind c)))

pub after-played : (kind : ℕ) (cs : List Call) (l : Lent) → after_all kind l (turns_of kind l cs) ≡ played kind l cs
unfolding turns_of after after_all played
after-played kind [] l = refl
after-played kind (c ∷ cs) l = ap (λ x. after_all kind x (turns_of kind (call_lists l kind c) cs)) (left-whole l kind c) ∙ after-played kind cs (call_lists l kind c)

-- every list of calls whatever
pub demand3-played : (l : Lent) (kind : ℕ) → built_verdict l kind ≡ accepted → (cs : List Call) → Demand3 (drawn l kind) (built_lists l kind) (turns_of kind (built_lists l kind) cs)
demand3-played l kind ok cs = demand3 l kind ok (turns_of kind (built_lists l kind) cs) (linked kind cs (built_lists l kind))
