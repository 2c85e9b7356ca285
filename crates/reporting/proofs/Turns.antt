-- A call on lent lists: what is put of its answer's words is its line, and an accepted call's words are sound. Assumes nothing.
use mathlib.Core.Path.{◌≡◌, refl, sym, ap, ◌∙◌}
use mathlib.Core.Bool.{Bool, true, ◌&&◌}
use mathlib.Core.List.{List}
use Prim.Native.Nat.{ℕ, zero, suc, ◌+◌, ◌-◌, ◌≤◌, ◌<◌}
use native.Mathlib.Nat.{le_refl}
use native.Mathlib.Omega.{arith}
use lib.Dec.{leb}
use lib.ListN.{length}
use borrow.Author.Tests.{leb-true, ne_eqb}
use Rattle.views.proofs.Bools.{and_left, and_right}
use Rattle.std.proofs.Common.{Ok, Err}
use Rattle.refusal.specs.declared.Reason.{Reason}
use Rattle.refusal.specs.declared.Reason.TheVariants.{Unended, Misplaced, Empty, Full, Arguments, Reference, Lists, Output, Made, Capacity}
use Rattle.refusal.specs.declared.Refusal.{Refusal}
use Rattle.refusal.specs.Reasons.{number_of}
use Rattle.refusal.specs.Order.{accepted}
use Rattle.refusal.proofs.Verdicts.{holds_says, accepted_says, ok_says}
use Rattle.path.specs.Shape.{count_of, total, word_at, start}
use Rattle.path.proofs.Shapes.{total_in, has_says}
use Rattle.cut.specs.declared.subpath.Sub.{Sub}
use Rattle.cut.specs.declared.subpath.Window.{Window}
use Rattle.session.specs.declared.answers.Edited.{Edited}
use Rattle.session.specs.Drawing.{Drawing, Lent, drawn}
use Rattle.session.specs.Edits.{Call, move, set_radius, split, Edit, edit_of, moved, resized, split_at}
use Rattle.session.specs.Calls.{lists_fit, edit_verdict, edit_answer, edited_lists, lists_after, call_verdict, call_answer, call_lists}
use Rattle.session.specs.Model.{lengths_of, long_for, small_path}
use Rattle.session.proofs.Lents.{fits-same}
use Rattle.session.proofs.Effects.{segment-sub, segment_there, sub_small}
use Rattle.session.proofs.Splits.{segment_in, split-count, split-start, split-total}
use Rattle.recutting.specs.Near.{reached_in}
use Rattle.replay.specs.Encoding.{subpath_of}
use Rattle.reporting.specs.Codes.{which_of, index_of, sub_left, window_in}
use Rattle.call_lines.specs.Lines.{passing, window_of, sub_from, recut_places, call_text, call_line, Sound}
use Rattle.reporting.specs.Report.{edited_text, edited_line}
use Rattle.call_lines.proofs.Places.{passing-same}
use Rattle.reporting.proofs.Theorems.{reached_past, recuts_reached}

-- ---- no refusal has number 0
pub some_number : (r : Reason) → 0 < number_of r
some_number Unended = omega arith
some_number Misplaced = omega arith
some_number Empty = omega arith
some_number Full = omega arith
some_number Arguments = omega arith
some_number Reference = omega arith
some_number Lists = omega arith
some_number Output = omega arith
some_number Made = omega arith
some_number Capacity = omega arith

-- ---- an edit whose subpath, anchor or segment is there: that subpath as it leaves it
record Stands (d : Drawing) (c : Call) : Type 0 where
  begins : start (edit_of d c).made.shapes (subpath_of c) ≡ start d.shapes (subpath_of c)
  inside : start d.shapes (subpath_of c) + count_of (word_at (edit_of d c).made.shapes (subpath_of c)) ≤ total (edit_of d c).made.shapes
  index : (window_in c).at < count_of (word_at (edit_of d c).made.shapes (subpath_of c))

stands : (d : Drawing) (c : Call) → total d.shapes ≤ 512 → (edit_of d c).known ≡ true → Stands d c
unfolding edit_of moved resized split_at subpath_of which_of index_of window_of
stands d (move s i new) few h = record { begins = refl; inside = total_in d.shapes s (has_says d.shapes s i h).0; index = (has_says d.shapes s i h).1 }
stands d (set_radius s i r) few h = record { begins = refl; inside = total_in d.shapes s (has_says d.shapes s i h).0; index = (has_says d.shapes s i h).1 }
stands d (split s a t) few h =
    let there = segment-sub d.shapes s a h in
    let seg = segment_there d.shapes s a h in
    let small = sub_small d.shapes s there few in
    let n = split-count d.shapes s a there seg small in
    record {
      begins = split-start d.shapes s a there seg small;
      inside = omega (arith, n, total_in d.shapes s there, split-total d.shapes s a there seg small);
      index = omega (arith, n, segment_in _ _ a seg);
    }

-- ---- the places that an edit recuts are those of its subpath, whatever more places there are
recut_more : (sub : Sub) (w : Window) (z : ℕ) → passing (reached_in sub w) (sub.first + sub.n + z) ≡ recut_places sub w
unfolding recut_places
recut_more sub w zero = ap (passing (reached_in sub w)) (omega arith)
recut_more sub w (suc z) =
    let e : sub.first + sub.n + suc z ≡ suc (sub.first + sub.n + z) = omega arith in
    rw e (passing-same (reached_in sub w) (sub.first + sub.n + z) (reached_past sub w _ (omega arith)) ∙ recut_more sub w z)

recut-all : (sub : Sub) (w : Window) (n : ℕ) → sub.first + sub.n ≤ n → passing (reached_in sub w) n ≡ recut_places sub w
recut-all sub w n h = let e : n ≡ sub.first + sub.n + (n - (sub.first + sub.n)) = omega arith in rw e (recut_more sub w (n - (sub.first + sub.n)))

pub passing_cong : (p q : ℕ → Bool) (n : ℕ) → ((k : ℕ) → k < n → p k ≡ q k) → passing p n ≡ passing q n
unfolding passing
passing_cong p q zero h = refl
passing_cong p q (suc n) h = rw (passing_cong p q n (λ k l. h k (omega arith)), h n (le_refl (suc n)))

module _ (l : Lent) (kind : ℕ) (c : Call) where
  abbrev d : Drawing
  d = drawn l kind

  abbrev e : Edit
  e = edit_of (drawn l kind) c

  abbrev n : ℕ
  n = total e.made.shapes

  -- the line of the call
  abbrev pub turn_line : List ℕ
  turn_line = edited_line (call_answer l kind c) (edit_of (drawn l kind) c)

  -- ---- refused
  pub line_refused : (why : Refusal) (first word : ℕ) → call_answer l kind c ≡ Err why → call_line (which_of c) (index_of c) (number_of why.reason) why.place first word ≡ turn_line
  unfolding call_line call_text edited_line edited_text
  line_refused why first word h = rw (h, ne_eqb (number_of why.reason) 0 (λ q. omega (arith, some_number why.reason)))

  -- ---- accepted
  pub accepted_so : (x : Edited) → call_answer l kind c ≡ Ok x → (call_verdict l kind c ≡ accepted) × (x.anchors ≡ total (edit_of (drawn l kind) c).made.shapes)
  unfolding call_answer edit_answer
  accepted_so x h = let a = ok_says _ _ x h in (a.0, sym (ap (λ y. y.anchors) a.1))

  module _ (yes : call_verdict l kind c ≡ accepted) where
    fits : (small_path l.shapes && long_for (lengths_of l) (total l.shapes)) ≡ true
    unfolding call_verdict edit_verdict
    fits = sym (fits-same l) ∙ holds_says (lists_fit l) 0 (accepted_says _ _ _ _ _ _ yes).lists

    few : total l.shapes ≤ 512
    unfolding small_path
    few =
        let s = and_left (small_path l.shapes) (long_for (lengths_of l) (total l.shapes)) fits in
        leb-true (total l.shapes) 512 (and_right (leb (length l.shapes) 32) (leb (total l.shapes) 512) s)

    known : e.known ≡ true
    unfolding call_verdict edit_verdict
    known = holds_says e.known 0 (accepted_says _ _ _ _ _ _ yes).reference

    few_left : n ≤ 512
    unfolding call_verdict edit_verdict
    few_left = leb-true n 512 (holds_says (leb n 512) 0 (accepted_says _ _ _ _ _ _ yes).capacity)

    there : Stands (drawn l kind) c
    unfolding drawn
    there = stands (drawn l kind) c few known

    -- the two words that are answered of its subpath
    pub shapes_left_lem : (call_lists l kind c).shapes ≡ (edit_of (drawn l kind) c).made.shapes
    unfolding call_lists lists_after edited_lists
    shapes_left_lem = rw yes

    pub sub-left : sub_from (start (call_lists l kind c).shapes (subpath_of c)) (word_at (call_lists l kind c).shapes (subpath_of c)) ≡ sub_left (drawn l kind) c
    sub-left = rw shapes_left_lem (ap (λ k. sub_from k (word_at e.made.shapes (subpath_of c))) there.begins)

    sound : Sound (sub_left (drawn l kind) c) (window_in c)
    unfolding sub_from
    sound = record { few = omega (arith, there.inside, few_left); index = there.index }

    pub line-sound : Sound (sub_from (start (call_lists l kind c).shapes (subpath_of c)) (word_at (call_lists l kind c).shapes (subpath_of c))) (window_in c)
    line-sound = rw sub-left sound

    recut_here : passing e.recuts n ≡ recut_places (sub_left (drawn l kind) c) (window_in c)
    unfolding sub_from
    recut_here = passing_cong _ _ n (λ k h. recuts_reached (drawn l kind) c k) ∙ recut-all (sub_left (drawn l kind) c) (window_in c) n there.inside

    pub line_accepted : (x : Edited) → call_answer l kind c ≡ Ok x → x.anchors ≡ total (edit_of (drawn l kind) c).made.shapes
        → call_line (which_of c) (index_of c) 0 x.recut (start (call_lists l kind c).shapes (subpath_of c)) (word_at (call_lists l kind c).shapes (subpath_of c)) ≡ turn_line
    unfolding call_line call_text edited_line edited_text
    line_accepted x h k = rw (h, sub-left, k, recut_here)
