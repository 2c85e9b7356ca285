-- The lists that a split leaves, once its plan is granted. Assumes nothing.
use mathlib.Core.Path.{◌≡◌, sym, ap, ◌∙◌}
use Prim.Native.Nat.{ℕ, ◌+◌, ◌*◌, ◌/◌, ◌%◌, ◌≤◌, ◌<◌}
use native.Mathlib.Omega.{arith}
use lib.ListN.{length}
use lib.Ieee.{Float}
use mathlib.Core.Bool.{Bool, true}
use lib.Dec.{ltb}
use Rattle.std.proofs.Common.{Ok}
use Rattle.views.specs.View.{entry, overwrite}
use Rattle.views.proofs.Bools.{and_right}
use Rattle.path.specs.Flat.{anchor_at, anchor_numbers}
use Rattle.path.specs.Shape.{count_of, closed_of, total, word_at, start, is_segment, next}
use Rattle.path.proofs.Shapes.{total_in}
use Rattle.cut.specs.View.{View}
use Rattle.cut.specs.Subpath.{view_of}
use Rattle.cut.specs.Recut.{recut_numbers, recut_flags}
use Rattle.cut_calls.specs.PlainCut.{sub_at}
use Rattle.edit.specs.Gap.{gapped}
use Rattle.edit.specs.Split.{split_anchors, split_shapes, has_segment}
use Rattle.edit.proofs.Gaps.{length-gap, gap_past}
use Rattle.edit.proofs.Segments.{segment_says, next_other}
use Rattle.recutting.specs.declared.plans.Plan.{Plan}
use Rattle.recutting.specs.Stretch.{Accepts}
use Rattle.session.specs.Drawing.{Lent, drawn, view_in}
use Rattle.session.specs.Edits.{split, segment_start, segment_end, split_radii, split_at, edit_of}
use Rattle.session.specs.Calls.{edited_lists}
use Rattle.session.specs.Model.{lengths_of}
use Rattle.session.proofs.Lents.{Long, long_says}
use Rattle.session.proofs.Splits.{split-start, split-count, split_closed, split-total}
use Rattle.session.proofs.Accepted.{split_shapes_left_lem, split_anchors_left_lem, split_radii_left, split-numbers-left, split_flags_left}
use Rattle.cached.specs.Doing.{Does}
use Rattle.cached.proofs.Plans.{like_self, does_accept}
use Rattle.cached_split.specs.Splitting.{grown, shifted_flags}
use Rattle.cached_split.specs.Planning.{Granted}
use Rattle.cached_split.proofs.Makes.{gap-stood, length-shifted, flags_stood, flags_past}

module _ (l : Lent) (kind s a : ℕ) (t : Float) (p : Plan) (g : Granted l kind s a t p) where
  abbrev first : ℕ
  first = start l.shapes s

  abbrev size : ℕ
  size = count_of (word_at l.shapes s)

  abbrev round : Bool
  round = closed_of (word_at l.shapes s)

  abbrev m : ℕ
  m = total l.shapes

  there : s < length l.shapes
  there = g.allowed.stands.there

  seg : is_segment (count_of (word_at l.shapes s)) (closed_of (word_at l.shapes s)) a ≡ true
  unfolding has_segment
  seg = and_right (ltb s (length l.shapes)) (is_segment size round a) g.segment

  small : count_of (word_at l.shapes s) ≤ 512
  small = let f = g.few in omega (arith, total_in l.shapes s there)

  made-total : total (split_shapes l.shapes s) ≡ total l.shapes + 1
  unfolding drawn
  made-total = split-total l.shapes s a there seg small

  long : Long (lengths_of l) (total l.shapes + 1)
  long = long_says (lengths_of l) (total l.shapes + 1) g.room

  -- ---- what the writing rests on
  pub record Room : Type 0 where
    pub inside : a < count_of (word_at l.shapes s)
    pub next-inside : next (count_of (word_at l.shapes s)) a < count_of (word_at l.shapes s)
    pub other : a ≡ next (count_of (word_at l.shapes s)) a → ⊥
    pub path : start l.shapes s + count_of (word_at l.shapes s) ≤ total l.shapes
    pub anchors : total l.shapes * 6 + 6 ≤ length l.anchors
    pub radii : total l.shapes + 1 ≤ length l.radii
    pub numbers : total l.shapes * 12 + 12 ≤ length l.numbers
    pub flags : total l.shapes + 1 ≤ length l.flags

  pub room : Room
  unfolding lengths_of
  room =
      let w = segment_says size round a seg in
      let n = next_other size a w.0 w.1 in
      let x = long.anchors in
      let y = long.numbers in
      record { inside = w.0; next-inside = n.0; other = n.1; path = total_in l.shapes s there; anchors = omega arith; radii = long.radii; numbers = omega arith; flags = long.flags }

  pub made-sub : sub_at (split_shapes l.shapes s) s ≡ grown (sub_at l.shapes s)
  unfolding sub_at drawn
  made-sub = rw (split-start l.shapes s a there seg small, split-count l.shapes s a there seg small, split_closed l.shapes s a there seg small)

  pub made_size : (view_in (split_at (drawn l kind) s a t) s).n ≡ (grown (sub_at l.shapes s)).n
  unfolding view_in view_of split_at drawn
  made_size = ap (λ z. z.n) made-sub

  pub made_closed : (view_in (split_at (drawn l kind) s a t) s).closed ≡ (grown (sub_at l.shapes s)).closed
  unfolding view_in view_of split_at drawn
  made_closed = ap (λ z. z.closed) made-sub

  pub made-places : Accepts (view_in (split_at (drawn l kind) s a t) s) (grown (sub_at l.shapes s)) (record { at = a + 1; reach = 4 }) p
  unfolding edit_of split_at drawn
  made-places = rw made-sub at g.allowed.places

  abbrev v : View
  v = view_in (split_at (drawn l kind) s a t) s

  at_in : start l.shapes s + a < total l.shapes
  at_in = let i = room.inside in let q = room.path in omega arith

  left-numbers : recut_numbers (view_in (split_at (drawn l kind) s a t) s) (start l.shapes s) 4 (a + 1) (gapped l.numbers (start l.shapes s + a) (total l.shapes) 12)
      ≡ (edited_lists l (edit_of (drawn l kind) (split s a t))).numbers
  unfolding lengths_of
  left-numbers =
      let n = made-total in
      let b = long.numbers in
      split-numbers-left l kind s a t there seg small v (like_self v) (gapped l.numbers (first + a) m 12) (omega arith) (length-gap l.numbers (first + a) m 12)
      (λ j i. let e : j ≡ j / 12 * 12 + j % 12 = omega arith in
      ap (entry (gapped l.numbers (first + a) m 12)) e ∙ gap-stood l.numbers (first + a) m 12 at_in (omega arith) (j / 12) (j % 12) (omega arith) (omega arith))
      (λ j i. gap_past l.numbers (first + a) m 12 j (omega arith))

  left_flags : recut_flags (view_in (split_at (drawn l kind) s a t) s) (start l.shapes s) 4 (a + 1) (shifted_flags l.flags (start l.shapes s + a) (total l.shapes))
      ≡ (edited_lists l (edit_of (drawn l kind) (split s a t))).flags
  unfolding lengths_of
  left_flags =
      let n = made-total in
      let b = long.flags in
      split_flags_left l kind s a t there seg small v (like_self v) (shifted_flags l.flags (first + a) m) (omega arith) (length-shifted l.flags (first + a) m)
      (λ k i. flags_stood l.flags (first + a) m k (omega arith) (omega arith))
      (λ k i. flags_past l.flags (first + a) m k (omega arith))

  -- as the code leaves the lists
  pub split_done : (now : Lent) → now.shapes ≡ split_shapes l.shapes s
      → now.anchors ≡ overwrite ((total l.shapes + 1) * 6) (anchor_numbers (split_anchors (anchor_at l.anchors) (start l.shapes s + a) (start l.shapes s + next (count_of (word_at l.shapes s)) a) t)) l.anchors
      → now.radii ≡ overwrite (total l.shapes + 1) (split_radii (entry l.radii) (start l.shapes s + a)) l.radii
      → now.numbers ≡ recut_numbers (view_in (split_at (drawn l kind) s a t) s) (start l.shapes s) 4 (a + 1) (gapped l.numbers (start l.shapes s + a) (total l.shapes) 12)
      → now.flags ≡ recut_flags (view_in (split_at (drawn l kind) s a t) s) (start l.shapes s) 4 (a + 1) (shifted_flags l.flags (start l.shapes s + a) (total l.shapes))
      → Does l kind (split s a t) (Ok (record { recut = p.count; anchors = p.total })) now
  unfolding split_shapes segment_start segment_end
  split_done now sh an ra nu fl =
      let e0 = sh ∙ split_shapes_left_lem l kind s a t there seg small in
      let e1 = an ∙ ap (λ q. overwrite (q * 6) (anchor_numbers (split_anchors (anchor_at l.anchors) (first + a) (first + next size a) t)) l.anchors) (sym made-total) ∙ split_anchors_left_lem l kind s a t there seg small in
      let e2 = ra ∙ ap (λ q. overwrite q (split_radii (entry l.radii) (first + a)) l.radii) (sym made-total) ∙ split_radii_left l kind s a t there seg small in
      let e3 = nu ∙ left-numbers in
      let e4 = fl ∙ left_flags in
      does_accept l kind (split s a t) s (a + 1) 4 p g.allowed now
      (λ t. record { shapes = e0 t; anchors = e1 t; radii = e2 t; numbers = e3 t; flags = e4 t })
