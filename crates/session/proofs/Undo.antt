-- Undo: taken back, an edit leaves the drawing that it found; and recutting within three steps of the two anchors that become neighbours again suffices, in any drawing. Assumes nothing.
use mathlib.Core.Path.{◌≡◌, refl, sym, ap, subst, ◌∙◌}
use mathlib.Core.Logic.{⊎_elim}
use mathlib.Core.Bool.{Bool, true, false, ◌||◌, cond, true≢false}
use mathlib.Core.List.{List}
use Prim.Native.Nat.{ℕ, ◌+◌, ◌-◌, ◌≤◌, ◌<◌}
use native.Mathlib.Omega.{arith}
use lib.Dec.{leb, ltb, eqb}
use lib.ListN.{length, set, length-set}
use lib.Seq.{get_or-set_same, set-set, set-get_or}
use lib.Ieee.{Float}
use borrow.Author.Tests.{ltb-true, lt-ltb, eqb-true, eq-eqb, ne_eqb, leb-true, leb-false, le-leb, lt-leb}
use Rattle.views.specs.View.{entry}
use Rattle.views.specs.Search.{count}
use Rattle.views.proofs.Searches.{count_cong}
use Rattle.views.proofs.Laws.{order, same}
use Rattle.views.proofs.Bools.{and_left, and_right}
use Rattle.refusal.specs.Order.{accepted}
use Rattle.refusal.proofs.Verdicts.{holds_says, accepted_says}
use Rattle.geom.specs.declared.point.P.{P}
use Rattle.path.specs.declared.anchor.Anchor.{Anchor}
use Rattle.path.specs.Shape.{count_of, closed_of, total, word_at, start, is_segment, next}
use Rattle.path.specs.Flat.{anchor_at}
use Rattle.cut.specs.View.{View}
use Rattle.cut.specs.Subpath.{view_of}
use Rattle.cut.specs.Near.{near, near_count, old, shifted}
use Rattle.path.proofs.Shapes.{total_in}
use Rattle.cut.proofs.Steps.{near_self}
use Rattle.cut.specs.Recut.{reached}
use Rattle.cut.proofs.Shifts.{shifted_low, shifted_high, old-shifted, shifted-old, shifted_once, shifted-new, shifted_self, count-shifted}
use Rattle.cut.proofs.Undo.{undo_reach}
use Rattle.cut_calls.specs.PlainCut.{sub_at}
use Rattle.cache.proofs.Reached.{reached-count, reached_here, reached_below, reached_past}
use Rattle.edit.specs.Split.{halves, split_anchors, split_shapes, has_segment}
use Rattle.edit.proofs.Segments.{segment_says, next_other}
use Rattle.session.specs.Drawing.{Drawing, Lent, drawn, view_in}
use Rattle.session.specs.Edits.{Call, move, set_radius, split, Edit, edit_of, moved, resized, segment_start, segment_end, split_radii, split_at, places_of}
use Rattle.session.specs.Undo.{Entry, stood_at, had_radius, was_whole, entry_of, merged_shapes, merged_anchors, merged_at, has_merge, reverse_of}
use Rattle.session.specs.Calls.{lists_fit, room_in, edited_lists, edit_verdict}
use Rattle.session.specs.Model.{lengths_of}
use Rattle.session.specs.Session.{Carried, returned}
use Rattle.session.specs.Demand.{Holds}
use Rattle.session.proofs.Lents.{long_says, fits_long, room-same}
use Rattle.session.proofs.Splits.{segment_in, PutIn, with_anchor, put_kept, split-count, split_closed, split-length, split-total}
use Rattle.session.proofs.Effects.{Faithful, faithful, segment-sub, segment_there, sub_small, draw, Alike, places-alike}
use Rattle.session.proofs.Twins.{Twin, call_twin, lent_alike, edited-held}

-- ---- which places a merge recuts: those that the split had, but for the anchor that goes
module _ (v w : View) (first a k : ℕ) (n : w.n ≡ v.n + 1) (closed : w.closed ≡ v.closed) (seg : is_segment v.n v.closed a ≡ true) where
  shifted_in : (j : ℕ) → shifted (first + a) (first + j) ≡ first + shifted a j
  shifted_in j =
      ⊎_elim
      (λ (l : j ≤ a). rw (shifted_low a j l) (shifted_low (first + a) (first + j) (omega arith)))
      (λ (l : a < j). rw (shifted_high a j l) (shifted_high (first + a) (first + j) (omega arith) ∙ omega arith))
      (order j a)

  shifted-lt : (j : ℕ) → j < v.n → shifted a j < w.n
  shifted-lt j h = ⊎_elim (λ (l : j ≤ a). rw (shifted_low a j l) (omega arith)) (λ (l : a < j). rw (shifted_high a j l) (omega arith)) (order j a)

  pub reached_undo : (reached v first 3 a k || reached v first 3 (next v.n a) k) ≡ reached w first 4 (a + 1) (shifted (first + a) k)
  reached_undo = ⊎_elim above below (order first k)
    where
      below : k < first → (reached v first 3 a k || reached v first 3 (next v.n a) k) ≡ reached w first 4 (a + 1) (shifted (first + a) k)
      below l =
          rw (reached_below v first 3 a k l, reached_below v first 3 (next v.n a) k l, shifted_low (first + a) k (omega arith)) (sym (reached_below w first 4 (a + 1) k l))

      above : first ≤ k → (reached v first 3 a k || reached v first 3 (next v.n a) k) ≡ reached w first 4 (a + 1) (shifted (first + a) k)
      above l = ⊎_elim past here (order (first + v.n) k)
        where
          past : first + v.n ≤ k → (reached v first 3 a k || reached v first 3 (next v.n a) k) ≡ reached w first 4 (a + 1) (shifted (first + a) k)
          past h =
              let s = segment_in v.n v.closed a seg in
              rw (reached_past v first 3 a k h, reached_past v first 3 (next v.n a) k h, shifted_high (first + a) k (omega arith)) (sym (reached_past w first 4 (a + 1) (k + 1) (omega arith)))

          here : k < first + v.n → (reached v first 3 a k || reached v first 3 (next v.n a) k) ≡ reached w first 4 (a + 1) (shifted (first + a) k)
          here h =
              let j = k - first in
              let z : shifted (first + a) k ≡ first + shifted a j = ap (shifted (first + a)) (omega arith) ∙ shifted_in j in
              let b = shifted-lt j (omega arith) in
              let y : shifted (first + a) k - first ≡ shifted a j = omega arith in
              rw (reached_here v first 3 a k l h, reached_here v first 3 (next v.n a) k l h, undo_reach v.n v.closed a j (omega arith) seg)
              (sym (reached_here w first 4 (a + 1) (shifted (first + a) k) (omega arith) (omega arith) ∙ rw (y, n, closed)))

-- ---- the merge of a segment that has an anchor put in, in any drawing
module _ (m : Drawing) (s a : ℕ) (o h : P) (few : total m.shapes ≤ 512) (known : has_merge m.shapes s a ≡ true) where
  abbrev sh : List ℕ
  sh = m.shapes

  abbrev w : ℕ
  w = word_at m.shapes s

  abbrev d : Drawing
  d = merged_at m s a o h

  abbrev sh1 : List ℕ
  sh1 = merged_shapes m.shapes s

  there : s < length sh
  unfolding has_merge
  there = ltb-true s (length sh) (and_left (ltb s (length sh)) (is_segment (count_of w - 1) (closed_of w) a) known)

  one : is_segment (count_of w - 1) (closed_of w) a ≡ true
  unfolding has_merge
  one = and_right (ltb s (length sh)) (is_segment (count_of w - 1) (closed_of w) a) known

  some : 1 < count_of w
  some = let l = segment_in (count_of w - 1) (closed_of w) a one in omega arith

  word : word_at sh1 s ≡ w - 1
  unfolding merged_shapes
  word = get_or-set_same sh s (w - 1) 0 there

  fewer : count_of (word_at sh1 s) ≡ count_of w - 1
  fewer = ap count_of word ∙ (let l = some in omega arith)

  closed : closed_of (word_at sh1 s) ≡ closed_of w
  closed = ap closed_of word ∙ (let l = some in same_top w (omega arith))
    where
      same_top : (x : ℕ) → 0 < count_of x → closed_of (x - 1) ≡ closed_of x
      same_top x l = go (leb 2147483648 x) refl
        where
          go : (b : Bool) → leb 2147483648 x ≡ b → leb 2147483648 (x - 1) ≡ b
          go true e = let g = leb-true 2147483648 x e in le-leb 2147483648 (x - 1) (omega arith)
          go false e = let g = leb-false 2147483648 x e in lt-leb 2147483648 (x - 1) (omega arith)

  seg : is_segment (count_of (word_at sh1 s)) (closed_of (word_at sh1 s)) a ≡ true
  seg = rw (fewer, closed) one

  small : count_of (word_at sh1 s) ≤ 512
  small = let c = fewer in let b = sub_small sh s there few in omega arith

  there_too : s < length sh1
  unfolding merged_shapes
  there_too = simp length-set there

  shapes_back : split_shapes sh1 s ≡ sh
  unfolding split_shapes merged_shapes
  shapes_back =
      let e : word_at (set sh s (w - 1)) s + 1 ≡ w = let l = some in let q = get_or-set_same sh s (w - 1) 0 there in omega arith in
      ap (set (set sh s (w - 1)) s) e ∙ set-set sh s (w - 1) w ∙ set-get_or sh s 0

  -- m is the merged drawing with an anchor put in
  again : with_anchor d s m.anchor m.radius ≡ m
  unfolding merged_at
  again = λ t. record { shapes = shapes_back t; kind = m.kind; anchor = m.anchor; radius = m.radius }

  put : PutIn d s a m.anchor m.radius
  unfolding merged_at merged_anchors
  put = record {
    there = there_too;
    seg = seg;
    small = small;
    anchors = λ k p q r.
        let x = segment_start sh1 s a in
        let y = segment_end sh1 s a in
        let e = shifted-old x k q in
        rw (ne_eqb (old x k) x (λ z. p (sym e ∙ ap (shifted x) z ∙ shifted_low x x (omega arith))), ne_eqb (old x k) y (λ z. r (sym e ∙ ap (shifted x) z)), e);
    radii = λ k q. ap m.radius (sym (shifted-old (segment_start sh1 s a) k q));
  }

  total_more : total sh ≡ total sh1 + 1
  total_more = ap total (sym shapes_back) ∙ split-total sh1 s a there_too seg small

  stood_in : (k : ℕ) → k < total sh1 → shifted (segment_start sh1 s a) k < total sh
  stood_in k l =
      let x = segment_start sh1 s a in
      let q = total_more in
      ⊎_elim (λ (g : k ≤ x). rw (shifted_low x k g) (omega arith)) (λ (g : x < k). rw (shifted_high x k g) (omega arith)) (order k x)

  -- a place that is not recut held its cut already
  merge_kept : (k : ℕ) → k < total sh1 → (reached (view_in d s) (start sh1 s) 3 a k || reached (view_in d s) (start sh1 s) 3 (next (count_of (word_at sh1 s)) a) k) ≡ false
      → places_of d k ≡ places_of m (shifted (segment_start sh1 s a) k)
  unfolding segment_start view_in view_of sub_at merged_at
  merge_kept k l far =
      let x = start sh1 s + a in
      let g = with_anchor d s m.anchor m.radius in
      let e : reached (view_in g s) (start sh1 s) 4 (a + 1) (shifted x k) ≡ false =
      sym (reached_undo (view_in d s) (view_in g s) (start sh1 s) a k (split-count sh1 s a there_too seg small) (split_closed sh1 s a there_too seg small) seg) ∙ far in
      ap (places_of d) (sym (old-shifted x k))
      ∙ sym (put_kept d s a m.anchor m.radius put (shifted x k) (rw shapes_back (stood_in k l)) e)
      ∙ ap (λ z. places_of z (shifted x k)) again

  merge_anchor : (k : ℕ) → (eqb k (segment_start sh1 s a) || eqb k (segment_end sh1 s a)) ≡ false → d.anchor k ≡ m.anchor (shifted (segment_start sh1 s a) k)
  unfolding merged_at merged_anchors
  merge_anchor k e = go (eqb k (segment_start sh1 s a)) (eqb k (segment_end sh1 s a)) e
    where
      x : Anchor
      x = m.anchor (shifted (segment_start sh1 s a) k)

      go : (p q : Bool) → (p || q) ≡ false → record { p = x.p; h_in = cond q h x.h_in; h_out = cond p o x.h_out } ≡ x
      go false false e = refl
      go true q e = absurd (true≢false e)
      go false true e = absurd (true≢false e)

  -- how many: one fewer than the split had recut, for the anchor that goes
  merge_count : count (λ k. reached (view_in d s) (start sh1 s) 3 a k || reached (view_in d s) (start sh1 s) 3 (next (count_of (word_at sh1 s)) a) k) (total sh1) + 1 ≡ near_count 4 (count_of w) (closed_of w) (a + 1)
  unfolding view_in view_of sub_at merged_at
  merge_count =
      let x = start sh1 s + a in
      let g = view_in (with_anchor d s m.anchor m.radius) s in
      let r = reached g (start sh1 s) 4 (a + 1) in
      let n : g.n ≡ count_of (word_at sh1 s) + 1 = split-count sh1 s a there_too seg small in
      let c : g.closed ≡ closed_of (word_at sh1 s) = split_closed sh1 s a there_too seg small in
      let z : g.n ≡ count_of w = n ∙ (let e = fewer in let l = some in omega arith) in
      let l = segment_in (count_of (word_at sh1 s)) (closed_of (word_at sh1 s)) a seg in
      let t = total_in sh1 s there_too in
      let new : r (x + 1) ≡ true = reached_here g (start sh1 s) 4 (a + 1) (x + 1) (omega arith) (omega arith) ∙ ap (near 4 g.n g.closed (a + 1)) (omega arith) ∙ near_self 4 g.n g.closed (a + 1) in
      ap (λ q. q + 1) (count_cong _ _ (total sh1) (λ k kl. reached_undo (view_in d s) g (start sh1 s) a k n c seg))
      ∙ count-shifted r x (total sh1) (omega arith) new
      ∙ reached-count g (start sh1 s) 4 (a + 1) (total sh1 + 1) (omega arith)
      ∙ rw (z, c, closed)

-- ---- the reverse of an edit writes and recuts enough
pub undo_faithful : (d : Drawing) (e : Entry) → total d.shapes ≤ 512 → (reverse_of d e).known ≡ true → Faithful d (reverse_of d e)
unfolding reverse_of merged_at
undo_faithful d (stood_at s i x) few h = faithful d (move s i x) few h
undo_faithful d (had_radius s i r) few h = faithful d (set_radius s i r) few h
undo_faithful d (was_whole s a o x) few h = record {
  stood_in = λ k l. stood_in d s a o x few h k l;
  anchor_kept = λ k l e. merge_anchor d s a o x few h k e;
  cut_kept = λ k l far. merge_kept d s a o x few h k l far;
}

pub undo_count : (d : Drawing) (s a : ℕ) (o h : P) → total d.shapes ≤ 512 → has_merge d.shapes s a ≡ true
    → let e = reverse_of d (was_whole s a o h) in let w = word_at d.shapes s in count e.recuts (total e.made.shapes) + 1 ≡ near_count 4 (count_of w) (closed_of w) (a + 1)
unfolding reverse_of merged_at
undo_count d s a o h few known = merge_count d s a o h few known

-- ---- taken back, an edit leaves the drawing that it found
module _ (f : ℕ → Anchor) (a b : ℕ) (t : Float) (apart : a ≡ b → ⊥) (k : ℕ) where
  anchor-back : merged_anchors (split_anchors f a b t) a b (f a).h_out (f b).h_in k ≡ f k
  unfolding merged_anchors split_anchors halves
  anchor-back = ⊎_elim at_start (λ ne. ⊎_elim at_end_lem (elsewhere ne) (same k b)) (same k a)
    where
      at_start : k ≡ a → merged_anchors (split_anchors f a b t) a b (f a).h_out (f b).h_in k ≡ f k
      at_start e =
          let z : shifted a a ≡ a = shifted_low a a (omega arith) in
          rw (e, z, eq-eqb a a refl, ne_eqb a b apart)

      at_end_lem : k ≡ b → merged_anchors (split_anchors f a b t) a b (f a).h_out (f b).h_in k ≡ f k
      at_end_lem e =
          rw (e, ne_eqb (shifted a b) a (λ z. apart (sym (shifted_self a b z))), ne_eqb (shifted a b) (a + 1) (shifted-new a b), eq-eqb (shifted a b) (shifted a b) refl, eq-eqb b b refl, ne_eqb b a (λ z. apart (sym z)))

      elsewhere : (k ≡ a → ⊥) → (k ≡ b → ⊥) → merged_anchors (split_anchors f a b t) a b (f a).h_out (f b).h_in k ≡ f k
      elsewhere p q =
          rw (ne_eqb (shifted a k) a (λ z. p (shifted_self a k z)), ne_eqb (shifted a k) (a + 1) (shifted-new a k), ne_eqb (shifted a k) (shifted a b) (λ z. q (shifted_once a k b z)), ne_eqb k a p, ne_eqb k b q, old-shifted a k)

radius-back : (r : ℕ → Float) (a k : ℕ) → split_radii r a (shifted a k) ≡ r k
unfolding split_radii
radius-back r a k = rw (ne_eqb (shifted a k) (a + 1) (shifted-new a k), old-shifted a k)

module _ (d : Drawing) (s a : ℕ) (t : Float) (known : has_segment d.shapes s a ≡ true) (few : total d.shapes ≤ 512) where
  abbrev sh0 : List ℕ
  sh0 = d.shapes

  abbrev w0 : ℕ
  w0 = word_at d.shapes s

  there0 : s < length sh0
  there0 = segment-sub sh0 s a known

  seg0 : is_segment (count_of w0) (closed_of w0) a ≡ true
  seg0 = segment_there sh0 s a known

  small0 : count_of w0 ≤ 512
  small0 = sub_small sh0 s there0 few

  merge_back : merged_shapes (split_shapes sh0 s) s ≡ sh0
  unfolding split_shapes merged_shapes
  merge_back =
      let e : word_at (set sh0 s (w0 + 1)) s - 1 ≡ w0 = let q = get_or-set_same sh0 s (w0 + 1) 0 there0 in omega arith in
      ap (set (set sh0 s (w0 + 1)) s) e ∙ set-set sh0 s (w0 + 1) w0 ∙ set-get_or sh0 s 0

  ends_apart : segment_start sh0 s a ≡ segment_end sh0 s a → ⊥
  unfolding segment_start segment_end
  ends_apart e = let q = segment_says (count_of w0) (closed_of w0) a seg0 in (next_other (count_of w0) a q.0 q.1).1 (omega arith)

  pub merged_split : merged_at (split_at d s a t) s a (d.anchor (segment_start sh0 s a)).h_out (d.anchor (segment_end sh0 s a)).h_in ≡ d
  unfolding merged_at split_at
  merged_split =
      let x = segment_start sh0 s a in
      let y = segment_end sh0 s a in
      let g = split_anchors d.anchor x y t in
      let o = (d.anchor x).h_out in
      let h = (d.anchor y).h_in in
      ap (λ (z : List ℕ). the_drawing z (merged_anchors g (segment_start z s a) (segment_end z s a) o h) (λ k. split_radii d.radius x (shifted (segment_start z s a) k))) merge_back
      ∙ (λ i. record { shapes = sh0; kind = d.kind; anchor = λ k. anchor-back d.anchor x y t ends_apart k i; radius = λ k. radius-back d.radius x k i })
    where
      the_drawing : List ℕ → (ℕ → Anchor) → (ℕ → Float) → Drawing
      the_drawing z f r = record { shapes = z; kind = d.kind; anchor = f; radius = r }

  split_known : has_merge (split_at d s a t).shapes s a ≡ true
  unfolding has_merge split_at
  split_known =
      let n : count_of (word_at (split_shapes sh0 s) s) - 1 ≡ count_of w0 = let q = split-count sh0 s a there0 seg0 small0 in omega arith in
      rw (lt-ltb s (length (split_shapes sh0 s)) (let q = split-length sh0 s a there0 seg0 small0 in omega (arith, there0)), n, split_closed sh0 s a there0 seg0 small0) seg0

put_back : {A : Type 0} (f : ℕ → A) (p : ℕ) (x : A) (k : ℕ) → cond (eqb k p) (f p) (cond (eqb k p) x (f k)) ≡ f k
put_back f p x k = go (eqb k p) refl
  where
    go : (b : Bool) → eqb k p ≡ b → cond b (f p) (cond b x (f k)) ≡ f k
    go true e = ap f (sym (eqb-true k p e))
    go false e = refl

-- the drawing is the one before, and what is pointed to is there
pub undone : (d : Drawing) (c : Call) → total d.shapes ≤ 512 → (edit_of d c).known ≡ true
    → ((reverse_of (edit_of d c).made (entry_of d c)).made ≡ d) × ((reverse_of (edit_of d c).made (entry_of d c)).known ≡ true)
unfolding reverse_of entry_of edit_of moved resized
undone d (move s i new) few h =
    (λ t. record { shapes = d.shapes; kind = d.kind; anchor = λ k. put_back d.anchor (start d.shapes s + i) new k t; radius = d.radius }, h)
undone d (set_radius s i r) few h =
    (λ t. record { shapes = d.shapes; kind = d.kind; anchor = d.anchor; radius = λ k. put_back d.radius (start d.shapes s + i) r k t }, h)
undone d (split s a t) few h = (merged_split d s a t h few, split_known d s a t h few)

-- ---- the lists: of like drawings the reverse makes like ones
merged_same : (f g : ℕ → Anchor) (a b : ℕ) (o h : P) (k : ℕ) → f (shifted a k) ≡ g (shifted a k) → merged_anchors f a b o h k ≡ merged_anchors g a b o h k
unfolding merged_anchors
merged_same f g a b o h k e = rw e

pub undo_twin : (shapes : List ℕ) (kind : ℕ) (f g : ℕ → Anchor) (r q : ℕ → Float) → Alike shapes f g r q → (x : Entry) → total shapes ≤ 512 → (reverse_of (draw shapes kind f r) x).known ≡ true
    → Twin (draw shapes kind f r) (reverse_of (draw shapes kind f r) x) (reverse_of (draw shapes kind g q) x)
unfolding reverse_of merged_at
undo_twin shapes kind f g r q like (stood_at s i a) few known = call_twin shapes kind f g r q like (move s i a) few known
undo_twin shapes kind f g r q like (had_radius s i y) few known = call_twin shapes kind f g r q like (set_radius s i y) few known
undo_twin shapes kind f g r q like (was_whole s a o h) few known =
    let sh1 = merged_shapes shapes s in
    let x = segment_start sh1 s a in
    let in_path = stood_in (draw shapes kind f r) s a o h few known in
    let alike : Alike sh1 (merged_anchors f x (segment_end sh1 s a) o h) (merged_anchors g x (segment_end sh1 s a) o h) (λ k. r (shifted x k)) (λ k. q (shifted x k)) =
    record { anchors = λ k l. merged_same f g x (segment_end sh1 s a) o h k (like.anchors (shifted x k) (in_path k l)); radii = λ k l. like.radii (shifted x k) (in_path k l) } in
    record {
      faith = undo_faithful (draw shapes kind f r) (was_whole s a o h) few known;
      shapes = refl;
      anchors = alike.anchors;
      radii = alike.radii;
      places = places-alike sh1 kind _ _ _ _ alike;
    }

-- ---- AN ACCEPTED UNDO: buffers that held a drawing and its cut hold what the entry makes of the drawing, and the cut of that
module _ (b : Lent) (m : Drawing) (an ra nu : List Float) (fl : List ℕ) (x : Entry) where
  abbrev lent : Lent
  lent = record { shapes = m.shapes; anchors = an; radii = ra; numbers = nu; flags = fl }

  abbrev back : Edit
  back = reverse_of (draw m.shapes m.kind (anchor_at an) (entry ra)) x

  undo_here : Holds b m → Carried b lent → edit_verdict lent m.kind back ≡ accepted → Holds (returned (edited_lists lent back) b) (reverse_of m x).made
  unfolding edit_verdict
  undo_here held carried ok =
      let p = accepted_says _ _ _ _ _ _ ok in
      let fits = holds_says (lists_fit lent) 0 p.lists in
      let long = fits_long lent fits in
      let y = total back.made.shapes in
      let room = long_says (lengths_of lent) y (sym (room-same lent y) ∙ holds_says (room_in lent y) 0 p.output) in
      edited-held b m an ra nu fl held carried long.1 back (reverse_of m x)
      (undo_twin m.shapes m.kind (anchor_at an) m.anchor (entry ra) m.radius (lent_alike b m an ra nu fl held carried long.1) x long.0 (holds_says back.known 0 p.reference)) room

pub undo_held : (kind : ℕ) (b l : Lent) (m : Drawing) (x : Entry) → m.kind ≡ kind → Holds b m → Carried b l → edit_verdict l kind (reverse_of (drawn l kind) x) ≡ accepted
    → Holds (returned (edited_lists l (reverse_of (drawn l kind) x)) b) (reverse_of m x).made
unfolding drawn
undo_held kind b l m x k held carried =
    subst (λ z. edit_verdict l z (reverse_of (drawn l z) x) ≡ accepted → Holds (returned (edited_lists l (reverse_of (drawn l z) x)) b) (reverse_of m x).made) k
    (subst (λ shapes. Carried b (with_shapes shapes) → edit_verdict (with_shapes shapes) m.kind (reverse_of (drawn (with_shapes shapes) m.kind) x) ≡ accepted
    → Holds (returned (edited_lists (with_shapes shapes) (reverse_of (drawn (with_shapes shapes) m.kind) x)) b) (reverse_of m x).made)
    (sym (carried.shapes ∙ held.shapes)) (λ r. undo_here b m l.anchors l.radii l.numbers l.flags x held r) carried)
  where
    with_shapes : List ℕ → Lent
    with_shapes shapes = record { shapes = shapes; anchors = l.anchors; radii = l.radii; numbers = l.numbers; flags = l.flags }
