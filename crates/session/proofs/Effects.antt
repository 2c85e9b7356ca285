-- What is asked of an edit, for each of the three: what it does not write or recut is as it was, and of like drawings it makes like ones. Assumes nothing.
use mathlib.Core.Path.{◌≡◌, refl, sym, ap, ◌∙◌}
use mathlib.Core.Logic.{⊎_elim}
use mathlib.Core.Bool.{Bool, true, false, ◌||◌, cond}
use mathlib.Core.List.{List}
use Prim.Native.Nat.{ℕ, ◌+◌, ◌-◌, ◌≤◌, ◌<◌}
use native.Mathlib.Omega.{arith}
use lib.Dec.{ltb, eqb}
use lib.ListN.{length}
use lib.Ieee.{Float}
use borrow.Author.Tests.{ltb-true, eqb-false, ne_eqb}
use Rattle.views.proofs.Laws.{same}
use Rattle.views.proofs.Bools.{and_left, and_right}
use Rattle.path.specs.declared.anchor.Anchor.{Anchor}
use Rattle.path.specs.Shape.{count_of, closed_of, total, word_at, start, sub_of, is_segment, next}
use Rattle.path.proofs.Shapes.{total_in, has_says}
use Rattle.cut.specs.Subpath.{view_of}
use Rattle.cut.specs.Near.{old}
use Rattle.cut.specs.Recut.{reached}
use Rattle.cut.proofs.Steps.{next-lt}
use Rattle.cut.proofs.Edits.{move_locality, radius_locality}
use Rattle.cut_calls.specs.PlainCut.{sub_at}
use Rattle.cache.proofs.Reached.{reached_here}
use Rattle.session.specs.Drawing.{Drawing, view_in}
use Rattle.cache.specs.Cache.{place_of_path}
use Rattle.edit.specs.Split.{shifted, split_anchors, has_segment}
use Rattle.session.specs.Edits.{Call, move, set_radius, split, Edit, moved, resized, segment_start, segment_end, split_radii, split_at, edit_of, places_of}
use Rattle.session.specs.Model.{recut_count}
use Rattle.session.proofs.Shapes.{In, sub_in, sub_is}
use Rattle.session.proofs.Splits.{like_places, segment_in, anchor-stood, split-stood, split_kept}

-- ---- references that are there
pub segment-sub : (shapes : List ℕ) (s a : ℕ) → has_segment shapes s a ≡ true → s < length shapes
unfolding has_segment
segment-sub shapes s a h = ltb-true s (length shapes) (and_left (ltb s (length shapes)) (is_segment (count_of (word_at shapes s)) (closed_of (word_at shapes s)) a) h)

pub segment_there : (shapes : List ℕ) (s a : ℕ) → has_segment shapes s a ≡ true → is_segment (count_of (word_at shapes s)) (closed_of (word_at shapes s)) a ≡ true
unfolding has_segment
segment_there shapes s a h = and_right (ltb s (length shapes)) (is_segment (count_of (word_at shapes s)) (closed_of (word_at shapes s)) a) h

pub sub_small : (shapes : List ℕ) (s : ℕ) → s < length shapes → total shapes ≤ 512 → count_of (word_at shapes s) ≤ 512
sub_small shapes s h l = omega (arith, total_in shapes s h)

-- two places of different subpaths differ
pub other_place : (shapes : List ℕ) (r s i j : ℕ) → r < length shapes → s < length shapes → j < count_of (word_at shapes r) → i < count_of (word_at shapes s) → (r ≡ s → ⊥)
    → start shapes r + j ≡ start shapes s + i → ⊥
other_place shapes r s i j rl sl jl il ne e =
    ne (sym (sub_is shapes (start shapes r + j) r (record { there = rl; low = omega arith; high = omega arith }))
    ∙ ap (sub_of shapes) e
    ∙ sub_is shapes (start shapes s + i) s (record { there = sl; low = omega arith; high = omega arith }))

-- ---- a moved anchor, a set radius
module _ (d : Drawing) (s i : ℕ) (there : s < length d.shapes) (inside : i < count_of (word_at d.shapes s)) where
  abbrev sh : List ℕ
  sh = d.shapes

  abbrev first : ℕ
  first = start d.shapes s

  move_kept : (new : Anchor) (k : ℕ) → k < total sh → reached (view_in (moved d (first + i) new) s) first 3 i k ≡ false → places_of (moved d (first + i) new) k ≡ places_of d k
  unfolding places_of place_of_path moved view_in view_of sub_at
  move_kept new k l far =
      let I = sub_in sh k l in
      ⊎_elim
      (λ e. let J : In sh k s = rw e at I in
      rw e
      (move_locality (view_in d s) (view_in (moved d (first + i) new) s) i (record {
        n = refl;
        closed = refl;
        chords = refl;
        anchors = λ j h ne. rw (ne_eqb (first + j) (first + i) (λ q. ne (omega arith)));
        radii = λ j h. refl;
        kinds = λ j h. refl;
      }) (k - first) (omega (arith, J.low, J.high)) (sym (reached_here (view_in (moved d (first + i) new) s) first 3 i k J.low J.high) ∙ far)))
      (λ ne. like_places (view_in d (sub_of sh k)) (view_in (moved d (first + i) new) (sub_of sh k)) (record {
        n = refl;
        closed = refl;
        chords = refl;
        anchors = λ j h. rw (ne_eqb (start sh (sub_of sh k) + j) (first + i) (other_place sh (sub_of sh k) s i j I.there there h inside ne));
        radii = λ j h. refl;
        kinds = λ j h. refl;
      }) (k - start sh (sub_of sh k)) (omega (arith, I.low, I.high)))
      (same (sub_of sh k) s)

  radius_kept : (new : Float) (k : ℕ) → k < total sh → reached (view_in (resized d (first + i) new) s) first 2 i k ≡ false → places_of (resized d (first + i) new) k ≡ places_of d k
  unfolding places_of place_of_path resized view_in view_of sub_at
  radius_kept new k l far =
      let I = sub_in sh k l in
      ⊎_elim
      (λ e. let J : In sh k s = rw e at I in
      rw e
      (radius_locality (view_in d s) (view_in (resized d (first + i) new) s) i (record {
        n = refl;
        closed = refl;
        chords = refl;
        anchors = λ j h. refl;
        radii = λ j h ne. rw (ne_eqb (first + j) (first + i) (λ q. ne (omega arith)));
        kinds = λ j h. refl;
      }) (k - first) (omega (arith, J.low, J.high)) (sym (reached_here (view_in (resized d (first + i) new) s) first 2 i k J.low J.high) ∙ far)))
      (λ ne. like_places (view_in d (sub_of sh k)) (view_in (resized d (first + i) new) (sub_of sh k)) (record {
        n = refl;
        closed = refl;
        chords = refl;
        anchors = λ j h. refl;
        radii = λ j h. rw (ne_eqb (start sh (sub_of sh k) + j) (first + i) (other_place sh (sub_of sh k) s i j I.there there h inside ne));
        kinds = λ j h. refl;
      }) (k - start sh (sub_of sh k)) (omega (arith, I.low, I.high)))
      (same (sub_of sh k) s)

-- ---- what an edit does not write or recut is as it was
pub record Faithful (d : Drawing) (e : Edit) : Type 0 where
  pub stood_in : (k : ℕ) → k < total e.made.shapes → e.stood k < total d.shapes
  pub anchor_kept : (k : ℕ) → k < total e.made.shapes → e.writes k ≡ false → e.made.anchor k ≡ d.anchor (e.stood k)
  pub cut_kept : (k : ℕ) → k < total e.made.shapes → e.recuts k ≡ false → places_of e.made k ≡ places_of d (e.stood k)

or_left : (p q : Bool) → (p || q) ≡ false → p ≡ false
or_left true q e = e
or_left false q e = refl

or_right : (p q : Bool) → (p || q) ≡ false → q ≡ false
or_right true q e = absurd (let z : ◌≡◌ {A = ℕ} 0 1 = cc in omega arith)
or_right false q e = e

moved_kept : (d : Drawing) (place : ℕ) (new : Anchor) (k : ℕ) → eqb k place ≡ false → (moved d place new).anchor k ≡ d.anchor k
unfolding moved
moved_kept d place new k e = rw e

split-anchor : (d : Drawing) (s a : ℕ) (t : Float) (k : ℕ)
    → (eqb k (segment_start d.shapes s a) || (eqb k (segment_start d.shapes s a + 1) || eqb k (shifted (segment_start d.shapes s a) (segment_end d.shapes s a)))) ≡ false
    → (split_at d s a t).anchor k ≡ d.anchor (old (segment_start d.shapes s a) k)
unfolding split_at
split-anchor d s a t k e =
    let x = segment_start d.shapes s a in
    let y = segment_end d.shapes s a in
    let q = or_right (eqb k x) (eqb k (x + 1) || eqb k (shifted x y)) e in
    anchor-stood d.anchor x y t k
    (eqb-false k x (or_left (eqb k x) (eqb k (x + 1) || eqb k (shifted x y)) e))
    (eqb-false k (x + 1) (or_left (eqb k (x + 1)) (eqb k (shifted x y)) q))
    (eqb-false k (shifted x y) (or_right (eqb k (x + 1)) (eqb k (shifted x y)) q))

pub faithful : (d : Drawing) (c : Call) → total d.shapes ≤ 512 → (edit_of d c).known ≡ true → Faithful d (edit_of d c)
unfolding edit_of moved resized split_at segment_start
faithful d (move s i new) few h = record {
  stood_in = λ k l. l;
  anchor_kept = λ k l e. moved_kept d (start d.shapes s + i) new k e;
  cut_kept = λ k l far. move_kept d s i (has_says d.shapes s i h).0 (has_says d.shapes s i h).1 new k l far;
}
faithful d (set_radius s i r) few h = record {
  stood_in = λ k l. l;
  anchor_kept = λ k l e. refl;
  cut_kept = λ k l far. radius_kept d s i (has_says d.shapes s i h).0 (has_says d.shapes s i h).1 r k l far;
}
faithful d (split s a t) few h =
    let there = segment-sub d.shapes s a h in
    let seg = segment_there d.shapes s a h in
    let small = sub_small d.shapes s there few in
    record {
      stood_in = λ k l. split-stood d.shapes s a there seg small k l;
      anchor_kept = λ k l e. split-anchor d s a t k e;
      cut_kept = λ k l far. split_kept d s a t there seg small k l far;
    }

-- ---- two drawings of one shape list and kind, alike at its places
abbrev pub draw : List ℕ → ℕ → (ℕ → Anchor) → (ℕ → Float) → Drawing
draw shapes kind f r = record { shapes = shapes; kind = kind; anchor = f; radius = r }

pub record Alike (shapes : List ℕ) (f g : ℕ → Anchor) (r q : ℕ → Float) : Type 0 where
  pub anchors : (k : ℕ) → k < total shapes → f k ≡ g k
  pub radii : (k : ℕ) → k < total shapes → r k ≡ q k

pub places-alike : (shapes : List ℕ) (kind : ℕ) (f g : ℕ → Anchor) (r q : ℕ → Float) → Alike shapes f g r q → (k : ℕ) → k < total shapes
    → places_of (draw shapes kind f r) k ≡ places_of (draw shapes kind g q) k
unfolding places_of place_of_path view_in view_of sub_at
places-alike shapes kind f g r q a k l =
    let s = sub_of shapes k in
    let I = sub_in shapes k l in
    let e = total_in shapes s I.there in
    like_places (view_in (draw shapes kind g q) s) (view_in (draw shapes kind f r) s) (record {
      n = refl;
      closed = refl;
      chords = refl;
      anchors = λ j h. a.anchors (start shapes s + j) (omega arith);
      radii = λ j h. a.radii (start shapes s + j) (omega arith);
      kinds = λ j h. refl;
    }) (k - start shapes s) (omega (arith, I.low, I.high))

module _ (shapes : List ℕ) (kind : ℕ) (f g : ℕ → Anchor) (r q : ℕ → Float) (alike : Alike shapes f g r q) where
  split-alike : (s a : ℕ) (t : Float) → has_segment shapes s a ≡ true → total shapes ≤ 512
      → Alike (split_at (draw shapes kind f r) s a t).shapes (split_at (draw shapes kind f r) s a t).anchor (split_at (draw shapes kind g q) s a t).anchor
      (split_at (draw shapes kind f r) s a t).radius (split_at (draw shapes kind g q) s a t).radius
  unfolding split_at segment_start segment_end split_anchors split_radii
  split-alike s a t h few =
      let there = segment-sub shapes s a h in
      let seg = segment_there shapes s a h in
      let n = count_of (word_at shapes s) in
      let first = start shapes s in
      let from = segment_in n (closed_of (word_at shapes s)) a seg in
      let small = sub_small shapes s there few in
      let e = total_in shapes s there in
      let x = alike.anchors (first + a) (omega arith) in
      let y = alike.anchors (first + next n a) (omega (arith, next-lt n a from)) in
      record {
        anchors = λ k l. let z = alike.anchors (old (first + a) k) (split-stood shapes s a there seg small k l) in rw (x, y, z);
        radii = λ k l. let z = alike.radii (old (first + a) k) (split-stood shapes s a there seg small k l) in rw z;
      }

  pub made_alike : (c : Call) → total shapes ≤ 512 → (edit_of (draw shapes kind f r) c).known ≡ true
      → Alike (edit_of (draw shapes kind f r) c).made.shapes (edit_of (draw shapes kind f r) c).made.anchor (edit_of (draw shapes kind g q) c).made.anchor
      (edit_of (draw shapes kind f r) c).made.radius (edit_of (draw shapes kind g q) c).made.radius
  unfolding edit_of moved resized
  made_alike (move s i new) few h = record { anchors = λ k l. ap (λ z. cond (eqb k (start shapes s + i)) new z) (alike.anchors k l); radii = alike.radii }
  made_alike (set_radius s i x) few h = record { anchors = alike.anchors; radii = λ k l. ap (λ z. cond (eqb k (start shapes s + i)) x z) (alike.radii k l) }
  made_alike (split s a t) few h = split-alike s a t h few

  pub made-places : (c : Call) → total shapes ≤ 512 → (edit_of (draw shapes kind f r) c).known ≡ true → (k : ℕ) → k < total (edit_of (draw shapes kind f r) c).made.shapes
      → places_of (edit_of (draw shapes kind f r) c).made k ≡ places_of (edit_of (draw shapes kind g q) c).made k
  unfolding edit_of moved resized split_at
  made-places (move s i new) few h = places-alike _ kind _ _ _ _ (made_alike (move s i new) few h)
  made-places (set_radius s i x) few h = places-alike _ kind _ _ _ _ (made_alike (set_radius s i x) few h)
  made-places (split s a t) few h = places-alike _ kind _ _ _ _ (made_alike (split s a t) few h)

-- ---- what turns on the shapes alone
module _ (shapes : List ℕ) (kind : ℕ) (f g : ℕ → Anchor) (r q : ℕ → Float) where
  pub loose_same : (c : Call) → (edit_of (draw shapes kind f r) c).loose ≡ (edit_of (draw shapes kind g q) c).loose
  unfolding edit_of
  loose_same (move s i x) = refl
  loose_same (set_radius s i x) = refl
  loose_same (split s i x) = refl

  pub known_same : (c : Call) → (edit_of (draw shapes kind f r) c).known ≡ (edit_of (draw shapes kind g q) c).known
  unfolding edit_of
  known_same (move s i x) = refl
  known_same (set_radius s i x) = refl
  known_same (split s i x) = refl

  pub shapes_same : (c : Call) → (edit_of (draw shapes kind f r) c).made.shapes ≡ (edit_of (draw shapes kind g q) c).made.shapes
  unfolding edit_of moved resized split_at
  shapes_same (move s i x) = refl
  shapes_same (set_radius s i x) = refl
  shapes_same (split s i x) = refl

  pub count_same : (c : Call) → recut_count (draw shapes kind f r) c ≡ recut_count (draw shapes kind g q) c
  unfolding recut_count
  count_same (move s i x) = refl
  count_same (set_radius s i x) = refl
  count_same (split s i x) = refl
