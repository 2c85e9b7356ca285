-- A split, place by place: what it writes, what it shifts, and that the cut is as it was more than four steps from the new anchor. Assumes nothing.
use mathlib.Core.Path.{◌≡◌, refl, sym, ap, ◌∙◌}
use mathlib.Core.Logic.{⊎_elim}
use mathlib.Core.Bool.{Bool, true, false}
use mathlib.Core.List.{List}
use Prim.Native.Nat.{ℕ, ◌+◌, ◌-◌, ◌≤◌, ◌<◌}
use native.Mathlib.Omega.{arith}
use lib.ListN.{length, length-set}
use lib.Seq.{get_or-set_same, get_or-set_other}
use lib.Ieee.{Float}
use borrow.Author.Tests.{ne_eqb}
use Rattle.views.proofs.Laws.{order, same}
use Rattle.path.specs.declared.anchor.Anchor.{Anchor}
use Rattle.path.specs.Shape.{count_of, closed_of, total, word_at, start, sub_of, is_segment, next}
use Rattle.path.proofs.Shapes.{total_in}
use Rattle.cut.specs.View.{View}
use Rattle.cut.specs.Subpath.{view_of}
use Rattle.cut.specs.Near.{gap, near, old}
use Rattle.cut.specs.Places.{place_at}
use Rattle.cut.specs.Recut.{reached}
use Rattle.cut.proofs.Steps.{next_in, next-round, next-lt, segment_cases}
use Rattle.cut.proofs.Locality.{locality, Inserted, Far, far_of, split_locality}
use Rattle.cut.proofs.Shifts.{old_low, old_high, shifted_low, shifted_high}
use Rattle.cut_calls.specs.PlainCut.{sub_at}
use Rattle.session.specs.Drawing.{Drawing, view_in}
use Rattle.cache.specs.Cache.{place_of_path}
use Rattle.cache.proofs.Reached.{reached_here}
use Rattle.edit.specs.Split.{shifted, split_anchors, split_shapes}
use Rattle.session.specs.Edits.{segment_start, segment_end, split_radii, split_at, places_of}
use Rattle.session.proofs.Shapes.{In, sub_in, sub_is, sub-before, start-le, start_gt, total_more, count_next, closed_next}

-- ---- the cut at a place of subpath s, and by views that are alike
pub place_in_lem : (d : Drawing) (k s : ℕ) → In d.shapes k s → places_of d k ≡ place_at (view_in d s) (k - start d.shapes s)
unfolding places_of place_of_path
place_in_lem d k s i = ap (λ r. place_at (view_in d r) (k - start d.shapes r)) (sub_is d.shapes k s i)

pub record Like (v w : View) : Type 0 where
  pub n : w.n ≡ v.n
  pub closed : w.closed ≡ v.closed
  pub chords : w.chords ≡ v.chords
  pub anchors : (j : ℕ) → j < w.n → w.anchor j ≡ v.anchor j
  pub radii : (j : ℕ) → j < w.n → w.radius j ≡ v.radius j
  pub kinds : (j : ℕ) → j < w.n → w.kind j ≡ v.kind j

pub like_places : (v w : View) → Like v w → (i : ℕ) → i < w.n → place_at w i ≡ place_at v i
like_places v w a i l = locality v w i l (record {
  n = a.n;
  closed = a.closed;
  chords = a.chords;
  anchors = λ j h g. a.anchors j h;
  radii = λ j h g. a.radii j h;
  kind = a.kinds i l;
})

-- ---- the segments of a subpath
pub segment_in : (n : ℕ) (c : Bool) (a : ℕ) → is_segment n c a ≡ true → a < n
segment_in n c a h = ⊎_elim (λ (l : a + 1 < n). omega arith) (λ (l : (c ≡ true) × (a + 1 ≡ n)). let e = l.1 in omega arith) (segment_cases n c a h)

-- where the end of the segment from a stands afterwards: in the subpath, of one anchor more
end_in : (first n a : ℕ) → a < n → (first ≤ shifted (first + a) (first + next n a)) × (shifted (first + a) (first + next n a) < first + (n + 1))
end_in first n a l =
    let h = next-lt n a l in
    ⊎_elim
    (λ (m : first + next n a ≤ first + a). rw (shifted_low (first + a) (first + next n a) m) (omega arith))
    (λ (m : first + a < first + next n a). rw (shifted_high (first + a) (first + next n a) m) (omega arith))
    (order (first + next n a) (first + a))

-- ---- where a place stood, in the path and in its subpath
pub old_in : (first a j : ℕ) → old (first + a) (first + j) ≡ first + old a j
old_in first a j =
    ⊎_elim
    (λ (l : j ≤ a). rw (old_low a j l) (old_low (first + a) (first + j) (omega arith)))
    (λ (l : a < j). rw (old_high a j l) (old_high (first + a) (first + j) (omega arith) ∙ omega arith))
    (order j a)

pub old_below : (n a j : ℕ) → a < n → j < n + 1 → old a j < n
old_below n a j h l = ⊎_elim (λ (m : j ≤ a). rw (old_low a j m) (omega arith)) (λ (m : a < j). rw (old_high a j m) (omega arith)) (order j a)

-- ---- what is not written
pub anchor-stood : (f : ℕ → Anchor) (a b : ℕ) (t : Float) (k : ℕ) → (k ≡ a → ⊥) → (k ≡ a + 1 → ⊥) → (k ≡ shifted a b → ⊥) → split_anchors f a b t k ≡ f (old a k)
unfolding split_anchors
anchor-stood f a b t k p q r = rw (ne_eqb k a p, ne_eqb k (a + 1) q, ne_eqb k (shifted a b) r)

pub radius-stood : (f : ℕ → Float) (a k : ℕ) → (k ≡ a + 1 → ⊥) → split_radii f a k ≡ f (old a k)
unfolding split_radii
radius-stood f a k q = rw (ne_eqb k (a + 1) q)

-- ---- the shapes, once subpath s has an anchor more
module _ (sh : List ℕ) (s a : ℕ) (there : s < length sh) (seg : is_segment (count_of (word_at sh s)) (closed_of (word_at sh s)) a ≡ true) (small : count_of (word_at sh s) ≤ 512) where
  abbrev sh2 : List ℕ
  sh2 = split_shapes sh s

  abbrev first : ℕ
  first = start sh s

  abbrev n : ℕ
  n = count_of (word_at sh s)

  from : a < n
  from = segment_in n (closed_of (word_at sh s)) a seg

  word_s : word_at sh2 s ≡ word_at sh s + 1
  unfolding split_shapes
  word_s = get_or-set_same sh s (word_at sh s + 1) 0 there

  word_r : (r : ℕ) → (r ≡ s → ⊥) → word_at sh2 r ≡ word_at sh r
  unfolding split_shapes
  word_r r ne = get_or-set_other sh s r (word_at sh s + 1) 0 ne

  pub split-count : count_of (word_at sh2 s) ≡ n + 1
  split-count = ap count_of word_s ∙ count_next (word_at sh s) small

  pub split_closed : closed_of (word_at sh2 s) ≡ closed_of (word_at sh s)
  split_closed = ap closed_of word_s ∙ closed_next (word_at sh s) small

  pub split-start : start sh2 s ≡ first
  unfolding split_shapes
  split-start = start-le (word_at sh s + 1) sh s s (omega arith)

  pub split-length : length sh2 ≡ length sh
  unfolding split_shapes
  split-length = length-set sh s (word_at sh s + 1)

  pub split-total : total sh2 ≡ total sh + 1
  unfolding split_shapes
  split-total = total_more (word_at sh s + 1) sh s there (count_next (word_at sh s) small)

  pub split-stood : (k : ℕ) → k < total sh2 → old (first + a) k < total sh
  split-stood k l = old_below (total sh) (first + a) k (omega (arith, total_in sh s there, from)) (omega (arith, split-total))

-- ---- a drawing with an anchor put in after anchor a of subpath s, where the ends of the segment that it parts may differ too: its anchors g and its radii q
pub record PutIn (d : Drawing) (s a : ℕ) (g : ℕ → Anchor) (q : ℕ → Float) : Type 0 where
  pub there : s < length d.shapes
  pub seg : is_segment (count_of (word_at d.shapes s)) (closed_of (word_at d.shapes s)) a ≡ true
  pub small : count_of (word_at d.shapes s) ≤ 512
  pub anchors : (k : ℕ) → (k ≡ segment_start d.shapes s a → ⊥) → (k ≡ segment_start d.shapes s a + 1 → ⊥) → (k ≡ shifted (segment_start d.shapes s a) (segment_end d.shapes s a) → ⊥)
      → g k ≡ d.anchor (old (segment_start d.shapes s a) k)
  pub radii : (k : ℕ) → (k ≡ segment_start d.shapes s a + 1 → ⊥) → q k ≡ d.radius (old (segment_start d.shapes s a) k)

abbrev pub with_anchor : Drawing → ℕ → (ℕ → Anchor) → (ℕ → Float) → Drawing
with_anchor d s g q = record { shapes = split_shapes d.shapes s; kind = d.kind; anchor = g; radius = q }

module _ (d : Drawing) (s a : ℕ) (g : ℕ → Anchor) (q : ℕ → Float) (put : PutIn d s a g q) where
  abbrev sh : List ℕ
  sh = d.shapes

  abbrev sh' : List ℕ
  sh' = split_shapes d.shapes s

  abbrev m : Drawing
  m = with_anchor d s g q

  abbrev lo : ℕ
  lo = start d.shapes s

  abbrev size : ℕ
  size = count_of (word_at d.shapes s)

  there : s < length sh
  there = put.there

  small : size ≤ 512
  small = put.small

  inside : a < size
  inside = from sh s a there put.seg small

  count : count_of (word_at sh' s) ≡ size + 1
  count = split-count sh s a there put.seg small

  closed : closed_of (word_at sh' s) ≡ closed_of (word_at sh s)
  closed = split_closed sh s a there put.seg small

  begins : start sh' s ≡ lo
  begins = split-start sh s a there put.seg small

  word_other : (r : ℕ) → (r ≡ s → ⊥) → word_at sh' r ≡ word_at sh r
  word_other = word_r sh s a there put.seg small

  -- ---- the subpath itself: an anchor put in
  put_inserted : Inserted (view_in d s) (view_in m s) a
  unfolding view_in view_of sub_at segment_start segment_end gap
  put_inserted = record {
    n = count;
    from = inside;
    closed = closed;
    chords = refl;
    anchors = λ j l e. rw begins (far j l e);
    radii = λ j l ne. rw begins (put.radii (lo + j) (λ q. ne (omega arith)) ∙ ap d.radius (old_in lo a j));
    kinds = λ j l ne. refl;
  }
    where
      far : (j : ℕ) → j < count_of (word_at sh' s) → near 1 (count_of (word_at sh' s)) (closed_of (word_at sh' s)) (a + 1) j ≡ false
          → g (lo + j) ≡ d.anchor (lo + old a j)
      far j l e =
          let f = far_of 1 (count_of (word_at sh' s)) (closed_of (word_at sh' s)) (a + 1) j e in
          let y = f.straight in
          put.anchors (lo + j) (λ q. omega arith) (λ q. omega arith) (last f) ∙ ap d.anchor (old_in lo a j)
        where
          last : Far 1 (count_of (word_at sh' s)) (closed_of (word_at sh' s)) (a + 1) j → lo + j ≡ shifted (lo + a) (lo + next size a) → ⊥
          last f q =
              ⊎_elim
              (λ (h : a + 1 < size).
              let e : next size a ≡ a + 1 = next_in size a h in
              let z = shifted_high (lo + a) (lo + next size a) (omega arith) in
              let y = f.straight in
              omega arith)
              (λ (h : (closed_of (word_at sh s) ≡ true) × (a + 1 ≡ size)).
              let y = h.1 in
              let e : next size a ≡ 0 = next-round size a (omega arith) in
              let z = shifted_low (lo + a) (lo + next size a) (omega arith) in
              let x = f.round (closed ∙ h.0) in
              let w = count in
              omega arith)
              (segment_cases size (closed_of (word_at sh s)) a put.seg)

  at_n : (j : ℕ) → j < size + 1 → j < (view_in m s).n
  unfolding view_in view_of sub_at
  at_n j l = omega (arith, count)

  at_n_lo : (k : ℕ) → k < lo + (size + 1) → k < lo + (view_in m s).n
  unfolding view_in view_of sub_at
  at_n_lo k l = omega (arith, count)

  cut_here : (k : ℕ) → In sh' k s → reached (view_in m s) lo 4 (a + 1) k ≡ false → places_of m k ≡ places_of d (old (lo + a) k)
  cut_here k i e =
      let st = begins in
      let c = count in
      let above : lo ≤ k = omega (arith, i.low) in
      let hi : k < lo + (size + 1) = omega (arith, i.high) in
      let j = k - lo in
      let ob = old_below size a j inside (omega arith) in
      let z : old (lo + a) k ≡ lo + old a j = ap (old (lo + a)) (omega arith) ∙ old_in lo a j in
      place_in_lem m k s i
      ∙ ap (λ x. place_at (view_in m s) (k - x)) st
      ∙ split_locality (view_in d s) (view_in m s) a put_inserted j (at_n j (omega arith)) (sym (reached_here (view_in m s) lo 4 (a + 1) k above (at_n_lo k hi)) ∙ e)
      ∙ ap (place_at (view_in d s)) (omega arith)
      ∙ sym (place_in_lem d (old (lo + a) k) s (record { there = there; low = omega arith; high = omega arith }))

  -- ---- the subpaths before and after it
  cut-before : (k r : ℕ) → In sh' k r → r < s → places_of m k ≡ places_of d (old (lo + a) k)
  unfolding segment_start segment_end split_shapes view_in view_of sub_at
  cut-before k r i l =
      let st : start sh' r ≡ start sh r = start-le (word_at sh s + 1) sh s r (omega arith) in
      let w : word_at sh' r ≡ word_at sh r = word_other r (λ e. omega arith) in
      let z : count_of (word_at sh' r) ≡ count_of (word_at sh r) = ap count_of w in
      let f : start sh r + count_of (word_at sh r) ≤ lo = sub-before sh r s there l in
      let eb = end_in lo size a inside in
      let o : old (lo + a) k ≡ k = old_low (lo + a) k (omega (arith, i.high)) in
      let below : (j : ℕ) → j < count_of (word_at sh' r) → old (lo + a) (start sh' r + j) ≡ start sh r + j = λ j h. old_low (lo + a) (start sh' r + j) (omega arith) ∙ omega arith in
      place_in_lem m k r i
      ∙ like_places (view_in d r) (view_in m r) (record {
        n = z;
        closed = ap closed_of w;
        chords = refl;
        anchors = λ j h. put.anchors (start sh' r + j) (λ q. omega arith) (λ q. omega arith) (λ q. omega arith) ∙ ap d.anchor (below j h);
        radii = λ j h. put.radii (start sh' r + j) (λ q. omega arith) ∙ ap d.radius (below j h);
        kinds = λ j h. refl;
      }) (k - start sh' r) (omega (arith, i.low, i.high))
      ∙ ap (λ x. place_at (view_in d r) (k - x)) st
      ∙ sym (place_in_lem d k r (record { there = omega (arith, l, there); low = omega (arith, i.low); high = omega (arith, i.high) }))
      ∙ ap (places_of d) (sym o)

  cut-after : (k r : ℕ) → In sh' k r → s < r → places_of m k ≡ places_of d (old (lo + a) k)
  unfolding segment_start segment_end split_shapes view_in view_of sub_at
  cut-after k r i l =
      let st : start sh' r ≡ start sh r + 1 = start_gt (word_at sh s + 1) sh s r there l (count_next (word_at sh s) small) in
      let w : word_at sh' r ≡ word_at sh r = word_other r (λ e. omega arith) in
      let z : count_of (word_at sh' r) ≡ count_of (word_at sh r) = ap count_of w in
      let len = split-length sh s a there put.seg small in
      let rl : r < length sh = omega (arith, i.there) in
      let f : lo + size ≤ start sh r = sub-before sh s r rl l in
      let y = inside in
      let eb = end_in lo size a inside in
      let o : old (lo + a) k ≡ k - 1 = old_high (lo + a) k (omega (arith, i.low)) in
      let above : (j : ℕ) → j < count_of (word_at sh' r) → old (lo + a) (start sh' r + j) ≡ start sh r + j = λ j h. old_high (lo + a) (start sh' r + j) (omega arith) ∙ omega arith in
      place_in_lem m k r i
      ∙ like_places (view_in d r) (view_in m r) (record {
        n = z;
        closed = ap closed_of w;
        chords = refl;
        anchors = λ j h. put.anchors (start sh' r + j) (λ q. omega arith) (λ q. omega arith) (λ q. omega arith) ∙ ap d.anchor (above j h);
        radii = λ j h. put.radii (start sh' r + j) (λ q. omega arith) ∙ ap d.radius (above j h);
        kinds = λ j h. refl;
      }) (k - start sh' r) (omega (arith, i.low, i.high))
      ∙ ap (place_at (view_in d r)) (let il = i.low in omega arith)
      ∙ sym (place_in_lem d (k - 1) r (record { there = rl; low = omega (arith, i.low); high = omega (arith, i.low, i.high) }))
      ∙ ap (places_of d) (sym o)

  pub put_kept : (k : ℕ) → k < total sh' → reached (view_in m s) lo 4 (a + 1) k ≡ false → places_of m k ≡ places_of d (old (lo + a) k)
  put_kept k l e =
      let i : In sh' k (sub_of sh' k) = sub_in sh' k l in
      ⊎_elim
      (λ q. cut_here k (rw q at i) e)
      (λ ne. ⊎_elim
      (λ (h : sub_of sh' k ≤ s). cut-before k (sub_of sh' k) i (lt_of (sub_of sh' k) s h ne))
      (λ (h : s < sub_of sh' k). cut-after k (sub_of sh' k) i h)
      (order (sub_of sh' k) s))
      (same (sub_of sh' k) s)
    where
      lt_of : (x y : ℕ) → x ≤ y → (x ≡ y → ⊥) → x < y
      lt_of x y h ne = ⊎_elim (λ (g : y ≤ x). absurd (ne (omega arith))) (λ (g : x < y). g) (order y x)

-- ---- a split
module _ (d : Drawing) (s a : ℕ) (t : Float) (there : s < length d.shapes)
    (seg : is_segment (count_of (word_at d.shapes s)) (closed_of (word_at d.shapes s)) a ≡ true) (small : count_of (word_at d.shapes s) ≤ 512) where
  split-put : PutIn d s a (split_at d s a t).anchor (split_at d s a t).radius
  unfolding split_at
  split-put = record {
    there = there;
    seg = seg;
    small = small;
    anchors = anchor-stood d.anchor (segment_start d.shapes s a) (segment_end d.shapes s a) t;
    radii = radius-stood d.radius (segment_start d.shapes s a);
  }

  pub split_kept : (k : ℕ) → k < total (split_shapes d.shapes s) → reached (view_in (split_at d s a t) s) (start d.shapes s) 4 (a + 1) k ≡ false
      → places_of (split_at d s a t) k ≡ places_of d (old (start d.shapes s + a) k)
  unfolding split_at
  split_kept = put_kept d s a (split_at d s a t).anchor (split_at d s a t).radius split-put
