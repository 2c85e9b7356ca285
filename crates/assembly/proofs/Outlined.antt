-- The outline of a path: how many anchors it has, that it turns on the places alone, and that its words and anchors are a path. Assumes nothing.
use mathlib.Core.Path.{◌≡◌, refl, ap, ap₂, ◌∙◌}
use mathlib.Core.Bool.{Bool, true, false, cond, ◌&&◌}
use mathlib.Core.List.{List, [], ◌∷◌, ◌++◌}
use Prim.Native.Nat.{ℕ, zero, suc, ◌+◌, ◌*◌, ◌≤◌, ◌<◌}
use native.Mathlib.Nat.{le_refl, add-zero}
use native.Mathlib.Numerals.{add-one}
use native.Mathlib.Omega.{arith}
use lib.Dec.{leb, ltb}
use lib.Ieee.{Float}
use lib.ListN.{length, take, get_or, length-append}
use lib.Seq.{length-take-le, get_or-take}
use borrow.Author.Tests.{le-leb, lt-leb}
use Rattle.views.specs.View.{tabulate, overwrite}
use Rattle.views.specs.Search.{count}
use Rattle.views.proofs.Laws.{length-tabulate, as_tabulate, tabulate_more, length-overwrite, at_overwrite}
use Rattle.views.proofs.Searches.{count_none, count_add}
use Rattle.path.specs.Shape.{count_of, closed_of, total, word_at, word_of, start}
use Rattle.path.proofs.Shapes.{total-next, total_in, total-end}
use Rattle.path.specs.declared.anchor.Anchor.{Anchor}
use Rattle.path.specs.Flat.{anchor_at}
use Rattle.cut.specs.declared.places.Place.{Place}
use Rattle.cut.specs.declared.subpath.Sub.{Sub}
use Rattle.cut.specs.Outline.{joined, anchors_at, held_back, assembled}
use Rattle.cut.proofs.Outlines.{assembled-length, assembled-same}
use Rattle.assembly.specs.Assembled.{place_read, places_from, subpath_outline, outline_up_to, outline_of, outline_shapes, outline_words}

-- ---- counts

count_most : (p : ℕ → Bool) (n : ℕ) → count p n ≤ n
unfolding count
count_most p zero = le_refl 0
count_most p (suc n) = go (p zero) (count_most (λ k. p (suc k)) n)
  where
    go : (b : Bool) → count (λ k. p (suc k)) n ≤ n → cond b (suc (count (λ k. p (suc k)) n)) (count (λ k. p (suc k)) n) ≤ suc n
    go true l = omega arith
    go false l = omega arith

-- ---- how many anchors: one a place, and one more where it is cut

pub assembled_most : (n : ℕ) (c : Bool) (f : ℕ → Place) → length (assembled n c f) ≤ 2 * n
assembled_most n c f = omega (arith, assembled-length n c f, count_most (λ i. (f i).cut) n)

pub subpath_most : (n : ℕ) (c : Bool) (f : ℕ → Place) → length (joined (anchors_at c f) n) + length (held_back n c f) ≤ 2 * n
unfolding assembled
subpath_most n c f = omega (arith, length-append (joined (anchors_at c f) n) (held_back n c f), assembled_most n c f)

-- what is held back, by the test of whether anything is
pub held_is : (numbers : List Float) (flags : List ℕ) (sub : Sub) (held : Bool) → held ≡ (sub.closed && (ltb 0 sub.n && leb 2147483648 (get_or flags sub.first 0)))
    → held_back sub.n sub.closed (places_from numbers flags sub.first) ≡ cond held (anchor_at numbers (2 * sub.first) ∷ []) []
unfolding held_back place_read
held_is numbers flags sub held e = rw (add-zero, e)

pub joined-next : (g : ℕ → List Anchor) (n : ℕ) → joined g (n + 1) ≡ joined g n ++ g n
unfolding joined
joined-next g n = rw (add-one n)

-- the outline of subpath s, by its place, count and closedness
pub subpath_is : (shapes : List ℕ) (numbers : List Float) (flags : List ℕ) (s : ℕ) (sub : Sub) →
    sub.first ≡ start shapes s → sub.n ≡ count_of (word_at shapes s) → sub.closed ≡ closed_of (word_at shapes s)
    → assembled sub.n sub.closed (places_from numbers flags sub.first) ≡ subpath_outline shapes (place_read numbers flags) s
unfolding subpath_outline
subpath_is shapes numbers flags s sub first n closed = rw (first, n, closed)

pub outline-next : (shapes : List ℕ) (f : ℕ → Place) (m : ℕ) → outline_up_to shapes f (m + 1) ≡ outline_up_to shapes f m ++ subpath_outline shapes f m
unfolding outline_up_to
outline-next shapes f m = rw (add-one m)

module _ (shapes : List ℕ) (f : ℕ → Place) where
  up_to_length : (m : ℕ) → m ≤ length shapes → length (outline_up_to shapes f m) ≡ start shapes m + count (λ k. (f k).cut) (start shapes m)
  unfolding outline_up_to subpath_outline
  up_to_length zero l = omega (arith, count_none (λ k. (f k).cut) 0 (λ k h. absurd (omega arith)))
  up_to_length (suc m) l =
      let n = count_of (word_at shapes m) in
      let t : start shapes (suc m) ≡ start shapes m + n = rw (add-one m) at (total-next shapes m l) in
      rw t
      (omega (
        arith,
        length-append (outline_up_to shapes f m) (subpath_outline shapes f m),
        up_to_length m (omega arith),
        assembled-length n (closed_of (word_at shapes m)) (λ i. f (start shapes m + i)),
        count_add (λ k. (f k).cut) (start shapes m) n,
      ))

  pub outline_most : (m : ℕ) → m ≤ length shapes → length (outline_up_to shapes f m) ≤ 2 * start shapes m
  outline_most m l = omega (arith, up_to_length m l, count_most (λ k. (f k).cut) (start shapes m))

  pub outline-length : length (outline_of shapes f) ≡ total shapes + count (λ k. (f k).cut) (total shapes)
  unfolding outline_of
  outline-length =
      let e : start shapes (length shapes) ≡ total shapes = total-end shapes (length shapes) (le_refl (length shapes)) in
      rw e at (up_to_length (length shapes) (le_refl (length shapes)))

-- ---- the outline turns on the places of the path alone

module _ (shapes : List ℕ) (f g : ℕ → Place) (alike : (k : ℕ) → k < total shapes → f k ≡ g k) where
  subpath-same : (s : ℕ) → s < length shapes → subpath_outline shapes f s ≡ subpath_outline shapes g s
  unfolding subpath_outline
  subpath-same s l = assembled-same (count_of (word_at shapes s)) (closed_of (word_at shapes s)) _ _ (λ i m. alike (start shapes s + i) (omega (arith, total_in shapes s l)))

  up_to_same : (m : ℕ) → m ≤ length shapes → outline_up_to shapes f m ≡ outline_up_to shapes g m
  unfolding outline_up_to
  up_to_same zero l = refl
  up_to_same (suc m) l = ap₂ ◌++◌ (up_to_same m (omega arith)) (subpath-same m l)

  pub outline-same : outline_of shapes f ≡ outline_of shapes g
  unfolding outline_of
  outline-same = up_to_same (length shapes) (le_refl (length shapes))

  pub shapes_same : (s : ℕ) → s < length shapes → outline_shapes shapes f s ≡ outline_shapes shapes g s
  unfolding outline_shapes
  shapes_same s l = rw (subpath-same s l)

-- ---- words and anchors are a path

word_count : (n : ℕ) (c : Bool) → n < 2147483648 → count_of (word_of n c) ≡ n
unfolding word_of
word_count n true l = omega arith
word_count n false l = omega arith

word_closed : (n : ℕ) (c : Bool) → n < 2147483648 → closed_of (word_of n c) ≡ c
unfolding word_of
word_closed n true l = le-leb 2147483648 (n + 2147483648) (omega arith)
word_closed n false l = lt-leb 2147483648 n l

total-append : (xs ys : List ℕ) → total (xs ++ ys) ≡ total xs + total ys
total-append [] ys = omega arith
total-append (x ∷ xs) ys = omega (arith, total-append xs ys)

module _ (shapes : List ℕ) (f : ℕ → Place) (few : total shapes ≤ 512) where
  small : (s : ℕ) → s < length shapes → length (subpath_outline shapes f s) < 2147483648
  unfolding subpath_outline
  small s l =
      omega (arith, assembled_most (count_of (word_at shapes s)) (closed_of (word_at shapes s)) (λ i. f (start shapes s + i)), total_in shapes s l)

  -- word s counts the anchors of subpath s, and has its closed bit
  pub shapes_count : (s : ℕ) → s < length shapes → count_of (outline_shapes shapes f s) ≡ length (subpath_outline shapes f s)
  unfolding outline_shapes
  shapes_count s l = word_count _ (closed_of (word_at shapes s)) (small s l)

  pub shapes_closed : (s : ℕ) → s < length shapes → closed_of (outline_shapes shapes f s) ≡ closed_of (word_at shapes s)
  unfolding outline_shapes
  shapes_closed s l = word_closed _ (closed_of (word_at shapes s)) (small s l)

  up_to_total : (m : ℕ) → m ≤ length shapes → total (tabulate m (outline_shapes shapes f)) ≡ length (outline_up_to shapes f m)
  unfolding outline_up_to tabulate
  up_to_total zero l = refl
  up_to_total (suc m) l =
      ap total (tabulate_more m (outline_shapes shapes f))
      ∙ omega (
        arith,
        total-append (tabulate m (outline_shapes shapes f)) (outline_shapes shapes f m ∷ []),
        up_to_total m (omega arith),
        shapes_count m l,
        length-append (outline_up_to shapes f m) (subpath_outline shapes f m),
      )

  pub outline-total : total (outline_words shapes f) ≡ length (outline_of shapes f)
  unfolding outline_of
  outline-total = up_to_total (length shapes) (le_refl (length shapes))

-- as many words as subpaths
pub words-length : (shapes : List ℕ) (f : ℕ → Place) → length (outline_words shapes f) ≡ length shapes
words-length shapes f = length-tabulate (length shapes) (outline_shapes shapes f)

-- and the list that was written begins with them
pub words-written : (shapes : List ℕ) (f : ℕ → Place) (xs : List ℕ) → length shapes ≤ length xs → take (length shapes) (overwrite (length shapes) (outline_shapes shapes f) xs) ≡ outline_words shapes f
words-written shapes f xs room =
    let n = length shapes in
    let g = outline_shapes shapes f in
    as_tabulate 0 (take n (overwrite n g xs)) n g
    (length-take-le n (overwrite n g xs) (omega (arith, length-overwrite n g xs)))
    (λ i l. get_or-take n (overwrite n g xs) i 0 l ∙ at_overwrite 0 n g xs i l (omega arith))
