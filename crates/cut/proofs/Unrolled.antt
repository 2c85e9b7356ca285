-- Stretch locality: three anchors and more from each of its ends that is not the view's own, a stretch of a view's anchors, unrolled once round the end and seen as an open view, is cut as the view is. Assumes nothing.
use mathlib.Core.Path.{◌≡◌, refl, sym, ap, ◌∙◌}
use mathlib.Core.Logic.{◌⊎◌, inl, inr, ⊎_elim}
use mathlib.Core.Bool.{Bool, true, false, ◌||◌}
use Prim.Native.Nat.{ℕ, ◌+◌, ◌-◌, ◌≤◌, ◌<◌}
use native.Mathlib.Omega.{arith}
use lib.Dec.{ltb}
use borrow.Author.Tests.{lt-ltb, le-ltb, le-leb, lt-leb, ltb-true}
use Rattle.views.specs.Search.{count}
use Rattle.views.proofs.Laws.{order}
use Rattle.views.proofs.Bools.{not_both}
use Rattle.views.proofs.Searches.{count_cong, count_add}
use Rattle.path.specs.Shape.{prev, next}
use Rattle.cut.specs.View.{View, arrives, leaves}
use Rattle.cut.specs.Places.{place_at}
use Rattle.cut.specs.Near.{gap}
use Rattle.cut.specs.Unrolled.{unrolled, rolled}
use Rattle.cut.proofs.Steps.{next_in, next-round, prev_in, near_open}
use Rattle.cut.proofs.Follow.{In, follows}

-- ---- the index map
pub unrolled_in : (n from j : ℕ) → from + j < n → unrolled n from j ≡ from + j
unfolding unrolled
unrolled_in n from j h = rw (lt-ltb (from + j) n h)

pub unrolled-round : (n from j : ℕ) → n ≤ from + j → unrolled n from j ≡ from + j - n
unfolding unrolled
unrolled-round n from j h = rw (le-ltb (from + j) n h)

pub rolled_in : (n from i : ℕ) → from ≤ i → rolled n from i ≡ i - from
unfolding rolled
rolled_in n from i h = rw (le-leb from i h)

pub rolled-round : (n from i : ℕ) → i < from → rolled n from i ≡ i + n - from
unfolding rolled
rolled-round n from i h = rw (lt-leb from i h)

-- as numbers
pub record Index (n from j i : ℕ) : Type 0 where
  pub is : (from + j ≡ i) ⊎ (from + j ≡ i + n)
  pub below : i < n

pub index-of : (n from j : ℕ) → from < n → j ≤ n → Index n from j (unrolled n from j)
index-of n from j h l =
    ⊎_elim
    (λ (g : n ≤ from + j). rw (unrolled-round n from j g) (record { is = inr (omega arith); below = omega arith }))
    (λ (g : from + j < n). rw (unrolled_in n from j g) (record { is = inl refl; below = g }))
    (order n (from + j))

pub index_is : (n from j i : ℕ) → Index n from j i → unrolled n from j ≡ i
index_is n from j i x =
    let b = x.below in
    ⊎_elim
    (λ (e : from + j ≡ i). unrolled_in n from j (omega arith) ∙ e)
    (λ (e : from + j ≡ i + n). unrolled-round n from j (omega arith) ∙ omega arith)
    x.is

pub index_back : (n from i : ℕ) → from < n → i < n → Index n from (rolled n from i) i × (rolled n from i < n)
index_back n from i h l =
    ⊎_elim
    (λ (g : from ≤ i). rw (rolled_in n from i g) (record { is = inl (omega arith); below = l }, omega arith))
    (λ (g : i < from). rw (rolled-round n from i g) (record { is = inr (omega arith); below = l }, omega arith))
    (order from i)

pub unrolled-rolled : (n from i : ℕ) → from < n → i < n → unrolled n from (rolled n from i) ≡ i
unrolled-rolled n from i h l = index_is n from (rolled n from i) i (index_back n from i h l).0

-- one index of the stretch for each of the subpath's
pub index_one : (n from i j k : ℕ) → j < n → k < n → Index n from j i → Index n from k i → j ≡ k
index_one n from i j k jn kn x y =
    let b = x.below in
    ⊎_elim
    (λ (e : from + j ≡ i). ⊎_elim (λ (d : from + k ≡ i). omega arith) (λ (d : from + k ≡ i + n). omega arith) y.is)
    (λ (e : from + j ≡ i + n). ⊎_elim (λ (d : from + k ≡ i). omega arith) (λ (d : from + k ≡ i + n). omega arith) y.is)
    x.is

-- ---- neighbours
unrolled-next : (n from j : ℕ) → from < n → j + 1 < n → unrolled n from (j + 1) ≡ next n (unrolled n from j)
unrolled-next n from j h l =
    ⊎_elim
    (λ (g : n ≤ from + j). rw (unrolled-round n from j g, unrolled-round n from (j + 1) (omega arith), next_in n (from + j - n) (omega arith)) (omega arith))
    (λ (g : from + j < n).
    ⊎_elim
    (λ (k : n ≤ from + j + 1). rw (unrolled_in n from j g, unrolled-round n from (j + 1) (omega arith), next-round n (from + j) k) (omega arith))
    (λ (k : from + j + 1 < n). rw (unrolled_in n from j g, unrolled_in n from (j + 1) (omega arith), next_in n (from + j) k) (omega arith))
    (order n (from + j + 1)))
    (order n (from + j))

unrolled-prev : (n from j : ℕ) → from < n → j + 1 < n → unrolled n from j ≡ prev n (unrolled n from (j + 1))
unfolding prev
unrolled-prev n from j h l =
    ⊎_elim
    (λ (g : n ≤ from + j).
    rw (unrolled-round n from j g, unrolled-round n from (j + 1) (omega arith), prev_in n (from + (j + 1) - n) (omega arith)) (omega arith))
    (λ (g : from + j < n).
    ⊎_elim
    (λ (k : n ≤ from + j + 1).
    let z : from + (j + 1) - n ≡ 0 = omega arith in
    rw (unrolled_in n from j g, unrolled-round n from (j + 1) (omega arith), z) (omega arith))
    (λ (k : from + j + 1 < n).
    rw (unrolled_in n from j g, unrolled_in n from (j + 1) (omega arith), prev_in n (from + (j + 1)) (omega arith)) (omega arith))
    (order n (from + j + 1)))
    (order n (from + j))

-- ---- the law: a corner and the setback that is asked take one anchor on each side, a fitted radius and whether there is a cut two, a place three, since its
-- segments are trimmed by the cuts beside it
-- r is the stretch of v's anchors from index `from`, round the end only where v is closed
pub record Unrolled (v r : View) (from : ℕ) : Type 0 where
  pub inside : from < v.n
  pub few : r.n ≤ v.n
  pub straight : r.closed ≡ false
  pub within : v.closed ≡ false → from + r.n ≤ v.n
  pub chords : r.chords ≡ v.chords
  pub anchors : (j : ℕ) → j < r.n → r.anchor j ≡ v.anchor (unrolled v.n from j)
  pub radii : (j : ℕ) → j < r.n → r.radius j ≡ v.radius (unrolled v.n from j)
  pub kinds : (j : ℕ) → j < r.n → r.kind j ≡ v.kind (unrolled v.n from j)

-- index i of it is three anchors and more from each of its ends that is not an end of v
pub record Deep (v r : View) (from i : ℕ) : Type 0 where
  pub inside : i < r.n
  pub low : (3 ≤ i) ⊎ ((v.closed ≡ false) × (from ≡ 0))
  pub high : (i + 3 < r.n) ⊎ ((v.closed ≡ false) × (from + r.n ≡ v.n))

module _ (v r : View) (from : ℕ) (f : Unrolled v r from) (i : ℕ) (d : Deep v r from i) where
  abbrev s : ℕ → ℕ
  s = unrolled v.n from

  -- in an open view the stretch does not go round
  open_index : v.closed ≡ false → (j : ℕ) → j < r.n → s j ≡ from + j
  open_index o j l = unrolled_in v.n from j (let q = f.within o in omega arith)

  module _ (j : ℕ) (g : In r i 2 j) where
    close : gap i j ≤ 2
    close = near_open 2 r.n r.closed i j f.straight g.close

    above : 3 ≤ i → 0 < j
    unfolding gap
    above h = let c = close in omega arith

    below : i + 3 < r.n → j + 1 < r.n
    unfolding gap
    below h = let c = close in omega arith

    arriving : arrives r j ≡ arrives v (s j)
    unfolding arrives
    arriving = rw f.straight (by v.closed refl)
      where
        by : (b : Bool) → v.closed ≡ b → ltb 0 j ≡ (b || ltb 0 (s j))
        by true e = ⊎_elim (λ (h : 3 ≤ i). lt-ltb 0 j (above h)) (λ (h : (v.closed ≡ false) × (from ≡ 0)). absurd (not_both v.closed h.0 e)) d.low
        by false e =
            rw (open_index e j g.inside)
            (⊎_elim (λ (h : 3 ≤ i). let a = above h in lt-ltb 0 j a ∙ sym (lt-ltb 0 (from + j) (omega arith))) (λ (h : (v.closed ≡ false) × (from ≡ 0)). let z = h.1 in let x : j ≡ from + j = omega arith in ap (ltb 0) x) d.low)

    leaving : leaves r j ≡ leaves v (s j)
    unfolding leaves
    leaving = rw f.straight (by v.closed refl)
      where
        by : (b : Bool) → v.closed ≡ b → ltb (j + 1) r.n ≡ (b || ltb (s j + 1) v.n)
        by true e = ⊎_elim (λ (h : i + 3 < r.n). lt-ltb (j + 1) r.n (below h)) (λ (h : (v.closed ≡ false) × (from + r.n ≡ v.n)). absurd (not_both v.closed h.0 e)) d.high
        by false e =
            rw (open_index e j g.inside)
            (⊎_elim
            (λ (h : i + 3 < r.n). let b = below h in let q = f.within e in lt-ltb (j + 1) r.n b ∙ sym (lt-ltb (from + j + 1) v.n (omega arith)))
            (λ (h : (v.closed ≡ false) × (from + r.n ≡ v.n)). let q = h.1 in ends q (order r.n (j + 1)))
            d.high)
          where
            ends : from + r.n ≡ v.n → (r.n ≤ j + 1) ⊎ (j + 1 < r.n) → ltb (j + 1) r.n ≡ ltb (from + j + 1) v.n
            ends q (inl h) = le-ltb (j + 1) r.n h ∙ sym (le-ltb (from + j + 1) v.n (omega arith))
            ends q (inr h) = lt-ltb (j + 1) r.n h ∙ sym (lt-ltb (from + j + 1) v.n (omega arith))

    back : arrives r j ≡ true → s (prev r.n j) ≡ prev v.n (s j)
    unfolding arrives
    back e =
        let a : 0 < j = ltb-true 0 j (rw f.straight at e) in
        let l = g.inside in
        let q = f.few in
        let x : j - 1 + 1 ≡ j = omega arith in
        rw (prev_in r.n j a) (unrolled-prev v.n from (j - 1) f.inside (omega arith) ∙ ap (λ z. prev v.n (s z)) x)

    on : leaves r j ≡ true → s (next r.n j) ≡ next v.n (s j)
    unfolding leaves
    on e =
        let a : j + 1 < r.n = ltb-true (j + 1) r.n (rw f.straight at e) in
        let q = f.few in
        rw (next_in r.n j a) (unrolled-next v.n from j f.inside (omega arith))

  pub unrolled_place : place_at r i ≡ place_at v (unrolled v.n from i)
  unrolled_place = follows v r s i (record {
    inside = d.inside;
    chords = f.chords;
    arriving = λ j g. arriving j g;
    leaving = λ j g. leaving j g;
    back = λ j g e. back j g e;
    on = λ j g e. on j g e;
    anchors = λ j g. f.anchors j g.inside;
    radii = λ j g. f.radii j g.inside;
    kind = f.kinds i d.inside;
  })

-- ---- counts round the end
pub count-round : (p : ℕ → Bool) (n from : ℕ) → from < n → count (λ j. p (unrolled n from j)) n ≡ count p n
count-round p n from h = go (λ j. p (unrolled n from j)) (λ j. refl)
  where
    go : (q : ℕ → Bool) → ((j : ℕ) → q j ≡ p (unrolled n from j)) → count q n ≡ count p n
    go q is =
        let d = n - from in
        let e : n ≡ d + from = omega arith in
        let e' : n ≡ from + d = omega arith in
        let x : count q d ≡ count (λ j. p (from + j)) d = count_cong q (λ j. p (from + j)) d (λ j l. is j ∙ ap p (unrolled_in n from j (omega arith))) in
        let y : count (λ j. q (d + j)) from ≡ count p from = count_cong (λ j. q (d + j)) p from (λ j l. is (d + j) ∙ ap p (unrolled-round n from (d + j) (omega arith) ∙ omega arith)) in
        ap (count q) e ∙ count_add q d from ∙ omega (arith, x, y, count_add p from d) ∙ ap (count p) (sym e')
