-- A box grown by lists of points: the points of a curve, of a subpath and of a path one more at a time. Assumes nothing.
use mathlib.Core.Path.{◌≡◌, refl, sym, ap, ◌∙◌}
use mathlib.Core.Bool.{Bool, true, false, cond}
use mathlib.Core.List.{List, [], ◌∷◌, ◌++◌, append_assoc, append-nil}
use Prim.Native.Nat.{ℕ, zero, suc, ◌+◌, ◌≤◌, ◌<◌}
use native.Mathlib.Nat.{le_of_suc-le-suc, not-suc-le-zero, add_assoc, add-zero}
use native.Mathlib.Numerals.{add-one}
use native.Mathlib.Omega.{arith}
use lib.Dec.{ltb}
use lib.ListN.{length, take}
use lib.Seq.{take_all}
use lib.Ieee.{Float}
use Rattle.views.specs.View.{tabulate}
use Rattle.views.proofs.Laws.{tabulate_more}
use Rattle.geom.specs.declared.point.P.{P}
use Rattle.geom.specs.declared.bounds.Bounds.{Bounds}
use Rattle.geom.specs.Box.{no_point, grown}
use Rattle.cubic.specs.Sample.{straight, steps, step_at, sample_count}
use Rattle.path.specs.Flat.{anchor_at, curve_of}
use Rattle.path.specs.Shape.{count_of, closed_of, word_at, start, is_segment}
use Rattle.bounds.specs.Points.{grown_by, curve_points, segment_points, subpath_points, points_from, box_of}

pub grown-append : (b : Bounds) (ps qs : List P) → grown_by b (ps ++ qs) ≡ grown_by (grown_by b ps) qs
unfolding grown_by
grown-append b [] qs = refl
grown-append b (p ∷ ps) qs = grown-append (grown b p) ps qs

pub grown_one : (b : Bounds) (ps : List P) (p : P) (r s : Bounds) → r ≡ grown_by b ps → s ≡ grown r p → s ≡ grown_by b (ps ++ p ∷ [])
unfolding grown_by
grown_one b ps p r s e f = rw (grown-append b ps (p ∷ []), ← e) f

-- ---- the points of a curve
pub points_none : (b : Bounds) (f : ℕ → P) → b ≡ grown_by b (tabulate 0 f)
unfolding tabulate grown_by
points_none b f = refl

pub points_more : (b r s : Bounds) (f : ℕ → P) (k : ℕ) (p : P) → r ≡ grown_by b (tabulate k f) → p ≡ f k → s ≡ grown r p → s ≡ grown_by b (tabulate (k + 1) f)
points_more b r s f k p e g h = rw (add-one k, tabulate_more k f, ← g) (grown_one b (tabulate k f) p r s e h)

-- at most 16 steps
pub sixteen : (c : List P) → steps c 16 ≤ 16
unfolding steps
sixteen c = go (straight c)
  where
    go : (t : Bool) → cond t 1 (cond (ltb 16 1) 1 16) ≤ 16
    go true = omega arith
    go false = omega arith

pub curve_done : (b r : Bounds) (c : List P) (m k : ℕ) → m ≡ steps c 16 → k ≡ m + 1 → r ≡ grown_by b (tabulate k (step_at c m)) → r ≡ grown_by b (curve_points 16 c)
unfolding curve_points sample_count
curve_done b r c m k e f h = rw (← e, ← f) h

nothing_added : (anchors : List Float) (k : ℕ) (closed : Bool) (b : Bounds) → b ≡ grown_by b (subpath_points anchors k 0 closed)
unfolding subpath_points grown_by
nothing_added anchors k closed b = refl

with_first : (anchors : List Float) (k n : ℕ) (closed : Bool) → 0 < n → subpath_points anchors k n closed ≡ segment_points anchors k n closed n ++ (anchor_at anchors k).p ∷ []
unfolding subpath_points
with_first anchors k zero closed h = absurd (not-suc-le-zero h)
with_first anchors k (suc m) closed h = refl

-- ---- the segments of a subpath
module _ (anchors : List Float) (k n : ℕ) (closed : Bool) (b : Bounds) where
  pub segments_none : b ≡ grown_by b (segment_points anchors k n closed 0)
  unfolding segment_points grown_by
  segments_none = refl

  module _ (a : ℕ) (r : Bounds) (e : r ≡ grown_by b (segment_points anchors k n closed a)) where
    pub segments_skip : is_segment n closed a ≡ false → r ≡ grown_by b (segment_points anchors k n closed (a + 1))
    unfolding segment_points
    segments_skip t = rw (add-one a, t, append-nil) e

    pub segments_more : is_segment n closed a ≡ true → (c : List P) (s : Bounds) → c ≡ curve_of anchors k n a → s ≡ grown_by r (curve_points 16 c) → s ≡ grown_by b (segment_points anchors k n closed (a + 1))
    unfolding segment_points
    segments_more t c s f g = rw (add-one a, t, grown-append b (segment_points anchors k n closed a) (curve_points 16 (curve_of anchors k n a)), ← e, ← f) g

  -- ---- a subpath
  pub subpath-empty : n ≡ 0 → b ≡ grown_by b (subpath_points anchors k n closed)
  subpath-empty e = rw e (nothing_added anchors k closed b)

  pub subpath_more : 0 < n → (r s : Bounds) (p : P) → r ≡ grown_by b (segment_points anchors k n closed n) → p ≡ (anchor_at anchors k).p → s ≡ grown r p → s ≡ grown_by b (subpath_points anchors k n closed)
  subpath_more h r s p e f g = rw (with_first anchors k n closed h, ← f) (grown_one b (segment_points anchors k n closed n) p r s e g)

-- ---- a path
next-subpath : (anchors : List Float) (k : ℕ) (shapes : List ℕ) (s : ℕ) → s < length shapes
    → points_from anchors k (take (suc s) shapes) ≡ points_from anchors k (take s shapes) ++ subpath_points anchors (k + start shapes s) (count_of (word_at shapes s)) (closed_of (word_at shapes s))
unfolding points_from
next-subpath anchors k [] s l = absurd (not-suc-le-zero l)
next-subpath anchors k (w ∷ ws) zero l = rw (add-zero k) (append-nil _)
next-subpath anchors k (w ∷ ws) (suc s) l =
    ap (λ (z : List P). subpath_points anchors k (count_of w) (closed_of w) ++ z) (next-subpath anchors (k + count_of w) ws s (le_of_suc-le-suc l))
    ∙ sym (append_assoc (subpath_points anchors k (count_of w) (closed_of w)) (points_from anchors (k + count_of w) (take s ws)) (subpath_points anchors (k + count_of w + start ws s) (count_of (word_at ws s)) (closed_of (word_at ws s))))
    ∙ ap (λ (z : ℕ). (subpath_points anchors k (count_of w) (closed_of w) ++ points_from anchors (k + count_of w) (take s ws)) ++ subpath_points anchors z (count_of (word_at ws s)) (closed_of (word_at ws s))) (add_assoc k (count_of w) (start ws s))

pub path_none : (anchors : List Float) (shapes : List ℕ) → no_point ≡ grown_by no_point (points_from anchors 0 (take 0 shapes))
unfolding points_from grown_by
path_none anchors shapes = refl

pub path_more : (anchors : List Float) (shapes : List ℕ) (s k : ℕ) (r t : Bounds) → s < length shapes → k ≡ start shapes s → r ≡ grown_by no_point (points_from anchors 0 (take s shapes))
    → t ≡ grown_by r (subpath_points anchors k (count_of (word_at shapes s)) (closed_of (word_at shapes s))) → t ≡ grown_by no_point (points_from anchors 0 (take (s + 1) shapes))
path_more anchors shapes s k r t l e f g =
    let z : 0 + start shapes s ≡ k = omega arith in
    rw (add-one s, next-subpath anchors 0 shapes s l, grown-append no_point (points_from anchors 0 (take s shapes)) (subpath_points anchors (0 + start shapes s) (count_of (word_at shapes s)) (closed_of (word_at shapes s))), z, ← f) g

pub path_done : (anchors : List Float) (shapes : List ℕ) (s : ℕ) (r : Bounds) → length shapes ≤ s → r ≡ grown_by no_point (points_from anchors 0 (take s shapes)) → r ≡ box_of shapes anchors
unfolding box_of
path_done anchors shapes s r l e = e ∙ ap (λ (z : List ℕ). grown_by no_point (points_from anchors 0 z)) (take_all s shapes l)
