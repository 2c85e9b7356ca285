-- Every point that was added lies within the box, for any list of points without a NaN. Assumes nothing.
use mathlib.Core.Path.{◌≡◌, refl}
use mathlib.Core.Bool.{Bool, true, false, cond}
use mathlib.Core.List.{List, [], ◌∷◌}
use Prim.Native.Nat.{ℕ, zero, suc, ◌<◌}
use native.Mathlib.Nat.{le_of_suc-le-suc, not-suc-le-zero, zero-lt-suc}
use native.Mathlib.Omega.{arith}
use lib.ListN.{length}
use lib.Ieee.{Float, is_nan, lt, le}
use Rattle.real.specs.StandIns.{max, min}
use Rattle.geom.specs.declared.point.P.{P}
use Rattle.geom.specs.declared.bounds.Bounds.{Bounds}
use Rattle.geom.specs.Box.{no_point, grown}
use Rattle.geom.specs.Flat.{pt}
use Rattle.bounds.specs.Points.{grown_by, points_from, box_of}
use Rattle.real.proofs.Orders.{not_below, le_trans, le-number, number-le, le_self, lt-is-le}

-- ---- the stand-ins
min_second : (a x : Float) → is_nan x ≡ false → le (min a x) x ≡ true
unfolding min
min_second a x n = go (lt a x) refl
  where
    go : (t : Bool) → lt a x ≡ t → le (cond (lt a x) a x) x ≡ true
    go true e = rw e (lt-is-le a x e)
    go false e = rw e (le_self x n)

min_first : (a x v : Float) → is_nan x ≡ false → le a v ≡ true → le (min a x) v ≡ true
unfolding min
min_first a x v n h = go (lt a x) refl
  where
    go : (t : Bool) → lt a x ≡ t → le (cond (lt a x) a x) v ≡ true
    go true e = rw e h
    go false e = rw e (le_trans x a v (not_below a x (le-number a v h) n e) h)

max_second : (a x : Float) → is_nan x ≡ false → le x (max a x) ≡ true
unfolding max
max_second a x n = go (lt x a) refl
  where
    go : (t : Bool) → lt x a ≡ t → le x (cond (lt x a) a x) ≡ true
    go true e = rw e (lt-is-le x a e)
    go false e = rw e (le_self x n)

max_first : (a x v : Float) → is_nan x ≡ false → le v a ≡ true → le v (max a x) ≡ true
unfolding max
max_first a x v n h = go (lt x a) refl
  where
    go : (t : Bool) → lt x a ≡ t → le v (cond (lt x a) a x) ≡ true
    go true e = rw e h
    go false e = rw e (le_trans v a x h (not_below x a n (number-le v a h) e))

-- ---- points
pub record Number (p : P) : Type 0 where
  pub x : is_nan p.x ≡ false
  pub y : is_nan p.y ≡ false

pub record Inside (b : Bounds) (p : P) : Type 0 where
  pub left : le b.min.x p.x ≡ true
  pub low : le b.min.y p.y ≡ true
  pub right : le p.x b.max.x ≡ true
  pub high : le p.y b.max.y ≡ true

-- the one added, and those that were inside
added : (b : Bounds) (p : P) → Number p → Inside (grown b p) p
unfolding grown
added b p n = record { left = min_second _ _ n.x; low = min_second _ _ n.y; right = max_second _ _ n.x; high = max_second _ _ n.y }

kept : (b : Bounds) (p v : P) → Number p → Inside b v → Inside (grown b p) v
unfolding grown
kept b p v n h = record { left = min_first _ _ _ n.x h.left; low = min_first _ _ _ n.y h.low; right = max_first _ _ _ n.x h.right; high = max_first _ _ _ n.y h.high }

all_kept : (b : Bounds) (ps : List P) (v : P) → ((i : ℕ) → i < length ps → Number (pt ps i)) → Inside b v → Inside (grown_by b ps) v
unfolding grown_by
all_kept b [] v n h = h
all_kept b (p ∷ ps) v n h = all_kept (grown b p) ps v (λ i l. n (suc i) (omega arith)) (kept b p v (n 0 (zero-lt-suc _)) h)

-- ---- the theorem
pub all-inside : (b : Bounds) (ps : List P) → ((i : ℕ) → i < length ps → Number (pt ps i)) → (i : ℕ) → i < length ps → Inside (grown_by b ps) (pt ps i)
unfolding grown_by
all-inside b [] n i l = absurd (not-suc-le-zero l)
all-inside b (p ∷ ps) n zero l = all_kept (grown b p) ps p (λ j m. n (suc j) (omega arith)) (added b p (n 0 (zero-lt-suc _)))
all-inside b (p ∷ ps) n (suc i) l = all-inside (grown b p) ps (λ j m. n (suc j) (omega arith)) i (le_of_suc-le-suc l)

-- the points of `bounds` lie in its box
pub points_inside : (shapes : List ℕ) (anchors : List Float) → let ps = points_from anchors 0 shapes in
    ((i : ℕ) → i < length ps → Number (pt ps i)) → (i : ℕ) → i < length ps → Inside (box_of shapes anchors) (pt ps i)
unfolding box_of
points_inside shapes anchors n i l = all-inside no_point (points_from anchors 0 shapes) n i l
