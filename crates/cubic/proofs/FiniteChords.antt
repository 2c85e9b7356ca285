-- The chord sums of a cubic whose control points are within the limit are finite, for any number of chords that a float counts; so what one of them exceeds the last exceeds. Assumes nothing.
use mathlib.Core.Path.{◌≡◌, refl, sym, subst}
use mathlib.Core.Bool.{true, false}
use mathlib.Core.List.{List}
use Prim.Native.Nat.{ℕ, suc, ◌+◌, ◌^◌, ◌≤◌, ◌<◌}
use native.Mathlib.Omega.{arith}
use lib.Dec.{T, lit<, lit≤}
use lib.IntN.{pos}
use lib.Ieee.{Float, lt, of_bits}
use lib.Ieee.Scale.{finite}
use Rattle.views.proofs.Bools.{both}
use Rattle.views.proofs.Searches.{all_says}
use Rattle.root.specs.Root.{root_of}
use Rattle.real.specs.Finite.{is_finite}
use Rattle.real.specs.Operators.{◌⊖◌, ◌⊗◌, 1f, 3f}
use Rattle.real.specs.Sums.{running}
use Rattle.real.proofs.Magnitudes.{Under, under, root_under, under_finite, is_finite_lem}
use Rattle.real.proofs.PowersOfTwo.{power, scaled, wider, mul_power, add_power, sub_power, running_under, share_under, limit_power}
use Rattle.real.proofs.Tables.{square_rises, sum_rises, finite_nonneg, above_stays}
use Rattle.geom.specs.declared.point.P.{P}
use Rattle.geom.specs.Point.{plus, minus, times, point_in, len, dist}
use Rattle.geom.specs.Flat.{pt}
use Rattle.cubic.specs.Cubic.{cubic_at}
use Rattle.cubic.specs.Limits.{curve_in}
use Rattle.cubic.specs.Sample.{step_at, chord}
use Rattle.cubic.proofs.Chords.{chord_rises}

-- both coordinates are of magnitude at most 2^j
abbrev Near : P → ℕ → Type 0
Near p j = Under p.x (power j) × Under p.y (power j)

root_52 : root_of (power 52) ≡ power 26
unfolding root_of
root_52 = refl

-- ---- points
wider_near : (p : P) (j k : ℕ) → j ≤ k → Near p j → Near p k
wider_near p j k h n = (wider j k h n.0, wider j k h n.1)

plus-near : (p q : P) (j : ℕ) → j ≤ 971 → Near p j → Near q j → Near (plus p q) (suc j)
unfolding plus
plus-near p q j h m n = (add_power j h m.0 n.0, add_power j h m.1 n.1)

minus-near : (p q : P) (j : ℕ) → j ≤ 971 → Near p j → Near q j → Near (minus p q) (suc j)
unfolding minus
minus-near p q j h m n = (sub_power j h m.0 n.0, sub_power j h m.1 n.1)

times-near : (p : P) (w : Float) (j k : ℕ) → j + k ≤ 971 → Near p j → Under w (power k) → Near (times p w) (j + k)
unfolding times
times-near p w j k h n u = (mul_power j k h n.0 u, mul_power j k h n.1 u)

len_under : (p : P) → Near p 25 → Under (len p) (power 26)
unfolding len
len_under p n =
    let s = wider 51 52 (lit≤ tt) (add_power 50 (lit≤ tt) (mul_power 25 25 (lit≤ tt) n.0 n.0) (mul_power 25 25 (lit≤ tt) n.1 n.1)) in
    subst (Under _) root_52
    (root_under s (finite_nonneg (sum_rises _ _ (square_rises p.x) (square_rises p.y)) (under_finite s)) (subst (λ z. T (finite z)) (sym root_52) tt))

point-near : (p : P) → point_in p ≡ true → Near p 17
unfolding point_in
point-near p h = let w = both _ _ h in (limit_power p.x w.0, limit_power p.y w.1)

-- ---- a point of the cubic, at t from 0 to 1: 1 - t is bounded by 2, and that is enough
module _ (t : Float) (small : Under t (power 0)) where
  rest : Under (1f ⊖ t) (power 1)
  unfolding of_bits
  rest = sub_power 0 (lit≤ tt) (under false 1 (pos 0) 1 (pos 0) (lit≤ tt)) small

  three : Under (3f ⊗ (1f ⊖ t)) (power 3)
  unfolding of_bits
  three = mul_power 2 1 (lit≤ tt) (under false 3 (pos 0) 1 (pos 2) (lit≤ tt)) rest

  cubic-near : (c : List P) → ((i : ℕ) → i < 4 → Near (pt c i) 17) → Near (cubic_at c t) 24
  unfolding cubic_at
  cubic-near c n =
      let u = 1f ⊖ t in
      let a = times-near (pt c 0) (u ⊗ u ⊗ u) 17 3 (lit≤ tt) (n 0 (lit< tt)) (mul_power 2 1 (lit≤ tt) (mul_power 1 1 (lit≤ tt) rest rest) rest) in
      let b = times-near (pt c 1) (3f ⊗ u ⊗ u ⊗ t) 17 4 (lit≤ tt) (n 1 (lit< tt)) (mul_power 4 0 (lit≤ tt) (mul_power 3 1 (lit≤ tt) three rest) small) in
      let d = times-near (pt c 2) (3f ⊗ u ⊗ t ⊗ t) 17 3 (lit≤ tt) (n 2 (lit< tt)) (mul_power 3 0 (lit≤ tt) (mul_power 3 0 (lit≤ tt) three small) small) in
      let e = times-near (pt c 3) (t ⊗ t ⊗ t) 17 0 (lit≤ tt) (n 3 (lit< tt)) (mul_power 0 0 (lit≤ tt) (mul_power 0 0 (lit≤ tt) small small) small) in
      plus-near _ _ 23 (lit≤ tt) (plus-near _ _ 22 (lit≤ tt) (plus-near _ _ 21 (lit≤ tt) (wider_near _ 20 21 (lit≤ tt) a) b) (wider_near _ 20 22 (lit≤ tt) d)) (wider_near _ 17 23 (lit≤ tt) e)

-- ---- the chords
module _ (c : List P) (n : ℕ) (within : curve_in c ≡ true) (some : 0 < n) (counted : n < 2 ^ 53) where
  step-near : (k : ℕ) → k ≤ n → Near (step_at c n k) 24
  unfolding step_at curve_in of_bits
  step-near k h = cubic-near _ (share_under k n h some counted) c (λ i l. point-near (pt c i) (all_says _ 4 within i l))

  chord_under : (k : ℕ) → k < n → Under (chord c n k) (power 26)
  unfolding chord dist
  chord_under k h = len_under _ (minus-near _ _ 24 (lit≤ tt) (step-near k (omega arith)) (step-near (k + 1) (omega arith)))

  chords_under : (k : ℕ) → k ≤ n → Under (running (chord c n) k) (scaled k 26)
  chords_under k h = running_under (chord c n) 26 k (omega arith) (lit≤ tt) (λ j l. chord_under j (omega arith))

  pub chords_finite : (k : ℕ) → k ≤ n → T (finite (running (chord c n) k))
  chords_finite k h = under_finite (chords_under k h)

  pub chords_is_finite : (k : ℕ) → k ≤ n → is_finite (running (chord c n) k) ≡ true
  chords_is_finite k h = is_finite_lem (chords_under k h)

  pub chords_above : (s : Float) (k : ℕ) → k ≤ n → lt s (running (chord c n) k) ≡ true → lt s (running (chord c n) n) ≡ true
  chords_above s k h e = above_stays (chord c n) (chord_rises c n) s k n h (chords_finite n (omega arith)) e
