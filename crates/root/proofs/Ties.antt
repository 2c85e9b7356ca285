-- `rooted n` is the value nearest to √n units, a tie to even, for every n below the overflow, and from there on the infinity. Assumes nothing.
use Rattle.std.proofs.Common.{◌≡◌, ℕ, ◌+◌, ◌-◌, ◌*◌, ◌%◌, ◌^◌, ◌<◌, ◌≤◌, true, false, T, sym, refl, ap, ◌∙◌, subst, le_trans, le_of_eq, lt_of_lt_of_le, lt_of_le_of_lt, mul-le-mul_right, zero-lt-suc, mul_assoc, mul-le-mul, mul-lt-mul_of_pos_right, mul-pos, lt_of_not-le, not-le_of_lt, le_of_mul-le-mul_right, mul_left_comm, arith, lit<, lit≤, pow_pos}
use native.Mathlib.Decide.{dec_le}
use lib.Arith.{lt_of_le-ne}
use lib.Ieee.{Float, nan, inf, fin, binary64, round, le}
use lib.Ieee.Order.{kept, drop, round_mono}
use lib.Ieee.Scale.{round_val}
use Rattle.root.specs.Root.{isqrt, twice, rooted, root_of}
use Rattle.root.specs.Nearest.{InUnits, NearestEven, edge}
use Rattle.root.proofs.Whole.{isqrt-is, twice-from, twice_to, twice_at, twice_above}
use Rattle.root.proofs.Grid.{Rounded, rounded}
use Rattle.root.proofs.Values.{digits_of}
use Rattle.root.proofs.Patterns.{pattern_even}
use Rattle.root.proofs.Rooted.{rooted-fits, root_of_at}

-- ---- c units against z quarters, with l for how many units make 1
units_le : (c z l : ℕ) → 0 < l → c * (4 * l) ≤ 2 * (z * l) → 2 * c ≤ z
units_le c z l L h =
    let g : c * 4 ≤ 2 * z = le_of_mul-le-mul_right (le_trans (le_of_eq (mul_assoc c 4 l)) (le_trans h (le_of_eq (sym (mul_assoc 2 z l))))) L in
    omega arith

units_ge : (c z l : ℕ) → 0 < l → 2 * (z * l) ≤ c * (4 * l) → z ≤ 2 * c
units_ge c z l L h =
    let g : 2 * z ≤ c * 4 = le_of_mul-le-mul_right (le_trans (le_of_eq (mul_assoc 2 z l)) (le_trans h (le_of_eq (sym (mul_assoc c 4 l))))) L in
    omega arith

units_eq : (c z l : ℕ) → z ≡ 2 * c → c * (4 * l) ≡ 2 * (z * l)
units_eq c z l e = mul_left_comm c 4 l ∙ omega (arith, ap (λ (x : ℕ). x * l) e, mul_assoc 2 c l)

-- ---- from a fraction, z quarters, to the root: q * 2 ^ k is what `round` makes of z, and w is another value
module _ (n q k l : ℕ) (L : 0 < l) (R : Rounded (twice (4 * n) (isqrt (4 * n)) * l) (4 * l) q k) where
  abbrev quarters : ℕ
  quarters = twice (4 * n) (isqrt (4 * n))

  below_at : (d j : ℕ) → d < 2 ^ 53 → d * 2 ^ j < q * 2 ^ k → (q * 2 ^ k + d * 2 ^ j) * (q * 2 ^ k + d * 2 ^ j) ≤ 4 * n
  below_at d j D h =
      let c = q * 2 ^ k + d * 2 ^ j in
      twice-from (4 * n) (isqrt (4 * n)) (isqrt-is (4 * n)) c (units_le c quarters l L (R.if_below d j D h))

  above_at : (d j : ℕ) → d < 2 ^ 53 → q * 2 ^ k < d * 2 ^ j → 4 * n ≤ (q * 2 ^ k + d * 2 ^ j) * (q * 2 ^ k + d * 2 ^ j)
  above_at d j D h =
      let c = q * 2 ^ k + d * 2 ^ j in
      twice_to (4 * n) (isqrt (4 * n)) (isqrt-is (4 * n)) c (units_ge c quarters l L (R.if_above d j D h))

  tie_at : (d j : ℕ) → d < 2 ^ 53 → (d * 2 ^ j ≡ q * 2 ^ k → ⊥) → (q * 2 ^ k + d * 2 ^ j) * (q * 2 ^ k + d * 2 ^ j) ≡ 4 * n → q % 2 ≡ 0
  tie_at d j D a e =
      let c = q * 2 ^ k + d * 2 ^ j in
      let t : c * (4 * l) ≡ 2 * (quarters * l) = units_eq c quarters l (twice_at (4 * n) (isqrt (4 * n)) (isqrt-is (4 * n)) c e) in
      elim (dec_le (d * 2 ^ j) (q * 2 ^ k)) [
        | yes h ↦ R.tie_below d j D (lt_of_le-ne h a) t
        | no h ↦ R.tie_above d j D (lt_of_not-le h) t
      ]

  -- below the edge it is finite
  finite_at : 4 * n < edge * edge → q * 2 ^ k < 2 ^ 2098
  unfolding edge
  finite_at h = lt_of_not-le (λ (g : 2 ^ 2098 ≤ q * 2 ^ k). not-le_of_lt h (le_trans (sums ((2 ^ 53 - 1) * 2 ^ 2045) (2 ^ 2098) (q * 2 ^ k) g) (past g)))
    where
      past : 2 ^ 2098 ≤ q * 2 ^ k → (q * 2 ^ k + (2 ^ 53 - 1) * 2 ^ 2045) * (q * 2 ^ k + (2 ^ 53 - 1) * 2 ^ 2045) ≤ 4 * n
      past g = below_at (2 ^ 53 - 1) 2045 (lit< tt) (lt_of_lt_of_le (lit< tt) g)

      sums : (a b r : ℕ) → b ≤ r → (a + b) * (a + b) ≤ (r + a) * (r + a)
      sums a b r h =
          let l : a + b ≤ r + a = omega arith in
          mul-le-mul l l

  -- a float r of so many units is nearest to √n
  nearest_at : (r : Float) → InUnits r (q * 2 ^ k) → NearestEven n r
  nearest_at r v =
      let u = q * 2 ^ k in
      record {
        units = u;
        value = v;
        if_below = λ y w p h.
            let D = digits_of y w p in
            subst (λ (x : ℕ). (u + x) * (u + x) ≤ 4 * n) (sym D.is) (below_at D.digits D.zeros D.few (lt_of_le_of_lt (le_of_eq (sym D.is)) h));
        if_above = λ y w p h.
            let D = digits_of y w p in
            subst (λ (x : ℕ). 4 * n ≤ (u + x) * (u + x)) (sym D.is) (above_at D.digits D.zeros D.few (lt_of_lt_of_le h (le_of_eq D.is)));
        if_tie = λ y w p a e.
            let D = digits_of y w p in
            let other : D.digits * 2 ^ D.zeros ≡ u → ⊥ = λ s. a (D.is ∙ s) in
            pattern_even r q k R.few (tie_at D.digits D.zeros D.few other (ap (λ (x : ℕ). (u + x) * (u + x)) (sym D.is) ∙ e)) v.1;
      }

pub nearest_even : (n : ℕ) → 4 * n < edge * edge → NearestEven n (rooted n)
unfolding rooted
nearest_even n h =
    let z = twice (4 * n) (isqrt (4 * n)) in
    let l = 2 ^ 1074 in
    let q = kept 53 (z * l) (4 * l) in
    let k = drop 53 (z * l) (4 * l) in
    let R : Rounded (z * l) (4 * l) q k = rounded (z * l) (4 * l) (mul-pos (zero-lt-suc 3) (pow_pos 1074)) in
    nearest_at n q k l (pow_pos 1074) R (rooted n) (rooted-fits n, round_val binary64 z (4 * l) (finite_at n q k l (pow_pos 1074) R h))

-- the root of a value x of m units is √(m * 2 ^ 1074) units: it is below 2 ^ 1586 units, far from the edge
far_edge : 4 * (2 ^ 2098 * 2 ^ 1074) ≤ edge * edge
unfolding edge
far_edge = lit≤ tt

pub root-nearest_even : (x : Float) (m : ℕ) → InUnits x m → 0 < m → NearestEven (m * 2 ^ 1074) (root_of x)
root-nearest_even x m p M =
    subst (λ (r : Float). NearestEven (m * 2 ^ 1074) r) (sym (root_of_at x m M p.1))
    (nearest_even (m * 2 ^ 1074) (lt_of_lt_of_le (times_4 (mul-lt-mul_of_pos_right (digits_of x m p).under (pow_pos 1074))) far_edge))
  where
    times_4 : {a b : ℕ} → a < b → 4 * a < 4 * b
    times_4 h = omega arith

-- ---- from the edge on

at_edge : round binary64 false (2 * edge) (4 * 2 ^ 1074) ≡ inf false
unfolding round edge
at_edge = refl

only_infinity : (y : Float) → T (le (inf false) y) → y ≡ inf false
unfolding le
only_infinity nan h = absurd h
only_infinity (inf true) h = absurd h
only_infinity (inf false) h = refl
only_infinity (fin s m e) h = absurd h

pub overflow : (n : ℕ) → edge * edge ≤ 4 * n → rooted n ≡ inf false
unfolding rooted
overflow n h =
    let z = twice (4 * n) (isqrt (4 * n)) in
    let d = 4 * 2 ^ 1074 in
    let D : 0 < d = mul-pos (zero-lt-suc 3) (pow_pos 1074) in
    only_infinity (rooted n)
    (subst (λ (y : Float). T (le y (rooted n))) at_edge
    (round_mono binary64 (2 * edge) d z d D D (mul-le-mul_right d (twice_above (4 * n) (isqrt (4 * n)) (isqrt-is (4 * n)) edge h))))
