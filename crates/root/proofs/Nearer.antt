-- The root of a positive value is nearer to its exact root than any other value is, and it is the only value of which that holds. Assumes nothing.
use Rattle.std.proofs.Common.{◌≡◌, ℕ, suc, ◌+◌, ◌-◌, ◌*◌, ◌^◌, ◌<◌, ◌≤◌, false, T, sym, refl, ap, ◌∙◌, inl, inr, le_trans, lt_trans, le_of_eq, lt_of_lt_of_le, le_of_suc-le-suc, lt_of_le_of_lt, lt_irrefl, mul-le-mul_right, mul_assoc, mul_comm, add-mul, mul-le-mul, add_comm, le_antisymm, mul-lt-mul_of_pos_right, mul-pos, lt_of_not-le, arith, pow_pos}
use lib.Ieee.{Float, nan, inf, fin, binary64, fits}
use lib.Ieee.Exact.{HasValue}
use lib.Ieee.Positive.{num, den, den_pos, positive, value→cross}
use Rattle.root.specs.Root.{root_of}
use Rattle.root.specs.Nearest.{sum, Nearer, Root, Correct}
use Rattle.root.proofs.Whole.{sq_mul, sq_lt, four-pow}
use Rattle.root.proofs.Grid.{next_below, next_above}
use Rattle.root.proofs.Values.{Units, units_of, same_size}
use Rattle.root.proofs.Patterns.{same_units}
use Rattle.root.proofs.Rooted.{root_of-fits}
use Rattle.root.proofs.Fractions.{is_below, is_above, to_below, to_above}
use Rattle.root.proofs.Strict.{root_is}

-- ---- in units: r is q * p, for p a power 2 ^ t, and another value is w = d * 2 ^ j. Each way the midpoint (r + w) / 2 and √(n * p * p) are on the side that makes r the nearer

up_le : (s c p k : ℕ) → s ≤ c * p → c * c < k → 0 < p → s * s < k * (p * p)
up_le s c p k h l P = lt_of_le_of_lt (mul-le-mul h h) (lt_of_le_of_lt (le_of_eq (sq_mul c p)) (mul-lt-mul_of_pos_right l (mul-pos P P)))

up_lt : (s c p k : ℕ) → s < c * p → c * c ≤ k → s * s < k * (p * p)
up_lt s c p k h l = lt_of_lt_of_le (sq_lt s (c * p) h) (le_trans (le_of_eq (sq_mul c p)) (mul-le-mul_right (p * p) l))

down_le : (s c p k : ℕ) → c * p ≤ s → k < c * c → 0 < p → k * (p * p) < s * s
down_le s c p k h l P = lt_of_lt_of_le (mul-lt-mul_of_pos_right l (mul-pos P P)) (le_trans (le_of_eq (sym (sq_mul c p))) (mul-le-mul h h))

module _ (n q t d j : ℕ) (lo : 2 ^ 52 ≤ q) (nlo : 2 ^ 104 ≤ n) (above : (2 * q - 1) * (2 * q - 1) < 4 * n) (below : 4 * n < (2 * q + 1) * (2 * q + 1)) (D : d < 2 ^ 53) where
  lower : d * 2 ^ j < q * 2 ^ t → (q * 2 ^ t + d * 2 ^ j) * (q * 2 ^ t + d * 2 ^ j) < 4 * n * (2 ^ t * 2 ^ t)
  lower h = elim (next_below q t d j D lo h) [
    | inl g ↦ up_le (q * 2 ^ t + d * 2 ^ j) (2 * q - 1) (2 ^ t) (4 * n) (to_middle g) above (pow_pos t)
    | inr e ↦ up_lt (q * 2 ^ t + d * 2 ^ j) (2 ^ 53) (2 ^ t) (4 * n) (at_power e) (omega arith)
  ]
    where
      to_middle : d * 2 ^ j + 2 ^ t ≤ q * 2 ^ t → q * 2 ^ t + d * 2 ^ j ≤ (2 * q - 1) * 2 ^ t
      to_middle g =
          let s : 2 * q ≡ 2 * q - 1 + 1 = omega arith in
          let m : 2 * q * 2 ^ t ≡ (2 * q - 1) * 2 ^ t + 1 * 2 ^ t = ap (λ (x : ℕ). x * 2 ^ t) s ∙ add-mul (2 * q - 1) 1 (2 ^ t) in
          omega (arith, mul_assoc 2 q (2 ^ t))

      at_power : q ≡ 2 ^ 52 → q * 2 ^ t + d * 2 ^ j < 2 ^ 53 * 2 ^ t
      at_power e = omega (arith, ap (λ (x : ℕ). x * 2 ^ t) e)

  higher : q * 2 ^ t < d * 2 ^ j → 4 * n * (2 ^ t * 2 ^ t) < (q * 2 ^ t + d * 2 ^ j) * (q * 2 ^ t + d * 2 ^ j)
  higher h = down_le (q * 2 ^ t + d * 2 ^ j) (2 * q + 1) (2 ^ t) (4 * n) (omega (arith, next_above q t d j D lo h, add-mul (2 * q) 1 (2 ^ t), mul_assoc 2 q (2 ^ t))) below (pow_pos t)

-- ---- in fractions
nearer-of : (x y r : Float) → Correct x r → Units y → Nearer x y r
nearer-of x y r g u =
    let l = 2 ^ 1074 in
    let R = g.q * 2 ^ g.t in
    let D = u.written in
    let W = D.digits * 2 ^ D.zeros in
    let k = g.n * 4 ^ g.t in
    let A : num r * l ≡ R * den r = value→cross r R l g.value in
    let B : num y * l ≡ W * den y = value→cross y u.count l u.value ∙ ap (λ (v : ℕ). v * den y) D.is in
    let s : 4 * g.n * (2 ^ g.t * 2 ^ g.t) ≡ 4 * k = mul_assoc 4 g.n (2 ^ g.t * 2 ^ g.t) ∙ ap (λ (v : ℕ). 4 * (g.n * v)) (sym (four-pow g.t)) in
    record {
      if_below = λ h.
          to_below (num r) (den r) (num y) (den y) (num x) (den x) l R W k (pow_pos 1074) (den_pos r) (den_pos y) (den_pos x) A B g.square
          (lt_of_lt_of_le (lower g.n g.q g.t D.digits D.zeros g.q_from g.n_from g.above g.below D.few
          (is_below (num r) (den r) (num y) (den y) (num x) (den x) l R W k (pow_pos 1074) (den_pos r) (den_pos y) (den_pos x) A B g.square h)) (le_of_eq s));
      if_above = λ h.
          to_above (num r) (den r) (num y) (den y) (num x) (den x) l R W k (pow_pos 1074) (den_pos r) (den_pos y) (den_pos x) A B g.square
          (lt_of_le_of_lt (le_of_eq (sym s)) (higher g.n g.q g.t D.digits D.zeros g.q_from g.n_from g.above g.below D.few
          (is_above (num r) (den r) (num y) (den y) (num x) (den x) l R W k (pow_pos 1074) (den_pos r) (den_pos y) (den_pos x) A B g.square h)));
    }

-- y is any value of the format that is finite and not negative
pub nearest-root : (x y : Float) → T (positive x) → T (fits binary64 x) → T (fits binary64 y) → HasValue y false (num y) (den y) → Nearer x y (root_of x)
nearest-root x y P F G p = nearer-of x y (root_of x) (root_is x P F) (units_of y (num y) (den y) G p)

-- ---- and it is the only value of which that holds

own_of : (x : Float) (a c : ℕ) → HasValue x false a c → HasValue x false (num x) (den x)
own_of nan a c p = p
own_of (inf s) a c p = p
own_of (fin s m e) a c p = (p.0, refl)

pub root_of-is-root : (x : Float) → T (positive x) → T (fits binary64 x) → Root x (root_of x)
root_of-is-root x P F =
    let g = root_is x P F in
    record {
      held = root_of-fits x F;
      own = own_of (root_of x) (g.q * 2 ^ g.t) (2 ^ 1074) g.value;
      nearest = λ y G p. nearest-root x y P F G p;
    }

-- two roots: with the one below the other, the midpoint would be below √x and above it
apart : (x r s : Float) → Root x r → Root x s → num r * den s < num s * den r → ⊥
apart x r s a b h =
    let lo = (b.nearest r a.held a.own).if_below h in
    let hi = (a.nearest s b.held b.own).if_above h in
    let c : sum s r ≡ sum r s = add_comm (num r * den s) (num s * den r) in
    let k : den r * den s ≡ den s * den r = mul_comm (den r) (den s) in
    lt_irrefl (4 * num x * (den r * den s * (den r * den s)))
    (lt_trans hi (lt_of_le_of_lt (le_of_eq (ap (λ (v : ℕ). v * v * den x) c)) (lt_of_lt_of_le lo (le_of_eq (ap (λ (v : ℕ). 4 * num x * (v * v)) (sym k))))))

pub only_root : (x r : Float) → T (positive x) → T (fits binary64 x) → Root x r → r ≡ root_of x
only_root x r P F a =
    let b = root_of-is-root x P F in
    let s = root_of x in
    let u = units_of r (num r) (den r) a.held a.own in
    same_units r s u.count (a.held, u.value) (
      b.held,
      same_size r s u.count u.value b.own
          (le_antisymm
          (le_of_suc-le-suc (lt_of_not-le (λ (g : suc (num s * den r) ≤ num r * den s). apart x s r b a g)))
          (le_of_suc-le-suc (lt_of_not-le (λ (g : suc (num r * den s) ≤ num s * den r). apart x r s a b g)))),
    )
