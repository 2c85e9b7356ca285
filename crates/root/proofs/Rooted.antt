-- The definitions at numbers of units: `rooted` where the root's leading 53 digits are known, `root_of` by `rooted`, and that the format holds both. Assumes nothing.
use Rattle.std.proofs.Common.{◌≡◌, ℕ, zero, suc, ◌+◌, ◌-◌, ◌*◌, ◌/◌, ◌^◌, ◌<◌, ◌≤◌, true, false, T, sym, ap, ◌∙◌, inl, inr, true≢false, le_trans, le_of_eq, lt_of_lt_of_le, lt_of_le_of_lt, mul-le-mul_right, zero-lt-suc, mul_assoc, add-mul, mul-lt-mul_of_pos_right, mul-pos, lt_of_not-le, zero-mul, mul_right_comm, not-le_of_lt, mul-div_cancel, mul_left_comm, arith, pow_pos}
use native.Mathlib.Nat.{mul-div-mul_right}
use lib.Ieee.{Float, nan, inf, fin, binary64, up, down, size, units, round, fits}
use lib.Ieee.Exact.{HasValue}
use lib.Ieee.Fits.{round_is, round-fits, down_pos, nan-fits, inf-fits}
use lib.Ieee.Nearest.{closest, closest_same}
use Rattle.root.specs.Root.{isqrt, twice, rooted, root_of}
use Rattle.root.specs.Nearest.{Nearest}
use Rattle.root.proofs.Whole.{Floor, isqrt-is, twice-is, twice-from, twice_to, root-le, sq_mul, sq_odd, sq_odd_less, sq_lt-back, four-pow}
use Rattle.root.proofs.Grid.{closest_is, excess_is}

-- ---- √(n * 4 ^ t) units round to q * 2 ^ t units, where q is the whole number nearest to √n, for an n of 105 or 106 digits

-- s is the root of 4 * n * h ^ 2, and h is 2 ^ t. 4 * √n * h is less than 2 * h from 4 * q * h, and so is what `twice` has in its place

module _ (n q h s : ℕ) (H : 0 < h) (N : Nearest n q) (F : Floor (4 * n * (h * h)) s) where
  -- r is 2 * q - 1
  from-left : (r : ℕ) → 2 * q ≡ r + 1 → 2 * (r * h) < twice (4 * n * (h * h)) s
  from-left r e = lt_of_not-le (λ (g : twice (4 * n * (h * h)) s ≤ 2 * (r * h)). not-le_of_lt square (twice_to (4 * n * (h * h)) s F (r * h) g))
    where
      square : r * h * (r * h) < 4 * n * (h * h)
      square = lt_of_le_of_lt (le_of_eq (sq_mul r h)) (mul-lt-mul_of_pos_right (omega (arith, sq_odd_less q r e, N.above)) (mul-pos H H))

  from_right : twice (4 * n * (h * h)) s < 2 * ((2 * q + 1) * h)
  from_right = lt_of_not-le (λ (g : 2 * ((2 * q + 1) * h) ≤ twice (4 * n * (h * h)) s). not-le_of_lt square (twice-from (4 * n * (h * h)) s F ((2 * q + 1) * h) g))
    where
      square : 4 * n * (h * h) < (2 * q + 1) * h * ((2 * q + 1) * h)
      square = lt_of_lt_of_le (mul-lt-mul_of_pos_right (omega (arith, sq_odd q, N.below)) (mul-pos H H)) (le_of_eq (sym (sq_mul (2 * q + 1) h)))

  -- so it rounds to q
  twice_closest : 0 < q → closest (twice (4 * n * (h * h)) s) (2 * (2 * h)) ≡ q
  twice_closest Q =
      let r = 2 * q - 1 in
      let e : 2 * q ≡ r + 1 = omega arith in
      let m : q * (2 * h) ≡ 2 * (q * h) = mul_left_comm q 2 h in
      let a : 2 * (q * h) ≡ r * h + 1 * h = sym (mul_assoc 2 q h) ∙ ap (λ (x : ℕ). x * h) e ∙ add-mul r 1 h in
      let b : (2 * q + 1) * h ≡ 2 * (q * h) + 1 * h = add-mul (2 * q) 1 h ∙ ap (λ (x : ℕ). x + 1 * h) (mul_assoc 2 q h) in
      closest_is (twice (4 * n * (h * h)) s) (2 * h) q (omega arith) (omega (arith, from-left r e)) (omega (arith, from_right))

-- the number of digits
twice_quarter : (n s : ℕ) → twice n s / 4 ≡ s / 2
twice_quarter n s = elim (twice-is n s) [ inl e ↦ omega (arith, e.0) | inr e ↦ omega (arith, e.0) ]

-- the root of a number from a * a * (p * p) up to b * b * (p * p) lies from a * p up to b * p
root-from : (m s a p : ℕ) → Floor m s → a * a * (p * p) ≤ m → a * p ≤ s
root-from m s a p F h = root-le (a * p) s (le_trans (le_of_eq (sq_mul a p)) h) F.high

root_to : (m s b p : ℕ) → Floor m s → m < b * b * (p * p) → s < b * p
root_to m s b p F h = sq_lt-back s (b * p) (lt_of_le_of_lt F.low (lt_of_lt_of_le h (le_of_eq (sym (sq_mul b p)))))

-- `round` at a number of quarters of a unit
round_quarters : (z k : ℕ) → size (z / 4) - 53 ≡ k → round binary64 false z (4 * 2 ^ 1074) ≡ units binary64 false (closest z (4 * 2 ^ k)) k
round_quarters z k e =
    round_is binary64 false z (4 * 2 ^ 1074)
    ∙ ap (λ (x : ℕ). units binary64 false (closest (z * 2 ^ 1074) (4 * 2 ^ 1074 * 2 ^ x)) x) (ap (λ (x : ℕ). size x - 53) (mul-div-mul_right z 4 (pow_pos 1074)) ∙ e)
    ∙ ap (λ (x : ℕ). units binary64 false x k) (same z (2 ^ 1074) (2 ^ k) (pow_pos 1074) (pow_pos k))
  where
    same : (z l u : ℕ) → 0 < l → 0 < u → closest (z * l) (4 * l * u) ≡ closest z (4 * u)
    same z l u L U = closest_same (z * l) (4 * l * u) z (4 * u) (mul-pos (mul-pos (zero-lt-suc 3) L) U) (mul-pos (zero-lt-suc 3) U) (simp (mul_assoc, mul_left_comm))

-- with p for 2 ^ t
root_excess : (n t s : ℕ) → 2 ^ 104 ≤ n → n < 2 ^ 106 → Floor (4 * n * (2 ^ t * 2 ^ t)) s → size (s / 2) - 53 ≡ t
root_excess n t s lo hi F =
    let p = 2 ^ t in
    let a : 2 ^ 53 * p ≤ s = root-from (4 * n * (p * p)) s (2 ^ 53) p F (mul-le-mul_right (p * p) (omega arith)) in
    let b : s < 2 ^ 54 * p = root_to (4 * n * (p * p)) s (2 ^ 54) p F (mul-lt-mul_of_pos_right (omega arith) (mul-pos (pow_pos t) (pow_pos t))) in
    excess_is (s / 2) t (omega arith) (omega arith)

pub rooted_at : (n q t : ℕ) → 2 ^ 104 ≤ n → n < 2 ^ 106 → 0 < q → Nearest n q → rooted (n * 4 ^ t) ≡ units binary64 false q t
unfolding rooted
rooted_at n q t lo hi Q N =
    let p = 2 ^ t in
    let m = 4 * n * (p * p) in
    let s = isqrt m in
    let F : Floor m s = isqrt-is m in
    let e : 4 * (n * 4 ^ t) ≡ m = ap (λ (x : ℕ). 4 * (n * x)) (four-pow t) ∙ sym (mul_assoc 4 n (p * p)) in
    let z : size (twice m s / 4) - 53 ≡ t = ap (λ (x : ℕ). size x - 53) (twice_quarter m s) ∙ root_excess n t s lo hi F in
    let d : 4 * p ≡ 2 * (2 * p) = omega arith in
    ap (λ (x : ℕ). round binary64 false (twice x (isqrt x)) (4 * 2 ^ 1074)) e
    ∙ round_quarters (twice m s) t z
    ∙ ap (λ (x : ℕ). units binary64 false (closest (twice m s) x) t) d
    ∙ ap (λ (x : ℕ). units binary64 false x t) (twice_closest n q p s (pow_pos t) N F Q)

-- ---- the definition `root_of` at a number of units

in_squares : (a d n l : ℕ) → 0 < d → a * l ≡ n * d → a * (l * l) / d ≡ n * l
in_squares a d n l D e = ap (λ (x : ℕ). x / d) (sym (mul_assoc a l l) ∙ ap (λ (x : ℕ). x * l) e ∙ mul_right_comm n d l) ∙ mul-div_cancel (n * l) D

pub root_of_at : (x : Float) (n : ℕ) → 0 < n → HasValue x false n (2 ^ 1074) → root_of x ≡ rooted (n * 2 ^ 1074)
unfolding root_of
root_of_at nan n N p = absurd p
root_of_at (inf s) n N p = absurd p
root_of_at (fin true m e) n N p = absurd (true≢false p.0)
root_of_at (fin false zero e) n N p = absurd (none (n * down e) (mul-pos N (down_pos e)) (sym (ap (λ (x : ℕ). x * 2 ^ 1074) (zero-mul (up e))) ∙ p.1))
  where
    none : (k : ℕ) → 0 < k → 0 ≡ k → ⊥
    none k h z = omega arith
root_of_at (fin false (suc m) e) n N p = ap rooted (in_squares (suc m * up e) (down e) n (2 ^ 1074) (down_pos e) p.1)

-- ---- the format holds every root

pub rooted-fits : (n : ℕ) → T (fits binary64 (rooted n))
unfolding rooted
rooted-fits n = round-fits binary64 false (twice (4 * n) (isqrt (4 * n))) (4 * 2 ^ 1074)

pub root_of-fits : (x : Float) → T (fits binary64 x) → T (fits binary64 (root_of x))
unfolding root_of
root_of-fits nan F = nan-fits binary64
root_of-fits (inf false) F = inf-fits binary64 false
root_of-fits (inf true) F = nan-fits binary64
root_of-fits (fin s zero e) F = F
root_of-fits (fin true (suc m) e) F = nan-fits binary64
root_of-fits (fin false (suc m) e) F = rooted-fits (suc m * up e * 4 ^ 1074 / down e)
