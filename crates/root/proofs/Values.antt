-- Every finite value of binary64 with its sign clear is a whole number of units of 2 ^ -1074, written with at most 53 digits and zeros after them. Assumes nothing.
use Rattle.std.proofs.Common.{◌≡◌, ℕ, zero, suc, ◌+◌, ◌-◌, ◌*◌, ◌%◌, ◌^◌, ◌<◌, ◌≤◌, true, false, ◌&&◌, T, eqb, ltb, leb, ℤ, pos, negsuc, sym, refl, ap, ◌∙◌, subst, true≢false, le_trans, le_of_eq, lt_of_lt_of_le, le_of_suc-le-suc, lt_of_le_of_lt, mul_assoc, lt_of_mul-lt-mul_right, mul-lt-mul_of_pos_right, mul-pos, one-mul, lt_of_not-le, zero-mul, mul-one, mul_right_comm, not-le_of_lt, arith, lit≤, eqb→eq, ltb→lt, leb→le, pow_pos, pow-add}
use native.Mathlib.Nat.{eq_of_mul-eq-mul_right}
use lib.Pow.{pow-lt}
use lib.Ieee.{Float, nan, inf, fin, binary64, up, down, fits}
use lib.Ieee.Exact.{HasValue}
use lib.Ieee.Fits.{and_l, and_r, down_pos}
use lib.Ieee.Positive.{num, den}
use Rattle.root.specs.Nearest.{InUnits}

pub record Digits (w : ℕ) : Type 0 where
  pub digits : ℕ
  pub zeros : ℕ
  pub is : w ≡ digits * 2 ^ zeros
  pub few : digits < 2 ^ 53
  pub under : w < 2 ^ 2098

pub record Units (y : Float) : Type 0 where
  pub count : ℕ
  pub value : HasValue y false count (2 ^ 1074)
  pub written : Digits count

-- m * up e * 2 ^ l is m * 2 ^ j * down e for a j
place : (m l : ℕ) (e : ℤ) → down e ≤ 2 ^ l → (j : ℕ) × (m * up e * 2 ^ l ≡ m * 2 ^ j * down e)
place m l (pos k) h = (k + l, mul_assoc m (2 ^ k) (2 ^ l) ∙ ap (λ (x : ℕ). m * x) (sym (pow-add 2 k l)) ∙ sym (mul-one (m * 2 ^ (k + l))))
place m l (negsuc k) h =
    let s : suc k ≤ l = le_of_suc-le-suc (lt_of_not-le (λ (g : suc l ≤ suc k). not-le_of_lt (pow-lt g) h)) in
    let e : l ≡ l - suc k + suc k = omega arith in (
      l - suc k,
      ap (λ (x : ℕ). x * 2 ^ l) (mul-one m) ∙ ap (λ (x : ℕ). m * 2 ^ x) e ∙ ap (λ (x : ℕ). m * x) (pow-add 2 (l - suc k) (suc k)) ∙ sym (mul_assoc m (2 ^ (l - suc k)) (2 ^ suc k)),
    )

under_of : (w a e : ℕ) → w * e ≡ a * 2 ^ 1074 → a < 2 ^ 1024 * e → 0 < e → w < 2 ^ 2098
under_of w a e h k E = lt_of_mul-lt-mul_right e (lt_of_le_of_lt (le_of_eq h) (lt_of_lt_of_le (mul-lt-mul_of_pos_right k (pow_pos 1074)) (le_of_eq (mul_right_comm (2 ^ 1024) e (2 ^ 1074)))))

units_at : (m : ℕ) (e : ℤ) → m < 2 ^ 53 → down e ≤ 2 ^ 1074 → m * up e < 2 ^ 1024 * down e → Units (fin false m e)
units_at m e h k l =
    let j = place m 1074 e k in
    record {
      count = m * 2 ^ j.0;
      value = (refl, j.1);
      written = record {
        digits = m;
        zeros = j.0;
        is = refl;
        few = h;
        under = under_of (m * 2 ^ j.0) (m * up e) (down e) (sym j.1) l (down_pos e);
      };
    }

-- the zeros' exponent is 0
one_down : (e : ℤ) → up e * down e ≡ 1 → down e ≡ 1
one_down (pos k) h = refl
one_down (negsuc k) h = sym (one-mul (2 ^ suc k)) ∙ h

of_parts : (m : ℕ) (e : ℤ) → T (fits binary64 (fin false m e)) → Units (fin false m e)
unfolding fits
of_parts zero e t =
    let d : down e ≡ 1 = one_down e (eqb→eq (up e * down e) 1 t) in
    units_at 0 e (pow_pos 53) (le_trans (le_of_eq d) (lit≤ tt)) (lt_of_le_of_lt (le_of_eq (zero-mul (up e))) (mul-pos (pow_pos 1024) (down_pos e)))
of_parts (suc m) e t =
    let A = eqb (suc m % 2) 1 in
    let B = ltb (suc m) (2 ^ 53) in
    let C = leb (down e) (2 ^ 1074) in
    let D = ltb (suc m * up e) (2 ^ 1024 * down e) in
    units_at (suc m) e
    (ltb→lt (suc m) (2 ^ 53) (and_r A B (and_l (A && B) C (and_l (A && B && C) D t))))
    (leb→le (down e) (2 ^ 1074) (and_r (A && B) C (and_l (A && B && C) D t)))
    (ltb→lt (suc m * up e) (2 ^ 1024 * down e) (and_r (A && B && C) D t))

pub units_of : (y : Float) (a c : ℕ) → T (fits binary64 y) → HasValue y false a c → Units y
units_of nan a c t p = absurd p
units_of (inf s) a c t p = absurd p
units_of (fin true m e) a c t p = absurd (true≢false p.0)
units_of (fin false m e) a c t p = of_parts m e t

-- a value is only one number of units
pub units_only : (y : Float) (v w : ℕ) → HasValue y false v (2 ^ 1074) → HasValue y false w (2 ^ 1074) → v ≡ w
units_only nan v w p q = absurd p
units_only (inf s) v w p q = absurd p
units_only (fin s m e) v w p q = eq_of_mul-eq-mul_right (down e) (down_pos e) v w (sym p.1 ∙ q.1)

pub digits_of : (y : Float) (w : ℕ) → InUnits y w → Digits w
digits_of y w p =
    let u = units_of y w (2 ^ 1074) p.0 p.1 in
    subst Digits (units_only y u.count w u.value p.1) u.written

-- two values of the same size, as fractions, are as many units
pub same_size : (r s : Float) (u : ℕ) → HasValue r false u (2 ^ 1074) → HasValue s false (num s) (den s) → num r * den s ≡ num s * den r → HasValue s false u (2 ^ 1074)
same_size nan s u p q h = absurd p
same_size (inf t) s u p q h = absurd p
same_size (fin t m e) nan u p q h = absurd q
same_size (fin t m e) (inf b) u p q h = absurd q
same_size (fin t m e) (fin b n d) u p q h = (
  q.0,
  carry (m * up e) (down e) (n * up d) (down d) (2 ^ 1074) u (down_pos e) p.1 h,
)
  where
    carry : (a d b e l u : ℕ) → 0 < d → a * l ≡ u * d → a * e ≡ b * d → b * l ≡ u * e
    carry a d b e l u D p q =
        eq_of_mul-eq-mul_right d D (b * l) (u * e) (mul_right_comm b l d ∙ ap (λ (x : ℕ). x * l) (sym q) ∙ mul_right_comm a e l ∙ ap (λ (x : ℕ). x * e) p ∙ mul_right_comm u d e)
