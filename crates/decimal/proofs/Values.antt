-- The nearest thousandth from a bit pattern. Assumes nothing.
use mathlib.Core.Path.{◌≡◌, refl, sym, ap, ◌∙◌, subst}
use mathlib.Core.Logic.{⊎_elim}
use mathlib.Core.Bool.{Bool, true, false, not, cond, true≢false}
use Prim.Native.Nat.{ℕ, zero, suc, ◌+◌, ◌-◌, ◌*◌, ◌/◌, ◌%◌, ◌^◌, ◌≤◌, ◌<◌, zero-le, compare, Ordering}
use native.Mathlib.Nat.{le_trans, le_of_eq, lt_of_lt_of_le, lt_irrefl, mod-eq_of_lt, div-eq_of_lt, mul-one, mul_assoc, mul_right_comm, mul-le-mul_right, mul-le-mul_left, le_of_mul-le-mul_right, le-add_right, add_comm}
use native.Mathlib.Omega.{arith}
use borrow.Author.Tests.{leb-true, eqb-true, leb-false}
use lib.Dec.{T, leb, eqb, is_le, compare_is_eq, eqb→eq, not_T, lit<, lit≤}
use lib.Pow.{pow-add, pow_pos, pow_mono, shl_lt, field}
use lib.Ieee.{Float, nan, inf, fin, binary64, up, down, odd, nearest, of_fields, of_bits, to_bits, fits, is_nan}
use lib.Ieee.Bits.{of_bits-to_bits}
use lib.Ieee.Bits.{is_true, cond_no}
use lib.Ieee.Exact.{HasValue, odd_sign}
use lib.Ieee.Fits.{down_pos}
use lib.Ieee.Nearest.{closest, closest_same, closest_mono}
use Rattle.std.specs.Float.{is_sign_negative}
use Rattle.real.specs.Limit.{in_limit}
use Rattle.views.proofs.Laws.{order}
use Rattle.decimal.specs.Rounding.{thousandths_of, sign_of}

-- ---- `closest` by how twice the remainder compares
pub lt_compare : (a b : ℕ) → a < b → compare a b ≡ Ordering.lt
lt_compare a b h = go (compare a b) refl
  where
    go : (o : Ordering) → compare a b ≡ o → o ≡ Ordering.lt
    go Ordering.lt e = refl
    go Ordering.eq e = let q : a ≡ b = eqb-true a b (ap compare_is_eq e) in absurd (omega arith)
    go Ordering.gt e = let q : b < a = leb-false a b (ap is_le e) in absurd (omega arith)

pub eq_compare : (a b : ℕ) → a ≡ b → compare a b ≡ Ordering.eq
eq_compare a b h = go (compare a b) refl
  where
    go : (o : Ordering) → compare a b ≡ o → o ≡ Ordering.eq
    go Ordering.lt e = absurd (true≢false (sym (is_true (eqb a b) (subst (λ z. T (eqb a z)) h (lib.Dec.eqb_refl a))) ∙ ap compare_is_eq e))
    go Ordering.eq e = refl
    go Ordering.gt e = let q : b < a = leb-false a b (ap is_le e) in absurd (omega arith)

pub gt_compare : (a b : ℕ) → b < a → compare a b ≡ Ordering.gt
gt_compare a b h = go (compare a b) refl
  where
    go : (o : Ordering) → compare a b ≡ o → o ≡ Ordering.gt
    go Ordering.lt e = let q : a ≤ b = leb-true a b (ap is_le e) in absurd (omega arith)
    go Ordering.eq e = let q : a ≡ b = eqb-true a b (ap compare_is_eq e) in absurd (omega arith)
    go Ordering.gt e = refl

pub closest_down : (n d : ℕ) → n % d * 2 < d → closest n d ≡ n / d
closest_down n d h = ap (nearest (n / d)) (lt_compare (n % d * 2) d h)

pub closest_tie : (n d : ℕ) → n % d * 2 ≡ d → closest n d ≡ n / d + n / d % 2
closest_tie n d h = ap (nearest (n / d)) (eq_compare (n % d * 2) d h)

pub closest_up : (n d : ℕ) → d < n % d * 2 → closest n d ≡ suc (n / d)
closest_up n d h = ap (nearest (n / d)) (gt_compare (n % d * 2) d h)

pub closest_zero : (n d : ℕ) → n * 2 < d → closest n d ≡ 0
closest_zero n d h =
    let l : n < d = omega arith in
    closest_down n d (subst (λ z. z * 2 < d) (sym (mod-eq_of_lt l)) h) ∙ div-eq_of_lt l

-- ---- from any fraction of the same value
pub thousandths_value : (x : Float) (s : Bool) (a c : ℕ) → 0 < c → HasValue x s a c → thousandths_of x ≡ closest (a * 1000) c
unfolding thousandths_of
thousandths_value nan s a c C p = absurd p
thousandths_value (inf t) s a c C p = absurd p
thousandths_value (fin t m e) s a c C p =
    closest_same (m * up e * 1000) (down e) (a * 1000) c (down_pos e) C
    (mul_right_comm (m * up e) 1000 c ∙ ap (λ z. z * 1000) p.1 ∙ mul_right_comm a (down e) 1000)

pub sign_value : (x : Float) (s : Bool) (a c : ℕ) → HasValue x s a c → sign_of x ≡ s
unfolding sign_of
sign_value nan s a c p = absurd p
sign_value (inf t) s a c p = absurd p
sign_value (fin t m e) s a c p = p.0

pub limit_value : (x : Float) (s : Bool) (a c : ℕ) → in_limit x ≡ true → HasValue x s a c → a ≤ 131072 * c
unfolding in_limit
limit_value nan s a c l p = absurd p
limit_value (inf t) s a c l p = absurd p
limit_value (fin t m e) s a c l p =
    le_of_mul-le-mul_right
    (le_trans (le_of_eq (sym p.1)) (le_trans (mul-le-mul_right c (leb-true (m * up e) (131072 * down e) l)) (le_of_eq (mul_right_comm 131072 (down e) c))))
    (down_pos e)

pub limit_no_nan : (x : Float) → in_limit x ≡ true → T (not (is_nan x))
unfolding in_limit is_nan
limit_no_nan nan l = absurd (true≢false (sym l))
limit_no_nan (inf s) l = tt
limit_no_nan (fin s m e) l = tt

pub sign_negative : (x : Float) → is_sign_negative x ≡ sign_of x
unfolding is_sign_negative sign_of
sign_negative nan = refl
sign_negative (inf s) = refl
sign_negative (fin s m e) = refl

-- ---- what a pattern stands for, by its field and its digits
of_bits_is : (b : ℕ) → of_bits binary64 b ≡ of_fields binary64 (leb (2 ^ 63) b) (b / 2 ^ 52 % 2048) (b % 2 ^ 52)
unfolding of_bits
of_bits_is b = ap (λ x. of_fields binary64 (leb (2 ^ 63) b) x (b % 2 ^ 52)) (field b 11 52)

-- in units of 2 ^ -1074
unfoldable pub units : ℕ → ℕ → ℕ
units zero t = t
units (suc x) t = (2 ^ 52 + t) * 2 ^ x

fields_value : (s : Bool) (x t : ℕ) → x < 2047 → HasValue (of_fields binary64 s x t) s (units x t) (2 ^ 1074)
unfolding of_fields units
fields_value s zero t h = subst (λ n. HasValue (odd 53 s t 0 1074) s n (2 ^ 1074)) (mul-one t) (odd_sign 53 s t 0 1074)
fields_value s (suc x) t h =
    subst (λ v. HasValue v s ((2 ^ 52 + t) * 2 ^ x) (2 ^ 1074))
    (sym (cond_no (eqb (suc x) 2047) (cond (eqb t 0) (inf s) nan) (odd 53 s (2 ^ 52 + t) x 1074) (not_T (eqb (suc x) 2047) (λ u. differ (eqb→eq (suc x) 2047 u)))))
    (odd_sign 53 s (2 ^ 52 + t) x 1074)
  where
    differ : suc x ≡ 2047 → ⊥
    differ e = omega arith

special : (s : Bool) (t : ℕ) → in_limit (of_fields binary64 s 2047 t) ≡ true → ⊥
unfolding of_fields in_limit
special s t l = go (eqb t 0) l
  where
    go : (b : Bool) → in_limit (cond b (inf s) nan) ≡ true → ⊥
    go true e = true≢false (sym e)
    go false e = true≢false (sym e)

module _ (b : ℕ) (l : in_limit (of_bits binary64 b) ≡ true) where
  finite_field : b / 2 ^ 52 % 2048 < 2047
  finite_field = ⊎_elim (λ h. absurd (special (leb (2 ^ 63) b) (b % 2 ^ 52) (ap in_limit (sym (of_bits_is b ∙ ap (λ x. of_fields binary64 (leb (2 ^ 63) b) x (b % 2 ^ 52)) (top h))) ∙ l))) (λ h. h) (order 2047 (b / 2 ^ 52 % 2048))
    where
      top : 2047 ≤ b / 2 ^ 52 % 2048 → b / 2 ^ 52 % 2048 ≡ 2047
      top h = omega arith

  pub bits_value : HasValue (of_bits binary64 b) (leb (2 ^ 63) b) (units (b / 2 ^ 52 % 2048) (b % 2 ^ 52)) (2 ^ 1074)
  bits_value =
      subst (λ v. HasValue v (leb (2 ^ 63) b) (units (b / 2 ^ 52 % 2048) (b % 2 ^ 52)) (2 ^ 1074)) (sym (of_bits_is b))
      (fields_value (leb (2 ^ 63) b) (b / 2 ^ 52 % 2048) (b % 2 ^ 52) finite_field)

  pub bits-sign : sign_of (of_bits binary64 b) ≡ leb (2 ^ 63) b
  bits-sign = sign_value _ _ _ _ bits_value

-- ---- the field of a number within the limit
small_field : (x t : ℕ) → units x t ≤ 131072 * 2 ^ 1074 → x ≤ 1040
unfolding units
small_field zero t h = omega arith
small_field (suc x) t h = ⊎_elim (λ k. absurd (too k)) (λ k. k) (order 1040 x)
  where
    too : 1040 ≤ x → ⊥
    too k =
        lt_irrefl (131072 * 2 ^ 1074)
        (lt_of_lt_of_le (lit< tt) (le_trans (mul-le-mul_left (2 ^ 52) (pow_mono k)) (le_trans (mul-le-mul_right (2 ^ x) (le-add_right (2 ^ 52) t)) h)))

pub bits_field : (b : ℕ) → in_limit (of_bits binary64 b) ≡ true → b / 2 ^ 52 % 2048 ≤ 1040
bits_field b l = small_field (b / 2 ^ 52 % 2048) (b % 2 ^ 52) (limit_value _ _ _ _ l (bits_value b l))

-- ---- a field below 1012 is of a number that rounds to 0
few : (x t : ℕ) → x < 1012 → t < 2 ^ 52 → units x t < 2 ^ 1063
unfolding units
few zero t h k = lt_of_lt_of_le k (lit≤ tt)
few (suc x) t h k = let g : 53 + x ≤ 1063 = omega arith in let w : 2 ^ 52 + t < 2 ^ 53 = omega arith in lt_of_lt_of_le (shl_lt 53 x w) (pow_mono g)

pub bits_none : (b : ℕ) → in_limit (of_bits binary64 b) ≡ true → b / 2 ^ 52 % 2048 < 1012 → thousandths_of (of_bits binary64 b) ≡ 0
bits_none b l h =
    thousandths_value _ _ _ _ (pow_pos 1074) (bits_value b l)
    ∙ closest_zero (units (b / 2 ^ 52 % 2048) (b % 2 ^ 52) * 1000) (2 ^ 1074) (wide (units (b / 2 ^ 52 % 2048) (b % 2 ^ 52)) (2 ^ 1063) (few (b / 2 ^ 52 % 2048) (b % 2 ^ 52) h (omega arith)))
  where
    wide : (u p : ℕ) → u < p → u * 1000 * 2 < p * 2048
    wide u p k = omega arith

-- ---- any other: the unit is cut to the digits' own
regroup : (u p k r : ℕ) → u * p * k * r ≡ u * k * (p * r)
regroup u p k r = ap (λ z. z * r) (mul_right_comm u p k) ∙ mul_assoc (u * k) p r

scaled : (u x n : ℕ) → x ≤ n → closest (u * 2 ^ x * 1000) (2 ^ n) ≡ closest (u * 1000) (2 ^ (n - x))
scaled u x n h =
    closest_same (u * 2 ^ x * 1000) (2 ^ n) (u * 1000) (2 ^ (n - x)) (pow_pos n) (pow_pos (n - x))
    (regroup u (2 ^ x) 1000 (2 ^ (n - x)) ∙ ap (λ z. u * 1000 * z) (sym (pow-add 2 x (n - x)) ∙ ap (λ z. 2 ^ z) (back x n h)))
  where
    back : (x n : ℕ) → x ≤ n → x + (n - x) ≡ n
    back x n h = omega arith

at_field : (x t : ℕ) → 0 < x → x ≤ 1040 → closest (units x t * 1000) (2 ^ 1074) ≡ closest ((t + 2 ^ 52) * 1000) (2 ^ (1075 - x))
unfolding units
at_field zero t h k = absurd (omega arith)
at_field (suc x) t h k =
    scaled (2 ^ 52 + t) x 1074 (omega arith) ∙ ap (λ z. closest ((2 ^ 52 + t) * 1000) (2 ^ z)) (less x k) ∙ ap (λ z. closest (z * 1000) (2 ^ (1075 - suc x))) (add_comm (2 ^ 52) t)
  where
    less : (x : ℕ) → suc x ≤ 1040 → 1074 - x ≡ 1075 - suc x
    less x k = omega arith

pub bits_some : (b : ℕ) → in_limit (of_bits binary64 b) ≡ true → 1012 ≤ b / 2 ^ 52 % 2048
    → thousandths_of (of_bits binary64 b) ≡ closest ((b % 2 ^ 52 + 2 ^ 52) * 1000) (2 ^ (1075 - b / 2 ^ 52 % 2048))
bits_some b l h =
    thousandths_value _ _ _ _ (pow_pos 1074) (bits_value b l) ∙ at_field (b / 2 ^ 52 % 2048) (b % 2 ^ 52) (omega arith) (bits_field b l)

-- ---- within the limit: at most 131072000 thousandths
pub limit_thousandths : (x : Float) → in_limit x ≡ true → thousandths_of x ≤ 131072000
unfolding in_limit thousandths_of
limit_thousandths nan l = zero-le
limit_thousandths (inf s) l = zero-le
limit_thousandths (fin s m e) l =
    closest_mono (m * up e * 1000) (down e) 131072000 1 (down_pos e) (lit< tt)
    (let h : m * up e ≤ 131072 * down e = leb-true (m * up e) (131072 * down e) l in omega arith)

-- ---- the same of a float's own bits
module _ (x : Float) (f : T (fits binary64 x)) (l : in_limit x ≡ true) where
  bits : of_bits binary64 (to_bits binary64 x) ≡ x
  bits = of_bits-to_bits binary64 x f

  within : in_limit (of_bits binary64 (to_bits binary64 x)) ≡ true
  within = ap in_limit bits ∙ l

  pub field_within : to_bits binary64 x / 2 ^ 52 % 2048 ≤ 1040
  field_within = bits_field (to_bits binary64 x) within

  pub field_none : to_bits binary64 x / 2 ^ 52 % 2048 < 1012 → thousandths_of x ≡ 0
  field_none h = ap thousandths_of (sym bits) ∙ bits_none (to_bits binary64 x) within h

  pub field_some : 1012 ≤ to_bits binary64 x / 2 ^ 52 % 2048
      → thousandths_of x ≡ closest ((to_bits binary64 x % 2 ^ 52 + 2 ^ 52) * 1000) (2 ^ (1075 - to_bits binary64 x / 2 ^ 52 % 2048))
  field_some h = ap thousandths_of (sym bits) ∙ bits_some (to_bits binary64 x) within h
