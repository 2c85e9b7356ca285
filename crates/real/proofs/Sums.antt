-- Sums of floats that are not negative: fl(x + y) is no smaller than x, and what is below a bound stays below it under an order. Any format. Assumes nothing.
use mathlib.Core.Path.{◌≡◌, refl, sym, ap, ◌∙◌, subst}
use mathlib.Core.Logic.{⊎_elim}
use mathlib.Core.Bool.{Bool, true, false, not, ◌&&◌, cond, beq}
use Prim.Native.Nat.{ℕ, zero, suc, ◌+◌, ◌-◌, ◌*◌, ◌%◌, ◌^◌, ◌≤◌, ◌<◌}
use native.Mathlib.Nat.{le_trans, le_of_eq, le_refl, lt_of_lt_of_le, lt_of_le_of_lt, not-le_of_lt, mul_comm, mul_assoc, mul_left_comm, mul-one, zero-mul, mul-le-mul_right, mul-lt-mul_of_pos_right, mul-pos, le-add_right}
use native.Mathlib.Omega.{arith}
use lib.Dec.{T, leb, ltb, eqb, leb→le, ltb→lt, lit<}
use lib.Pow.{pow-add, pow_pos, pow-lt, pow_mono, shl_lt}
use lib.IntN.{ℤ, pos, negsuc}
use lib.Ieee.{Float, nan, inf, fin, Format, prec, emax, low, up, down, unlike, is_nan, odd, units, round, sum, add, mul, lt, le, fits}
use lib.Ieee.Scale.{finite}
use lib.Ieee.Fits.{reach, down_pos, and_l, and_r}
use lib.Ieee.Digits.{back}
use lib.Ieee.Exact.{HasValue, round_exact}
use lib.Ieee.Order.{le_of_values, round_mono}
use Rattle.std.proofs.lemmas.Float as floats
use Rattle.root.specs.Sign.{nonneg}
use Rattle.root.proofs.Monotone.{round-nonneg}
use Rattle.views.proofs.Laws.{order}

-- ---- the result's sign
pub add-nonneg : (f : Format) (x y : Float) → T (nonneg x) → T (nonneg y) → T (nonneg (add f x y))
unfolding add sum
add-nonneg f nan y p q = absurd p
add-nonneg f (inf true) y p q = absurd p
add-nonneg f (inf false) nan p q = absurd q
add-nonneg f (inf false) (inf true) p q = absurd q
add-nonneg f (inf false) (inf false) p q = tt
add-nonneg f (inf false) (fin t n d) p q = tt
add-nonneg f (fin true m e) y p q = absurd p
add-nonneg f (fin false m e) nan p q = absurd q
add-nonneg f (fin false m e) (inf true) p q = absurd q
add-nonneg f (fin false m e) (inf false) p q = tt
add-nonneg f (fin false m e) (fin true n d) p q = absurd q
add-nonneg f (fin false m e) (fin false n d) p q = round-nonneg f (m * up e * down d + n * up d * down e) (down e * down d)

-- ---- the order of two that are finite and not negative is that of their fractions
pub fractions→le : (m : ℕ) (e : ℤ) (n : ℕ) (d : ℤ) → m * up e * down d ≤ n * up d * down e → T (le (fin false m e) (fin false n d))
fractions→le m e n d h = le_of_values (fin false m e) (fin false n d) (m * up e) (down e) (n * up d) (down d) (down_pos e) (down_pos d) (refl, refl) (refl, refl) h

pub le_trans_nonneg : (x y z : Float) → T (nonneg x) → T (nonneg y) → T (nonneg z) → T (le x y) → T (le y z) → T (le x z)
le_trans_nonneg x y z p q r h k = floats.le_trans x y z h k

-- what is at most y is below whatever y is below
pub below_trans : (x y s : Float) → T (nonneg x) → T (nonneg y) → T (le x y) → T (lt y s) → T (lt x s)
below_trans x y s p q h k = floats.lt_of_le_of_lt x y s h k

-- ---- rounding changes nothing at a value that fits
pow-back : (i j : ℕ) → 2 ^ i ≤ 2 ^ j → i ≤ j
pow-back i j h = ⊎_elim (λ k. k) (λ k. absurd (not-le_of_lt (pow-lt k) h)) (order i j)

-- what `fits` says of a value above zero, taken apart
parts : (f : Format) (m : ℕ) (e : ℤ) → T (fits f (fin false (suc m) e)) → (suc m < 2 ^ prec f) × (down e ≤ 2 ^ low f) × (suc m * up e < 2 ^ suc (emax f) * down e)
unfolding fits
parts f m e t =
    let a = eqb (suc m % 2) 1 in
    let b = ltb (suc m) (2 ^ prec f) in
    let c = leb (down e) (2 ^ low f) in
    let d = ltb (suc m * up e) (2 ^ suc (emax f) * down e) in (
      ltb→lt _ _ (and_r a b (and_l (a && b) c (and_l (a && b && c) d t))),
      leb→le _ _ (and_r (a && b) c (and_l (a && b && c) d t)),
      ltb→lt _ _ (and_r (a && b && c) d t),
    )

-- a whole number of times a power of two
pub whole_exact : (f : Format) (s : Bool) (q j : ℕ) → q < 2 ^ prec f → q * 2 ^ j < 2 ^ suc (emax f) → HasValue (round f s (q * 2 ^ j) 1) s (q * 2 ^ j) 1
whole_exact f s q j h l =
    round_exact f s (q * 2 ^ j) 1 q (j + low f) (lit< tt) h
    (subst (λ z. q * z < 2 ^ (low f + suc (emax f))) (sym (pow-add 2 j (low f)))
    (subst (λ z. q * (2 ^ j * 2 ^ low f) < z) (sym (pow-add 2 (low f) (suc (emax f))))
    (lt_of_le_of_lt (le_of_eq (sym (mul_assoc q (2 ^ j) (2 ^ low f))))
    (lt_of_lt_of_le (mul-lt-mul_of_pos_right l (pow_pos (low f))) (le_of_eq (mul_comm (2 ^ suc (emax f)) (2 ^ low f)))))))
    (mul_assoc q (2 ^ j) (2 ^ low f) ∙ ap (λ z. q * z) (sym (pow-add 2 j (low f))) ∙ sym (mul-one (q * 2 ^ (j + low f))))

own : (f : Format) (m : ℕ) (e : ℤ) → T (fits f (fin false m e)) → HasValue (round f false (m * up e) (down e)) false (m * up e) (down e)
own f zero e t =
    round_exact f false (0 * up e) (down e) 0 0 (down_pos e) (pow_pos (prec f)) (pow_pos (low f + suc (emax f)))
    (rw (zero-mul, zero-mul) (sym (zero-mul (down e))))
own f (suc m) (pos k) t = let w = parts f m (pos k) t in whole_exact f false (suc m) k w.0 (rw mul-one at w.2)
own f (suc m) (negsuc k) t =
    let w = parts f m (negsuc k) t in
    let l : suc k ≤ low f = pow-back (suc k) (low f) w.1 in
    let j = low f - suc k in
    let r : prec f + j ≤ low f + suc (emax f) = omega (arith, reach f) in
    round_exact f false (suc m * 1) (2 ^ suc k) (suc m) j (pow_pos (suc k)) w.0
    (lt_of_lt_of_le (shl_lt (prec f) j w.0) (pow_mono r))
    (ap (λ z. z * 2 ^ low f) (mul-one (suc m)) ∙ ap (λ z. suc m * z) (ap (λ z. 2 ^ z) (sym (back (low f) (suc k) l)) ∙ pow-add 2 j (suc k)) ∙ sym (mul_assoc (suc m) (2 ^ j) (2 ^ suc k)))

-- ---- a sum is no smaller than its first part
rounded : (f : Format) (m : ℕ) (e : ℤ) → T (fits f (fin false m e)) → T (le (fin false m e) (round f false (m * up e) (down e)))
rounded f m e t =
    le_of_values (fin false m e) (round f false (m * up e) (down e)) (m * up e) (down e) (m * up e) (down e) (down_pos e) (down_pos e)
    (refl, refl) (own f m e t) (le_refl (m * up e * down e))

more : (a b p q : ℕ) → a * (p * q) ≤ (a * q + b) * p
more a b p q =
    let e : a * (p * q) ≡ a * q * p = simp (mul_assoc, mul_comm, mul_left_comm) in
    le_trans (le_of_eq e) (mul-le-mul_right p (le-add_right (a * q) b))

pub add_grows : (f : Format) (x y : Float) → T (fits f x) → T (nonneg x) → T (nonneg y) → T (le x (add f x y))
unfolding le add sum
add_grows f nan y t p q = absurd p
add_grows f (inf true) y t p q = absurd p
add_grows f (fin true m e) y t p q = absurd p
add_grows f (inf false) nan t p q = absurd q
add_grows f (inf false) (inf true) t p q = absurd q
add_grows f (inf false) (inf false) t p q = tt
add_grows f (inf false) (fin s n d) t p q = tt
add_grows f (fin false m e) nan t p q = absurd q
add_grows f (fin false m e) (inf true) t p q = absurd q
add_grows f (fin false m e) (inf false) t p q = tt
add_grows f (fin false m e) (fin true n d) t p q = absurd q
add_grows f (fin false m e) (fin false n d) t p q =
    le_trans_nonneg (fin false m e) (round f false (m * up e) (down e)) (round f false (m * up e * down d + n * up d * down e) (down e * down d))
    tt (round-nonneg f (m * up e) (down e)) (round-nonneg f (m * up e * down d + n * up d * down e) (down e * down d))
    (rounded f m e t)
    (round_mono f (m * up e) (down e) (m * up e * down d + n * up d * down e) (down e * down d) (down_pos e) (mul-pos (down_pos e) (down_pos d)) (more (m * up e) (n * up d * down e) (down e) (down d)))

-- ---- what keeps a number from being a NaN, and a square from being negative
units_not_nan : (f : Format) (s : Bool) (q k : ℕ) → T (not (is_nan (units f s q k)))
unfolding units odd is_nan
units_not_nan f s q k = go (ltb (q * 2 ^ k) (2 ^ (low f + suc (emax f)))) q
  where
    go : (t : Bool) (q : ℕ) → T (not (is_nan (cond t (odd (suc (prec f)) s q k (low f)) (inf s))))
    go true zero = tt
    go true (suc q) = tt
    go false q = tt

round-not_nan : (f : Format) (s : Bool) (a b : ℕ) → T (not (is_nan (round f s a b)))
unfolding round
round-not_nan f s a b = units_not_nan f s _ _

unlike_self : (s : Bool) → unlike s s ≡ false
unlike_self true = refl
unlike_self false = refl

pub square-nonneg : (f : Format) (x : Float) → T (not (is_nan x)) → T (nonneg (mul f x x))
unfolding mul is_nan
square-nonneg f nan p = absurd p
square-nonneg f (inf s) p = rw (unlike_self s) tt
square-nonneg f (fin s m e) p = rw (unlike_self s) (round-nonneg f (m * up e * (m * up e)) (down e * down e))

both : (f : Format) (b c : Bool) (x y z : Float) → T (not (is_nan x)) → T (not (is_nan y)) → T (not (is_nan z)) → T (not (is_nan (cond b x (cond c y z))))
both f true c x y z p q r = p
both f false true x y z p q r = q
both f false false x y z p q r = r

-- a sum of two finite numbers is no NaN
pub add-not_nan : (f : Format) (x y : Float) → T (finite x) → T (finite y) → T (not (is_nan (add f x y)))
unfolding add sum
add-not_nan f nan y p q = absurd p
add-not_nan f (inf s) y p q = absurd p
add-not_nan f (fin s m e) nan p q = absurd q
add-not_nan f (fin s m e) (inf t) p q = absurd q
add-not_nan f (fin s m e) (fin t n d) p q =
    both f (beq s t) (ltb (m * up e * down d) (n * up d * down e)) _ _ _ (round-not_nan f s _ _) (round-not_nan f t _ _) (round-not_nan f _ _ _)
