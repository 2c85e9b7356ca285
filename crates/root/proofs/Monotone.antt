-- A root of what is not negative is not negative, and a larger number's root is no smaller: zeros, subnormal numbers and the infinity included. Assumes nothing.
use Rattle.std.proofs.Common.{ℕ, zero, suc, ◌+◌, ◌*◌, ◌/◌, ◌^◌, ◌<◌, ◌≤◌, Bool, true, false, cond, T, ltb, ℤ, refl, ap, ◌∙◌, zero-le, le_trans, le_of_eq, mul-le-mul_right, zero-lt-suc, mul-le-mul_left, mul-pos, zero-mul, mul_right_comm, lt→ltb, pow_pos}
use lib.Ieee.{Float, nan, inf, fin, Format, prec, emax, low, binary64, up, down, odd, units, round, le}
use lib.Ieee.Fits.{down_pos}
use lib.Ieee.Nearest.{div_mono}
use lib.Ieee.Order.{le_of_values, round_mono}
use lib.Ieee.Positive.{le→cross, above_of_le}
use Rattle.root.specs.Root.{isqrt, twice, rooted, root_of}
use Rattle.root.specs.Sign.{nonneg}
use Rattle.root.proofs.Whole.{isqrt-is, twice_mono}

-- ---- the sign

odd_nonneg : (d q k l : ℕ) → T (nonneg (odd d false q k l))
unfolding odd
odd_nonneg d zero k l = tt
odd_nonneg d (suc q) k l = tt

units_nonneg : (f : Format) (q k : ℕ) → T (nonneg (units f false q k))
unfolding units
units_nonneg f q k = go (ltb (q * 2 ^ k) (2 ^ (low f + suc (emax f))))
  where
    go : (b : Bool) → T (nonneg (cond b (odd (suc (prec f)) false q k (low f)) (inf false)))
    go true = odd_nonneg (suc (prec f)) q k (low f)
    go false = tt

pub round-nonneg : (f : Format) (a b : ℕ) → T (nonneg (round f false a b))
unfolding round
round-nonneg f a b = units_nonneg f _ _

pub rooted-nonneg : (n : ℕ) → T (nonneg (rooted n))
unfolding rooted
rooted-nonneg n = round-nonneg binary64 (twice (4 * n) (isqrt (4 * n))) (4 * 2 ^ 1074)

pub root-nonneg : (x : Float) → T (nonneg x) → T (nonneg (root_of x))
unfolding root_of
root-nonneg nan t = t
root-nonneg (inf true) t = absurd t
root-nonneg (inf false) t = tt
root-nonneg (fin s zero e) t = t
root-nonneg (fin true (suc m) e) t = absurd t
root-nonneg (fin false (suc m) e) t = rooted-nonneg (suc m * up e * 4 ^ 1074 / down e)

-- ---- the order

pub rooted_mono : (n m : ℕ) → n ≤ m → T (le (rooted n) (rooted m))
unfolding rooted
rooted_mono n m h =
    let d = 4 * 2 ^ 1074 in
    let D : 0 < d = mul-pos (zero-lt-suc 3) (pow_pos 1074) in
    round_mono binary64 (twice (4 * n) (isqrt (4 * n))) d (twice (4 * m) (isqrt (4 * m))) d D D
    (mul-le-mul_right d (twice_mono (4 * n) (isqrt (4 * n)) (4 * m) (isqrt (4 * m)) (isqrt-is (4 * n)) (isqrt-is (4 * m)) (mul-le-mul_left 4 h)))

-- zero is the least, and the infinity the greatest
zero-least : (e : ℤ) (y : Float) → T (nonneg y) → T (le (fin false 0 e) y)
zero-least e nan t = absurd t
zero-least e (inf true) t = absurd t
zero-least e (inf false) t = unfold le in tt
zero-least e (fin true n d) t = absurd t
zero-least e (fin false n d) t =
    le_of_values (fin false 0 e) (fin false n d) (0 * up e) (down e) (n * up d) (down d) (down_pos e) (down_pos d) (refl, refl) (refl, refl)
    (le_trans (le_of_eq (ap (λ (x : ℕ). x * down d) (zero-mul (up e)) ∙ zero-mul (down d))) zero-le)

infinity_greatest : (x : Float) → T (nonneg x) → T (le x (inf false))
unfolding le
infinity_greatest nan t = absurd t
infinity_greatest (inf true) t = absurd t
infinity_greatest (inf false) t = tt
infinity_greatest (fin true m e) t = absurd t
infinity_greatest (fin false m e) t = tt

-- two positive numbers, in other units
square_units : (a d b e l : ℕ) → a * e ≤ b * d → a * l * e ≤ b * l * d
square_units a d b e l h = le_trans (le_of_eq (mul_right_comm a l e)) (le_trans (mul-le-mul_right l h) (le_of_eq (mul_right_comm b d l)))

some : (m : ℕ) → T (ltb 0 (suc m))
some m = lt→ltb 0 (suc m) (zero-lt-suc m)

above_infinity : (m : ℕ) (e : ℤ) → T (le (inf false) (fin false m e)) → ⊥
unfolding le
above_infinity m e h = h

pub root_mono : (x y : Float) → T (nonneg x) → T (nonneg y) → T (le x y) → T (le (root_of x) (root_of y))
unfolding root_of
root_mono nan y p q h = absurd p
root_mono (inf true) y p q h = absurd p
root_mono (inf false) nan p q h = absurd q
root_mono (inf false) (inf true) p q h = absurd q
root_mono (inf false) (inf false) p q h = h
root_mono (inf false) (fin true n d) p q h = absurd q
root_mono (inf false) (fin false n d) p q h = absurd (above_infinity n d h)
root_mono (fin true m e) y p q h = absurd p
root_mono (fin false zero e) y p q h = zero-least e (root_of y) (root-nonneg y q)
root_mono (fin false (suc m) e) nan p q h = absurd q
root_mono (fin false (suc m) e) (inf true) p q h = absurd q
root_mono (fin false (suc m) e) (inf false) p q h = infinity_greatest (rooted (suc m * up e * 4 ^ 1074 / down e)) (rooted-nonneg (suc m * up e * 4 ^ 1074 / down e))
root_mono (fin false (suc m) e) (fin true n d) p q h = absurd q
root_mono (fin false (suc m) e) (fin false zero d) p q h = absurd (above_of_le (fin false (suc m) e) (fin false 0 d) (some m) h)
root_mono (fin false (suc m) e) (fin false (suc n) d) p q h =
    rooted_mono (suc m * up e * 4 ^ 1074 / down e) (suc n * up d * 4 ^ 1074 / down d)
    (div_mono (suc m * up e * 4 ^ 1074) (down e) (suc n * up d * 4 ^ 1074) (down d) (down_pos e) (down_pos d)
    (square_units (suc m * up e) (down e) (suc n * up d) (down d) (4 ^ 1074) (le→cross (fin false (suc m) e) (fin false (suc n) d) (some m) (some n) h)))
