-- Magnitudes bounded by powers of two and their multiples, which no rounding changes: a step adds exponents, or counts, and no number is computed. Assumes nothing.
use mathlib.Core.Path.{◌≡◌, refl, sym, ◌∙◌, subst}
use mathlib.Core.Bool.{true, false, true≢false}
use Prim.Native.Nat.{ℕ, zero, suc, ◌+◌, ◌*◌, ◌^◌, ◌≤◌, ◌<◌, zero-le}
use native.Mathlib.Nat.{le_trans, le_of_eq, lt_of_lt_of_le, mul-one, one-mul, add-mul, mul-le-mul_right, mul-pos, two-pow-succ}
use native.Mathlib.Omega.{arith}
use lib.Dec.{T, lit<}
use lib.IntN.{pos}
use lib.Pow.{pow-add, pow_mono, shl_lt}
use lib.Ieee.{Float, nan, inf, fin, binary64, up, down, unlike, round, sum, add, mul, div, of_bits, of_int}
use lib.Ieee.Scale.{finite}
use lib.Ieee.Fits.{down_pos}
use lib.Ieee.Exact.{HasValue}
use lib.Ieee.Positive.{through, first_pos}
use borrow.Author.Tests.{leb-true, ne_eqb}
use Rattle.real.specs.Operators.{◌⊕◌, ◌⊖◌, ◌⊗◌, ◌⊘◌, float, 1f}
use Rattle.real.specs.Limit.{in_limit}
use Rattle.real.specs.Sums.{running}
use Rattle.real.proofs.Sums.{whole_exact}
use Rattle.real.proofs.Magnitudes.{Under, under, round_under, add_under, sub_under, mul_under}

-- n · 2^j, and 2^j
abbrev pub scaled : ℕ → ℕ → Float
scaled n j = fin false n (pos j)

abbrev pub power : ℕ → Float
power j = scaled 1 j

-- ---- a bound of such a value, whatever computed it
value_finite : (x : Float) (a c : ℕ) → HasValue x false a c → T (finite x)
value_finite nan a c v = absurd v
value_finite (inf s) a c v = absurd v
value_finite (fin s m e) a c v = tt

bounded : {x b : Float} → Under x b → (n j : ℕ) → HasValue b false (n * 2 ^ j) 1 → Under x (scaled n j)
bounded (under s m e k d h) n j v =
    under s m e n (pos j) (through (m * up e) (k * up d) (n * 2 ^ j) (down e) (down d) 1 (down_pos d) h (le_of_eq v.1))

-- such a value is a number of the format: below 2^1024, since n is below 2^53
held : (n j : ℕ) → n < 2 ^ 53 → j ≤ 971 → (a : ℕ) → a ≡ n * 2 ^ j → HasValue (round binary64 false a 1) false (n * 2 ^ j) 1
held n j h l a e =
    subst (λ z. HasValue (round binary64 false z 1) false (n * 2 ^ j) 1) (sym e)
    (whole_exact binary64 false n j h (lt_of_lt_of_le (shl_lt 53 j h) (pow_mono {j = 1024} (omega arith))))

pub wider : {x : Float} (j k : ℕ) → j ≤ k → Under x (power j) → Under x (power k)
wider j k h (under s m e n d l) =
    under s m e 1 (pos k) (le_trans l (mul-le-mul_right (down e) (le_trans (le_of_eq (one-mul (2 ^ j))) (le_trans (pow_mono h) (le_of_eq (sym (one-mul (2 ^ k))))))))

-- ---- a product
product_is : (j k : ℕ) → 1 * 2 ^ j * (1 * 2 ^ k) ≡ 1 * 2 ^ (j + k)
product_is j k = rw (one-mul (2 ^ j), one-mul (2 ^ k), one-mul (2 ^ (j + k))) (sym (pow-add 2 j k))

product_held : (j k : ℕ) → j + k ≤ 971 → HasValue (power j ⊗ power k) false (1 * 2 ^ (j + k)) 1
unfolding mul
product_held j k h = held 1 (j + k) (lit< tt) h (1 * 2 ^ j * (1 * 2 ^ k)) (product_is j k)

pub mul_power : {x y : Float} (j k : ℕ) → j + k ≤ 971 → Under x (power j) → Under y (power k) → Under (x ⊗ y) (power (j + k))
mul_power j k h X Y = let v = product_held j k h in bounded (mul_under binary64 X Y (value_finite (power j ⊗ power k) _ _ v)) 1 (j + k) v

-- ---- a sum
sum_is : (n m j : ℕ) → n * 2 ^ j * 1 + m * 2 ^ j * 1 ≡ (n + m) * 2 ^ j
sum_is n m j = omega (arith, add-mul n m (2 ^ j))

sum-held : (n m j : ℕ) → n + m < 2 ^ 53 → j ≤ 971 → HasValue (scaled n j ⊕ scaled m j) false ((n + m) * 2 ^ j) 1
unfolding add sum
sum-held n m j h l = held (n + m) j h l (n * 2 ^ j * 1 + m * 2 ^ j * 1) (sum_is n m j)

add_scaled : {x y : Float} (n m j : ℕ) → n + m < 2 ^ 53 → j ≤ 971 → Under x (scaled n j) → Under y (scaled m j) → Under (x ⊕ y) (scaled (n + m) j)
add_scaled n m j h l X Y = let v = sum-held n m j h l in bounded (add_under binary64 X Y (value_finite (scaled n j ⊕ scaled m j) _ _ v)) (n + m) j v

sub_scaled : {x y : Float} (n m j : ℕ) → n + m < 2 ^ 53 → j ≤ 971 → Under x (scaled n j) → Under y (scaled m j) → Under (x ⊖ y) (scaled (n + m) j)
sub_scaled n m j h l X Y = let v = sum-held n m j h l in bounded (sub_under binary64 X Y (value_finite (scaled n j ⊕ scaled m j) _ _ v)) (n + m) j v

-- of two powers the next
twice : {x : Float} (j : ℕ) → Under x (scaled 2 j) → Under x (power (suc j))
twice j X = bounded X 1 (suc j) (refl, omega (arith, two-pow-succ j))

pub add_power : {x y : Float} (j : ℕ) → j ≤ 971 → Under x (power j) → Under y (power j) → Under (x ⊕ y) (power (suc j))
add_power j l X Y = twice j (add_scaled 1 1 j (lit< tt) l X Y)

pub sub_power : {x y : Float} (j : ℕ) → j ≤ 971 → Under x (power j) → Under y (power j) → Under (x ⊖ y) (power (suc j))
sub_power j l X Y = twice j (sub_scaled 1 1 j (lit< tt) l X Y)

-- n of them
pub running_under : (f : ℕ → Float) (j n : ℕ) → n < 2 ^ 53 → j ≤ 971 → ((k : ℕ) → k < n → Under (f k) (power j)) → Under (running f n) (scaled n j)
unfolding running of_bits
running_under f j zero h l u = under false 0 (pos 0) 0 (pos j) zero-le
running_under f j (suc n) h l u =
    subst (λ z. Under (running f n ⊕ f n) (scaled z j)) (omega arith)
    (add_scaled n 1 j (omega arith) l (running_under f j n (omega arith) l (λ k i. u k (omega arith))) (u n (omega arith)))

-- ---- k / n
float_value : (k : ℕ) → k < 2 ^ 53 → HasValue (float k) false k 1
unfolding of_int
float_value k h = subst (λ z. HasValue (round binary64 false k 1) false z 1) (mul-one k) (held k 0 h zero-le k (sym (mul-one k)))

quotient : (x y : Float) (k n : ℕ) → HasValue x false k 1 → HasValue y false n 1 → k ≤ n → 0 < n → Under (x ⊘ y) (power 0)
unfolding div
quotient nan y k n v w h p = absurd v
quotient (inf s) y k n v w h p = absurd v
quotient (fin s m e) nan k n v w h p = absurd w
quotient (fin s m e) (inf t) k n v w h p = absurd w
quotient (fin s m e) (fin t l d) k n v w h p =
    let above : 0 < l * up d = lt_of_lt_of_le (mul-pos p (down_pos d)) (le_of_eq (sym w.1 ∙ mul-one (l * up d))) in
    let some = first_pos l (up d) above in
    let one = held 1 0 (lit< tt) zero-le 1 refl in
    rw (ne_eqb l 0 (λ z. absurd (omega arith)))
    (bounded
    (round_under binary64 (unlike s t) (m * up e * down d) (l * up d * down e) 1 1 (mul-pos above (down_pos e)) (lit< tt)
    (rw (mul-one, one-mul)
    (through (m * up e) k (l * up d) (down e) 1 (down d) (lit< tt) (le_of_eq v.1) (le_trans (mul-le-mul_right (down d) h) (le_of_eq (sym w.1)))))
    (value_finite (round binary64 false 1 1) 1 1 one))
    1 0 one)

pub share_under : (k n : ℕ) → k ≤ n → 0 < n → n < 2 ^ 53 → Under (float k ⊘ float n) 1f
unfolding of_bits
share_under k n h p l = quotient (float k) (float n) k n (float_value k (omega arith)) (float_value n l) h p

-- ---- in limit
pub limit_power : (x : Float) → in_limit x ≡ true → Under x (power 17)
unfolding in_limit
limit_power nan h = absurd (true≢false (sym h))
limit_power (inf s) h = absurd (true≢false (sym h))
limit_power (fin s m e) h = under s m e 1 (pos 17) (rw mul-one (leb-true (m * up e) (131072 * down e) h))
