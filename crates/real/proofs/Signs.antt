-- The sign cleared, by the library's method or by two tests. Assumes nothing.
use mathlib.Core.Path.{◌≡◌, refl, sym, ◌∙◌}
use mathlib.Core.Bool.{Bool, true, false, ◌&&◌, true≢false}
use Prim.Native.Nat.{ℕ, zero, suc, ◌+◌, ◌*◌, ◌^◌, ◌≤◌, ◌<◌}
use native.Mathlib.Nat.{mul-one, zero-mul, mul-pos, zero-lt-suc, two-pow-succ}
use native.Mathlib.Omega.{arith}
use lib.Dec.{T, eqb, eqb→eq}
use lib.IntN.{ℤ, pos, negsuc}
use lib.Pow.{pow_pos}
use lib.Ieee.{Float, nan, inf, fin, up, down, lt, eq, neg, of_bits, binary64, fits}
use lib.Ieee.Fits.{up_pos}
use borrow.Author.Tests.{ltb-true, ltb-false, eqb-true, eq-eqb}
use Rattle.std.specs.Float.{float_with_sign}
use Rattle.real.specs.Operators.{0f}
use Rattle.real.specs.StandIns.{abs}

pub cleared : (x : Float) → float_with_sign false x ≡ abs x
unfolding float_with_sign abs
cleared nan = refl
cleared (inf s) = refl
cleared (fin s m e) = refl

first : (a b : Bool) → (a && b) ≡ true → a ≡ true
first true b h = refl
first false b h = h

-- a number below zero
pub abs_below : (x : Float) → lt x 0f ≡ true → neg x ≡ abs x
unfolding lt neg abs of_bits
abs_below nan h = refl
abs_below (inf true) h = refl
abs_below (inf false) h = absurd (true≢false (sym h))
abs_below (fin true m e) h = refl
abs_below (fin false m e) h = absurd (none (m * up e * 1) (down e) (ltb-true _ _ h))
  where
    none : (a d : ℕ) → a < 0 * d → ⊥
    none a d l = omega (arith, zero-mul d)

-- a zero of either sign: the format writes it in one way
even : (k : ℕ) → 2 ^ suc k ≡ 1 → ⊥
even k h = omega (arith, two-pow-succ k, pow_pos k)

zero_is : (e : ℤ) → up e * down e ≡ 1 → fin false 0 (pos 0) ≡ fin false 0 e
zero_is (pos zero) h = refl
zero_is (pos (suc k)) h = absurd (even k (sym (mul-one (2 ^ suc k)) ∙ h))
zero_is (negsuc k) h = absurd (even k (omega (arith, h)))

pub abs-zero : (x : Float) → T (fits binary64 x) → eq x 0f ≡ true → 0f ≡ abs x
unfolding eq abs of_bits fits
abs-zero nan t h = absurd (true≢false (sym h))
abs-zero (inf s) t h = absurd (true≢false (sym h))
abs-zero (fin s zero e) t h = zero_is e (eqb→eq (up e * down e) 1 t)
abs-zero (fin s (suc m) e) t h = absurd (some (suc m * up e) (down e) (mul-pos (zero-lt-suc m) (up_pos e)) (eqb-true _ _ (first _ _ h)))
  where
    some : (a d : ℕ) → 0 < a → a * 1 ≡ 0 * d → ⊥
    some a d p l = omega (arith, zero-mul d)

-- any other: a number whose sign is set and that is not below zero is a zero
pub abs_above : (x : Float) → lt x 0f ≡ false → eq x 0f ≡ false → x ≡ abs x
unfolding lt eq abs of_bits
abs_above nan h k = refl
abs_above (inf true) h k = absurd (true≢false h)
abs_above (inf false) h k = refl
abs_above (fin false m e) h k = refl
abs_above (fin true m e) h k = absurd (true≢false (sym (none (m * up e * 1) (0 * down e) (zero-mul (down e)) (ltb-false _ _ h)) ∙ k))
  where
    none : (a b : ℕ) → b ≡ 0 → a + b ≤ 0 → (eqb a b && eqb a 0) ≡ true
    none a b z l = rw (eq-eqb a b (omega arith), eq-eqb a 0 (omega arith))
