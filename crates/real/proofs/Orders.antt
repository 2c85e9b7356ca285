-- The order of floats as tests that are true or false, by std's laws of it. Assumes nothing.
use mathlib.Core.Path.{◌≡◌, refl}
use mathlib.Core.Bool.{Bool, true, false, ◌||◌}
use Prim.Native.Nat.{ℕ, ◌≤◌}
use native.Mathlib.Omega.{arith}
use Rattle.std.proofs.lemmas.Bool.Decides.{nat_tests}
use lib.Ieee.{Float, is_nan, below, level, lt, le}
use lib.Ieee.Bits.{is_true, is_false}
use Rattle.std.proofs.lemmas.Float.{le_refl, lt_irrefl, le_of_lt, le_of_not-lt, le_left, le_right, lt_of_lt_of_le, lt_of_le_of_lt, T_from_true, T_from_false}
use Rattle.std.proofs.lemmas.Float as floats

-- ---- ±a is at most ±b
abbrev pub AtMost : Bool → ℕ → Bool → ℕ → Type 0
AtMost false a false b = a ≤ b
AtMost false a true b = (a ≡ 0) × (b ≡ 0)
AtMost true a false b = Unit {0}
AtMost true a true b = b ≤ a

-- as the tests say it
pub at_most : (s t : Bool) (a b : ℕ) → (below s a t b || level s a t b) ≡ true → AtMost s a t b
at_most false false a b e = grind (arith, nat_tests)
at_most false true a b e = (grind (arith, nat_tests), grind (arith, nat_tests))
at_most true false a b e = tt
at_most true true a b e = grind (arith, nat_tests)

-- ---- floats
pub not_below : (x y : Float) → is_nan x ≡ false → is_nan y ≡ false → lt x y ≡ false → le y x ≡ true
not_below x y p q e = is_true _ (le_of_not-lt x y (T_from_false _ p) (T_from_false _ q) (T_from_false _ e))

pub not_above : (x y : Float) → le x y ≡ true → lt y x ≡ false
not_above x y h = go (lt y x) refl
  where
    go : (b : Bool) → lt y x ≡ b → b ≡ false
    go true e = absurd (lt_irrefl x (lt_of_le_of_lt x y x (T_from_true _ h) (T_from_true _ e)))
    go false e = refl

pub le_trans : (x y z : Float) → le x y ≡ true → le y z ≡ true → le x z ≡ true
le_trans x y z h k = is_true _ (floats.le_trans x y z (T_from_true _ h) (T_from_true _ k))

-- what is at most something is a number
pub le-number : (x y : Float) → le x y ≡ true → is_nan x ≡ false
le-number x y h = is_false _ (le_left x y (T_from_true _ h))

pub number-le : (x y : Float) → le x y ≡ true → is_nan y ≡ false
number-le x y h = is_false _ (le_right x y (T_from_true _ h))

pub lt-is-le : (x y : Float) → lt x y ≡ true → le x y ≡ true
lt-is-le x y e = is_true _ (le_of_lt x y (T_from_true _ e))

-- a number is at most itself
pub le_self : (x : Float) → is_nan x ≡ false → le x x ≡ true
le_self x n = is_true _ (le_refl x (T_from_false _ n))

-- below y, which is at most z
pub lt-le_trans : (x y z : Float) → is_nan z ≡ false → lt x y ≡ true → le y z ≡ true → lt x z ≡ true
lt-le_trans x y z n h k = is_true _ (lt_of_lt_of_le x y z (T_from_true _ h) (T_from_true _ k))
