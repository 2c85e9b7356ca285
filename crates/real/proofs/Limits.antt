-- The limit as two tests of the code. Assumes nothing.
use mathlib.Core.Path.{◌≡◌, refl}
use mathlib.Core.Bool.{Bool, true, false, ◌&&◌, ◌||◌}
use Prim.Native.Nat.{ℕ, ◌+◌, ◌*◌, ◌<◌}
use native.Mathlib.Nat.{mul-one}
use native.Mathlib.Omega.{arith}
use Rattle.std.proofs.Math.Bool.{and-true}
use Rattle.std.proofs.lemmas.Bool.Decides.{nat_tests}
use lib.Dec.{leb, ltb, eqb}
use lib.IntN.{pos}
use lib.Ieee.{Float, nan, inf, fin, up, down, le, binary64, of_bits}
use lib.Ieee.Fits.{down_pos}
use borrow.Author.Tests.{lt-ltb}
use Rattle.real.specs.Limit.{in_limit}

at_most : (a b : ℕ) → (ltb a b || (eqb a b && true)) ≡ leb a b
at_most a b = grind (arith, nat_tests)

eqb_sym : (a b : ℕ) → eqb a b ≡ eqb b a
eqb_sym a b = grind (arith, nat_tests)

some : (a b : ℕ) (t : Bool) → 0 < a → (ltb 0 (a + b) || t) ≡ true
some a b t h = rw (lt-ltb 0 (a + b) (omega arith))

some' : (a b : ℕ) (t : Bool) → 0 < b → (ltb 0 (a + b) || t) ≡ true
some' a b t h = rw (lt-ltb 0 (a + b) (omega arith))

wide : (d : ℕ) → 0 < d → 0 < 131072 * d
wide d h = omega arith

-- the code's two tests are the limit
pub in_limit_lem : (x : Float) → (le (fin true 1 (pos 17)) x && le x (fin false 1 (pos 17))) ≡ in_limit x
unfolding le in_limit
in_limit_lem nan = refl
in_limit_lem (inf true) = refl
in_limit_lem (inf false) = refl
in_limit_lem (fin false m e) = rw (some (131072 * down e) (m * up e * 1) _ (wide (down e) (down_pos e)), mul-one) (at_most (m * up e) (131072 * down e))
in_limit_lem (fin true m e) =
    rw (some' (m * up e * 1) (131072 * down e) _ (wide (down e) (down_pos e)), mul-one, and-true, eqb_sym (131072 * down e)) (at_most (m * up e) (131072 * down e))

-- 131072 passes, and the next number up does not
at_limit : in_limit (of_bits binary64 0x4100000000000000) ≡ true
unfolding in_limit of_bits
at_limit = refl

past_limit : in_limit (of_bits binary64 0x4100000000000001) ≡ false
unfolding in_limit of_bits
past_limit = refl
