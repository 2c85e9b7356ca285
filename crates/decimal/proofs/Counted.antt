-- How many bytes a whole number takes, by its logarithm. Assumes nothing.
use mathlib.Core.Path.{◌≡◌, ap}
use Prim.Native.Nat.{ℕ, zero, suc, ◌+◌, ◌*◌, ◌%◌, ◌/◌, ◌^◌, ◌≤◌, ◌<◌}
use native.Mathlib.Nat.{pow-suc}
use Rattle.std.specs.Prelude.{max}
use native.Mathlib.Omega.{arith}
use lib.ListN.{length, length-append}
use Rattle.decimal.specs.Text.{whole_text, fraction_text, size_text}
use Rattle.decimal.proofs.Digits.{whole-small, length_more}

ten : (k : ℕ) → 0 < 10 ^ k
ten zero = omega arith
ten (suc k) = omega (arith, ten k, pow-suc 10 k)

pub whole_length : (k n : ℕ) → 10 ^ k ≤ max n 1 → max n 1 < 10 * 10 ^ k → length (whole_text n) ≡ k + 1
whole_length zero n h l = ap length (whole-small n (omega arith))
whole_length (suc k) n h l =
    let p = pow-suc 10 k in
    let z : 0 < 10 ^ k = ten k in
    let r : length (whole_text (n / 10)) ≡ k + 1 = whole_length k (n / 10) (omega arith) (omega arith) in
    omega (arith, length_more n (omega arith))

-- the whole part, then the decimals
pub size_length : (t : ℕ) → length (size_text t) ≡ length (whole_text (t / 1000)) + length (fraction_text (t % 1000))
unfolding size_text
size_length t = length-append (whole_text (t / 1000)) (fraction_text (t % 1000))
