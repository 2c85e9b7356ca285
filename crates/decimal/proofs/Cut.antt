-- The shift and the remainder of `decimal::nearest`. Assumes nothing.
use mathlib.Core.Path.{◌≡◌, ap, ◌∙◌}
use Prim.Native.Nat.{ℕ, zero, suc, ◌-◌, ◌*◌, ◌/◌, ◌%◌, ◌^◌, ◌≤◌, ◌<◌}
use native.Mathlib.Nat.{pow-suc}
use native.Mathlib.Omega.{arith}
use lib.Pow.{split, pow_mono}

-- the remainder and half of the divisor, as the code has them
pub left_is : (n s : ℕ) → n < 2 ^ 63 → n - n / 2 ^ s * 2 ^ s % 2 ^ 64 ≡ n % 2 ^ s
left_is n s h = omega (arith, split n s)

pub half_is : (s : ℕ) → 0 < s → s < 64 → 1 * 2 ^ (s - 1) % 2 ^ 64 * 2 ≡ 2 ^ s
half_is zero h k = absurd (omega arith)
half_is (suc s) h k =
    let small : 2 ^ s ≤ 2 ^ 63 = pow_mono {j = 63} (omega arith) in
    let e : suc s - 1 ≡ s = omega arith in
    ap (λ z. 1 * 2 ^ z % 2 ^ 64 * 2) e ∙ (let w : 2 ^ suc s ≡ 2 ^ s * 2 = pow-suc 2 s in omega arith)
