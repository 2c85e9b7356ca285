-- The root of a positive value, with the significands in sight: √n lies strictly between q - 1/2 and q + 1/2, so no root of a value is a tie. Assumes nothing.
use Rattle.std.proofs.Common.{◌≡◌, ℕ, ◌+◌, ◌-◌, ◌*◌, ◌/◌, ◌%◌, ◌^◌, ◌<◌, ◌≤◌, false, T, sym, refl, ap, ◌∙◌, mul_assoc, mul_right_comm, arith}
use lib.Ieee.{Float, binary64, fits}
use lib.Ieee.Exact.{HasValue}
use lib.Ieee.Positive.{num, den, positive, value→cross}
use Rattle.root.specs.Root.{isqrt, root_of}
use Rattle.root.specs.Nearest.{Nearest, Correct}
use Rattle.root.proofs.Whole.{isqrt-is, nearest-of_floor, sq_odd, sq_odd_less}
use Rattle.root.proofs.Leading.{Form, form_of}
use Rattle.root.proofs.Scaled.{root_at, nearest-from, nearest_to, in_squares, made_even}

above_of : (n q : ℕ) → 0 < q → Nearest n q → (2 * q - 1) * (2 * q - 1) < 4 * n
above_of n q Q N = omega (arith, sq_odd_less q (2 * q - 1) (omega arith), N.above)

below_of : (n q : ℕ) → Nearest n q → 4 * n < (2 * q + 1) * (2 * q + 1)
below_of n q N = omega (arith, sq_odd q, N.below)

squared : (a d v l w : ℕ) → a * l ≡ v * d → v * l ≡ w → a * (l * l) ≡ w * d
squared a d v l w e f = sym (mul_assoc a l l) ∙ ap (λ (x : ℕ). x * l) e ∙ mul_right_comm v d l ∙ ap (λ (x : ℕ). x * d) f

-- x is n units, and n * 2 ^ 53 is m * 2 ^ p, with h for half of p + 969
correct_at : (x : Float) (n m p h : ℕ) → HasValue x false n (2 ^ 1074) → n * 2 ^ 53 ≡ m * 2 ^ p → 2 ^ 52 ≤ m → m + 2 ≤ 2 ^ 54 → p ≤ 2098 → h + h ≡ p + 969 → Correct x (root_of x)
correct_at x n m p h v e lo hi P H =
    let k = m * 2 ^ 52 in
    let q = (isqrt (4 * k) + 1) / 2 in
    let N : Nearest k q = nearest-of_floor k (isqrt (4 * k)) q (omega arith) (isqrt-is (4 * k)) refl in
    let Q : 2 ^ 52 ≤ q = nearest-from m q lo N in
    record {
      n = k;
      q = q;
      t = h;
      square = squared (num x) (den x) n (2 ^ 1074) (k * 4 ^ h) (value→cross x n (2 ^ 1074) v) (in_squares n m p h e H);
      value = (root_at m p h q lo hi H P N x n v e).0;
      q_from = Q;
      q_to = nearest_to m q hi N;
      n_from = omega arith;
      above = above_of k q (omega arith) N;
      below = below_of k q N;
    }

correct-of : (x : Float) → Form x → Correct x (root_of x)
correct-of x f =
    let E = made_even f.m f.p f.low f.high f.first f.last in
    correct_at x f.n (f.m * 2 ^ ((f.p + 969) % 2) % 2 ^ 64) E.i ((f.p + 969) / 2) f.value (f.is ∙ E.is) E.low E.high E.i_le E.half

pub root_is : (x : Float) → T (positive x) → T (fits binary64 x) → Correct x (root_of x)
root_is x P F = correct-of x (form_of x P F)
