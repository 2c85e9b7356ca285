-- One more digit halves the place d and keeps the root so far and what is left in balance.
use Rattle.std.proofs.Common.{◌≡◌, ℕ, ◌+◌, ◌*◌, ◌/◌, ◌^◌, ◌<◌, ◌≤◌, refl, subst, arith, pow_pos}
use Rattle.root.proofs.Whole.{Part, left_lt, digit_0, digit_1, half_power, root-lt}
use Rattle.root.proofs.isqrt_wide.Goals as goal

-- the root so far has 54 digits at most, and what is left has two more
q-lt : (m q y d : ℕ) → m < 2 ^ 54 → Part (m * 2 ^ 54) q y d → q < 2 ^ 54
q-lt m q y d h p = root-lt (m * 2 ^ 54) q y d (2 ^ 54) p (omega arith)

-- the same with the place of the next digit
split : (n q y d : ℕ) (j : (i : ℕ) × (d ≡ 2 ^ i)) → 1 < d → Part n q y d → Part n q y (d / 2 + d / 2)
split n q y d j h p = subst (λ (z : ℕ). Part n q y z) (half_power j.0 d j.1 h).2 p

-- a power of two that is not above 1 is 1
one : (j d : ℕ) → d ≡ 2 ^ j → d ≤ 1 → d ≡ 1
one j d e h = omega (arith, pow_pos j)

pub loop-d-init : goal.loop-d-init
loop-d-init c = (record { exact = omega arith; above = omega arith }, omega arith, (54, refl))

pub overflow_add-y : goal.overflow_add-y
overflow_add-y c =
    let l = c.loop-d in
    omega (arith, left_lt _ l.q l.y l.d l.invariant.0, q-lt c.args.m l.q l.y l.d c.requires l.invariant.0)

pub loop-d-preserved-then-t-y : goal.loop-d-preserved-then-t-y
loop-d-preserved-then-t-y c =
    let l = c.loop-d in
    let half = half_power l.invariant.2.0 l.d l.invariant.2.1 c.loop-d-test.true in
    (digit_1 _ l.q l.y (l.d / 2) (split _ l.q l.y l.d l.invariant.2 c.loop-d-test.true l.invariant.0) c.if-t-y.true, omega arith, (half.0, half.1))

pub loop-d-preserved : goal.loop-d-preserved
loop-d-preserved c =
    let l = c.loop-d in
    let half = half_power l.invariant.2.0 l.d l.invariant.2.1 c.loop-d-test.true in
    (digit_0 _ l.q l.y (l.d / 2) (omega arith) (split _ l.q l.y l.d l.invariant.2 c.loop-d-test.true l.invariant.0) c.if-t-y.false, omega arith, (half.0, half.1))
