-- Roots of whole numbers: squares, a turn of the digit by digit loop, and the definition's `isqrt` and `twice`. Nothing here is about floats. Assumes nothing.
use Rattle.std.proofs.Common.{◌≡◌, ℕ, zero, suc, ◌+◌, ◌-◌, ◌*◌, ◌/◌, ◌%◌, ◌^◌, ◌<◌, ◌≤◌, Bool, true, false, cond, not, T, leb, ◌⊎◌, sym, refl, ap, ◌∙◌, subst, inl, inr, le_trans, le_of_eq, lt_of_lt_of_le, le_of_suc-le-suc, lt_of_le_of_lt, le_of_lt, add_assoc, mul_comm, add-mul, mul-le-mul, add_comm, le_antisymm, lt_of_mul-lt-mul_right, mul-lt-mul_of_pos_right, lt_of_not-le, mul-add, not-le_of_lt, add-one, arith, lit≤, leb→le}
use native.Mathlib.Nat.{add_left_comm, two-pow-succ, pow-succ', pow-le-pow_left, mul-mul-mul_comm}
use Rattle.std.proofs.lemmas.Bool.Decides.{nat_tests}
use lib.Dec.{nleb→lt}
use lib.Ieee.{size}
use lib.Ieee.Digits.{size-lt}
use Rattle.root.specs.Root.{digit, isqrt_by, isqrt, twice}
use Rattle.root.specs.Nearest.{Nearest}

-- ---- squares

pub sq_add : (q d : ℕ) → (q + d) * (q + d) ≡ q * q + (q + q + d) * d
sq_add q d = simp (mul-add, add-mul, mul_comm, add_assoc) refl

pub sq_mul : (a b : ℕ) → a * b * (a * b) ≡ a * a * (b * b)
sq_mul a b = mul-mul-mul_comm a b a b

pub sq_odd : (q : ℕ) → (2 * q + 1) * (2 * q + 1) ≡ 4 * (q * q + q) + 1
sq_odd q = omega (arith, sq_add (2 * q) 1, sq_mul 2 q)

-- (2 * q - 1) ^ 2, with r for 2 * q - 1
pub sq_odd_less : (q r : ℕ) → 2 * q ≡ r + 1 → r * r + 4 * q ≡ 4 * (q * q) + 1
sq_odd_less q r e =
    let a : 2 * q * (2 * q) ≡ (r + 1) * (r + 1) = ap (λ (x : ℕ). x * x) e in
    omega (arith, sq_add r 1, sq_mul 2 q)

pub four-pow : (t : ℕ) → 4 ^ t ≡ 2 ^ t * 2 ^ t
four-pow zero = refl
four-pow (suc t) = pow-succ' 4 t ∙ ap (λ (x : ℕ). 4 * x) (four-pow t) ∙ sym (sq_mul 2 (2 ^ t)) ∙ ap (λ (x : ℕ). x * x) (sym (pow-succ' 2 t))

pub sq_lt : (a b : ℕ) → a < b → a * a < b * b
sq_lt a b h =
    let g : a + 1 ≤ b = omega arith in
    omega (arith, sq_add a 1, mul-le-mul g g)

-- of two numbers the one with the smaller square is the smaller
pub sq_lt-back : (a b : ℕ) → a * a < b * b → a < b
sq_lt-back a b h = lt_of_not-le (λ (g : b ≤ a). not-le_of_lt h (mul-le-mul g g))

pub sq_le-back : (a b : ℕ) → a * a ≤ b * b → a ≤ b
sq_le-back a b h = le_of_suc-le-suc (lt_of_not-le (λ (g : b < a). not-le_of_lt (sq_lt b a g) h))

-- s, whose square is at most n, is at most r, if n is below the square of r + 1
pub root-le : {n : ℕ} (s r : ℕ) → s * s ≤ n → n < (r + 1) * (r + 1) → s ≤ r
root-le s r h k = le_of_suc-le-suc (lt_of_lt_of_le (sq_lt-back s (r + 1) (lt_of_le_of_lt h k)) (le_of_eq (add-one r)))

-- ---- a turn of the loop. q is the root so far, d the place of its last digit, and y what is left of n, in units of d

pub record Part (n q y d : ℕ) : Type 0 where
  pub exact : q * q + y * d ≡ n
  pub above : n < (q + d) * (q + d)

pub left_lt : (n q y d : ℕ) → Part n q y d → y < q + q + d
left_lt n q y d p = lt_of_mul-lt-mul_right d (omega (arith, sq_add q d, p.exact, p.above))

doubled : (y b : ℕ) → y * (b + b) ≡ (y + y) * b
doubled y b = simp (mul-add, add-mul)

halves : (q b : ℕ) → q + (b + b) ≡ q + b + b
halves q b = omega arith

-- the next digit is 0
pub digit_0 : (n q y b : ℕ) → 0 < b → Part n q y (b + b) → y + y < q + q + b → Part n q (y + y) b
digit_0 n q y b B p h = record {
  exact = ap (λ (z : ℕ). q * q + z) (sym (doubled y b)) ∙ p.exact;
  above = omega (arith, sq_add q b, doubled y b, p.exact, mul-lt-mul_of_pos_right h B);
}

taken : (q b z : ℕ) → q * q + (z + (q + q + b)) * b ≡ (q + b) * (q + b) + z * b
taken q b z = simp (mul-add, add-mul, mul_comm, add_assoc, add_comm, add_left_comm) refl

-- the next digit is 1
pub digit_1 : (n q y b : ℕ) → Part n q y (b + b) → q + q + b ≤ y + y → Part n (q + b) (y + y - (q + q + b)) b
digit_1 n q y b p h =
    let back : y + y - (q + q + b) + (q + q + b) ≡ y + y = omega arith in
    record {
      exact = sym (taken q b (y + y - (q + q + b))) ∙ ap (λ (z : ℕ). q * q + z * b) back ∙ ap (λ (z : ℕ). q * q + z) (sym (doubled y b)) ∙ p.exact;
      above = subst (λ (z : ℕ). n < z * z) (halves q b) p.above;
    }

-- a power of two above 1 has a half
pub half_power : (j d : ℕ) → d ≡ 2 ^ j → 1 < d → (i : ℕ) × (d / 2 ≡ 2 ^ i) × (d ≡ d / 2 + d / 2)
half_power zero d e h = absurd (no d e h)
  where
    no : (d : ℕ) → d ≡ 1 → 1 < d → ⊥
    no d e h = omega arith
half_power (suc i) d e h = (i, omega (arith, two-pow-succ i), omega (arith, two-pow-succ i))

-- the root is no longer than the number
pub root-lt : (n q y d k : ℕ) → Part n q y d → n < k * k → q < k
root-lt n q y d k p h = sq_lt-back q k (omega (arith, p.exact))

-- ---- the definition's `isqrt`

pub record Floor (n s : ℕ) : Type 0 where
  pub low : s * s ≤ n
  pub high : n < (s + 1) * (s + 1)

digit-is : (n r : ℕ) → Floor (n / 4) r → Floor n (digit r n)
unfolding digit
digit-is n r f = go (leb ((2 * r + 1) * (2 * r + 1)) n) (leb→le ((2 * r + 1) * (2 * r + 1)) n) (nleb→lt ((2 * r + 1) * (2 * r + 1)) n)
  where
    go : (b : Bool) → (T b → (2 * r + 1) * (2 * r + 1) ≤ n) → (T (not b) → n < (2 * r + 1) * (2 * r + 1)) → Floor n (cond b (2 * r + 1) (2 * r))
    go true h k = record { low = h tt; high = omega (arith, f.high, sq_add r 1, sq_add (2 * r + 1) 1, sq_odd r) }
    go false h k = record { low = omega (arith, f.low, sq_mul 2 r); high = k tt }

isqrt_by-is : (k n : ℕ) → n < 4 ^ k → Floor n (isqrt_by k n)
unfolding isqrt_by
isqrt_by-is zero n h = record { low = omega arith; high = omega arith }
isqrt_by-is (suc k) n h = digit-is n (isqrt_by k (n / 4)) (isqrt_by-is k (n / 4) (omega (arith, pow-succ' 4 k)))

pub isqrt-is : (n : ℕ) → Floor n (isqrt n)
unfolding isqrt
isqrt-is n = isqrt_by-is (size n) n (lt_of_lt_of_le (size-lt n) (pow-le-pow_left (lit≤ tt) (size n)))

-- ---- from the whole part of √(4 * n), which is twice √n, to the whole number nearest to √n

double : (s q : ℕ) → s ≡ q + q → s * s ≡ 4 * (q * q)
double s q e = ap (λ (z : ℕ). z * z) e ∙ simp (mul-add, add-mul) (omega arith)

pub nearest-of_floor : (n s q : ℕ) → 0 < n → Floor (4 * n) s → q ≡ (s + 1) / 2 → Nearest n q
nearest-of_floor n s q P f e = go (s % 2) refl
  where
    go : (r : ℕ) → s % 2 ≡ r → Nearest n q
    go zero z =
        let d : s * s ≡ 4 * (q * q) = double s q (omega arith) in
        let two : 2 < s + 1 = sq_lt-back 2 (s + 1) (omega (arith, f.high)) in
        record { above = omega (arith, f.low, f.high, sq_add s 1); below = omega (arith, f.low, f.high, sq_add s 1) }
    go (suc r) z =
        let d : (s + 1) * (s + 1) ≡ 4 * (q * q) = double (s + 1) q (omega arith) in
        record { above = omega (arith, f.low, f.high, sq_add s 1); below = omega (arith, f.low, f.high, sq_add s 1) }

-- ---- `twice n s`, for s the whole part of √n, is on the same side of every even number 2 * c as 2 * √n is

pub twice-is : (n s : ℕ) → ((twice n s ≡ 2 * s) × (s * s ≡ n)) ⊎ ((twice n s ≡ 2 * s + 1) × (s * s ≡ n → ⊥))
unfolding twice
twice-is n s = grind (arith, nat_tests)

module _ (n s : ℕ) (f : Floor n s) where
  pub twice-from : (c : ℕ) → 2 * c ≤ twice n s → c * c ≤ n
  twice-from c h = elim (twice-is n s) [ inl e ↦ by (omega (arith, e.0)) | inr e ↦ by (omega (arith, e.0)) ]
    where
      by : c ≤ s → c * c ≤ n
      by l = le_trans (mul-le-mul l l) f.low

  pub twice_to : (c : ℕ) → twice n s ≤ 2 * c → n ≤ c * c
  twice_to c h = elim (twice-is n s) [ inl e ↦ exact (omega (arith, e.0)) e.1 | inr e ↦ inexact (omega (arith, e.0)) ]
    where
      exact : s ≤ c → s * s ≡ n → n ≤ c * c
      exact l e = le_trans (le_of_eq (sym e)) (mul-le-mul l l)

      inexact : s + 1 ≤ c → n ≤ c * c
      inexact l = le_trans (le_of_lt f.high) (mul-le-mul l l)

  pub twice_above : (c : ℕ) → c * c ≤ n → 2 * c ≤ twice n s
  twice_above c h =
      let l : c ≤ s = root-le c s h f.high in
      elim (twice-is n s) [ inl e ↦ omega (arith, e.0) | inr e ↦ omega (arith, e.0) ]

  pub twice_at : (c : ℕ) → c * c ≡ n → twice n s ≡ 2 * c
  twice_at c e =
      let same : s ≡ c = le_antisymm (root-le s c f.low (omega (arith, sq_add c 1))) (root-le c s (le_of_eq e) f.high) in
      elim (twice-is n s) [ inl t ↦ t.0 ∙ ap (λ (x : ℕ). 2 * x) same | inr t ↦ absurd (t.1 (ap (λ (x : ℕ). x * x) same ∙ e)) ]

-- of a larger number it is no smaller
pub twice_mono : (n s m r : ℕ) → Floor n s → Floor m r → n ≤ m → twice n s ≤ twice m r
twice_mono n s m r f g h = elim (twice-is n s) [
  | inl e ↦ le_trans (le_of_eq e.0) (twice_above m r g s (le_trans f.low h))
  | inr e ↦ le_of_suc-le-suc (lt_of_not-le (λ (k : twice m r < twice n s). e.1 (le_antisymm f.low (le_trans h (twice_to m r g s (omega (arith, e.0)))))))
]
