-- A positive value with 53 digits in front: a normal one has them, and a subnormal one's are moved up until the leading one is in the 53rd place. Assumes nothing.
use Rattle.std.proofs.Common.{◌≡◌, ℕ, zero, suc, ◌+◌, ◌-◌, ◌*◌, ◌/◌, ◌%◌, ◌^◌, ◌<◌, ◌≤◌, false, T, sym, refl, ap, ◌∙◌, subst, le_trans, le_of_eq, lt_of_lt_of_le, lt_of_le_of_lt, mul-le-mul_right, mul_assoc, add_comm, lt_of_not-le, not-le_of_lt, arith, pow_pos, pow_mono, pow-add, shl_lt, shl_exact}
use lib.Bits.{bit_and, and_mask}
use lib.Count.{count_leading_zeros, leading_top}
use lib.Ieee.{Float, binary64, fits, of_bits, to_bits}
use lib.Ieee.Bits.{of_bits-to_bits}
use lib.Ieee.Exact.{HasValue}
use lib.Ieee.Positive.{num, den, positive, own_value, value_pos}
use Rattle.root.specs.Root.{root_of}
use Rattle.root.proofs.Values.{units_of}
use Rattle.root.proofs.Patterns.{normal_value, subnormal_value, pattern_in}

-- ---- a subnormal number's digits b, with z zeros before them in 64 bits
pub record Moved (b z : ℕ) : Type 0 where
  pub from : 12 ≤ z
  pub to : z ≤ 63
  pub whole : (b * 2 ^ (z - 11)) % 2 ^ 64 ≡ b * 2 ^ (z - 11)
  pub low : 2 ^ 52 ≤ b * 2 ^ (z - 11)
  pub high : b * 2 ^ (z - 11) < 2 ^ 53
  pub value : b * 2 ^ 53 ≡ b * 2 ^ (z - 11) * 2 ^ (64 - z)

at : (b z j : ℕ) → b < 2 ^ 52 → z + suc j ≡ 64 → 2 ^ j ≤ b → b < 2 ^ suc j → Moved b z
at b z j h e lo hi =
    let J : j < 52 = lt_of_not-le (λ (g : 52 ≤ j). not-le_of_lt (lt_of_le_of_lt lo h) (pow_mono g)) in
    let k : suc j + (z - 11) ≡ 53 = omega arith in
    let l : j + (z - 11) ≡ 52 = omega arith in
    let v : z - 11 + (64 - z) ≡ 53 = omega arith in
    record {
      from = omega arith;
      to = omega arith;
      whole = shl_exact (suc j) (z - 11) 64 hi (omega arith);
      low = le_trans (le_of_eq (ap (λ (x : ℕ). 2 ^ x) (sym l) ∙ pow-add 2 j (z - 11))) (mul-le-mul_right (2 ^ (z - 11)) lo);
      high = lt_of_lt_of_le (shl_lt (suc j) (z - 11) hi) (le_of_eq (ap (λ (x : ℕ). 2 ^ x) k));
      value = ap (λ (x : ℕ). b * 2 ^ x) (sym v) ∙ ap (λ (x : ℕ). b * x) (pow-add 2 (z - 11) (64 - z)) ∙ sym (mul_assoc b (2 ^ (z - 11)) (2 ^ (64 - z)));
    }

pub moved : (b : ℕ) → 0 < b → b < 2 ^ 52 → Moved b (count_leading_zeros 64 b)
moved b B h =
    let t = leading_top 64 b B (omega arith) in
    at b (count_leading_zeros 64 b) t.0 h t.1 t.2 t.3

-- ---- a normal number's digits t and field f, in the same form
pub normal_form : (t f : ℕ) → 0 < f → (2 ^ 52 + t) * 2 ^ (f - 1) * 2 ^ 53 ≡ (t + 2 ^ 52) * 2 ^ (f + 52)
normal_form t f F =
    let k : f - 1 + 53 ≡ f + 52 = omega arith in
    mul_assoc (2 ^ 52 + t) (2 ^ (f - 1)) (2 ^ 53)
    ∙ ap (λ (x : ℕ). (2 ^ 52 + t) * x) (sym (pow-add 2 (f - 1) 53) ∙ ap (λ (x : ℕ). 2 ^ x) k)
    ∙ ap (λ (x : ℕ). x * 2 ^ (f + 52)) (add_comm (2 ^ 52) t)

-- what is the root of every number with the digits of a normal one is that one's root
pub normal_root : (b : ℕ) (r : Float) → 2 ^ 52 ≤ b → b < 2047 * 2 ^ 52
    → ((x : Float) (n : ℕ) → HasValue x false n (2 ^ 1074) → n * 2 ^ 53 ≡ (bit_and b (2 ^ 52 - 1) + 2 ^ 52) * 2 ^ (b / 2 ^ 52 + 52) → root_of x ≡ r) → root_of (of_bits binary64 b) ≡ r
normal_root b r lo hi h =
    let f = b / 2 ^ 52 in
    h (of_bits binary64 b) ((2 ^ 52 + b % 2 ^ 52) * 2 ^ (f - 1)) (normal_value b lo hi) (normal_form (b % 2 ^ 52) f (omega arith) ∙ ap (λ (x : ℕ). (x + 2 ^ 52) * 2 ^ (f + 52)) (sym (and_mask b 52)))

-- ---- any positive value, n units: n * 2 ^ 53 is m * 2 ^ p
pub record Form (x : Float) : Type 0 where
  pub n : ℕ
  pub m : ℕ
  pub p : ℕ
  pub value : HasValue x false n (2 ^ 1074)
  pub is : n * 2 ^ 53 ≡ m * 2 ^ p
  pub low : 2 ^ 52 ≤ m
  pub high : m < 2 ^ 53
  pub first : 0 < p
  pub last : p ≤ 2098

form_of-bits : (b : ℕ) → 0 < b → b < 2047 * 2 ^ 52 → Form (of_bits binary64 b)
form_of-bits b B h = go (b / 2 ^ 52) refl
  where
    go : (f : ℕ) → b / 2 ^ 52 ≡ f → Form (of_bits binary64 b)
    go zero e =
        let s : b < 2 ^ 52 = omega arith in
        let z = count_leading_zeros 64 b in
        let w : Moved b z = moved b B s in
        record {
          n = b;
          m = b * 2 ^ (z - 11);
          p = 64 - z;
          value = subnormal_value b s;
          is = w.value;
          low = w.low;
          high = w.high;
          first = omega arith;
          last = omega arith;
        }
    go (suc f) e = record {
      n = (2 ^ 52 + b % 2 ^ 52) * 2 ^ (b / 2 ^ 52 - 1);
      m = b % 2 ^ 52 + 2 ^ 52;
      p = b / 2 ^ 52 + 52;
      value = normal_value b (omega arith) h;
      is = normal_form (b % 2 ^ 52) (b / 2 ^ 52) (omega arith);
      low = omega arith;
      high = omega arith;
      first = omega arith;
      last = omega arith;
    }

pub form_of : (x : Float) → T (positive x) → T (fits binary64 x) → Form x
form_of x P F =
    let u = units_of x (num x) (den x) F (own_value x P) in
    let b = pattern_in x u.count (value_pos x u.count (2 ^ 1074) P (pow_pos 1074) u.value) u.written.under u.value in
    subst Form (of_bits-to_bits binary64 x F) (form_of-bits (to_bits binary64 x) b.0 b.1)
