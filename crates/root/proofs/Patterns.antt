-- The bit patterns of binary64's values with a clear sign: which number of units of 2 ^ -1074 a pattern stands for, and which pattern a number of units has. Assumes nothing.
use Rattle.std.proofs.Common.{◌≡◌, ℕ, zero, suc, ◌+◌, ◌-◌, ◌*◌, ◌/◌, ◌%◌, ◌^◌, ◌<◌, ◌≤◌, Bool, true, false, cond, T, eqb, leb, sym, refl, ap, ◌∙◌, subst, inl, inr, true≢false, le_trans, le_of_eq, lt_of_lt_of_le, lt_of_le_of_lt, mul-le-mul_right, mod-eq_of_lt, mul_assoc, eq-or-lt_of_le, mul-lt-mul_of_pos_right, lt_of_not-le, le-div_iff_mul-le, zero-add, mul-one, not-le_of_lt, div-one, mul-div_cancel, arith, lit<, eqb→eq, leb→le, pow_pos, pow-add, shl_lt}
use native.Mathlib.Nat.{pow-succ'}
use native.Mathlib.Decide.{dec_le}
use lib.Dec.{not_T}
use lib.Pow.{shr_mono}
use lib.Ieee.{Float, nan, inf, fin, binary64, down, size, odd, of_fields, of_bits, to_bits}
use lib.Ieee.Bits.{is_false, cond_no, of_bits-to_bits}
use lib.Ieee.Digits.{size-lt, size-le, size_reaches}
use lib.Ieee.Exact.{HasValue, odd_sign}
use lib.Ieee.Fits.{down_pos, kept-lt}
use Rattle.root.specs.Nearest.{InUnits}
use Rattle.root.proofs.Grid.{excess_is}

-- ---- what is read from a pattern of no sign

pub of_bits_is : (b : ℕ) → of_bits binary64 b ≡ of_fields binary64 (leb (2 ^ 63) b) (b % 2 ^ 63 / 2 ^ 52) (b % 2 ^ 52)
unfolding of_bits
of_bits_is b = refl

unsigned : (b : ℕ) → b < 2 ^ 63 → of_bits binary64 b ≡ of_fields binary64 false (b / 2 ^ 52) (b % 2 ^ 52)
unsigned b h =
    of_bits_is b
    ∙ ap (λ (s : Bool). of_fields binary64 s (b % 2 ^ 63 / 2 ^ 52) (b % 2 ^ 52)) (is_false (leb (2 ^ 63) b) (not_T (leb (2 ^ 63) b) (λ (u : T (leb (2 ^ 63) b)). not-le_of_lt h (leb→le (2 ^ 63) b u))))
    ∙ ap (λ (x : ℕ). of_fields binary64 false (x / 2 ^ 52) (b % 2 ^ 52)) (mod-eq_of_lt h)

differ : (x : ℕ) → suc x < 2047 → suc x ≡ 2047 → ⊥
differ x h e = omega arith

under_ones : (t x : ℕ) → suc x < 2047 → of_fields binary64 false (suc x) t ≡ odd 53 false (2 ^ 52 + t) x 1074
unfolding of_fields
under_ones t x h = cond_no (eqb (suc x) 2047) (cond (eqb t 0) (inf false) nan) (odd 53 false (2 ^ 52 + t) x 1074) (not_T (eqb (suc x) 2047) (λ (u : T (eqb (suc x) 2047)). differ x h (eqb→eq (suc x) 2047 u)))

at_zero : (t : ℕ) → of_fields binary64 false 0 t ≡ odd 53 false t 0 1074
unfolding of_fields
at_zero t = refl

-- a normal number's, in units of 2 ^ -1074
pub normal_value : (b : ℕ) → 2 ^ 52 ≤ b → b < 2047 * 2 ^ 52 → HasValue (of_bits binary64 b) false ((2 ^ 52 + b % 2 ^ 52) * 2 ^ (b / 2 ^ 52 - 1)) (2 ^ 1074)
normal_value b h k =
    subst (λ (x : Float). HasValue x false ((2 ^ 52 + b % 2 ^ 52) * 2 ^ (b / 2 ^ 52 - 1)) (2 ^ 1074))
    (sym (unsigned b (omega arith) ∙ ap (λ (x : ℕ). of_fields binary64 false x (b % 2 ^ 52)) (field b h) ∙ under_ones (b % 2 ^ 52) (b / 2 ^ 52 - 1) (field_lt b h k)))
    (odd_sign 53 false (2 ^ 52 + b % 2 ^ 52) (b / 2 ^ 52 - 1) 1074)
  where
    field : (b : ℕ) → 2 ^ 52 ≤ b → b / 2 ^ 52 ≡ suc (b / 2 ^ 52 - 1)
    field b h = omega arith

    field_lt : (b : ℕ) → 2 ^ 52 ≤ b → b < 2047 * 2 ^ 52 → suc (b / 2 ^ 52 - 1) < 2047
    field_lt b h k = omega arith

-- a subnormal number's
pub subnormal_value : (b : ℕ) → b < 2 ^ 52 → HasValue (of_bits binary64 b) false b (2 ^ 1074)
subnormal_value b h =
    subst (λ (x : Float). HasValue x false b (2 ^ 1074))
    (sym (unsigned b (omega arith) ∙ ap (λ (x : ℕ). of_fields binary64 false x (b % 2 ^ 52)) (none b h) ∙ ap (λ (x : ℕ). of_fields binary64 false 0 x) (all b h) ∙ at_zero b))
    (subst (λ (n : ℕ). HasValue (odd 53 false b 0 1074) false n (2 ^ 1074)) (mul-one b) (odd_sign 53 false b 0 1074))
  where
    none : (b : ℕ) → b < 2 ^ 52 → b / 2 ^ 52 ≡ 0
    none b h = omega arith

    all : (b : ℕ) → b < 2 ^ 52 → b % 2 ^ 52 ≡ b
    all b h = omega arith

-- any finite number's
pub bits_value : (b : ℕ) → b < 2047 * 2 ^ 52 → (w : ℕ) × HasValue (of_bits binary64 b) false w (2 ^ 1074)
bits_value b h = elim (dec_le (2 ^ 52) b) [
  | yes g ↦ ((2 ^ 52 + b % 2 ^ 52) * 2 ^ (b / 2 ^ 52 - 1), normal_value b g h)
  | no g ↦ (b, subnormal_value b (lt_of_not-le g))
]

-- ---- the pattern of w units

abbrev pub pattern_of : ℕ → ℕ
pattern_of w = (size w - 53) * 2 ^ 52 + w / 2 ^ (size w - 53)

pub to_bits_at : (v : Float) (w : ℕ) → HasValue v false w (2 ^ 1074) → to_bits binary64 v ≡ pattern_of w
unfolding to_bits
to_bits_at nan w p = absurd p
to_bits_at (inf s) w p = absurd p
to_bits_at (fin true m e) w p = absurd (true≢false p.0)
to_bits_at (fin false m e) w p =
    ap (λ (x : ℕ). 0 + (size x - 53) * 2 ^ 52 + x / 2 ^ (size x - 53)) (ap (λ (x : ℕ). x / down e) p.1 ∙ mul-div_cancel w (down_pos e))
    ∙ ap (λ (x : ℕ). x + w / 2 ^ (size w - 53)) (zero-add ((size w - 53) * 2 ^ 52))

-- so two values with the same pattern are one, and two of as many units
pub same_pattern : (r s : Float) (v w : ℕ) → InUnits r v → InUnits s w → pattern_of v ≡ pattern_of w → r ≡ s
same_pattern r s v w p q e =
    sym (of_bits-to_bits binary64 r p.0) ∙ ap (λ (b : ℕ). of_bits binary64 b) (to_bits_at r v p.1 ∙ e ∙ sym (to_bits_at s w q.1)) ∙ of_bits-to_bits binary64 s q.0

pub same_units : (r s : Float) (w : ℕ) → InUnits r w → InUnits s w → r ≡ s
same_units r s w p q = same_pattern r s w w p q refl

-- with all 53 digits q in sight
pub pattern_at : (v : Float) (q t : ℕ) → 2 ^ 52 ≤ q → q < 2 ^ 53 → HasValue v false (q * 2 ^ t) (2 ^ 1074) → to_bits binary64 v ≡ t * 2 ^ 52 + q
pattern_at v q t lo hi p =
    to_bits_at v (q * 2 ^ t) p
    ∙ ap (λ (x : ℕ). x * 2 ^ 52 + q * 2 ^ t / 2 ^ x) (excess_is (q * 2 ^ t) t (mul-le-mul_right (2 ^ t) lo) (mul-lt-mul_of_pos_right hi (pow_pos t)))
    ∙ ap (λ (x : ℕ). t * 2 ^ 52 + x) (mul-div_cancel q (pow_pos t))

-- a positive value's is that of a positive, finite one
pattern_pos : (w : ℕ) → 0 < w → 0 < pattern_of w
pattern_pos w W = go (size w - 53)
  where
    go : (k : ℕ) → 0 < k * 2 ^ 52 + w / 2 ^ k
    go zero = lt_of_lt_of_le W (le_of_eq (sym (div-one w) ∙ sym (zero-add (w / 1))))
    go (suc k) = omega arith

pub pattern_lt : (w : ℕ) → w < 2 ^ 2098 → pattern_of w < 2047 * 2 ^ 52
pattern_lt w h = omega (arith, kept-lt 53 w, size-le w 2098 h)

pub pattern_in : (x : Float) (w : ℕ) → 0 < w → w < 2 ^ 2098 → HasValue x false w (2 ^ 1074) → (0 < to_bits binary64 x) × (to_bits binary64 x < 2047 * 2 ^ 52)
pattern_in x w W h p = rw (to_bits_at x w p) (pattern_pos w W, pattern_lt w h)

-- even digits c give an even pattern
even_few : (v : Float) (c j : ℕ) → c < 2 ^ 53 → c % 2 ≡ 0 → HasValue v false (c * 2 ^ j) (2 ^ 1074) → to_bits binary64 v % 2 ≡ 0
even_few v c j few e p =
    let w = c * 2 ^ j in
    let k = size w - 53 in
    let s : k ≤ j = spare (size w) (size-le w (53 + j) (shl_lt 53 j few)) in
    let b : j ≡ j - k + k = omega arith in
    let h : c ≡ 2 * (c / 2) = omega arith in
    let d : w / 2 ^ k ≡ c * 2 ^ (j - k) =
    ap (λ (x : ℕ). x / 2 ^ k) (ap (λ (x : ℕ). c * 2 ^ x) b ∙ ap (λ (x : ℕ). c * x) (pow-add 2 (j - k) k) ∙ sym (mul_assoc c (2 ^ (j - k)) (2 ^ k))) ∙ mul-div_cancel (c * 2 ^ (j - k)) (pow_pos k) in
    let f : c * 2 ^ (j - k) ≡ 2 * (c / 2 * 2 ^ (j - k)) = ap (λ (x : ℕ). x * 2 ^ (j - k)) h ∙ mul_assoc 2 (c / 2) (2 ^ (j - k)) in
    ap (λ (x : ℕ). x % 2) (to_bits_at v w p) ∙ even k (w / 2 ^ k) (c / 2 * 2 ^ (j - k)) (d ∙ f)
  where
    spare : (z : ℕ) → z ≤ 53 + j → z - 53 ≤ j
    spare z h = omega arith

    even : (k a b : ℕ) → a ≡ 2 * b → (k * 2 ^ 52 + a) % 2 ≡ 0
    even k a b e = omega arith

-- at q = 2 ^ 53, which has a digit too many, they are 2 ^ 52
pub pattern_even : (v : Float) (q k : ℕ) → q ≤ 2 ^ 53 → q % 2 ≡ 0 → HasValue v false (q * 2 ^ k) (2 ^ 1074) → to_bits binary64 v % 2 ≡ 0
pattern_even v q k few e p = elim (eq-or-lt_of_le few) [
  | inl s ↦ even_few v (2 ^ 52) (suc k) (lit< tt) refl (subst (λ (w : ℕ). HasValue v false w (2 ^ 1074)) (ap (λ (x : ℕ). x * 2 ^ k) s ∙ mul_assoc (2 ^ 52) 2 (2 ^ k) ∙ ap (λ (x : ℕ). 2 ^ 52 * x) (sym (pow-succ' 2 k))) p)
  | inr l ↦ even_few v q k l e p
]

-- a larger value's pattern is no smaller
pub pattern_mono : (v w : ℕ) → v ≤ w → pattern_of v ≤ pattern_of w
pattern_mono v w h =
    elim (eq-or-lt_of_le (fewer (size v) (size w) (size-le v (size w) (lt_of_le_of_lt h (size-lt w))))) [
      | inl e ↦ subst (λ (k : ℕ). k * 2 ^ 52 + v / 2 ^ k ≤ pattern_of w) (sym e) (add-le ((size w - 53) * 2 ^ 52) (shr_mono (size w - 53) h))
      | inr l ↦ step (size v - 53) (size w - 53) (v / 2 ^ (size v - 53)) (w / 2 ^ (size w - 53)) l (kept-lt 53 v) (from_top (size w - 53) refl l)
    ]
  where
    fewer : (x y : ℕ) → x ≤ y → x - 53 ≤ y - 53
    fewer x y h = omega arith

    add-le : (c : ℕ) {a b : ℕ} → a ≤ b → c + a ≤ c + b
    add-le c h = omega arith

    step : (j k a b : ℕ) → j < k → a < 2 ^ 53 → 2 ^ 52 ≤ b → j * 2 ^ 52 + a ≤ k * 2 ^ 52 + b
    step j k a b l h g = omega arith

    reaches : (z j k : ℕ) → z - 53 ≡ k → j < k → 52 + k < z
    reaches z j k e l = omega arith

    from_top : (k : ℕ) {j : ℕ} → size w - 53 ≡ k → j < k → 2 ^ 52 ≤ w / 2 ^ k
    from_top k {j} e l = (le-div_iff_mul-le (pow_pos k)).1 (le_trans (le_of_eq (sym (pow-add 2 52 k))) (size_reaches w (52 + k) (reaches (size w) j k e l)))
