-- A fraction rounded to 53 digits with zeros after them, as `round` does it: no other such number is nearer, and a tie goes to an even one.
-- Nothing here is about roots. Assumes nothing.
use Rattle.std.proofs.Common.{◌≡◌, ℕ, zero, suc, ◌+◌, ◌-◌, ◌*◌, ◌/◌, ◌%◌, ◌^◌, ◌<◌, ◌≤◌, not, T, eqb, ◌⊎◌, sym, refl, ap, ◌∙◌, subst, inl, inr, le_trans, le_of_eq, lt_of_lt_of_le, le_of_suc-le-suc, lt_of_le_of_lt, le_of_lt, mul-le-mul_right, mod-lt, mul_assoc, suc-mul, mul_comm, div-lt_iff_lt-mul, add-mul, le_antisymm, lt_of_mul-lt-mul_right, suc-add, eq-or-lt_of_le, mul-le-mul_left, mul-lt-mul_of_pos_right, mul-pos, lt_of_not-le, div-add-mod', le-div_iff_mul-le, not-le_of_lt, mul_left_comm, arith, eqb→eq, leb→le, pow_pos, pow_mono, pow-add}
use Prim.Native.Nat.{compare, Ordering}
use native.Mathlib.Nat.{pow-succ'}
use native.Mathlib.Decide.{dec_le}
use lib.Dec.{is_le, compare_is_eq, nleb→lt, eqb_refl}
use lib.Arith.{lt_of_le-ne}
use lib.Ieee.{nearest, size}
use lib.Ieee.Digits.{size-lt, size-le, size_reaches}
use lib.Ieee.Nearest.{closest}
use lib.Ieee.Order.{kept, drop}

-- ---- a number from 2 ^ 52 * 2 ^ t up to 2 ^ 53 * 2 ^ t has t digits more than 53
size_is : (n a : ℕ) → 2 ^ a ≤ n → n < 2 ^ suc a → size n ≡ suc a
size_is n a h k = le_antisymm (size-le n (suc a) k) (lt_of_not-le (λ (g : size n ≤ a). not-le_of_lt (lt_of_lt_of_le (size-lt n) (pow_mono g)) h))

pub excess_is : (n t : ℕ) → 2 ^ 52 * 2 ^ t ≤ n → n < 2 ^ 53 * 2 ^ t → size n - 53 ≡ t
excess_is n t lo hi =
    less (size n) (size_is n (52 + t) (le_trans (le_of_eq (pow-add 2 52 t)) lo) (lt_of_lt_of_le hi (le_of_eq (sym (pow-add 2 53 t) ∙ ap (λ (x : ℕ). 2 ^ x) (suc-add 52 t)))))
  where
    less : (z : ℕ) → z ≡ suc (52 + t) → z - 53 ≡ t
    less z e = omega arith

-- ---- what `compare` says (`lib.Ieee.Nearest` has the same, and keeps it to itself)
abbrev Cmp : Ordering → ℕ → ℕ → Type 0
Cmp Ordering.lt a b = a < b
Cmp Ordering.eq a b = a ≡ b
Cmp Ordering.gt a b = b < a

cmp : (a b : ℕ) → Cmp (compare a b) a b
cmp a b = go (compare a b) (leb→le a b) (nleb→lt a b) (eqb→eq a b) (λ (e : a ≡ b). subst (λ (x : ℕ). T (eqb a x)) e (eqb_refl a))
  where
    go : (o : Ordering) → (T (is_le o) → a ≤ b) → (T (not (is_le o)) → b < a) → (T (compare_is_eq o) → a ≡ b) → (a ≡ b → T (compare_is_eq o)) → Cmp o a b
    go Ordering.lt h k e n = lt_of_le-ne (h tt) n
    go Ordering.eq h k e n = e tt
    go Ordering.gt h k e n = k tt

-- ---- a / u to the nearest whole number q: they are a half apart at most, and just a half only where q is even
pub record Near (a u q : ℕ) : Type 0 where
  pub low : 2 * (q * u) ≤ 2 * a + u
  pub high : 2 * a ≤ 2 * (q * u) + u
  pub tie_low : 2 * (q * u) ≡ 2 * a + u → q % 2 ≡ 0
  pub tie_high : 2 * a ≡ 2 * (q * u) + u → q % 2 ≡ 0

near_of : (o : Ordering) (w r u a : ℕ) → 0 < u → w * u + r ≡ a → r < u → Cmp o (r * 2) u → Near a u (nearest w o)
near_of Ordering.lt w r u a U e R c = record { low = omega arith; high = omega arith; tie_low = λ t. omega arith; tie_high = λ t. omega arith }
near_of Ordering.eq w r u a U e R c =
    let x : (w + w % 2) * u ≡ w * u + w % 2 * u = add-mul w (w % 2) u in
    let l : w % 2 ≤ 1 = omega arith in
    let y : w % 2 * u ≤ 1 * u = mul-le-mul_right u l in
    record { low = omega arith; high = omega arith; tie_low = λ t. omega arith; tie_high = λ t. omega arith }
near_of Ordering.gt w r u a U e R c =
    let x : suc w * u ≡ w * u + u = suc-mul w u in
    record { low = omega arith; high = omega arith; tie_low = λ t. omega arith; tie_high = λ t. omega arith }

pub closest_near : (a u : ℕ) → 0 < u → Near a u (closest a u)
closest_near a u U = near_of (compare (a % u * 2) u) (a / u) (a % u) u a U (div-add-mod' a u) (mod-lt a U) (cmp (a % u * 2) u)

-- a is at most b if a multiples of p are less than b multiples and one more
multiples : (a b p : ℕ) → a * p < b * p + p → a ≤ b
multiples a b p h = le_of_suc-le-suc (lt_of_mul-lt-mul_right p (lt_of_lt_of_le h (le_of_eq (sym (suc-mul b p)))))

-- a fraction z / (2 * p) that is less than a half from q rounds to q
pub closest_is : (z p q : ℕ) → 0 < p → 2 * (q * p) < z + p → z < 2 * (q * p) + p → closest z (2 * p) ≡ q
closest_is z p q P lo hi =
    let c = closest z (2 * p) in
    let N : Near z (2 * p) c = closest_near z (2 * p) (omega arith) in
    let e : c * (2 * p) ≡ 2 * (c * p) = mul_left_comm c 2 p in
    le_antisymm (multiples c q p (omega (arith, N.low))) (multiples q c p (omega (arith, N.high)))

-- ---- numbers of 53 digits with zeros after them: w = d * 2 ^ j, for a d below 2 ^ 53. Those next to q * 2 ^ t are 2 ^ t away from it, or more;
-- but below 2 ^ 52 * 2 ^ t there are nearer ones, if t is not 0

-- from 2 ^ 52 * 2 ^ t on they are multiples of 2 ^ t
multiple : (d j t : ℕ) → d < 2 ^ 53 → 2 ^ 52 * 2 ^ t ≤ d * 2 ^ j → (g : ℕ) × (d * 2 ^ j ≡ g * 2 ^ t)
multiple d j t h k =
    let s : t ≤ j = le_of_suc-le-suc (lt_of_not-le (λ (g : suc j ≤ t). not-le_of_lt (short g) k)) in
    let e : j ≡ j - t + t = omega arith in
    (d * 2 ^ (j - t), ap (λ (x : ℕ). d * 2 ^ x) e ∙ ap (λ (x : ℕ). d * x) (pow-add 2 (j - t) t) ∙ sym (mul_assoc d (2 ^ (j - t)) (2 ^ t)))
  where
    short : suc j ≤ t → d * 2 ^ j < 2 ^ 52 * 2 ^ t
    short g = lt_of_lt_of_le (mul-lt-mul_of_pos_right h (pow_pos j)) (le_trans (le_of_eq (mul_assoc (2 ^ 52) 2 (2 ^ j) ∙ ap (λ (x : ℕ). 2 ^ 52 * x) (sym (pow-succ' 2 j)))) (mul-le-mul_left (2 ^ 52) (pow_mono g)))

-- two multiples of p
apart : (a b p w : ℕ) → w ≡ a * p → w < b * p → w + p ≤ b * p
apart a b p w e h = le_trans (le_of_eq (ap (λ (x : ℕ). x + p) e ∙ sym (suc-mul a p))) (mul-le-mul_right p (lt_of_mul-lt-mul_right p (lt_of_le_of_lt (le_of_eq (sym e)) h)))

module _ (q t d j : ℕ) (D : d < 2 ^ 53) where
  pub next_below : 2 ^ 52 ≤ q → d * 2 ^ j < q * 2 ^ t → (d * 2 ^ j + 2 ^ t ≤ q * 2 ^ t) ⊎ (q ≡ 2 ^ 52)
  next_below Q h = elim (eq-or-lt_of_le Q) [
    | inl e ↦ inr (sym e)
    | inr l ↦ inl (elim (dec_le (2 ^ 52 * 2 ^ t) (d * 2 ^ j)) [
      | yes k ↦
          let g = multiple d j t D k in
          apart g.0 q (2 ^ t) (d * 2 ^ j) g.1 h
      | no k ↦ past l (lt_of_not-le k)
    ])
  ]
    where
      past : 2 ^ 52 < q → d * 2 ^ j < 2 ^ 52 * 2 ^ t → d * 2 ^ j + 2 ^ t ≤ q * 2 ^ t
      past g l = omega (arith, mul-le-mul_right (2 ^ t) g, suc-mul (2 ^ 52) (2 ^ t))

  pub next_above : 2 ^ 52 ≤ q → q * 2 ^ t < d * 2 ^ j → q * 2 ^ t + 2 ^ t ≤ d * 2 ^ j
  next_above Q h =
      let g = multiple d j t D (le_trans (mul-le-mul_right (2 ^ t) Q) (le_of_lt h)) in
      le_trans (apart q g.0 (2 ^ t) (q * 2 ^ t) refl (lt_of_lt_of_le h (le_of_eq g.1))) (le_of_eq (sym g.1))

-- ---- q * p is near a / b, and w, which has a distance of p from it, is no nearer
module _ (a b p q w : ℕ) (N : Near a (b * p) q) where
  times : q * p * b ≡ q * (b * p)
  times = mul_assoc q p b ∙ ap (λ (x : ℕ). q * x) (mul_comm p b)

  under : w + p ≤ q * p → w * b + b * p ≤ q * p * b
  under h = le_trans (le_of_eq (ap (λ (x : ℕ). w * b + x) (mul_comm b p) ∙ sym (add-mul w p b))) (mul-le-mul_right b h)

  over : q * p + p ≤ w → q * p * b + b * p ≤ w * b
  over h = le_trans (le_of_eq (ap (λ (x : ℕ). q * p * b + x) (mul_comm b p) ∙ sym (add-mul (q * p) p b))) (mul-le-mul_right b h)

  from_below : w + p ≤ q * p → (q * p + w) * b ≤ 2 * a
  from_below h = omega (arith, times, under h, add-mul (q * p) w b, N.low)

  from_above : q * p + p ≤ w → 2 * a ≤ (q * p + w) * b
  from_above h = omega (arith, times, over h, add-mul (q * p) w b, N.high)

  even_below : w + p ≤ q * p → (q * p + w) * b ≡ 2 * a → q % 2 ≡ 0
  even_below h e = N.tie_low (le_antisymm N.low (omega (arith, times, under h, add-mul (q * p) w b)))

  even_above : q * p + p ≤ w → (q * p + w) * b ≡ 2 * a → q % 2 ≡ 0
  even_above h e = N.tie_high (le_antisymm N.high (omega (arith, times, over h, add-mul (q * p) w b)))

-- ---- what `round` keeps

-- q * 2 ^ k is nearest to a / b among the numbers of 53 digits with zeros after them, and has an even q at a tie
pub record Rounded (a b q k : ℕ) : Type 0 where
  pub few : q ≤ 2 ^ 53
  pub if_below : (d j : ℕ) → d < 2 ^ 53 → d * 2 ^ j < q * 2 ^ k → (q * 2 ^ k + d * 2 ^ j) * b ≤ 2 * a
  pub if_above : (d j : ℕ) → d < 2 ^ 53 → q * 2 ^ k < d * 2 ^ j → 2 * a ≤ (q * 2 ^ k + d * 2 ^ j) * b
  pub tie_below : (d j : ℕ) → d < 2 ^ 53 → d * 2 ^ j < q * 2 ^ k → (q * 2 ^ k + d * 2 ^ j) * b ≡ 2 * a → q % 2 ≡ 0
  pub tie_above : (d j : ℕ) → d < 2 ^ 53 → q * 2 ^ k < d * 2 ^ j → (q * 2 ^ k + d * 2 ^ j) * b ≡ 2 * a → q % 2 ≡ 0

few_of : (a b p q : ℕ) → Near a (b * p) q → a < 2 ^ 53 * (b * p) → q ≤ 2 ^ 53
few_of a b p q N h = multiples q (2 ^ 53) (b * p) (omega (arith, N.low))

many-of : (a b p q : ℕ) → 0 < b * p → Near a (b * p) q → 2 ^ 52 * (b * p) ≤ a → 2 ^ 52 ≤ q
many-of a b p q U N h = multiples (2 ^ 52) q (b * p) (omega (arith, N.high))

-- no digits are dropped
all_kept : (a b q : ℕ) → Near a (b * 2 ^ 0) q → q ≤ 2 ^ 53 → Rounded a b q 0
all_kept a b q N f = record {
  few = f;
  if_below = λ d j D h. from_below a b 1 q (d * 2 ^ j) N (omega arith);
  if_above = λ d j D h. from_above a b 1 q (d * 2 ^ j) N (omega arith);
  tie_below = λ d j D h e. even_below a b 1 q (d * 2 ^ j) N (omega arith) e;
  tie_above = λ d j D h e. even_above a b 1 q (d * 2 ^ j) N (omega arith) e;
}

-- some are dropped, so q has 53 digits
some_dropped : (a b q k : ℕ) → 0 < b → Near a (b * 2 ^ k) q → q ≤ 2 ^ 53 → 2 ^ 52 * (b * 2 ^ k) ≤ a → Rounded a b q k
some_dropped a b q k B N f A =
    let p = 2 ^ k in
    let Q : 2 ^ 52 ≤ q = many-of a b p q (mul-pos B (pow_pos k)) N A in
    record {
      few = f;
      if_below = λ d j D h. elim (next_below q k d j D Q h) [ inl g ↦ from_below a b p q (d * 2 ^ j) N g | inr e ↦ le_of_lt (at_power (d * 2 ^ j) e h) ];
      if_above = λ d j D h. from_above a b p q (d * 2 ^ j) N (next_above q k d j D Q h);
      tie_below = λ d j D h e. elim (next_below q k d j D Q h) [ inl g ↦ even_below a b p q (d * 2 ^ j) N g e | inr l ↦ absurd (not-le_of_lt (at_power (d * 2 ^ j) l h) (le_of_eq (sym e))) ];
      tie_above = λ d j D h e. even_above a b p q (d * 2 ^ j) N (next_above q k d j D Q h) e;
    }
  where
    at_power : (w : ℕ) → q ≡ 2 ^ 52 → w < q * 2 ^ k → (q * 2 ^ k + w) * b < 2 * a
    at_power w e h =
        let x : q * 2 ^ k * b ≡ 2 ^ 52 * (b * 2 ^ k) = times a b (2 ^ k) q w N ∙ ap (λ (y : ℕ). y * (b * 2 ^ k)) e in
        omega (arith, add-mul (q * 2 ^ k) w b, mul-lt-mul_of_pos_right h B)

pub rounded : (a b : ℕ) → 0 < b → Rounded a b (kept 53 a b) (drop 53 a b)
rounded a b B = go (drop 53 a b) refl
  where
    reaches : (k : ℕ) → size (a / b) - 53 ≡ suc k → 52 + suc k < size (a / b)
    reaches k e = omega arith

    covers : (k : ℕ) → size (a / b) - 53 ≡ k → size (a / b) ≤ 53 + k
    covers k e = omega arith

    under_top : (k : ℕ) → size (a / b) - 53 ≡ k → a < 2 ^ 53 * (b * 2 ^ k)
    under_top k e =
        lt_of_lt_of_le ((div-lt_iff_lt-mul B).0 (lt_of_lt_of_le (size-lt (a / b)) (pow_mono (covers k e))))
        (le_of_eq (ap (λ (x : ℕ). x * b) (pow-add 2 53 k) ∙ mul_assoc (2 ^ 53) (2 ^ k) b ∙ ap (λ (x : ℕ). 2 ^ 53 * x) (mul_comm (2 ^ k) b)))

    from_top : (k : ℕ) → size (a / b) - 53 ≡ suc k → 2 ^ 52 * (b * 2 ^ suc k) ≤ a
    from_top k e =
        le_trans (le_of_eq (sym (ap (λ (x : ℕ). x * b) (pow-add 2 52 (suc k)) ∙ mul_assoc (2 ^ 52) (2 ^ suc k) b ∙ ap (λ (x : ℕ). 2 ^ 52 * x) (mul_comm (2 ^ suc k) b))))
        ((le-div_iff_mul-le B).0 (size_reaches (a / b) (52 + suc k) (reaches k e)))

    near : (k : ℕ) → Near a (b * 2 ^ k) (closest a (b * 2 ^ k))
    near k = closest_near a (b * 2 ^ k) (mul-pos B (pow_pos k))

    go : (k : ℕ) → size (a / b) - 53 ≡ k → Rounded a b (closest a (b * 2 ^ k)) k
    go zero e = all_kept a b (closest a (b * 2 ^ 0)) (near 0) (few_of a b (2 ^ 0) (closest a (b * 2 ^ 0)) (near 0) (under_top 0 e))
    go (suc k) e = some_dropped a b (closest a (b * 2 ^ suc k)) (suc k) B (near (suc k)) (few_of a b (2 ^ suc k) (closest a (b * 2 ^ suc k)) (near (suc k)) (under_top (suc k) e)) (from_top k e)
