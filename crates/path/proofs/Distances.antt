-- Lengths compared with 1e-9 without a root: a root is below 1e-9 exactly where the number is below 1e-18, and above it exactly where the number
-- is above the f64 after that. The root never falls, and between two neighbours lies no f64. Assumes nothing.
use mathlib.Core.Path.{◌≡◌, refl, sym, ap, ◌∙◌}
use mathlib.Core.Logic.{◌⊎◌, inl, inr, ⊎_elim}
use mathlib.Core.Bool.{Bool, true, false, ◌&&◌, true≢false}
use Prim.Native.Nat.{ℕ, zero, suc, ◌+◌, ◌-◌, ◌*◌, ◌%◌, ◌^◌, ◌≤◌, ◌<◌}
use native.Mathlib.Nat.{mul-le-mul, mul-le-mul_right, lt_of_mul-lt-mul_right, mul_assoc, mul-one, le_of_eq, lt_of_lt_of_le, lt_of_le_of_lt, lt_irrefl, le_of_lt}
use native.Mathlib.Numerals.{add-one}
use native.Mathlib.Omega.{arith}
use lib.Dec.{T, ltb, leb, eqb, ltb→lt, lit≤, lit<}
use lib.IntN.{ℤ, pos, negsuc}
use lib.Pow.{pow-add, pow_mono, pow_pos}
use lib.Ieee.{Float, nan, inf, fin, binary64, of_bits, up, down, lt, le, fits}
use lib.Ieee.Bits.{is_true}
use lib.Ieee.Exact.{HasValue}
use lib.Ieee.Fits.{add-fits, down_pos}
use lib.Ieee.Order.{le_of_values}
use borrow.Author.Tests.{ltb-false, ltb-true}
use Rattle.views.proofs.Laws.{order}
use Rattle.root.specs.Root.{root_of}
use Rattle.root.specs.Sign.{nonneg}
use Rattle.root.proofs.Theorems.{root-nonneg, root_mono}
use Rattle.real.specs.Operators.{◌⊕◌, ◌⊗◌}
use Rattle.real.proofs.Sums.{le_trans_nonneg, below_trans}
use Rattle.real.proofs.Tables.{Rising, none, some, square_rises, sum_rises}
use Rattle.geom.specs.declared.point.P.{P}
use Rattle.geom.specs.Point.{dot, len}
use Rattle.cubic.specs.Cubic.{CEPS}

-- ---- the order of what is not negative
itself : (x : Float) → T (nonneg x) → T (lt x x) → ⊥
unfolding lt
itself nan p h = h
itself (inf true) p h = p
itself (inf false) p h = h
itself (fin true m e) p h = p
itself (fin false m e) p h = let l = ltb→lt (m * up e * down e) (m * up e * down e) h in omega arith

not_above : (x y : Float) → T (nonneg x) → T (nonneg y) → T (le x y) → T (lt y x) → ⊥
not_above x y p q h k = itself x p (below_trans x y x p q h k)

not_below : (x y : Float) → T (nonneg x) → T (nonneg y) → lt x y ≡ false → T (le y x)
unfolding lt
not_below nan y p q e = absurd p
not_below (inf true) y p q e = absurd p
not_below (inf false) nan p q e = absurd q
not_below (inf false) (inf true) p q e = absurd q
not_below (inf false) (inf false) p q e = unfold le in tt
not_below (inf false) (fin true n d) p q e = absurd q
not_below (inf false) (fin false n d) p q e = unfold le in tt
not_below (fin true m e') y p q e = absurd p
not_below (fin false m e') nan p q e = absurd q
not_below (fin false m e') (inf true) p q e = absurd q
not_below (fin false m e') (inf false) p q e = absurd (true≢false e)
not_below (fin false m e') (fin true n d) p q e = absurd q
not_below (fin false m e') (fin false n d) p q e =
    le_of_values (fin false n d) (fin false m e') (n * up d) (down d) (m * up e') (down e') (down_pos d) (down_pos e') (refl, refl) (refl, refl)
    (ltb-false (m * up e' * down d) (n * up d * down e') e)

below_le : (x y z : Float) → T (nonneg x) → T (nonneg y) → T (nonneg z) → T (lt x y) → T (le y z) → T (lt x z)
below_le x y z p q r h k = go (lt x z) refl
  where
    go : (b : Bool) → lt x z ≡ b → T b
    go true e = tt
    go false e = absurd (not_above y x q p (le_trans_nonneg y z x q r p k (not_below x z p r e)) h)

-- below the infinity
finite : (x : Float) (a c : ℕ) → HasValue x false a c → T (le x (inf false))
unfolding le
finite nan a c h = absurd h
finite (inf s) a c h = absurd h
finite (fin s m e) a c h = tt

-- ---- neighbours: no f64 lies between q / 2 ^ 112 and (q + 1) / 2 ^ 112
-- at most 53 digits
few : (m : ℕ) (e : ℤ) → T (fits binary64 (fin false m e)) → m < 2 ^ 53
unfolding fits
few zero e t = lit< tt
few (suc m) e t = go (eqb (suc m % 2) 1) (ltb (suc m) (2 ^ 53)) (leb (down e) (2 ^ 1074)) (ltb (suc m * up e) (2 ^ 1024 * down e)) refl t
  where
    go : (a b c d : Bool) → ltb (suc m) (2 ^ 53) ≡ b → T (a && b && c && d) → suc m < 2 ^ 53
    go true true c d e t = ltb-true _ _ e
    go true false c d e t = absurd t
    go false b c d e t = absurd t

module _ (q : ℕ) (long : 2 ^ 52 ≤ q) where
  -- what is above the one is at least the other: a finer step of the format has too few digits to reach them
  next_up : (m : ℕ) (e : ℤ) → m < 2 ^ 53 → q * down e < m * up e * 2 ^ 112 → (q + 1) * down e ≤ m * up e * 2 ^ 112
  next_up m (pos k) l h = omega arith
  next_up m (negsuc k) l h = ⊎_elim fine (λ i. absurd (coarse i)) (order (suc k) 112)
    where
      split : suc k ≤ 112 → m * 1 * 2 ^ 112 ≡ m * 2 ^ (112 - suc k) * 2 ^ suc k
      split i =
          let s : 112 ≡ 112 - suc k + suc k = omega arith in
          ap (λ z. z * 2 ^ 112) (mul-one m)
          ∙ ap (λ z. m * 2 ^ z) s
          ∙ ap (λ z. m * z) (pow-add 2 (112 - suc k) (suc k))
          ∙ sym (mul_assoc m (2 ^ (112 - suc k)) (2 ^ suc k))

      fine : suc k ≤ 112 → (q + 1) * 2 ^ suc k ≤ m * 1 * 2 ^ 112
      fine i =
          let g : q < m * 2 ^ (112 - suc k) = lt_of_mul-lt-mul_right (2 ^ suc k) (lt_of_lt_of_le h (le_of_eq (split i))) in
          rw (split i, add-one q) (mul-le-mul_right (2 ^ suc k) g)

      coarse : 112 < suc k → ⊥
      coarse i =
          let n : m * 1 ≤ 2 ^ 53 = rw (mul-one m) (le_of_lt l) in
          let o : 2 ^ 52 * 2 ^ 113 ≤ q * 2 ^ suc k = mul-le-mul long (pow_mono i) in
          lt_irrefl (2 ^ 165) (lt_of_le_of_lt o (lt_of_lt_of_le h (mul-le-mul_right (2 ^ 112) n)))

  module _ (t u : Float) (t-is : HasValue t false q (2 ^ 112)) (u-is : HasValue u false (q + 1) (2 ^ 112)) where
    cut : (v : Float) → T (nonneg v) → T (fits binary64 v) → T (le v t) ⊎ T (le u v)
    cut nan p f = absurd p
    cut (inf true) p f = absurd p
    cut (inf false) p f = inr (finite u (q + 1) (2 ^ 112) u-is)
    cut (fin true m e) p f = absurd p
    cut (fin false m e) p f =
        ⊎_elim
        (λ h. inl (le_of_values (fin false m e) t (m * up e) (down e) q (2 ^ 112) (down_pos e) (pow_pos 112) (refl, refl) t-is h))
        (λ h. inr (le_of_values u (fin false m e) (q + 1) (2 ^ 112) (m * up e) (down e) (pow_pos 112) (down_pos e) u-is (refl, refl) (next_up m e (few m e f) h)))
        (order (m * up e * 2 ^ 112) (q * down e))

-- ---- a root compared with c, where v is at most t or at least u
is_false : (b : Bool) → (T b → ⊥) → b ≡ false
is_false true h = absurd (h tt)
is_false false h = refl

module _ (c t u : Float) (C : T (nonneg c)) (X : T (nonneg t)) (Y : T (nonneg u)) (rising : T (lt t u)) (v : Float) (p : T (nonneg v)) where
  root_below : T (lt (root_of t) c) → T (le c (root_of u)) → T (le v t) ⊎ T (le u v) → lt (root_of v) c ≡ lt v u
  root_below a b (inl h) =
      is_true _ (below_trans (root_of v) (root_of t) c (root-nonneg v p) (root-nonneg t X) (root_mono v t p X h) a)
      ∙ sym (is_true _ (below_trans v t u p X h rising))
  root_below a b (inr h) =
      is_false _ (not_above c (root_of v) C (root-nonneg v p) (le_trans_nonneg c (root_of u) (root_of v) C (root-nonneg u Y) (root-nonneg v p) b (root_mono u v Y p h)))
      ∙ sym (is_false _ (not_above u v Y p h))

  root_above : T (le (root_of t) c) → T (lt c (root_of u)) → T (le v t) ⊎ T (le u v) → lt c (root_of v) ≡ lt t v
  root_above a b (inl h) =
      is_false _ (not_above (root_of v) c (root-nonneg v p) C (le_trans_nonneg (root_of v) (root_of t) c (root-nonneg v p) (root-nonneg t X) C (root_mono v t p X h) a))
      ∙ sym (is_false _ (not_above v t p X h))
  root_above a b (inr h) =
      is_true _ (below_le c (root_of u) (root_of v) C (root-nonneg u Y) (root-nonneg v p) b (root_mono u v Y p h))
      ∙ sym (is_true _ (below_le t u v X Y p rising h))

  root-within : T (le (root_of t) c) → T (lt c (root_of u)) → T (le v t) ⊎ T (le u v) → le (root_of v) c ≡ le v t
  root-within a b (inl h) =
      is_true _ (le_trans_nonneg (root_of v) (root_of t) c (root-nonneg v p) (root-nonneg t X) C (root_mono v t p X h) a) ∙ sym (is_true _ h)
  root-within a b (inr h) =
      is_false _ (λ k. not_above (root_of v) c (root-nonneg v p) C k (below_le c (root_of u) (root_of v) C (root-nonneg u Y) (root-nonneg v p) b (root_mono u v Y p h)))
      ∙ sym (is_false _ (λ k. not_above v t p X k (below_le t u v X Y p rising h)))

-- ---- 1e-18, its neighbours, and their roots beside 1e-9
abbrev before : Float
before = of_bits binary64 0x3C32_725D_D1D2_43AB

abbrev pub 1e-18 : Float
1e-18 = of_bits binary64 0x3C32_725D_D1D2_43AC

-- 1.0000000000000003e-18
abbrev pub 1e-18⁺ : Float
1e-18⁺ = of_bits binary64 0x3C32_725D_D1D2_43AD

abbrev after : Float
after = of_bits binary64 0x3C32_725D_D1D2_43AE

before_root : T (lt (root_of before) CEPS)
unfolding root_of of_bits lt
before_root = tt

at_root : T (le CEPS (root_of 1e-18))
unfolding root_of of_bits le
at_root = tt

at_root⁺ : T (le (root_of 1e-18⁺) CEPS)
unfolding root_of of_bits le
at_root⁺ = tt

after-root : T (lt CEPS (root_of after))
unfolding root_of of_bits lt
after-root = tt

root-short : (v : Float) → Rising v → T (fits binary64 v) → lt (root_of v) CEPS ≡ lt v 1e-18
unfolding root_of of_bits lt
root-short v none f = refl
root-short v (some p) f =
    root_below CEPS before 1e-18 tt tt tt tt v p before_root at_root (cut 0x12_725D_D1D2_43AB (lit≤ tt) before 1e-18 (refl, refl) (refl, refl) v p f)

root-beyond : (v : Float) → Rising v → T (fits binary64 v) → lt CEPS (root_of v) ≡ lt 1e-18⁺ v
unfolding root_of of_bits lt
root-beyond v none f = refl
root-beyond v (some p) f =
    root_above CEPS 1e-18⁺ after tt tt tt tt v p at_root⁺ after-root (cut 0x12_725D_D1D2_43AD (lit≤ tt) 1e-18⁺ after (refl, refl) (refl, refl) v p f)

root_no_farther : (v : Float) → Rising v → T (fits binary64 v) → le (root_of v) CEPS ≡ le v 1e-18⁺
unfolding root_of of_bits lt le
root_no_farther v none f = refl
root_no_farther v (some p) f =
    root-within CEPS 1e-18⁺ after tt tt tt tt v p at_root⁺ after-root (cut 0x12_725D_D1D2_43AD (lit≤ tt) 1e-18⁺ after (refl, refl) (refl, refl) v p f)

-- ---- lengths
module _ (d : P) where
  rises : Rising (d.x ⊗ d.x ⊕ d.y ⊗ d.y)
  rises = sum_rises _ _ (square_rises d.x) (square_rises d.y)

  pub short-is : lt (len d) CEPS ≡ lt (dot d d) 1e-18
  unfolding len dot
  short-is = root-short _ rises (add-fits binary64 _ _)

  pub beyond-is : lt CEPS (len d) ≡ lt 1e-18⁺ (dot d d)
  unfolding len dot
  beyond-is = root-beyond _ rises (add-fits binary64 _ _)

  pub within-is : le (len d) CEPS ≡ le (dot d d) 1e-18⁺
  unfolding len dot
  within-is = root_no_farther _ rises (add-fits binary64 _ _)
