-- How large a result can be: the magnitude of a product, a sum, a difference or a root is at most what the bounds of its parts give, rounded likewise. Assumes nothing.
use mathlib.Core.Path.{◌≡◌, refl, sym, subst}
use mathlib.Core.Bool.{Bool, true, false, not, ◌&&◌, cond, beq, true≢false}
use Prim.Native.Nat.{ℕ, zero, suc, ◌+◌, ◌-◌, ◌*◌, ◌^◌, ◌≤◌, ◌<◌}
use native.Mathlib.Nat.{le_trans, le_of_eq, le_refl, mul_comm, mul_assoc, mul_left_comm, mul-one, add-mul, mul-le-mul, mul-le-mul_right, mul-pos}
use native.Mathlib.Omega.{arith}
use lib.Dec.{T, ltb, eqb}
use lib.IntN.{ℤ}
use lib.Ieee.{Float, nan, inf, fin, Format, prec, emax, low, up, down, unlike, odd, units, round, sum, add, sub, mul, neg, le}
use lib.Ieee.Scale.{finite}
use lib.Ieee.Fits.{down_pos}
use lib.Ieee.Bits.{is_true}
use lib.Ieee.Order.{round_mono}
use lib.Ieee.Positive.{through}
use borrow.Author.Tests.{leb-true, le-leb}
use Rattle.root.specs.Root.{root_of}
use Rattle.root.specs.Sign.{nonneg}
use Rattle.root.proofs.Theorems.{root-nonneg, root_mono}
use Rattle.real.specs.Finite.{is_finite}
use Rattle.real.specs.Limit.{in_limit}
use Rattle.real.specs.StandIns.{abs}
use Rattle.real.proofs.Orders.{at_most}
use Rattle.real.proofs.Sums.{fractions→le}

-- x is finite, and of magnitude at most b, which is finite and has its sign clear
pub data Under : Float → Float → Type 0 where
  under : (s : Bool) (m : ℕ) (e : ℤ) (n : ℕ) (d : ℤ) → m * up e * down d ≤ n * up d * down e → Under (fin s m e) (fin false n d)

-- ---- rounded
-- the sign is no part of the magnitude
units_under : (f : Format) (s : Bool) (q k n : ℕ) (d : ℤ) → T (le (units f false q k) (fin false n d)) → Under (units f s q k) (fin false n d)
unfolding units odd le
units_under f s q k n d = go (ltb (q * 2 ^ k) (2 ^ (low f + suc (emax f)))) q
  where
    go : (b : Bool) (q : ℕ) → T (le (cond b (odd (suc (prec f)) false q k (low f)) (inf false)) (fin false n d)) → Under (cond b (odd (suc (prec f)) s q k (low f)) (inf s)) (fin false n d)
    go true zero h = under _ _ _ n d (at_most false false _ _ (is_true _ h))
    go true (suc q) h = under _ _ _ n d (at_most false false _ _ (is_true _ h))
    go false q h = absurd h

record Clear (x : Float) : Type 0 where
  n : ℕ
  d : ℤ
  is : x ≡ fin false n d

cleared : (f : Format) (q k : ℕ) → T (finite (units f false q k)) → Clear (units f false q k)
unfolding units odd
cleared f q k = go (ltb (q * 2 ^ k) (2 ^ (low f + suc (emax f)))) q
  where
    go : (b : Bool) (q : ℕ) → T (finite (cond b (odd (suc (prec f)) false q k (low f)) (inf false))) → Clear (cond b (odd (suc (prec f)) false q k (low f)) (inf false))
    go true zero h = record { n = _; d = _; is = refl }
    go true (suc q) h = record { n = _; d = _; is = refl }
    go false q h = absurd h

pub round_under : (f : Format) (s : Bool) (a b c d : ℕ) → 0 < b → 0 < d → a * d ≤ c * b → T (finite (round f false c d)) → Under (round f s a b) (round f false c d)
unfolding round
round_under f s a b c d B D h t =
    let w = cleared f _ _ t in
    subst (λ y. Under (round f s a b) y) (sym w.is) (units_under f s _ _ w.n w.d (subst (λ y. T (le (round f false a b) y)) w.is (round_mono f a b c d B D h)))

-- ---- a product
product : (a b A B p q P Q : ℕ) → a * P ≤ A * p → b * Q ≤ B * q → a * b * (P * Q) ≤ A * B * (p * q)
product a b A B p q P Q h k =
    let e : a * b * (P * Q) ≡ a * P * (b * Q) = simp (mul_assoc, mul_left_comm) in
    let f : A * p * (B * q) ≡ A * B * (p * q) = simp (mul_assoc, mul_left_comm) in
    le_trans (le_of_eq e) (le_trans (mul-le-mul h k) (le_of_eq f))

pub mul_under : (f : Format) {x y X Y : Float} → Under x X → Under y Y → T (finite (mul f X Y)) → Under (mul f x y) (mul f X Y)
unfolding mul
mul_under f (under s m e n d h) (under t k g l i j) w =
    round_under f (unlike s t) (m * up e * (k * up g)) (down e * down g) (n * up d * (l * up i)) (down d * down i)
    (mul-pos (down_pos e) (down_pos g)) (mul-pos (down_pos d) (down_pos i))
    (product (m * up e) (k * up g) (n * up d) (l * up i) (down e) (down g) (down d) (down i) h j) w

-- ---- a sum
total : (a b A B p q P Q : ℕ) → a * P ≤ A * p → b * Q ≤ B * q → (a * q + b * p) * (P * Q) ≤ (A * Q + B * P) * (p * q)
total a b A B p q P Q h k =
    let e : a * q * (P * Q) ≡ a * P * (q * Q) = simp (mul_assoc, mul_left_comm) in
    let f : A * p * (q * Q) ≡ A * Q * (p * q) = simp (mul_assoc, mul_comm, mul_left_comm) in
    let g : b * p * (P * Q) ≡ b * Q * (p * P) = simp (mul_assoc, mul_comm, mul_left_comm) in
    let i : B * q * (p * P) ≡ B * P * (p * q) = simp (mul_assoc, mul_comm, mul_left_comm) in
    omega (arith, add-mul (a * q) (b * p) (P * Q), add-mul (A * Q) (B * P) (p * q), mul-le-mul_right (q * Q) h, mul-le-mul_right (p * P) k, e, f, g, i)

pub add_under : (f : Format) {x y X Y : Float} → Under x X → Under y Y → T (finite (add f X Y)) → Under (add f x y) (add f X Y)
unfolding add sum
add_under f (under s m e n d h) (under t k g l i j) w = go (beq s t) (ltb a b)
  where
    a : ℕ
    a = m * up e * down g

    b : ℕ
    b = k * up g * down e

    c : ℕ
    c = down e * down g

    part : (s : Bool) (r : ℕ) → r ≤ a + b → Under (round f s r c) (round f false (n * up d * down i + l * up i * down d) (down d * down i))
    part s r o =
        round_under f s r c (n * up d * down i + l * up i * down d) (down d * down i) (mul-pos (down_pos e) (down_pos g)) (mul-pos (down_pos d) (down_pos i))
        (le_trans (mul-le-mul_right (down d * down i) o) (total (m * up e) (k * up g) (n * up d) (l * up i) (down e) (down g) (down d) (down i) h j)) w

    go : (p q : Bool) → Under (cond p (round f s (a + b) c) (cond q (round f t (b - a) c) (round f (s && ltb b a) (a - b) c))) (round f false (n * up d * down i + l * up i * down d) (down d * down i))
    go true q = part s (a + b) (le_refl (a + b))
    go false true = part t (b - a) (omega arith)
    go false false = part (s && ltb b a) (a - b) (omega arith)

-- ---- a difference: as the sum, since the sign is no part of the magnitude
neg_under : {x b : Float} → Under x b → Under (neg x) b
unfolding neg
neg_under (under s m e n d h) = under (not s) m e n d h

pub sub_under : (f : Format) {x y X Y : Float} → Under x X → Under y Y → T (finite (add f X Y)) → Under (sub f x y) (add f X Y)
unfolding sub
sub_under f X Y w = add_under f X (neg_under Y) w

-- ---- a root
le_under : (x b : Float) → T (nonneg x) → T (nonneg b) → T (finite b) → T (le x b) → Under x b
unfolding le
le_under x nan p q w h = absurd w
le_under x (inf t) p q w h = absurd w
le_under x (fin true n d) p q w h = absurd q
le_under nan (fin false n d) p q w h = absurd p
le_under (inf true) (fin false n d) p q w h = absurd p
le_under (inf false) (fin false n d) p q w h = absurd h
le_under (fin true m e) (fin false n d) p q w h = absurd p
le_under (fin false m e) (fin false n d) p q w h = under false m e n d (at_most false false _ _ (is_true _ h))

pub root_under : {x b : Float} → Under x b → T (nonneg x) → T (finite (root_of b)) → Under (root_of x) (root_of b)
root_under (under true m e n d h) p w = absurd p
root_under (under false m e n d h) p w =
    le_under (root_of (fin false m e)) (root_of (fin false n d)) (root-nonneg (fin false m e) tt) (root-nonneg (fin false n d) tt) w
    (root_mono (fin false m e) (fin false n d) tt tt (fractions→le m e n d h))

-- ---- what is finite: all that is of such a magnitude, and what makes something finite
pub under_finite : {x b : Float} → Under x b → T (finite x)
under_finite (under s m e n d h) = tt

pub is_finite_lem : {x b : Float} → Under x b → is_finite x ≡ true
unfolding is_finite
is_finite_lem (under s m e n d h) = refl

pub finite_sum : (f : Format) (x y : Float) → T (finite (add f x y)) → T (finite x) × T (finite y)
unfolding add
finite_sum f nan y h = absurd h
finite_sum f (inf s) nan h = absurd h
finite_sum f (inf s) (inf t) h = absurd (go (beq s t) h)
  where
    go : (b : Bool) → T (finite (cond b (inf s) nan)) → ⊥
    go true h = h
    go false h = h
finite_sum f (inf s) (fin t n d) h = absurd h
finite_sum f (fin s m e) nan h = absurd h
finite_sum f (fin s m e) (inf t) h = absurd h
finite_sum f (fin s m e) (fin t n d) h = (tt, tt)

pub finite_product : (f : Format) (x y : Float) → T (finite (mul f x y)) → T (finite x)
unfolding mul
finite_product f nan y h = absurd h
finite_product f (inf s) nan h = absurd h
finite_product f (inf s) (inf t) h = absurd h
finite_product f (inf s) (fin t n d) h = absurd (go (eqb n 0) h)
  where
    go : (b : Bool) → T (finite (cond b nan (inf (unlike s t)))) → ⊥
    go true h = h
    go false h = h
finite_product f (fin s m e) y h = tt

-- ---- in limit
pub limit_finite : (x : Float) → in_limit x ≡ true → T (finite x)
unfolding in_limit
limit_finite nan h = absurd (true≢false (sym h))
limit_finite (inf s) h = absurd (true≢false (sym h))
limit_finite (fin s m e) h = tt

pub limit_under : {x b : Float} → Under x b → in_limit b ≡ true → in_limit x ≡ true
unfolding in_limit
limit_under (under s m e n d h) l =
    let k : n * up d * 1 ≤ 131072 * down d = rw mul-one (leb-true (n * up d) (131072 * down d) l) in
    le-leb (m * up e) (131072 * down e) (rw mul-one at (through (m * up e) (n * up d) 131072 (down e) (down d) 1 (down_pos d) h k))

-- a number and its own magnitude
pub abs_under : (x : Float) → T (finite (abs x)) → Under x (abs x)
unfolding abs
abs_under nan h = absurd h
abs_under (inf s) h = absurd h
abs_under (fin s m e) h = under s m e m e (le_refl (m * up e * down e))

pub abs_again : (x : Float) → abs (abs x) ≡ abs x
unfolding abs
abs_again nan = refl
abs_again (inf s) = refl
abs_again (fin s m e) = refl
