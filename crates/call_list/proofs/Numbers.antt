-- A word's number is exact: the signed word over 1024. Assumes nothing.
use mathlib.Core.Path.{◌≡◌, refl, sym, ap}
use mathlib.Core.Logic.{⊎_elim}
use mathlib.Core.Bool.{Bool, true, false, not, cond}
use Prim.Native.Nat.{ℕ, zero, suc, ◌+◌, ◌-◌, ◌*◌, ◌^◌, ◌≤◌, ◌<◌}
use native.Mathlib.Nat.{lt_trans, mul_assoc}
use native.Mathlib.Omega.{arith}
use lib.Dec.{lit<, ltb, eqb}
use lib.IntN.{pos, negsuc}
use lib.Pow.{shl_lt}
use lib.Ieee.{Format, Float, nan, inf, fin, up, down, binary64, of_bits, of_int, div, neg, low, emax, prec, unlike, odd, units, round}
use lib.Ieee.Fits.{down_pos}
use lib.Ieee.Exact.{HasValue, round_exact}
use lib.Ieee.Back.{round_whole}
use lib.Ieee.Scale.{round_same}
use borrow.Author.Tests.{lt-ltb, le-ltb}
use mir.Syntax.{w32}
use mir.Val.{to_z}
use Rattle.views.proofs.Laws.{order}
use Rattle.real.specs.Operators.{◌⊘◌, float}
use Rattle.job.specs.Number.{1024f}
use Rattle.call_list.specs.Number.{number_of}

-- the quotient of what has the value n
quotient : (x : Float) (n : ℕ) → HasValue x false n 1 → x ⊘ 1024f ≡ round binary64 false n 1024
unfolding div of_bits
quotient nan n v = absurd v
quotient (inf s) n v = absurd v
quotient (fin s m e) n v =
    rw v.0 (round_same binary64 false (m * up e * 1) (1 * 1024 * down e) n 1024 (omega (arith, down_pos e)) (lit< tt) (omega (arith, v.1)))

scaled : (n : ℕ) → n ≤ 4294967296 → HasValue (float n ⊘ 1024f) false n 1024
unfolding of_int
scaled n h =
    let l : n < 2 ^ 53 = omega arith in
    rw (quotient (float n) n (round_whole binary64 false n (omega arith)))
    (round_exact binary64 false n 1024 n 1064 (lit< tt) l (lt_trans (shl_lt 53 1064 l) (lit< tt)) (sym (mul_assoc n (2 ^ 1064) 1024)))

neg_value : (x : Float) (n d : ℕ) → HasValue x false n d → HasValue (neg x) true n d
unfolding neg
neg_value nan n d v = v
neg_value (inf s) n d v = v
neg_value (fin s m e) n d v = (ap not v.0, v.1)

-- a word below 2^31 is itself in units of 1/1024; from there on it is as far below 0 as it is below 2^32
pub number_above : (w : ℕ) → w < 2147483648 → HasValue (number_of w) false w 1024
unfolding number_of
number_above w h = rw (lt-ltb w 2147483648 h) (scaled w (omega arith))

pub number_below : (w : ℕ) → 2147483648 ≤ w → HasValue (number_of w) true (4294967296 - w) 1024
unfolding number_of
number_below w h = rw (le-ltb w 2147483648 h) (neg_value (float (4294967296 - w) ⊘ 1024f) (4294967296 - w) 1024 (scaled (4294967296 - w) (omega arith)))

-- ---- the same of the signed word, which the code converts
odd_neg : (d : ℕ) (s : Bool) (q k l : ℕ) → neg (odd d s q k l) ≡ odd d (not s) q k l
unfolding odd neg
odd_neg d s zero k l = refl
odd_neg d s (suc q) k l = refl

units_neg : (f : Format) (s : Bool) (q k : ℕ) → neg (units f s q k) ≡ units f (not s) q k
unfolding units neg
units_neg f s q k = go (ltb (q * 2 ^ k) (2 ^ (low f + suc (emax f))))
  where
    go : (b : Bool) → neg (cond b (odd (suc (prec f)) s q k (low f)) (inf s)) ≡ cond b (odd (suc (prec f)) (not s) q k (low f)) (inf (not s))
    go true = odd_neg (suc (prec f)) s q k (low f)
    go false = refl

round_neg : (f : Format) (s : Bool) (a b : ℕ) → neg (round f s a b) ≡ round f (not s) a b
unfolding round
round_neg f s a b = units_neg f s _ _

unlike_not : (s t : Bool) → unlike (not s) t ≡ not (unlike s t)
unlike_not true true = refl
unlike_not true false = refl
unlike_not false true = refl
unlike_not false false = refl

div_neg : (f : Format) (x y : Float) → div f (neg x) y ≡ neg (div f x y)
unfolding div neg
div_neg f nan y = refl
div_neg f (inf s) nan = refl
div_neg f (inf s) (inf t) = refl
div_neg f (inf s) (fin t n d) = ap inf (unlike_not s t)
div_neg f (fin s m e) nan = refl
div_neg f (fin s m e) (inf t) = ap (λ u. fin u 0 (pos 0)) (unlike_not s t)
div_neg f (fin s m e) (fin t n d) = rw (unlike_not s t) (go (eqb n 0) (eqb m 0))
  where
    u : Bool
    u = unlike s t

    a : ℕ
    a = m * up e * down d

    b : ℕ
    b = n * up d * down e

    go : (x y : Bool) → cond x (cond y nan (inf (not u))) (round f (not u) a b) ≡ neg (cond x (cond y nan (inf u)) (round f u a b))
    go true true = refl
    go true false = refl
    go false y = sym (round_neg f u a b)

negsuc_neg : (n : ℕ) → of_int binary64 (negsuc n) ≡ neg (float (suc n))
unfolding of_int
negsuc_neg n = sym (round_neg binary64 false (suc n) 1)

pub signed_number : (w : ℕ) → w < 4294967296 → of_int binary64 (to_z w32 w) ⊘ 1024f ≡ number_of w
unfolding number_of
signed_number w h =
    ⊎_elim
    (λ (l : 2147483648 ≤ w). let e : suc (4294967296 - suc w) ≡ 4294967296 - w = omega arith in
    rw (le-ltb w 2147483648 l, negsuc_neg (4294967296 - suc w), e) (div_neg binary64 (float (4294967296 - w)) 1024f))
    (λ (l : w < 2147483648). rw (lt-ltb w 2147483648 l))
    (order 2147483648 w)
