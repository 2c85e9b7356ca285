-- A payload's number is exact, every number that a job gives is within the limit, and its shape words say count and closed. Assumes nothing.
use mathlib.Core.Path.{◌≡◌, refl, sym, ap}
use mathlib.Core.Logic.{⊎_elim}
use mathlib.Core.Bool.{Bool, true, false, not, cond}
use mathlib.Core.List.{List, [], ◌∷◌, ◌++◌, map}
use mathlib.Core.Option.{Option, none, some}
use Prim.Native.Nat.{ℕ, zero, suc, ◌+◌, ◌-◌, ◌*◌, ◌%◌, ◌^◌, ◌≤◌, ◌<◌}
use native.Mathlib.Nat.{le_of_lt, lt_trans, mul-le-mul_right, mul_assoc}
use native.Mathlib.Omega.{arith}
use lib.Dec.{leb, lit<}
use lib.Pow.{shl_lt}
use lib.ListN.{length}
use lib.Ieee.{Float, nan, inf, fin, up, down, binary64, of_bits, of_int, div, neg, round}
use lib.Ieee.Fits.{down_pos}
use lib.Ieee.Exact.{HasValue, round_exact}
use lib.Ieee.Back.{round_whole}
use lib.Ieee.Scale.{round_same}
use borrow.Author.Tests.{le-leb, lt-leb, lt-ltb, le-ltb}
use Rattle.views.specs.View.{entry}
use Rattle.views.proofs.Laws.{order}
use Rattle.real.specs.Limit.{in_limit}
use Rattle.real.specs.Operators.{◌⊘◌, float, 0f}
use Rattle.job.specs.Number.{1024f, number}
use Rattle.job.specs.Grammar.{Anchor, Subpath, Job}
use Rattle.job.specs.Content.{shape_word, radius, radius_of, six_of, numbers_of, job_anchors, job_numbers, job_radii}

-- ---- n / 1024, exactly
-- the quotient of what has the value n
quotient : (x : Float) (n : ℕ) → HasValue x false n 1 → x ⊘ 1024f ≡ round binary64 false n 1024
unfolding div of_bits
quotient nan n v = absurd v
quotient (inf s) n v = absurd v
quotient (fin s m e) n v =
    rw v.0 (round_same binary64 false (m * up e * 1) (1 * 1024 * down e) n 1024 (omega (arith, down_pos e)) (lit< tt) (omega (arith, v.1)))

exact : (n : ℕ) → n < 2 ^ 53 → HasValue (round binary64 false n 1024) false n 1024
exact n h = round_exact binary64 false n 1024 n 1064 (lit< tt) h (lt_trans (shl_lt 53 1064 h) (lit< tt)) (sym (mul_assoc n (2 ^ 1064) 1024))

scaled : (n : ℕ) → n ≤ 134217728 → HasValue (float n ⊘ 1024f) false n 1024
unfolding of_int
scaled n h = rw (quotient (float n) n (round_whole binary64 false n (omega arith))) (exact n (omega arith))

neg_value : (x : Float) (n d : ℕ) → HasValue x false n d → HasValue (neg x) true n d
unfolding neg
neg_value nan n d v = v
neg_value (inf s) n d v = v
neg_value (fin s m e) n d v = (ap not v.0, v.1)

-- a payload below 2^27 is itself in units of 1/1024; from there on it is as far below 0 as it is below 2^28
pub number_above : (p : ℕ) → p < 134217728 → HasValue (number p) false p 1024
unfolding number
number_above p h = rw (lt-ltb p 134217728 h) (scaled p (le_of_lt h))

pub number_below : (p : ℕ) → 134217728 ≤ p → HasValue (number p) true (268435456 - p) 1024
unfolding number
number_below p h = rw (le-ltb p 134217728 h) (neg_value (float (268435456 - p) ⊘ 1024f) (268435456 - p) 1024 (scaled (268435456 - p) (omega arith)))

-- ---- the limit
value_in : (x : Float) (s : Bool) (n : ℕ) → HasValue x s n 1024 → n ≤ 134217728 → in_limit x ≡ true
unfolding in_limit
value_in nan s n v h = absurd v
value_in (inf t) s n v h = absurd v
value_in (fin t m e) s n v h = le-leb (m * up e) (131072 * down e) (omega (arith, v.1, mul-le-mul_right (down e) h))

pub number_in : (p : ℕ) → in_limit (number p) ≡ true
number_in p = ⊎_elim (λ h. value_in (number p) true (268435456 - p) (number_below p h) (omega arith)) (λ h. value_in (number p) false p (number_above p h) (le_of_lt h)) (order 134217728 p)

zero_in : in_limit 0f ≡ true
unfolding in_limit of_bits
zero_in = refl

radius_in : (a : Anchor) → in_limit (radius_of a) ≡ true
unfolding radius_of
radius_in a = go a.radius
  where
    go : (r : Option ℕ) → in_limit (radius r) ≡ true
    go none = zero_in
    go (some r) = number_in r

-- every one of a list
abbrev pub AllIn : List Float → Type 0
AllIn xs = (i : ℕ) → i < length xs → in_limit (entry xs i) ≡ true

six_in : (a : Anchor) (xs : List Float) → AllIn xs → AllIn (six_of a ++ xs)
unfolding six_of
six_in a xs h zero l = number_in _
six_in a xs h (suc zero) l = number_in _
six_in a xs h (suc (suc zero)) l = number_in _
six_in a xs h (suc (suc (suc zero))) l = number_in _
six_in a xs h (suc (suc (suc (suc zero)))) l = number_in _
six_in a xs h (suc (suc (suc (suc (suc zero))))) l = number_in _
six_in a xs h (suc (suc (suc (suc (suc (suc i)))))) l = h i (omega arith)

numbers_in_lem : (more : List Anchor) → AllIn (numbers_of more)
unfolding numbers_of
numbers_in_lem [] i l = absurd (omega arith)
numbers_in_lem (a ∷ more) i l = six_in a (numbers_of more) (numbers_in_lem more) i l

radii_in : (more : List Anchor) → AllIn (map radius_of more)
radii_in [] i l = absurd (omega arith)
radii_in (a ∷ more) zero l = radius_in a
radii_in (a ∷ more) (suc i) l = radii_in more i (omega arith)

-- so that refusal 5 cannot follow a job
pub job-numbers_in : (j : Job) → AllIn (job_numbers j)
job-numbers_in j = numbers_in_lem (job_anchors j)

pub job_radii_in : (j : Job) → AllIn (job_radii j)
job_radii_in j = radii_in (job_anchors j)

-- ---- shape words: the rest is the count and the top bit says closed, where a path may have so many anchors
pub shape_count : (s : Subpath) → length s.anchors ≤ 512 → shape_word s % 2147483648 ≡ length s.anchors
unfolding shape_word
shape_count s h = go s.closed
  where
    go : (c : Bool) → (cond c 2147483648 0 + length s.anchors) % 2147483648 ≡ length s.anchors
    go true = omega arith
    go false = omega arith

pub shape_closed : (s : Subpath) → length s.anchors ≤ 512 → leb 2147483648 (shape_word s) ≡ s.closed
unfolding shape_word
shape_closed s h = go s.closed
  where
    go : (c : Bool) → leb 2147483648 (cond c 2147483648 0 + length s.anchors) ≡ c
    go true = le-leb 2147483648 (2147483648 + length s.anchors) (omega arith)
    go false = lt-leb 2147483648 (0 + length s.anchors) (omega arith)
