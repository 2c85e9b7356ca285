-- The theorems on `root_of`, which the function `root` computes on every float, and on `rooted`, from which it is made; each is proved in the file that its line cites. Assumes nothing.
use Rattle.std.proofs.Common.{◌≡◌, ℕ, ◌*◌, ◌^◌, ◌<◌, ◌≤◌, false, T}
use lib.Ieee.{Float, inf, binary64, fits, le}
use lib.Ieee.Exact.{HasValue}
use lib.Ieee.Positive.{num, den, positive}
use Rattle.root.specs.Root.{rooted, root_of}
use Rattle.root.specs.Nearest.{InUnits, NearestEven, edge, Nearer, Root, Correct}
use Rattle.root.specs.Sign.{nonneg}
use Rattle.root.proofs.Rooted as rooted-laws
use Rattle.root.proofs.Ties as ties
use Rattle.root.proofs.Unique as unique
use Rattle.root.proofs.Strict as strict
use Rattle.root.proofs.Nearer as nearer
use Rattle.root.proofs.Monotone as monotone

-- ---- the root of a positive value x: it is a value of the format, every other is further from √x, and nothing else is such a root
pub root_of-is-root : (x : Float) → T (positive x) → T (fits binary64 x) → Root x (root_of x)
root_of-is-root = nearer.root_of-is-root

pub only_root : (x r : Float) → T (positive x) → T (fits binary64 x) → Root x r → r ≡ root_of x
only_root = nearer.only_root

-- ---- √n units for every whole n: the nearest value, a tie to even, and only that one; from the edge on the infinity
pub nearest_even : (n : ℕ) → 4 * n < edge * edge → NearestEven n (rooted n)
nearest_even = ties.nearest_even

pub only_nearest_even : (n : ℕ) (r s : Float) → NearestEven n r → NearestEven n s → r ≡ s
only_nearest_even = unique.only_nearest_even

pub overflow : (n : ℕ) → edge * edge ≤ 4 * n → rooted n ≡ inf false
overflow = ties.overflow

-- a root of m units is the case n = m * 2 ^ 1074
pub root-nearest_even : (x : Float) (m : ℕ) → InUnits x m → 0 < m → NearestEven (m * 2 ^ 1074) (root_of x)
root-nearest_even = ties.root-nearest_even

-- ---- the format holds every root, and a root keeps sign and order
pub root_of-fits : (x : Float) → T (fits binary64 x) → T (fits binary64 (root_of x))
root_of-fits = rooted-laws.root_of-fits

pub root-nonneg : (x : Float) → T (nonneg x) → T (nonneg (root_of x))
root-nonneg = monotone.root-nonneg

pub root_mono : (x y : Float) → T (nonneg x) → T (nonneg y) → T (le x y) → T (le (root_of x) (root_of y))
root_mono = monotone.root_mono

-- the same of `rooted`
pub rooted-fits : (n : ℕ) → T (fits binary64 (rooted n))
rooted-fits = rooted-laws.rooted-fits

pub rooted-nonneg : (n : ℕ) → T (nonneg (rooted n))
rooted-nonneg = monotone.rooted-nonneg

pub rooted_mono : (n m : ℕ) → n ≤ m → T (le (rooted n) (rooted m))
rooted_mono = monotone.rooted_mono

-- ---- the parts of the first: one other value y, and the significands
pub nearest-root : (x y : Float) → T (positive x) → T (fits binary64 x) → T (fits binary64 y) → HasValue y false (num y) (den y) → Nearer x y (root_of x)
nearest-root = nearer.nearest-root

pub root_is : (x : Float) → T (positive x) → T (fits binary64 x) → Correct x (root_of x)
root_is = strict.root_is
