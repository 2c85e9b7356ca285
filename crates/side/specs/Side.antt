-- Sides of a corner, after 000's `Side`. 000's 128 chords are a parameter, `chords`. Assumes nothing.
use Rattle.std.specs.Prelude.{ℕ, ◌+◌, ◌-◌, ◌≡◌, Bool, true, false, ◌&&◌, cond, Option, Some, None, List, ltb, Float}
use Rattle.std.specs.Float.Ieee.{lt, le}
use Rattle.views.specs.View.{tabulate}
use Rattle.views.specs.Search.{count}
use Rattle.real.specs.Operators.{◌⊕◌, ◌⊖◌, ◌⊘◌, float, 0f, 1f}
use Rattle.real.specs.StandIns.{clamp}
use Rattle.real.specs.Finite.{is_finite}
use Rattle.real.specs.Sums.{running}
use Rattle.geom.specs.declared.point.P.{P}
use Rattle.geom.specs.Point.{plus, minus, times, dot, len, dist}
use Rattle.geom.specs.Flat.{pt}
use Rattle.cubic.specs.Cubic.{CEPS, four, cubic_at, deriv_at}
use Rattle.cubic.specs.Sample.{step_at, chord}
use Rattle.side.specs.declared.side.Side.{Side}
use Rattle.side.specs.declared.side.At.{At}

-- `is_straight_side`: both handles within 1e-9 of their ends
unfoldable pub is_straight_side : List P → Bool
is_straight_side c = le (dist (pt c 1) (pt c 0)) CEPS && le (dist (pt c 2) (pt c 3)) CEPS

-- `Side { c: .. }`
abbrev pub side_of : P → P → P → P → Side
side_of a b c d = record { c = four a b c d }

-- d made unit
unfoldable pub unit : P → P
unit d = times d (1f ⊘ len d)

-- from c0 to point k
abbrev pub away : List P → ℕ → P
away c k = minus (pt c k) (pt c 0)

-- `direction`: towards the first of c1, c2, c3 farther than 1e-9 from c0
unfoldable pub towards : P → Option P → Option P
towards d else = cond (lt CEPS (len d)) (Some (unit d)) else

unfoldable pub direction : Side → Option P
direction o = towards (away o.c 1) (towards (away o.c 2) (towards (away o.c 3) None))

-- the square of which chord k of n is the root
unfoldable pub chord_square : List P → ℕ → ℕ → Float
chord_square c n k = let d = minus (step_at c n k) (step_at c n (k + 1)) in dot d d

-- `arclen_table`: the n + 1 running sums of n chords
unfoldable pub arclen_table : List P → ℕ → List Float
arclen_table c n = tabulate (n + 1) (running (chord c n))

-- `length`: the ends' distance on a straight side, else the sum of all chords
unfoldable pub length_of : ℕ → Side → Float
length_of chords o = cond (is_straight_side o.c) (dist (pt o.c 0) (pt o.c 3)) (running (chord o.c chords) chords)

-- what a corner asks of a side's length: more than 1e-9, and finite
unfoldable pub long_enough : Float → Bool
long_enough l = lt CEPS l && is_finite l

-- a number that is a side's length where the side is straight
unfoldable pub OnLine : ℕ → Side → Float → Type 0
OnLine chords o l = is_straight_side o.c ≡ true → l ≡ length_of chords o

-- a table that serves a side: on a curve, that of its sums
unfoldable pub Serves : ℕ → List Float → Side → Type 0
Serves chords table o = is_straight_side o.c ≡ false → table ≡ arclen_table o.c chords

-- the chord, of n and counted from 1, that follows so many sums below s
unfoldable pub chord_of : ℕ → ℕ → ℕ
chord_of n below = cond (ltb below 1) 1 (cond (ltb n below) n below)

-- `partition_point`: the chord in which s falls, from how many of the n + 1 sums are below s
unfoldable pub chord_at : (ℕ → Float) → ℕ → Float → ℕ
chord_at f n s = chord_of n (count (λ j. lt (running f j) s) (n + 1))

-- how much of a chord between the sums l0 and l1 lies before s
unfoldable pub share : Float → Float → Float → Float
share l0 l1 s = clamp (cond (lt l0 l1) ((s ⊖ l0) ⊘ (l1 ⊖ l0)) 0f) 0f 1f

-- the parameter s along the side, where that falls into chord k
unfoldable pub param_at : (ℕ → Float) → ℕ → Float → ℕ → Float
param_at f n s k = (float (k - 1) ⊕ share (running f (k - 1)) (running f k) s) ⊘ float n

unfoldable pub at_curve : ℕ → List P → Float → P → At
at_curve n c s u =
    let f = chord c n in
    let t = param_at f n s (chord_at f n s) in
    let d = deriv_at c t in
    record { t = t; p = cubic_at c t; dir = cond (lt CEPS (len d)) (unit d) u }

unfoldable pub at_line : List P → Float → P → At
at_line c s u =
    let l = dist (pt c 0) (pt c 3) in
    record { t = cond (lt CEPS l) (clamp (s ⊘ l) 0f 1f) 0f; p = plus (pt c 0) (times u s); dir = u }

-- `at_length`
unfoldable pub at_length : ℕ → Side → Float → P → At
at_length chords o s u = cond (is_straight_side o.c) (at_line o.c s u) (at_curve chords o.c s u)
