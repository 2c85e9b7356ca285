-- Points along a cubic at equal steps of its parameter, for any number of steps: 000's `sample`, `sample_n` and `arclen_table`. Assumes nothing.
use Rattle.std.specs.Prelude.{ℕ, ◌+◌, Bool, ◌&&◌, cond, List, ltb, Float}
use Rattle.real.specs.Operators.{◌⊘◌, float}
use Rattle.geom.specs.declared.point.P.{P}
use Rattle.geom.specs.Point.{same, dist}
use Rattle.geom.specs.Flat.{pt}
use Rattle.cubic.specs.Cubic.{cubic_at}

-- the point after k of n steps
unfoldable pub step_at : List P → ℕ → ℕ → P
step_at c n k = cubic_at c (float k ⊘ float n)

-- both handles stand on their ends, by number: c1 = c0 and c2 = c3
unfoldable pub straight : List P → Bool
straight c = same (pt c 1) (pt c 0) && same (pt c 2) (pt c 3)

-- how many steps `sample` takes when asked for n: max(n, 1), and 1 on a straight line
unfoldable pub steps : List P → ℕ → ℕ
steps c n = cond (straight c) 1 (cond (ltb n 1) 1 n)

-- how many points that makes
unfoldable pub sample_count : List P → ℕ → ℕ
sample_count c n = steps c n + 1

-- the length of chord k of n
unfoldable pub chord : List P → ℕ → ℕ → Float
chord c n k = dist (step_at c n k) (step_at c n (k + 1))
