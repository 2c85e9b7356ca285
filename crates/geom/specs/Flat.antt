-- Points in lists: a list of points, and a flat list of numbers, x before y. Assumes nothing.
use Rattle.std.specs.Prelude.{ℕ, zero, suc, ◌/◌, ◌%◌, List, get_or, Float}
use Rattle.std.specs.Float.{nan}
use Rattle.geom.specs.declared.point.P.{P}
use Rattle.geom.specs.Point.{point}

-- c[i]
abbrev pub pt : List P → ℕ → P
pt c i = get_or c i (point nan nan)

-- x, then y
unfoldable pub coordinate : P → ℕ → Float
coordinate p zero = p.x
coordinate p (suc i) = p.y

-- number j of the points f 0, f 1, ..
unfoldable pub coordinates : (ℕ → P) → ℕ → Float
coordinates f j = coordinate (f (j / 2)) (j % 2)
