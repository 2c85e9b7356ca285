-- De Casteljau's algorithm on control points of any number: the public rule of subdivision, apart from 000. Assumes nothing.
use Rattle.std.specs.Prelude.{ℕ, zero, suc, ◌+◌, ◌-◌, List, length, Float}
use Rattle.views.specs.View.{tabulate}
use Rattle.geom.specs.declared.point.P.{P}
use Rattle.geom.specs.Point.{lerp}
use Rattle.geom.specs.Flat.{pt}

-- point i of round r: round 0 is the control points, and each later one goes t of the way from every point to the next
unfoldable pub casteljau : (ℕ → P) → Float → ℕ → ℕ → P
casteljau b t zero i = b i
casteljau b t (suc r) i = lerp (casteljau b t r i) (casteljau b t r (i + 1)) t

-- the curve before t has the first point of every round
unfoldable pub curve_before : List P → Float → List P
curve_before ps t = tabulate (length ps) (λ r. casteljau (pt ps) t r 0)

-- the curve after t has the last point of every round, the last round's first
unfoldable pub curve_after : List P → Float → List P
curve_after ps t = tabulate (length ps) (λ i. casteljau (pt ps) t (length ps - 1 - i) i)
