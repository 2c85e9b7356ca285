-- The limit on control points. Assumes nothing.
use Rattle.std.specs.Prelude.{Bool, List}
use Rattle.views.specs.Search.{all}
use Rattle.geom.specs.declared.point.P.{P}
use Rattle.geom.specs.Point.{point_in}
use Rattle.geom.specs.Flat.{pt}

-- each of the four control points
unfoldable pub curve_in : List P → Bool
curve_in c = all (λ i. point_in (pt c i)) 4
