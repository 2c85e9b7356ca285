-- A box that grows by one point at a time, after 001's `Bounds`. Assumes nothing.
use Rattle.std.specs.Prelude.{Bool, true, false}
use Rattle.std.specs.Float.{inf}
use Rattle.std.specs.Float.Ieee.{lt}
use Rattle.real.specs.StandIns.{max, min}
use Rattle.geom.specs.declared.point.P.{P}
use Rattle.geom.specs.declared.bounds.Bounds.{Bounds}
use Rattle.geom.specs.Point.{point}

-- `empty`: from +infinity to -infinity
unfoldable pub no_point : Bounds
no_point = record { min = point (inf false) (inf false); max = point (inf true) (inf true) }

-- `add`: the box's number stands first, the point's second
unfoldable pub grown : Bounds → P → Bounds
grown b p = record {
  min = point (min b.min.x p.x) (min b.min.y p.y);
  max = point (max b.max.x p.x) (max b.max.y p.y);
}

-- `is_empty`
unfoldable pub is_empty : Bounds → Bool
is_empty b = lt b.max.x b.min.x
