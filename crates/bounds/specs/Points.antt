-- The points by which 000's `bounds` grows its box, in its order, and that box. Assumes nothing.
use Rattle.std.specs.Prelude.{ℕ, zero, suc, ◌+◌, Bool, cond, List, [], ◌∷◌, ◌++◌, Float}
use Rattle.views.specs.View.{tabulate}
use Rattle.geom.specs.declared.point.P.{P}
use Rattle.geom.specs.declared.bounds.Bounds.{Bounds}
use Rattle.geom.specs.Box.{no_point, grown}
use Rattle.cubic.specs.Sample.{steps, step_at, sample_count}
use Rattle.path.specs.Flat.{anchor_at, curve_of}
use Rattle.path.specs.Shape.{count_of, closed_of, is_segment}

-- a box grown by points, one at a time
unfoldable pub grown_by : Bounds → List P → Bounds
grown_by b [] = b
grown_by b (p ∷ ps) = grown_by (grown b p) ps

-- `sample` of a curve by n steps
unfoldable pub curve_points : ℕ → List P → List P
curve_points n c = tabulate (sample_count c n) (step_at c (steps c n))

module _ (anchors : List Float) where
  -- the segments that start at the first m of a subpath's n anchors, the first of which is at place k
  unfoldable pub segment_points : ℕ → ℕ → Bool → ℕ → List P
  segment_points k n closed zero = []
  segment_points k n closed (suc a) = segment_points k n closed a ++ cond (is_segment n closed a) (curve_points 16 (curve_of anchors k n a)) []

  -- then its first anchor
  unfoldable pub subpath_points : ℕ → ℕ → Bool → List P
  subpath_points k zero closed = []
  subpath_points k (suc m) closed = segment_points k (suc m) closed (suc m) ++ (anchor_at anchors k).p ∷ []

  -- the subpaths of the shape words, from place k on
  unfoldable pub points_from : ℕ → List ℕ → List P
  points_from k [] = []
  points_from k (w ∷ ws) = subpath_points k (count_of w) (closed_of w) ++ points_from (k + count_of w) ws

unfoldable pub box_of : List ℕ → List Float → Bounds
box_of shapes anchors = grown_by no_point (points_from anchors 0 shapes)
