-- After a anchors the box is grown by the segments that start there.
use Rattle.std.proofs.Common.{◌≡◌}
use Rattle.bounds.specs.Points.{grown_by, segment_points}
use Rattle.bounds.proofs.boxes.add_subpath.Given as goal

abbrev pub invariant-loop-a : goal.invariant-loop-a
invariant-loop-a l = l.b ≡ grown_by l.fn.b (segment_points l.anchors l.k l.n l.closed l.a)
