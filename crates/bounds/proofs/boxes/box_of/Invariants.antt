-- After some subpaths the box is grown by those.
use Rattle.std.proofs.Common.{◌≡◌, take}
use Rattle.geom.specs.Box.{no_point}
use Rattle.path.specs.Shape.{start}
use Rattle.bounds.specs.Points.{grown_by, points_from}
use Rattle.bounds.proofs.boxes.box_of.Given as goal

abbrev pub invariant-loop-word : goal.invariant-loop-word
invariant-loop-word l = record {
  place : l.k ≡ start l.shapes l.word-index;
  grown : l.b ≡ grown_by no_point (points_from l.anchors 0 (take l.word-index l.shapes));
}
