-- After some subpaths the best is the nearest of their chords.
use Rattle.std.proofs.Common.{◌≡◌, ◌*◌}
use Rattle.path.specs.Shape.{start}
use Rattle.hit.specs.Best.{Barred}
use Rattle.hit.proofs.Candidates.{ChordsStand}
use Rattle.hit.proofs.segments.nearest_chord.Given as goal

abbrev pub invariant-loop-word : goal.invariant-loop-word
invariant-loop-word l = record {
  place : l.k ≡ start l.shapes l.word-index;
  stands : ChordsStand l.shapes l.anchors 48 l.q l.tol (l.k * 48) l.best;
  barred : Barred l.tol l.best;
}
