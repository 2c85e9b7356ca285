-- The lists hold the corners of the subpaths before the word at hand.
use mathlib.Core.Path.{◌≡◌}
use Prim.Native.Nat.{◌≤◌}
use lib.ListN.{length}
use Rattle.path.specs.Shape.{start}
use Rattle.corner_calls.specs.Corners.{path_corner, Holds}
use Rattle.corner_calls.proofs.finding.find_corners.Given as goal

abbrev pub invariant-loop-word : goal.invariant-loop-word
invariant-loop-word l = record {
  begins : l.first ≡ start l.shapes l.word-index;
  few : l.count ≤ l.first;
  at_kept : length l.at ≡ length l.fn.at;
  rows_kept : length l.rows ≡ length l.fn.rows;
  held : Holds (path_corner l.shapes l.anchors) l.first l.at l.rows l.count;
}
