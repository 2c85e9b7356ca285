-- Of the subpaths before s, those that stay stand in front of both lists.
use Rattle.std.proofs.Common.{◌≡◌}
use Rattle.path.specs.Shape.{start}
use Rattle.removal.specs.Marks.{kept_in}
use Rattle.removal.proofs.Moved.{Held}
use Rattle.removal.proofs.moving.move_down.Given as goal

abbrev pub invariant-loop-s : goal.invariant-loop-s
invariant-loop-s l =
    (l.first ≡ start l.initial.shapes l.s) × Held l.initial.shapes l.initial.anchors (kept_in l.initial.shapes l.gone) l.s l.shapes l.words l.anchors l.at
