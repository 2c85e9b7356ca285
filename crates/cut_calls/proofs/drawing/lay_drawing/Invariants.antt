-- The subpaths before this one are laid.
use Rattle.std.proofs.Common.{◌≡◌}
use Rattle.path.specs.Shape.{start}
use Rattle.cut_calls.specs.PlainCut.{view_at, LaidUpTo}
use Rattle.cut_calls.proofs.drawing.lay_drawing.Given as goal

abbrev pub invariant-loop-word : goal.invariant-loop-word
invariant-loop-word l = (l.first ≡ start l.shapes l.word-index) × LaidUpTo l.shapes (view_at l.shapes l.anchors l.radii l.kind) l.word-index l.numbers l.flags
