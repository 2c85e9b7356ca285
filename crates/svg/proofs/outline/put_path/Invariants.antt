-- Before a word the subpaths of those before it are put.
use Rattle.std.proofs.Common.{◌≡◌, ◌+◌, ◌*◌, ◌≤◌, take}
use Rattle.path.specs.Shape.{start}
use Rattle.path.specs.Flat.{anchor_at}
use Rattle.decimal.specs.Put.{Adds}
use Rattle.svg.specs.Path.{commands_from}
use Rattle.svg.specs.Pieces.{glue}
use Rattle.svg.proofs.outline.put_path.Given as goal

abbrev pub invariant-loop-word : goal.invariant-loop-word
invariant-loop-word l = record {
  first : l.k ≡ start l.shapes l.word-index;
  text : Adds l.initial.text (glue l.initial.text.at (commands_from (anchor_at l.anchors) 0 (take l.word-index l.shapes))) l.text;
  room : l.text.at ≤ 73 * l.k + 27 * l.word-index;
}
