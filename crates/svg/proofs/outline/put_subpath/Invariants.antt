-- Before segment j the moveto and the segments before it are put.
use Rattle.std.proofs.Common.{◌+◌, ◌-◌, ◌*◌, ◌≤◌, ◌∷◌}
use Rattle.path.specs.Flat.{anchor_at}
use Rattle.decimal.specs.Put.{Adds}
use Rattle.svg.specs.Path.{move_to, segments}
use Rattle.svg.specs.Pieces.{glue}
use Rattle.svg.proofs.outline.put_subpath.Given as goal

abbrev pub invariant-loop-j : goal.invariant-loop-j
invariant-loop-j l =
    let f = anchor_at l.anchors in record {
      text : Adds l.fn.text (glue l.fn.text.at (move_to (f l.k).p ∷ segments f l.k (l.j - l.k))) l.text;
      room : l.text.at ≤ l.fn.text.at + 25 + 73 * (l.j - l.k);
    }
