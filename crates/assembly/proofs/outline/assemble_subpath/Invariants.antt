-- Before index i the anchors of the places before it stand from `at` on.
use Rattle.std.proofs.Common.{◌≡◌, ◌+◌, ◌*◌, ◌≤◌, length}
use Rattle.path.specs.Flat.{put_all}
use Rattle.cut.specs.Outline.{joined, anchors_at}
use Rattle.assembly.specs.Assembled.{places_from}
use Rattle.assembly.proofs.outline.assemble_subpath.Given as goal

abbrev pub invariant-loop-i : goal.invariant-loop-i
invariant-loop-i l = record {
  room : l.next ≤ l.at + 2 * l.i;
  next : l.next ≡ l.at + length (joined (anchors_at l.sub.closed (places_from l.numbers l.flags l.sub.first)) l.i);
  anchors : l.to ≡ put_all l.initial.to l.at (joined (anchors_at l.sub.closed (places_from l.numbers l.flags l.sub.first)) l.i);
}
