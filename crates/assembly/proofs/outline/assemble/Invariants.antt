-- Before subpath s the words and the anchors of the subpaths before it stand in front.
use Rattle.std.proofs.Common.{◌≡◌, ◌≤◌, ◌<◌, ℕ, length, get_or}
use Rattle.path.specs.Shape.{start}
use Rattle.path.specs.Flat.{put_all}
use Rattle.assembly.specs.Assembled.{place_read, outline_up_to, outline_shapes}
use Rattle.assembly.proofs.outline.assemble.Given as goal

abbrev pub invariant-loop-s : goal.invariant-loop-s
invariant-loop-s l = record {
  first : l.first ≡ start l.shapes l.s;
  words : (j : ℕ) → j < l.s → get_or l.to_shapes j 0 ≡ outline_shapes l.shapes (place_read l.numbers l.flags) j;
  rest : (j : ℕ) → l.s ≤ j → get_or l.to_shapes j 0 ≡ get_or l.initial.to_shapes j 0;
  count : l.at ≡ length (outline_up_to l.shapes (place_read l.numbers l.flags) l.s);
  anchors : l.to ≡ put_all l.initial.to 0 (outline_up_to l.shapes (place_read l.numbers l.flags) l.s);
}
