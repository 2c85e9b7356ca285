-- Each subpath is one more.
use Rattle.std.proofs.Common.{◌<◌}
use mathlib.Core.Path.{refl, ◌∙◌}
use native.Mathlib.Omega.{arith}
use lib.ListN.{length}
use Rattle.path.proofs.Shapes.{total-next, total_in}
use Rattle.bounds.proofs.Growths.{path_none, path_more, path_done}
use Rattle.bounds.proofs.boxes.box_of.Goals as goal

pub loop-word-init : goal.loop-word-init
loop-word-init c = record { place = refl; grown = c.empty-b.ensures ∙ path_none _ c.args.shapes.now }

pub add_subpath-b-requires : goal.add_subpath-b-requires
add_subpath-b-requires c = let i = total_in c.args.shapes.now c.loop-word.word-index (omega arith) in (omega arith, omega arith)

pub overflow_add-k : goal.overflow_add-k
overflow_add-k c = let i = total_in c.args.shapes.now c.loop-word.word-index (omega arith) in record { fits = omega arith }

pub loop-word-preserved : goal.loop-word-preserved
loop-word-preserved c =
    let l : c.loop-word.word-index < length c.args.shapes.now = omega arith in
    record {
      place = omega (arith, total-next c.args.shapes.now c.loop-word.word-index l);
      grown = path_more _ _ c.loop-word.word-index _ _ _ l c.loop-word.invariant.place c.loop-word.invariant.grown (rw (c.count_of-n.ensures, c.closed_of.ensures) at c.add_subpath-b.ensures);
    }

pub returns : goal.returns
returns c = path_done _ _ c.loop-word.word-index _ (omega arith) c.loop-word.invariant.grown
