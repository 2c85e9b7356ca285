-- One subpath more.
use mathlib.Core.Path.{refl, ◌∙◌}
use native.Mathlib.Omega.{arith}
use Rattle.path.proofs.Shapes.{total-next, total_in}
use Rattle.corner_calls.specs.Corners.{path_corner}
use Rattle.corner_calls.proofs.Found.{holds-none, corner-is}
use Rattle.corner_calls.proofs.finding.find_corners.Goals as goal

pub loop-word-init : goal.loop-word-init
loop-word-init c = record { begins = refl; few = omega arith; at_kept = refl; rows_kept = refl; held = holds-none _ _ _ }

pub find_in_subpath-count-requires : goal.find_in_subpath-count-requires
find_in_subpath-count-requires c =
    let l = c.loop-word in
    let i = total_in c.args.shapes.now l.word-index (omega arith) in
    let n = c.count_of.ensures in
    let b = l.invariant.begins in record {
      sub_in_bounds = (omega arith, omega arith, l.invariant.few);
      lists_in_bounds = (omega (arith, l.invariant.at_kept), omega (arith, l.invariant.rows_kept));
    }

pub overflow_add-first : goal.overflow_add-first
overflow_add-first c =
    let l = c.loop-word in
    omega (arith, total_in c.args.shapes.now l.word-index (omega arith), l.invariant.begins, c.count_of.ensures)

pub loop-word-preserved : goal.loop-word-preserved
loop-word-preserved c =
    let l = c.loop-word in
    let e = c.find_in_subpath-count.ensures in
    let next = total-next c.args.shapes.now l.word-index (omega arith) in record {
      begins = omega (arith, l.invariant.begins, c.count_of.ensures);
      few = e.few;
      at_kept = e.at_kept ∙ l.invariant.at_kept;
      rows_kept = e.rows_kept ∙ l.invariant.rows_kept;
      held =
          e.found (path_corner c.args.shapes.now c.args.anchors.now)
          (λ i h. corner-is _ _ l.word-index l.first _ _ i (omega arith) l.invariant.begins c.count_of.ensures c.closed_of.ensures h)
          l.invariant.held;
    }
