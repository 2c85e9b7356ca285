-- `removal::marking::fill_starts` meets its contract: one subpath more at each turn.
use Rattle.std.proofs.Common.{arith}
use lib.ListN.{length-set}
use Rattle.views.proofs.Laws.{fill_more, keep_more, as_overwrite}
use Rattle.path.specs.Shape.{start}
use Rattle.path.proofs.Shapes.{total-next, total_in}
use Rattle.removal.proofs.marking.fill_starts.Goals as goal

pub overflow_add-first : goal.overflow_add-first
overflow_add-first c = record { fits = omega (arith, c.loop-s.invariant.0, c.count_of-first.ensures, total_in c.args.shapes.now c.loop-s.s (omega arith)) }

pub loop-s-preserved : goal.loop-s-preserved
loop-s-preserved c =
    let l = c.loop-s in
    let a = c.args in (
      omega (arith, l.invariant.0, c.count_of-first.ensures, total-next a.shapes.now l.s (omega arith)),
      simp length-set l.invariant.1,
      fill_more 0 l.starts l.s l.first (start a.shapes.now) (omega arith) l.invariant.2 l.invariant.0,
      keep_more 0 l.starts l.s l.first a.starts.now l.invariant.3,
    )

pub returns : goal.returns
returns c =
    let l = c.loop-s in
    as_overwrite 0 l.starts c.args.starts.now _ (start c.args.shapes.now) l.invariant.1 (λ j h. l.invariant.2 j (omega arith)) (λ j h. l.invariant.3 j (omega arith))
