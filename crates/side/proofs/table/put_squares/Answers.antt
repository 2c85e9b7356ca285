-- One square more.
use Rattle.std.proofs.Common.{◌+◌}
use mathlib.Core.Path.{◌∙◌}
use native.Mathlib.Omega.{arith}
use lib.Seq.{get_or-set_same, get_or-set_other}
use lib.Ieee.{nan}
use borrow.Author.Count.{below_more}
use Rattle.side.specs.Side.{chord_square}
use Rattle.side.proofs.table.put_squares.Goals as goal

pub loop-k-preserved : goal.loop-k-preserved
unfolding chord_square
loop-k-preserved c =
    let l = c.loop-k in
    let i = l.invariant in
    let q = c.step_at-q.ensures in (
      q,
      below_more _ _
          (λ j h. get_or-set_other l.table (l.k + 1) (j + 1) _ nan (λ e. omega arith) ∙ i.1 j h)
          (get_or-set_same l.table (l.k + 1) _ nan (omega arith) ∙ rw (c.dot.ensures, c.sub-d.ensures, i.0, q)),
    )
