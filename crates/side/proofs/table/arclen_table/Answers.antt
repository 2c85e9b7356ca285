-- The chords are the roots of their squares.
use mathlib.Core.Path.{ap, ◌∙◌}
use native.Mathlib.Omega.{arith}
use Rattle.views.proofs.Laws.{tabulate_cong}
use Rattle.root.specs.Root.{root_of}
use Rattle.side.specs.Side.{arclen_table}
use Rattle.side.proofs.Lengths.{chord-root, running_cong}
use Rattle.side.proofs.table.arclen_table.Goals as goal

pub returns : goal.returns
unfolding arclen_table
returns c =
    c.add_roots.ensures
    ∙ tabulate_cong 129 _ _ (λ j h. running_cong _ _ j (λ k l. ap root_of (c.put_squares.ensures k (omega arith)) ∙ chord-root _ 128 k))
