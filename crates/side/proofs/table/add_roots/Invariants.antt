-- Before root k the sums of the roots before it stand up to index k, and what follows is as it was.
use Rattle.std.proofs.Common.{◌≡◌, ◌+◌, ◌<◌, ◌≤◌, ℕ}
use Rattle.views.specs.View.{entry}
use Rattle.root.specs.Root.{root_of}
use Rattle.real.specs.Sums.{running}
use Rattle.side.proofs.table.add_roots.Given as goal

abbrev pub invariant-loop-k : goal.invariant-loop-k
invariant-loop-k l = record {
  sum : l.sum ≡ running (λ j. root_of (entry l.fn.table (j + 1))) l.k;
  before : (i : ℕ) → i < l.k + 1 → entry l.table i ≡ running (λ j. root_of (entry l.fn.table (j + 1))) i;
  after : (i : ℕ) → l.k + 1 ≤ i → entry l.table i ≡ entry l.fn.table i;
}
