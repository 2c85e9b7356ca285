-- So many of the numbers before this one are not within the limit.
use Rattle.std.proofs.Common.{◌≡◌, ◌≤◌}
use mathlib.Core.Bool.{not}
use Rattle.views.specs.View.{entry}
use Rattle.views.specs.Search.{count}
use Rattle.path.specs.Limit.{within_limit}
use Rattle.path.proofs.limit.all_within.Given as goal

abbrev pub invariant-loop-x : goal.invariant-loop-x
invariant-loop-x l = (l.outside ≤ l.x-index) × (l.outside ≡ count (λ j. not (within_limit l.limit (entry l.list j))) l.x-index)
