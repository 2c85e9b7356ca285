-- The k anchors after the target's first are put.
use Rattle.std.proofs.Common.{◌≡◌, ◌+◌, length}
use Rattle.views.specs.View.{tabulate}
use Rattle.path.specs.Flat.{put_all}
use Rattle.joining.specs.Joined.{target_at}
use Rattle.joining.proofs.anchors.put_rest.Given as goal

abbrev pub invariant-loop-k : goal.invariant-loop-k
invariant-loop-k l =
    (length l.to ≡ length l.initial.to) × (l.to ≡ put_all l.initial.to l.from (tabulate l.k (λ i. target_at l.target.anchors.now l.target.n l.target.at_start (i + 1))))
