-- The first i entries are copied, and the rest is as it was.
use Rattle.std.proofs.Common.{◌≡◌, ◌≤◌, ◌<◌, ℕ, get_or}
use Rattle.views.proofs.copy.Given as goal

abbrev pub invariant-loop-i : goal.invariant-loop-i
invariant-loop-i g l =
    ((d : g.row.T.Denot) (j : ℕ) → j < l.i → get_or l.to j d ≡ get_or l.fn.from j d)
    × ((d : g.row.T.Denot) (j : ℕ) → l.i ≤ j → get_or l.to j d ≡ get_or l.fn.to j d)
