-- The starts of the subpaths before s are filled in.
use Rattle.std.proofs.Common.{◌≡◌, ℕ, ◌≤◌, ◌<◌, length, get_or}
use Rattle.path.specs.Shape.{start}
use Rattle.removal.proofs.marking.fill_starts.Given as goal

abbrev pub invariant-loop-s : goal.invariant-loop-s
invariant-loop-s l =
    (l.first ≡ start l.shapes l.s) × (length l.starts ≡ length l.initial.starts) × ((j : ℕ) → j < l.s → get_or l.starts j 0 ≡ start l.shapes j)
    × ((j : ℕ) → l.s ≤ j → get_or l.starts j 0 ≡ get_or l.initial.starts j 0)
