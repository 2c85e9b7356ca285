-- The cuts below index i that are near are made.
use Rattle.std.proofs.Common.{ℕ, None, get_or, ◌≡◌, ◌+◌, ◌<◌, ◌≤◌, true}
use Rattle.views.specs.View.{entry}
use Rattle.path.specs.Flat.{anchor_at}
use Rattle.cut.specs.Near.{near}
use Rattle.cut.specs.Subpath.{view_of}
use Rattle.cut.specs.Places.{cut_at}
use Rattle.passes.proofs.cuts.make_cuts.Given as goal

abbrev pub invariant-loop-i : goal.invariant-loop-i
invariant-loop-i l =
    (l.i-end ≤ l.sub.n)
    × ((j : ℕ) → j < l.i → near (l.w.reach + 1) l.sub.n l.sub.closed l.w.at j ≡ true
    → get_or l.cuts j None ≡ cut_at (view_of (anchor_at l.anchors) (entry l.radii) (λ k. l.kind) 128 l.sub) j)
