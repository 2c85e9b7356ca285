-- The rows below index i that are near are held.
use Rattle.std.proofs.Common.{ℕ, None, get_or, ◌≡◌, ◌+◌, ◌<◌, ◌≤◌, true}
use Rattle.views.specs.View.{entry}
use Rattle.path.specs.Flat.{anchor_at}
use Rattle.corner.specs.declared.kind.CornerKind.{CornerKind}
use Rattle.cut.specs.Near.{near}
use Rattle.cut.specs.Subpath.{view_of}
use Rattle.cut.specs.Rows.{RowHeld}
use Rattle.passes.proofs.corners.find_corners.Given as goal

abbrev pub invariant-loop-i : goal.invariant-loop-i
invariant-loop-i l =
    (l.i-end ≤ l.sub.n)
    × ((kind : ℕ → CornerKind) (j : ℕ) → j < l.i → near (l.w.reach + 2) l.sub.n l.sub.closed l.w.at j ≡ true
    → RowHeld (view_of (anchor_at l.anchors) (entry l.radii) kind 128 l.sub) j (get_or l.rows j None))
