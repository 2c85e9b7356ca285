-- The lists hold the corners found before index i.
use mathlib.Core.Path.{◌≡◌}
use Prim.Native.Nat.{ℕ, ◌+◌, ◌≤◌, ◌<◌}
use lib.ListN.{length}
use Rattle.std.proofs.Common.{Option}
use Rattle.corner.specs.declared.corner.Corner.{Corner}
use Rattle.cut.specs.Places.{corner_at}
use Rattle.corner_calls.specs.Corners.{plain_view, Holds}
use Rattle.corner_calls.proofs.finding.find_in_subpath.Given as goal

abbrev pub invariant-loop-i : goal.invariant-loop-i
invariant-loop-i l = record {
  inside : l.i ≤ l.sub.n;
  few : l.count ≤ l.sub.first + l.i;
  at_kept : length l.at ≡ length l.fn.at;
  rows_kept : length l.rows ≡ length l.fn.rows;
  held : (corner : ℕ → Option Corner) → ((i : ℕ) → i < l.sub.n → corner (l.sub.first + i) ≡ corner_at (plain_view l.anchors l.sub) i)
      → Holds corner l.sub.first l.fn.at l.fn.rows l.found → Holds corner (l.sub.first + l.i) l.at l.rows l.count;
}
