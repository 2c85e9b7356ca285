-- The pairs so far all point into the path, and their places are marked.
use Rattle.std.proofs.Common.{◌≡◌, true, ℕ, ◌*◌, ◌≤◌, ◌<◌, length, drop}
use Rattle.std.specs.Slice.Iter.{chunks_exact_rest, chunks_exact_size}
use Rattle.removal.specs.Deleted.{points_in}
use Rattle.removal.specs.Marks.{Marked}
use Rattle.removal.proofs.marking.marks.Given as goal

abbrev pub invariant-loop-pair : goal.invariant-loop-pair
invariant-loop-pair l =
    let i = length l.yielded in
    (chunks_exact_size l.pair-iterator ≡ 2) × (chunks_exact_rest l.pair-iterator ≡ drop (i * 2) l.which) × (i * 2 ≤ length l.which)
    × (length l.gone ≡ 512) × ((j : ℕ) → j < i → points_in l.shapes l.which j ≡ true) × Marked l.shapes l.which i l.gone
