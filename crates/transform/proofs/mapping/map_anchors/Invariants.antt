-- The anchors before k are mapped, and the rest is as it was.
use Rattle.std.proofs.Common.{◌≡◌, ℕ, ◌*◌, ◌≤◌, ◌<◌, length}
use Rattle.views.specs.View.{entry}
use Rattle.path.specs.Flat.{anchor_numbers}
use Rattle.transform.specs.Mapped.{mapped_at}
use Rattle.transform.proofs.mapping.map_anchors.Given as goal

abbrev pub invariant-loop-k : goal.invariant-loop-k
invariant-loop-k l =
    (length l.made ≡ length l.initial.made) × ((j : ℕ) → j < l.k * 6 → entry l.made j ≡ anchor_numbers (mapped_at l.m l.anchors) j)
    × ((j : ℕ) → l.k * 6 ≤ j → entry l.made j ≡ entry l.initial.made j)
