-- Before index j the lists hold the anchors and radii of those below it.
use Rattle.std.proofs.Common.{◌≡◌, ℕ, ◌+◌, ◌<◌, length}
use Rattle.views.specs.View.{entry}
use Rattle.path.specs.Flat.{anchor_at}
use Rattle.cut.specs.Near.{old}
use Rattle.cut.specs.Unrolled.{unrolled}
use Rattle.recutting.proofs.stretches.gather.Given as goal

abbrev pub invariant-loop-j : goal.invariant-loop-j
invariant-loop-j l = record {
  anchors_long : length l.g.anchors ≡ 90;
  radii_long : length l.g.radii ≡ 15;
  anchor : (q : ℕ) → q < l.j → anchor_at l.g.anchors q ≡ anchor_at l.fn.anchors (l.fn.sub.first + old l.fn.gap (unrolled l.fn.sub.n l.fn.s.from q));
  radius : (q : ℕ) → q < l.j → entry l.g.radii q ≡ entry l.fn.radii (l.fn.sub.first + old l.fn.gap (unrolled l.fn.sub.n l.fn.s.from q));
}
