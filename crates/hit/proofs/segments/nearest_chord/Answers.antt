-- Each subpath's chords are candidates more.
use Rattle.std.proofs.Common.{rules, ◌≡◌, ◌<◌}
use mathlib.Core.Path.{refl, ◌∙◌}
use native.Mathlib.Omega.{arith}
use lib.ListN.{length}
use Rattle.path.specs.Shape.{total}
use Rattle.path.proofs.Shapes.{total-next, total_in, total-end}
use Rattle.hit.specs.Steps.{nearest_chord}
use Rattle.hit.proofs.Walked.{stands-none, stands_number}
use Rattle.hit.proofs.Candidates.{subpath-stands}
use Rattle.hit.proofs.segments.nearest_chord.Goals as goal

pub loop-word-init : goal.loop-word-init
loop-word-init c = record { place = refl; stands = stands-none _ _ _ c.nothing-best.ensures.found; barred = c.nothing-best.ensures.bar }

pub try_subpath-best-requires : goal.try_subpath-best-requires
try_subpath-best-requires c =
    let i = total_in c.args.shapes.now c.loop-word.word-index (omega arith) in
    (c.loop-word.invariant.barred, omega arith, omega arith)

pub overflow_add-k : goal.overflow_add-k
overflow_add-k c = let i = total_in c.args.shapes.now c.loop-word.word-index (omega arith) in record { fits = omega arith }

pub loop-word-preserved : goal.loop-word-preserved
loop-word-preserved c =
    let l : c.loop-word.word-index < length c.args.shapes.now = omega arith in
    let t = total-next c.args.shapes.now c.loop-word.word-index l in
    record {
      place = omega arith;
      stands = subpath-stands _ _ 48 _ _ c.loop-word.word-index l c.loop-word.k _ _ _ c.loop-word.invariant.place (omega arith) c.loop-word.invariant.stands (rw (c.count_of-n.ensures, c.closed_of.ensures) at c.try_subpath-best.ensures.best);
      barred = c.try_subpath-best.ensures.bar;
    }

pub returns : goal.returns
unfolding nearest_chord
returns c =
    let l = c.loop-word in
    let e : l.k ≡ total c.args.shapes.now = omega (arith, total-end c.args.shapes.now l.word-index (omega arith)) in
    search rules ∙ rw e at (stands_number _ _ _ _ l.invariant.stands)
