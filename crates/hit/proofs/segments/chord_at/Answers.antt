-- The chord is one of the segment that starts at place i / 48.
use Rattle.std.proofs.Common.{rules}
use native.Mathlib.Omega.{arith}
use Rattle.path.proofs.Shapes.{total_in}
use Rattle.hit.proofs.Subpaths.{located_in}
use Rattle.hit.proofs.Candidates.{chord_is}
use Rattle.hit.proofs.segments.chord_at.Goals as goal

pub bounds-shapes-at : goal.bounds-shapes-at
bounds-shapes-at c = (located_in _ _ _ (omega arith) c.locate-at.ensures).subpath

pub offset_bounds-shapes-at : goal.offset_bounds-shapes-at
offset_bounds-shapes-at c = let h = (located_in _ _ _ (omega arith) c.locate-at.ensures).subpath in search rules

pub overflow_sub-k : goal.overflow_sub-k
overflow_sub-k c = let h = (located_in _ _ _ (omega arith) c.locate-at.ensures).place in omega arith

pub curve_at-c-requires : goal.curve_at-c-requires
curve_at-c-requires c =
    let h = located_in _ _ _ (omega arith) c.locate-at.ensures in
    let t = total_in _ _ h.subpath in
    (omega arith, omega arith, omega arith)

pub returns : goal.returns
returns c = chord_is _ _ _ _ (omega arith) _ _ _ c.locate-at.ensures (rw c.count_of-n.ensures at c.curve_at-c.ensures) c.parameter.ensures
