-- The subpath is the one in which what is left lies.
use native.Mathlib.Omega.{arith}
use Rattle.path.proofs.Shapes.{total-next}
use Rattle.hit.proofs.Subpaths.{located_at}
use Rattle.hit.proofs.located.locate.Goals as goal

pub returns-then-anchor-n : goal.returns-then-anchor-n
returns-then-anchor-n c = let l = c.loop-subpath in located_at _ _ _ (omega arith) (omega arith) _ l.invariant

pub loop-subpath-preserved : goal.loop-subpath-preserved
loop-subpath-preserved c = omega (arith, total-next c.args.shapes.now c.loop-subpath.subpath (omega arith))
