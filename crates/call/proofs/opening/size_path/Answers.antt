-- `call::opening::size_path`: each return cites what the tests before it found.
use Rattle.std.proofs.Common.{sym, ◌∙◌}
use native.Mathlib.Omega.{arith}
use Rattle.path.proofs.Shapes.{size_fits}
use Rattle.call.proofs.Openings.{size_wrong, size_short, size_good}
use Rattle.call.proofs.opening.size_path.Goals.{in_default-via-in-Some+else-n-anchors, in_default-via-in_default}
use Rattle.call.proofs.opening.size_path.Goals as goal

pub overflow_mul-n : goal.overflow_mul-n
overflow_mul-n c = let f = size_fits _ _ _ (sym c.size_test.ensures ∙ c.in-Some.is) in let g = f.anchors in let k = f.count in record { fits = omega arith }

pub returns-in-Some : goal.returns-in-Some
returns-in-Some c = size_good _ _ _ _ (size_fits _ _ _ (sym c.size_test.ensures ∙ c.in-Some.is)) (omega arith)

pub returns-in_default : goal.returns-in_default
returns-in_default c =
    rw c.at.ensures
    (elim c.in_default.branch [
      | in_default-via-in-Some+else-n-anchors w ↦ size_short _ _ _ _ (size_fits _ _ _ (sym c.size_test.ensures ∙ w.in-Some.is)) (omega arith)
      | in_default-via-in_default w ↦ size_wrong _ _ _ (sym c.size_test.ensures ∙ w.in_default.is)
    ])
