-- `cache::sizes::size_test`: each return cites what the tests before it found.
use Rattle.std.proofs.Common.{sym, ◌∙◌}
use native.Mathlib.Omega.{arith}
use Rattle.path.proofs.Shapes.{size_fits}
use Rattle.cache.proofs.Fitting.{size_wrong, numbers-short, flags_short, size_good}
use Rattle.cache.proofs.sizes.size_test.Goals as goal

pub returns-in_err-n : goal.returns-in_err-n
returns-in_err-n c = c.from_residual.ensures ∙ size_wrong _ _ _ (sym c.size_test.ensures ∙ c.in_err-n.was)

pub overflow_mul-n : goal.overflow_mul-n
overflow_mul-n c = let f = size_fits _ _ _ (sym c.size_test.ensures ∙ c.in_ok-n.was) in record { fits = let g = f.anchors in omega arith }

pub returns-then-numbers-n : goal.returns-then-numbers-n
returns-then-numbers-n c = numbers-short _ _ _ _ (size_fits _ _ _ (sym c.size_test.ensures ∙ c.in_ok-n.was)) (omega arith)

pub returns-then-flags-n : goal.returns-then-flags-n
returns-then-flags-n c = flags_short _ _ _ _ (size_fits _ _ _ (sym c.size_test.ensures ∙ c.in_ok-n.was)) (omega arith)

pub returns : goal.returns
returns c = size_good _ _ _ _ (size_fits _ _ _ (sym c.size_test.ensures ∙ c.in_ok-n.was)) (omega arith) (omega arith)
