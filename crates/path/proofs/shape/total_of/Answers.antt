-- The sum that the iterator takes is the total.
use Rattle.std.proofs.Common.{rules, ◌≡◌, sum_by}
use mathlib.Core.Path.{sym, ◌∙◌}
use Rattle.path.specs.Shape.{count_of}
use Rattle.path.proofs.Shapes.{total-sum}
use Rattle.path.proofs.shape.total_of.Goals as goal

pub returns : goal.returns
returns c =
    let e : c.sum.result ≡ sum_by count_of c.args.shapes.now = search rules in
    e ∙ sym (total-sum c.args.shapes.now)
