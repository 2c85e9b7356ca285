-- The table ends with the length of a curve.
use mathlib.Core.Path.{sym, ap, ◌∙◌}
use Rattle.views.specs.View.{entry}
use Rattle.side.proofs.Lengths.{length_last}
use Rattle.side.proofs.side.Side.measure.Goals as goal

pub returns-clause-length : goal.returns-clause-length
returns-clause-length c line =
    ap (λ l. entry l 128) c.arclen_table.ensures ∙ sym (length_last 128 c.args.self (sym c.is_straight_side.ensures ∙ c.if-is_straight_side.false))
