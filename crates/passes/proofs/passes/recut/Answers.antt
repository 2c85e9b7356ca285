-- Each pass holds what the next one asks.
use Rattle.views.specs.View.{entry}
use Rattle.passes.proofs.passes.recut.Goals as goal

pub make_cuts-requires-clause-holds_rows : goal.make_cuts-requires-clause-holds_rows
make_cuts-requires-clause-holds_rows c = c.find_corners.ensures.rows (λ k. c.args.kind)

pub returns-clause-numbers : goal.returns-clause-numbers
returns-clause-numbers c = c.lay_places.ensures.numbers (entry c.args.radii.now) (λ k. c.args.kind) c.make_cuts.ensures.cuts

pub returns-clause-flags : goal.returns-clause-flags
returns-clause-flags c = c.lay_places.ensures.flags (entry c.args.radii.now) (λ k. c.args.kind) c.make_cuts.ensures.cuts
