-- The places with no mark, counted by an iterator.
use Rattle.std.proofs.Common.{rules, ◌≡◌, false}
use mathlib.Core.Path.{◌∙◌}
use mathlib.Core.Bool.{not}
use Rattle.std.specs.List.{count_by}
use Rattle.removal.proofs.Retained.{count_listed}
use Rattle.removal.proofs.moving.count_kept.Goals as goal

pub returns : goal.returns
returns c =
    let e : c.count.result ≡ count_by not c.args.gone.now = search rules in
    e ∙ count_listed false not c.args.gone.now
