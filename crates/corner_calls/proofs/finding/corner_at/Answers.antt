-- The corner is measured where it is found.
use mathlib.Core.Path.{◌≡◌, ◌∙◌}
use Rattle.std.proofs.Common.{rules, option_map}
use Rattle.corner.specs.Corner.{with_lengths}
use Rattle.corner_calls.specs.Corners.{plain_view}
use Rattle.corner_calls.proofs.finding.corner_at.Goals as goal

pub returns : goal.returns
unfolding plain_view
returns c =
    let e : c.map.result ≡ option_map (with_lengths 128) c.corner_at.result = search rules in
    e ∙ (c.corner_at.ensures _ _).is
