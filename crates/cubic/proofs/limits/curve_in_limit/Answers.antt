-- `cubic::limits::curve_in_limit` tests each point of the list.
use Rattle.std.proofs.Common.{rules, ◌≡◌, true, false}
use mathlib.Core.Path.{ap, ◌∙◌}
use lib.ListN.{get_or}
use Rattle.std.proofs.lemmas.Iterator.{cases_from_all, YieldsList-from_slice}
use Rattle.std.specs.Float.{nan}
use Rattle.geom.specs.Point.{point_in, point}
use Rattle.views.specs.Search.{all}
use Rattle.views.proofs.Searches.{all_from_cases}
use Rattle.cubic.specs.Limits.{curve_in}
use Rattle.cubic.proofs.limits.curve_in_limit.Goals as goal

pub returns : goal.returns
unfolding curve_in
returns c =
    all_from_cases (point nan nan) point_in c.args.c c.all.result
    (cases_from_all _ _ _ (λ p. point_in p ≡ true) (λ p. point_in p ≡ false) c.all.ensures.ran (YieldsList-from_slice c.args.c cc) (λ x q k. search rules) (λ x q k. search rules))
    ∙ ap (all (λ i. point_in (get_or c.args.c i (point nan nan)))) (search rules)
