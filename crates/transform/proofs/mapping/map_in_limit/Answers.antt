-- `transform::mapping::map_in_limit` tests each number of the map.
use Rattle.std.proofs.Common.{rules, ◌≡◌, true, false}
use mathlib.Core.Path.{ap, ◌∙◌}
use lib.Ieee.{nan}
use Rattle.std.proofs.lemmas.Iterator.{cases_from_all, YieldsList-from_slice}
use Rattle.real.specs.Limit.{in_limit}
use Rattle.views.specs.View.{entry}
use Rattle.views.specs.Search.{all}
use Rattle.views.proofs.Searches.{all_from_cases}
use Rattle.transform.specs.Mapped.{map_in}
use Rattle.transform.proofs.mapping.map_in_limit.Goals as goal

pub returns : goal.returns
unfolding map_in
returns c =
    all_from_cases nan in_limit c.args.m c.all.result
    (cases_from_all _ _ _ (λ x. in_limit x ≡ true) (λ x. in_limit x ≡ false) c.all.ensures.ran (YieldsList-from_slice c.args.m cc) (λ x q k. search rules) (λ x q k. search rules))
    ∙ ap (all (λ i. in_limit (entry c.args.m i))) (search rules)
