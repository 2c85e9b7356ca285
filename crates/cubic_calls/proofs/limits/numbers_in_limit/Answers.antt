-- Each number, as the iterator tests them.
use Rattle.std.proofs.Common.{rules, ◌≡◌, true, false}
use lib.Ieee.{nan}
use Rattle.std.proofs.lemmas.Iterator.{cases_from_all, YieldsList-from_slice}
use Rattle.real.specs.Limit.{in_limit}
use Rattle.views.proofs.Searches.{all_from_cases}
use Rattle.cubic_calls.proofs.limits.numbers_in_limit.Goals as goal

pub returns : goal.returns
returns c =
    let xs = c.args.xs.now in
    all_from_cases nan in_limit xs c.all.result
    (cases_from_all _ _ _ (λ x. in_limit x ≡ true) (λ x. in_limit x ≡ false) c.all.ensures.ran (YieldsList-from_slice xs cc) (λ x q k. search rules) (λ x q k. search rules))
