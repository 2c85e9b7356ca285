-- The twelve numbers from the place on.
use Rattle.std.proofs.Common.{rules, ◌≡◌, ◌*◌, ◌+◌, true, false}
use mathlib.Core.Path.{◌∙◌}
use native.Mathlib.Omega.{arith}
use Prim.Native.Nat.{◌-◌}
use lib.Ieee.{nan}
use Rattle.std.specs.List.{slice_range}
use Rattle.std.proofs.lemmas.Iterator.{cases_from_all, YieldsList-from_slice}
use Rattle.real.specs.Limit.{in_limit}
use Rattle.views.proofs.Searches.{all_from_cases, all_dropped}
use Rattle.cache.specs.Tests.{twelve_in}
use Rattle.cache.proofs.writing.place_in_limit.Goals as goal

pub returns : goal.returns
unfolding twelve_in
returns c =
    let twelve : c.args.k * 12 + 12 - c.args.k * 12 ≡ 12 = omega arith in
    let xs = slice_range c.args.numbers.now (c.args.k * 12) (c.args.k * 12 + 12) in
    all_from_cases nan in_limit xs c.all.result
    (cases_from_all _ _ _ (λ x. in_limit x ≡ true) (λ x. in_limit x ≡ false) c.all.ensures.ran (YieldsList-from_slice xs cc) (λ x q k. search rules) (λ x q k. search rules))
    ∙ rw twelve (all_dropped nan in_limit c.args.numbers.now (c.args.k * 12) 12 c.requires.1)
