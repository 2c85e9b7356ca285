-- The six numbers from the place on.
use Rattle.std.proofs.Common.{rules, ◌≡◌, ◌*◌, ◌+◌, true, false}
use mathlib.Core.Path.{◌∙◌}
use native.Mathlib.Omega.{arith}
use Prim.Native.Nat.{◌-◌}
use lib.Ieee.{nan}
use Rattle.std.specs.List.{slice_range}
use Rattle.std.proofs.lemmas.Iterator.{cases_from_all, YieldsList-from_slice}
use Rattle.real.specs.Limit.{in_limit}
use Rattle.views.proofs.Searches.{all_from_cases, all_dropped}
use Rattle.path.specs.Limit.{anchor_in}
use Rattle.path.proofs.limit.anchor_in_limit.Goals as goal

pub returns : goal.returns
unfolding anchor_in
returns c =
    let six : c.args.k * 6 + 6 - c.args.k * 6 ≡ 6 = omega arith in
    let xs = slice_range c.args.anchors.now (c.args.k * 6) (c.args.k * 6 + 6) in
    all_from_cases nan in_limit xs c.all.result
    (cases_from_all _ _ _ (λ x. in_limit x ≡ true) (λ x. in_limit x ≡ false) c.all.ensures.ran (YieldsList-from_slice xs cc) (λ x q k. search rules) (λ x q k. search rules))
    ∙ rw six (all_dropped nan in_limit c.args.anchors.now (c.args.k * 6) 6 c.requires.1)
