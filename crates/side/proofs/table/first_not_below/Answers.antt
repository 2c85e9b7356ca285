-- The place that the iterator finds.
use Rattle.std.proofs.Common.{rules, ◌≡◌, Bool, true, false, unwrap_or}
use mathlib.Core.Path.{◌∙◌, ap}
use lib.Ieee.{nan, lt, Float}
use lib.ListN.{length, get_or}
use Rattle.views.specs.Search.{first_false}
use Rattle.std.proofs.lemmas.Iterator.{IsFirst-from_position, YieldsList-from_slice}
use Rattle.views.proofs.Searches.{first_from_position}
use Rattle.side.proofs.table.first_not_below.Goals as goal

pub returns : goal.returns
returns c =
    let xs = c.args.table.now in
    let below : Float → Bool = λ x. lt x c.args.s in
    let end : length xs ≡ 129 = search rules in
    let told : c.unwrap_or.result ≡ unwrap_or c.position.result (length xs) = rw end (search rules) in
    told
    ∙ first_from_position nan below xs c.position.result
    (IsFirst-from_position _ _ c.position.result (λ x. below x ≡ false) (λ x. below x ≡ true) c.position.ensures.ran (YieldsList-from_slice xs cc) (λ x q k. search rules) (λ x q k. search rules))
    ∙ ap (first_false (λ k. lt (get_or xs k nan) c.args.s)) end
