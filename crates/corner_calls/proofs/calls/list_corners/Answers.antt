-- What the scratch lists hold is tested and copied.
use lib.Ieee.{nan}
use lib.ListN.{take}
use mathlib.Core.Path.{◌≡◌, sym, ◌∙◌}
use native.Mathlib.Omega.{arith}
use Rattle.std.proofs.Common.{rules, ◌*◌, true, false}
use Rattle.std.proofs.lemmas.Iterator.{cases_from_all, YieldsList-from_slice}
use Rattle.views.proofs.Searches.{all_from_cases, all_taken}
use Rattle.real.specs.Limit.{in_limit}
use Rattle.corner_calls.specs.Corners.{corner_places}
use Rattle.corner_calls.proofs.Outcomes.{few_places, few_numbers, beyond_limit, short-of-room, copied}
use Rattle.corner_calls.proofs.calls.list_corners.Goals as goal

pub returns-then-not-all : goal.returns-then-not-all
unfolding corner_places
returns-then-not-all c =
    let xs = take (c.find_corners-count.result * 9) c.find_corners-count.new.rows in
    let t =
    all_from_cases nan in_limit xs c.all.result
    (cases_from_all _ _ _ (λ x. in_limit x ≡ true) (λ x. in_limit x ≡ false) c.all.ensures.ran (YieldsList-from_slice xs cc) (λ x q k. search rules) (λ x q k. search rules))
    ∙ all_taken nan in_limit c.find_corners-count.new.rows (c.find_corners-count.result * 9) (omega arith) in
    let r = beyond_limit _ _ _ _ _ c.find_corners-count.ensures.found c.args.places.now c.args.numbers.now (sym t ∙ c.if-not-all.true) in
    record { answer = rw c.at.ensures r.0; places = r.1.0; numbers = r.1.1 }

pub returns-then-places-count : goal.returns-then-places-count
unfolding corner_places
returns-then-places-count c =
    let xs = take (c.find_corners-count.result * 9) c.find_corners-count.new.rows in
    let t =
    all_from_cases nan in_limit xs c.all.result
    (cases_from_all _ _ _ (λ x. in_limit x ≡ true) (λ x. in_limit x ≡ false) c.all.ensures.ran (YieldsList-from_slice xs cc) (λ x q k. search rules) (λ x q k. search rules))
    ∙ all_taken nan in_limit c.find_corners-count.new.rows (c.find_corners-count.result * 9) (omega arith) in
    let r = short-of-room _ _ _ _ _ c.find_corners-count.ensures.found c.args.places.now c.args.numbers.now (sym t ∙ c.if-not-all.false) (few_places _ _ _ (omega arith)) in
    record { answer = rw c.at-then-places-count.ensures r.0; places = r.1.0; numbers = r.1.1 }

pub returns-then-numbers-count : goal.returns-then-numbers-count
unfolding corner_places
returns-then-numbers-count c =
    let xs = take (c.find_corners-count.result * 9) c.find_corners-count.new.rows in
    let t =
    all_from_cases nan in_limit xs c.all.result
    (cases_from_all _ _ _ (λ x. in_limit x ≡ true) (λ x. in_limit x ≡ false) c.all.ensures.ran (YieldsList-from_slice xs cc) (λ x q k. search rules) (λ x q k. search rules))
    ∙ all_taken nan in_limit c.find_corners-count.new.rows (c.find_corners-count.result * 9) (omega arith) in
    let r = short-of-room _ _ _ _ _ c.find_corners-count.ensures.found c.args.places.now c.args.numbers.now (sym t ∙ c.if-not-all.false) (few_numbers _ _ _ (omega arith)) in
    record { answer = rw c.at-then-numbers-count.ensures r.0; places = r.1.0; numbers = r.1.1 }

pub returns : goal.returns
unfolding corner_places
returns c =
    let a = c.args in
    let xs = take (c.find_corners-count.result * 9) c.find_corners-count.new.rows in
    let t =
    all_from_cases nan in_limit xs c.all.result
    (cases_from_all _ _ _ (λ x. in_limit x ≡ true) (λ x. in_limit x ≡ false) c.all.ensures.ran (YieldsList-from_slice xs cc) (λ x q k. search rules) (λ x q k. search rules))
    ∙ all_taken nan in_limit c.find_corners-count.new.rows (c.find_corners-count.result * 9) (omega arith) in
    let r = copied _ _ _ _ c.find_corners-count.result c.find_corners-count.ensures.found a.places.now a.numbers.now (sym t ∙ c.if-not-all.false) (omega (arith, c.if-places-count.false)) (omega (arith, c.if-numbers-count.false)) in
    record { answer = r.0; places = c.copy.ensures 0 ∙ r.1.0; numbers = c.copy-2.ensures nan ∙ r.1.1 }
