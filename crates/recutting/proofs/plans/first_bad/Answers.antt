-- `recutting::plans::first_bad`: the places passed are good, and the one it finds is not.
use Rattle.std.proofs.Common.{◌≡◌, ℕ, ◌<◌, true, false, rules, tests, ap, ◌∙◌}
use native.Mathlib.Omega.{arith}
use Rattle.std.proofs.lemmas.Iterator.{first_from_Range, serves_from_Range}
use Rattle.cut.specs.Near.{near}
use Rattle.cut.specs.Unrolled.{rolled}
use Rattle.cut.proofs.Unrolled.{index_back}
use Rattle.cache.specs.Tests.{twelve_in}
use Rattle.recutting.proofs.Passing.{span-order, bad_found}
use Rattle.recutting.proofs.plans.first_bad.Goals as goal

pub find-requires-clause-callable : goal.find-requires-clause-callable
find-requires-clause-callable c =
    let a = c.args in
    let n = c.requires.n_bound in
    serves_from_Range
    (λ x q k. search (rules, tests))
    (λ x low high.
    let o = span-order a.sub a.w n.0.index in
    let end = ap (λ z. z.to) c.span-there.ensures in
    let b : x < a.sub.n = omega (arith, o.1) in
    let i = index_back a.sub.n a.from x n.1 b in
    let f = c.requires.by_index x b in
    search rules)

pub returns-in_err-i : goal.returns-in_err-i
returns-in_err-i c =
    let a = c.args in
    let t = λ (i : ℕ). twelve_in a.numbers.now (rolled a.sub.n a.from i) in
    let close = near a.w.reach a.sub.n a.sub.closed a.w.at in
    let f = bad_found a.sub a.w t _ c.span-there.ensures c.requires.n_bound.0.index c.find.result
    (first_from_Range _ _ _ _ (λ i. (close i ≡ true) × (t i ≡ false)) (λ i. close i ≡ true → t i ≡ true) c.find.ensures.ran
    (λ x q k. search (rules, tests))
    (λ x q k. (search rules, search (rules, tests)))) in
    c.from_residual.ensures ∙ rw c.in_err-i.was at f

pub overflow_add-result : goal.overflow_add-result
overflow_add-result c =
    let a = c.args in
    let t = λ (i : ℕ). twelve_in a.numbers.now (rolled a.sub.n a.from i) in
    let close = near a.w.reach a.sub.n a.sub.closed a.w.at in
    let f = bad_found a.sub a.w t _ c.span-there.ensures c.requires.n_bound.0.index c.find.result
    (first_from_Range _ _ _ _ (λ i. (close i ≡ true) × (t i ≡ false)) (λ i. close i ≡ true → t i ≡ true) c.find.ensures.ran
    (λ x q k. search (rules, tests))
    (λ x q k. (search rules, search (rules, tests)))) in
    let b = (rw c.in_ok-i.was at f).0 in
    record { fits = omega (arith, b) }

pub returns : goal.returns
returns c =
    let a = c.args in
    let t = λ (i : ℕ). twelve_in a.numbers.now (rolled a.sub.n a.from i) in
    let close = near a.w.reach a.sub.n a.sub.closed a.w.at in
    let f = bad_found a.sub a.w t _ c.span-there.ensures c.requires.n_bound.0.index c.find.result
    (first_from_Range _ _ _ _ (λ i. (close i ≡ true) × (t i ≡ false)) (λ i. close i ≡ true → t i ≡ true) c.find.ensures.ran
    (λ x q k. search (rules, tests))
    (λ x q k. (search rules, search (rules, tests)))) in
    (rw c.in_ok-i.was at f).1
