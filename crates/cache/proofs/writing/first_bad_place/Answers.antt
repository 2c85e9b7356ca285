-- `cache::writing::first_bad_place`: the places passed are good, and the one it finds is not.
use Rattle.std.proofs.Common.{rules, ◌≡◌, ◌-◌, true, false, refl}
use native.Mathlib.Omega.{arith}
use Rattle.std.proofs.lemmas.Iterator.{first_from_find, YieldsList-from_range}
use Rattle.path.proofs.Limits.{found_is}
use Rattle.cache.specs.Tests.{twelve_in}
use Rattle.cache.proofs.writing.first_bad_place.Goals as goal

pub returns : goal.returns
returns c =
    let n = c.args.n in
    let p = twelve_in c.args.numbers.now in
    let end : n - 0 ≡ n = omega arith in
    found_is p n c.find.result
    (first_from_find _ _ c.find.result (λ k. p k ≡ false) (λ k. p k ≡ true) c.find.ensures.ran (YieldsList-from_range 0 n n refl end) (λ x q k. search rules) (λ x q k. search rules))
