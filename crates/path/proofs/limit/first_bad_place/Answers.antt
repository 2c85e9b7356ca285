-- Where all numbers are in limit no place is bad; else the first is searched.
use Rattle.std.proofs.Common.{rules, ◌≡◌, ◌*◌, ◌-◌, true, false, refl}
use mathlib.Core.Path.{sym, ◌∙◌}
use native.Mathlib.Omega.{arith}
use lib.Ieee.{nan}
use Rattle.std.proofs.lemmas.Iterator.{first_from_find, YieldsList-from_range}
use Rattle.real.specs.Limit.{in_limit}
use Rattle.views.proofs.Searches.{all_taken}
use Rattle.path.specs.Limit.{place_in}
use Rattle.path.proofs.Limits.{none_is, places_in, found_is}
use Rattle.path.proofs.limit.first_bad_place.Goals as goal

pub returns-then-all_in_limit-2 : goal.returns-then-all_in_limit-2
returns-then-all_in_limit-2 c =
    let n = c.total_of-n.result in
    let xs = c.args.anchors.now in
    let rs = c.args.radii.now in
    let room = rw (sym c.total_of-n.ensures) at c.requires.2 in
    let long = rw (sym c.total_of-n.ensures) at c.requires.3 in
    let anchors = sym (all_taken nan in_limit xs (n * 6) room) ∙ sym c.all_in_limit.ensures ∙ c.if-all_in_limit.true in
    let radii = sym (all_taken nan in_limit rs n long) ∙ sym c.all_in_limit-then-all_in_limit.ensures ∙ c.if-all_in_limit-2.true in
    rw (← c.total_of-n.ensures) (sym ((none_is (place_in xs rs) n).1 (places_in xs rs n (rw (anchors, radii) refl))))

pub returns : goal.returns
returns c =
    let n = c.total_of-n.result in
    let p = place_in c.args.anchors.now c.args.radii.now in
    let end : n - 0 ≡ n = omega arith in
    rw (← c.total_of-n.ensures)
    (found_is p n c.find.result
    (first_from_find _ _ c.find.result (λ k. p k ≡ false) (λ k. p k ≡ true) c.find.ensures.ran (YieldsList-from_range 0 n n refl end) (λ x q k. search rules) (λ x q k. search rules)))
