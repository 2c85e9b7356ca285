-- `cache::writing::write_cache`: each return cites what the limit test found.
use Rattle.std.proofs.Common.{◌≡◌, sym, ap, ◌∙◌}
use lib.Ieee.{nan}
use Rattle.path.specs.Shape.{total}
use Rattle.path.specs.Limit.{first_bad}
use Rattle.path.proofs.Limits.{first_is, none_is}
use Rattle.call.proofs.Handings.{outline-refused, outline_accepted, list_kept, list_written}
use Rattle.cache.specs.Tests.{twelve_in}
use Rattle.cache.proofs.Outcomes.{cache_bad, cache_good}
use Rattle.cache.proofs.writing.write_cache.Goals as goal

pub returns-in-Some : goal.returns-in-Some
returns-in-Some c =
    let a = c.args in
    let found : c.first_bad_place.result ≡ first_bad (twelve_in a.laid.now) (total a.shapes.now) = c.first_bad_place.ensures ∙ ap (first_bad (twelve_in a.laid.now)) c.total_of-n.ensures in
    let v = cache_bad _ _ _ ((first_is _ _ _).0 (sym found ∙ c.in-Some.is)) in
    record { answer = rw c.at.ensures (outline-refused _ _ v); numbers = list_kept _ _ _ v; flags = list_kept _ _ _ v }

pub returns : goal.returns
returns c =
    let a = c.args in
    let n = c.total_of-n.ensures in
    let found : c.first_bad_place.result ≡ first_bad (twelve_in a.laid.now) (total a.shapes.now) = c.first_bad_place.ensures ∙ ap (first_bad (twelve_in a.laid.now)) n in
    let v = cache_good _ _ ((none_is _ _).0 (sym found ∙ c.in_default.is)) in
    record {
      answer = rw n (outline_accepted _ _ v);
      numbers = c.copy.ensures nan ∙ rw n (list_written _ _ _ v);
      flags = c.copy-2.ensures 0 ∙ rw n (list_written _ _ _ v);
    }
