-- The first words of the calls are tested, each as a kind's.
use Rattle.std.proofs.Common.{◌≡◌, true, false, ◌∙◌, rules}
use lib.Dec.{leb}
use Rattle.std.proofs.lemmas.Iterator.{cases_from_all}
use Rattle.views.proofs.Searches.{all_from_cases}
use Rattle.replay.proofs.Known.{firsts, every_first, known, firsts_known}
use Rattle.replay.proofs.testing.calls_known.Goals as goal

pub returns : goal.returns
returns c =
    let codes = c.args.codes.now in
    all_from_cases 0 (λ w. leb w 2) (firsts codes) c.all.result
    (cases_from_all _ _ _ (λ w. leb w 2 ≡ true) (λ w. leb w 2 ≡ false) c.all.ensures.ran (every_first codes c.chunks_exact.ensures.size c.chunks_exact.ensures.rest) (λ x q k. search (rules, known)) (λ x q k. search (rules, known)))
    ∙ firsts_known codes
