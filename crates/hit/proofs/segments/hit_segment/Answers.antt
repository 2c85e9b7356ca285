-- Each answer cites its outcome.
use Rattle.std.proofs.Common.{rules, ◌≡◌, Err, Ok, Some}
use mathlib.Core.Path.{sym, ap, ◌∙◌}
use native.Mathlib.Omega.{arith}
use Rattle.refusal.proofs.Verdicts.{err_says}
use Rattle.hit.proofs.Outcomes.{hit_opens, tolerance_in}
use Rattle.hit.proofs.Candidates.{chord_below, segment-refused, segment_missed, segment_found}
use Rattle.hit.proofs.segments.hit_segment.Goals as goal

pub returns-in_err-open_hit : goal.returns-in_err-open_hit
returns-in_err-open_hit c =
    let e : c.from_residual.result ≡ Err c.in_err-open_hit.field-0.0 = search rules in
    e ∙ segment-refused _ _ _ _ _ (err_says _ _ _ (sym c.in_err-open_hit.ensures))

pub nearest_chord-requires : goal.nearest_chord-requires
nearest_chord-requires c =
    let o = hit_opens _ _ _ _ _ (sym c.in_ok-open_hit.ensures) in
    let p = o.path in
    (p.words, omega arith, omega arith, tolerance_in _ _ o.query)

pub chord_at-requires : goal.chord_at-requires
chord_at-requires c =
    let p = (hit_opens _ _ _ _ _ (sym c.in_ok-open_hit.ensures)).path in
    (chord_below _ _ _ _ _ _ (sym c.in-Some.ensures), omega arith, omega arith)

pub returns-in-Some : goal.returns-in-Some
returns-in-Some c =
    ap (λ r. Ok (Some r)) c.chord_at.ensures ∙ segment_found _ _ _ _ (hit_opens _ _ _ _ _ (sym c.in_ok-open_hit.ensures)).passed _ (sym c.in-Some.ensures)

pub returns-in-None : goal.returns-in-None
returns-in-None c = segment_missed _ _ _ _ (hit_opens _ _ _ _ _ (sym c.in_ok-open_hit.ensures)).passed (sym c.in-None.ensures)
