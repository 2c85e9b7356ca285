-- Each return cites what the tests before it found.
use Rattle.std.proofs.Common.{rules, ◌≡◌, true, false, Err}
use mathlib.Core.Bool.{◌&&◌}
use mathlib.Core.Path.{sym, ◌∙◌}
use Rattle.real.specs.Limit.{in_limit}
use Rattle.geom.specs.Point.{point_in}
use Rattle.call.proofs.Openings.{path_opens}
use Rattle.call.proofs.Handings.{outline-refused, anchors_kept}
use Rattle.bend.specs.Bent.{pull}
use Rattle.bend.specs.Edits.{bend_path, bend_verdict, bend_answer, bend_left}
use Rattle.bend.proofs.Outcomes.{path_fails, loose_fails, unknown, edit-rest, as_refused, as_accepted}
use Rattle.bend.proofs.calls.bend_segment.Goals as goal

pub returns-in_err-count : goal.returns-in_err-count
unfolding bend_answer bend_left bend_verdict
returns-in_err-count c =
    let e : c.from_residual.result ≡ Err c.in_err-count.field-0.0 = search rules in
    let v = path_fails _ _ _ _ _ _ (sym c.open_path.ensures ∙ c.in_err-count.was) in
    record { answer = e ∙ outline-refused _ _ v; anchors = anchors_kept _ _ v }

pub returns-then-not-in_limit : goal.returns-then-not-in_limit
unfolding bend_answer bend_left bend_verdict
returns-then-not-in_limit c =
    let g : (in_limit c.args.t && point_in c.args.delta) ≡ false = search rules in
    let v = loose_fails _ _ _ _ _ _ (path_opens 512 _ _ _ (sym c.open_path.ensures ∙ c.in_ok-count.was)) g in
    record { answer = rw c.at.ensures (outline-refused _ _ v); anchors = anchors_kept _ _ v }

pub returns-then-not-has_bend : goal.returns-then-not-has_bend
unfolding bend_answer bend_left bend_verdict
returns-then-not-has_bend c =
    let g : (in_limit c.args.t && point_in c.args.delta) ≡ true = search rules in
    let v = unknown _ _ _ _ _ _ (path_opens 512 _ _ _ (sym c.open_path.ensures ∙ c.in_ok-count.was)) g (sym c.if-not-has_bend.ensures) in
    record { answer = rw c.at-then-not-has_bend.ensures (outline-refused _ _ v); anchors = anchors_kept _ _ v }

pub bend_known-requires : goal.bend_known-requires
bend_known-requires c =
    let o = path_opens 512 _ _ _ (sym c.open_path.ensures ∙ c.in_ok-count.was) in
    (o.words, o.few, o.long, sym c.if-not-has_bend.ensures, o.good)

pub returns-in_err-bend_known : goal.returns-in_err-bend_known
unfolding bend_answer bend_left bend_verdict
returns-in_err-bend_known c =
    let a = c.args in
    let e : c.from_residual-in_err-bend_known.result ≡ Err c.in_err-bend_known.field-0.0 = search rules in
    let g : (in_limit a.t && point_in a.delta) ≡ true = search rules in
    let after = bend_path a.shapes.now a.anchors.now a.s a.a (pull a.t a.delta) a.keep in
    let v = edit-rest a.shapes.now a.anchors.now _ _ after _ (path_opens 512 _ _ _ (sym c.open_path.ensures ∙ c.in_ok-count.was)) g (sym c.if-not-has_bend.ensures) in
    let k = rw c.pull.ensures at c.bend_known.ensures in
    record { answer = e ∙ rw v (as_refused _ _ _ _ _ (sym k.answer ∙ c.in_err-bend_known.was)); anchors = rw v k.anchors }

pub returns : goal.returns
unfolding bend_answer bend_left bend_verdict
returns c =
    let a = c.args in
    let g : (in_limit a.t && point_in a.delta) ≡ true = search rules in
    let after = bend_path a.shapes.now a.anchors.now a.s a.a (pull a.t a.delta) a.keep in
    let o = path_opens 512 _ _ _ (sym c.open_path.ensures ∙ c.in_ok-count.was) in
    let v = edit-rest a.shapes.now a.anchors.now _ _ after _ o g (sym c.if-not-has_bend.ensures) in
    let k = rw c.pull.ensures at c.bend_known.ensures in
    record { answer = rw (v, o.count) (as_accepted _ _ _ _ _ (sym k.answer ∙ c.in_ok-bend_known.was)); anchors = rw v k.anchors }
