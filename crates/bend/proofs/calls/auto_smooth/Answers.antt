-- Each return cites what the tests before it found.
use Rattle.std.proofs.Common.{◌≡◌, rules, Err}
use mathlib.Core.Path.{refl, sym, ◌∙◌}
use Rattle.path.proofs.Shapes.{has_says}
use Rattle.call.proofs.Openings.{path_opens}
use Rattle.call.proofs.Handings.{outline-refused, anchors_kept}
use Rattle.bend.specs.Edits.{smooth_path, smooth_verdict, smooth_answer, smooth_left}
use Rattle.bend.proofs.Outcomes.{path_fails, unknown, edit-rest, as_refused, as_accepted}
use Rattle.bend.proofs.calls.auto_smooth.Goals as goal

pub returns-in_err-count : goal.returns-in_err-count
unfolding smooth_answer smooth_left smooth_verdict
returns-in_err-count c =
    let e : c.from_residual.result ≡ Err c.in_err-count.field-0.0 = search rules in
    let v = path_fails _ _ _ _ _ _ (sym c.open_path.ensures ∙ c.in_err-count.was) in
    record { answer = e ∙ outline-refused _ _ v; anchors = anchors_kept _ _ v }

pub returns-then-not-has_anchor : goal.returns-then-not-has_anchor
unfolding smooth_answer smooth_left smooth_verdict
returns-then-not-has_anchor c =
    let v = unknown _ _ _ _ _ _ (path_opens 512 _ _ _ (sym c.open_path.ensures ∙ c.in_ok-count.was)) refl (sym c.if-not-has_anchor.ensures) in
    record { answer = rw c.at.ensures (outline-refused _ _ v); anchors = anchors_kept _ _ v }

pub smooth_known-requires : goal.smooth_known-requires
smooth_known-requires c =
    let o = path_opens 512 _ _ _ (sym c.open_path.ensures ∙ c.in_ok-count.was) in
    let h = has_says _ _ _ (sym c.if-not-has_anchor.ensures) in
    (o.words, o.few, o.long, h.0, h.1, o.good)

pub returns-in_err-smooth_known : goal.returns-in_err-smooth_known
unfolding smooth_answer smooth_left smooth_verdict
returns-in_err-smooth_known c =
    let e : c.from_residual-in_err-smooth_known.result ≡ Err c.in_err-smooth_known.field-0.0 = search rules in
    let after = smooth_path c.args.shapes.now c.args.anchors.now c.args.s c.args.k in
    let v = edit-rest c.args.shapes.now c.args.anchors.now _ _ after _ (path_opens 512 _ _ _ (sym c.open_path.ensures ∙ c.in_ok-count.was)) refl (sym c.if-not-has_anchor.ensures) in
    record {
      answer = e ∙ rw v (as_refused _ _ _ _ _ (sym c.smooth_known.ensures.answer ∙ c.in_err-smooth_known.was));
      anchors = rw v c.smooth_known.ensures.anchors;
    }

pub returns : goal.returns
unfolding smooth_answer smooth_left smooth_verdict
returns c =
    let o = path_opens 512 _ _ _ (sym c.open_path.ensures ∙ c.in_ok-count.was) in
    let after = smooth_path c.args.shapes.now c.args.anchors.now c.args.s c.args.k in
    let v = edit-rest c.args.shapes.now c.args.anchors.now _ _ after _ o refl (sym c.if-not-has_anchor.ensures) in
    record {
      answer = rw (v, o.count) (as_accepted _ _ _ _ _ (sym c.smooth_known.ensures.answer ∙ c.in_ok-smooth_known.was));
      anchors = rw v c.smooth_known.ensures.anchors;
    }
