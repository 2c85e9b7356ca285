-- `joining::calls::join` meets its contract: one law for each answer.
use Rattle.std.proofs.Common.{◌≡◌, ℕ, ◌+◌}
use mathlib.Core.Path.{sym, ap, ◌∙◌}
use Rattle.refusal.specs.Reasons.{refusal_at}
use Rattle.refusal.specs.declared.Reason.TheVariants.{Lists}
use Rattle.refusal.specs.Order.{refused}
use Rattle.path.specs.Limit.{first_bad}
use Rattle.path.proofs.Limits.{none_is}
use Rattle.joining.specs.Call.{list_fits, either_in, join_verdict}
use Rattle.joining.proofs.Eithers.{fits_says}
use Rattle.joining.proofs.Outcomes.{join-refused, no_drawn, no_target, out_of_limit}
use Rattle.joining.proofs.calls.join.Goals as goal
use Rattle.joining.proofs.calls.join.Goals.{then-not-list_fits-via-then-not-list_fits, then-not-list_fits-via-else-not-list_fits+then-not-list_fits-2}

pub returns-then-not-list_fits : goal.returns-then-not-list_fits
returns-then-not-list_fits c =
    let a = c.args in
    let v : join_verdict a.drawn.now a.drawn_count a.target.now a.target_word a.at_start a.to_shapes.now a.to.now ≡ refused (refusal_at Lists 0) =
    elim c.then-not-list_fits.branch [
      | then-not-list_fits-via-then-not-list_fits w ↦ no_drawn _ _ _ _ _ _ _ (sym c.list_fits.ensures ∙ w.if-not-list_fits.true)
      | then-not-list_fits-via-else-not-list_fits+then-not-list_fits-2 w ↦
          no_target _ _ _ _ _ _ _ (ap (λ (n : ℕ). list_fits n a.target.now) (sym c.count_of-n.ensures) ∙ sym w.list_fits-else-not-list_fits.ensures ∙ w.if-not-list_fits-2.true)
    ] in
    let h = join-refused a.drawn.now a.drawn_count a.target.now a.target_word a.at_start a.to_shapes.now a.to.now _ v in
    record { answer = rw c.at.ensures h.0; shapes = h.1; anchors = h.2 }

pub first_bad_either-requires : goal.first_bad_either-requires
first_bad_either-requires c =
    let a = c.args in
    let d = fits_says a.drawn_count a.drawn.now (sym c.list_fits.ensures ∙ c.if-not-list_fits.false) in
    let t = fits_says _ a.target.now (sym c.list_fits-else-not-list_fits.ensures ∙ c.if-not-list_fits-2.false) in
    record { drawn = d; target = t }

pub returns-in-Some : goal.returns-in-Some
returns-in-Some c =
    let a = c.args in
    let d = fits_says a.drawn_count a.drawn.now (sym c.list_fits.ensures ∙ c.if-not-list_fits.false) in
    let t = rw c.count_of-n.ensures at (fits_says _ a.target.now (sym c.list_fits-else-not-list_fits.ensures ∙ c.if-not-list_fits-2.false)) in
    let told = c.first_bad_either.ensures ∙ ap (λ (n : ℕ). first_bad (either_in a.drawn.now a.drawn_count a.target.now) (a.drawn_count + n)) c.count_of-n.ensures in
    let h = join-refused a.drawn.now a.drawn_count a.target.now a.target_word a.at_start a.to_shapes.now a.to.now _ (out_of_limit _ _ _ _ _ _ _ d t _ (sym told ∙ c.in-Some.is)) in
    record { answer = rw c.at-in-Some.ensures h.0; shapes = h.1; anchors = h.2 }

pub join_opened-requires : goal.join_opened-requires
join_opened-requires c =
    let a = c.args in
    let d = fits_says a.drawn_count a.drawn.now (sym c.list_fits.ensures ∙ c.if-not-list_fits.false) in
    let t = rw c.count_of-n.ensures at (fits_says _ a.target.now (sym c.list_fits-else-not-list_fits.ensures ∙ c.if-not-list_fits-2.false)) in
    let told = c.first_bad_either.ensures ∙ ap (λ (n : ℕ). first_bad (either_in a.drawn.now a.drawn_count a.target.now) (a.drawn_count + n)) c.count_of-n.ensures in
    record { drawn = d; target = t; good = (none_is _ _).0 (sym told ∙ c.in_default.is) }
