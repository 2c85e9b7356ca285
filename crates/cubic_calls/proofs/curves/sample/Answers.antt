-- The list of 514 numbers has room for the points, so the numbers tested and copied are theirs.
use Rattle.std.proofs.Common.{rules, ◌≡◌, true}
use mathlib.Core.Path.{sym, ◌∙◌}
use mathlib.Core.Bool.{◌&&◌}
use native.Mathlib.Omega.{arith}
use lib.Dec.{leb}
use lib.Ieee.{nan}
use Rattle.std.proofs.lemmas.List.{length-take-le}
use Rattle.cubic.specs.Limits.{curve_in}
use Rattle.cubic_calls.specs.Calls.{sample_verdict, sample_answer, sample_left}
use Rattle.cubic_calls.proofs.Outcomes.{room, no_room, made_fails, room_fails, all_hold, kept, written}
use Rattle.cubic_calls.proofs.Sampled.{few_points, front_tested, front_copied}
use Rattle.cubic_calls.proofs.curves.sample.Goals as goal
use Rattle.refusal.proofs.Verdicts.{answers_ok, answers_err}

pub slice_bounds-numbers_in_limit-end : goal.slice_bounds-numbers_in_limit-end
slice_bounds-numbers_in_limit-end c = sym (length-take-le _ c.sample-count.new.out (omega (arith, few_points c.args.c c.args.n (omega arith), c.sample-count.ensures.count)))

pub returns-then-not-numbers_in_limit : goal.returns-then-not-numbers_in_limit
unfolding sample_answer sample_left sample_verdict
returns-then-not-numbers_in_limit c =
    let given : (curve_in c.args.c && leb c.args.n 256) ≡ true = search rules in
    let few = few_points c.args.c c.args.n (omega arith) in
    let s = rw (c.sample-count.ensures.points, c.sample-count.ensures.count) at c.if-not-numbers_in_limit.ensures in
    let v = made_fails _ given (sym (s ∙ front_tested _ _ _ few)) in
    record { answer = rw c.at-then-not-numbers_in_limit.ensures (answers_err _ v); left = kept _ _ _ v }

pub returns-then-out-count : goal.returns-then-out-count
unfolding sample_answer sample_left sample_verdict
returns-then-out-count c =
    let given : (curve_in c.args.c && leb c.args.n 256) ≡ true = search rules in
    let few = few_points c.args.c c.args.n (omega arith) in
    let s = rw (c.sample-count.ensures.points, c.sample-count.ensures.count) at c.if-not-numbers_in_limit.ensures in
    let v = room_fails given (sym (s ∙ front_tested _ _ _ few)) (no_room _ _ (rw c.sample-count.ensures.count at c.if-out-count.true)) in
    record { answer = rw c.at-then-out-count.ensures (answers_err _ v); left = kept _ _ _ v }

pub returns : goal.returns
unfolding sample_answer sample_left sample_verdict
returns c =
    let given : (curve_in c.args.c && leb c.args.n 256) ≡ true = search rules in
    let few = few_points c.args.c c.args.n (omega arith) in
    let s = rw (c.sample-count.ensures.points, c.sample-count.ensures.count) at c.if-not-numbers_in_limit.ensures in
    let v = all_hold given (sym (s ∙ front_tested _ _ _ few)) (room _ _ (rw c.sample-count.ensures.count at c.if-out-count.false)) in
    record {
      answer = rw c.sample-count.ensures.count (answers_ok _ v);
      left = (rw (c.sample-count.ensures.points, c.sample-count.ensures.count) at (c.copy.ensures nan)) ∙ front_copied _ _ _ few _ ∙ written _ _ _ v;
    }
