-- `edit::splitting::first_out` meets its contract: one law for each answer.
use Rattle.std.proofs.Common.{◌≡◌, ◌<◌, arith, true}
use mathlib.Core.Path.{◌∙◌, sym}
use Rattle.path.specs.Limit.{anchor_good}
use Rattle.edit.proofs.Splits.{right_first, left_first, middle_first, right_last, none_first}
use Rattle.edit.proofs.splitting.first_out.Goals as goal
use Rattle.edit.proofs.splitting.first_out.Goals.{else-b-a-via-then-b-a+else-not-last, else-b-a-via-else-b-a}

pub returns-then-not-last : goal.returns-then-not-last
returns-then-not-last c n i j =
    right_first c.args.h c.args.a c.args.b c.requires.1 c.requires.2 n i j (omega (arith, c.if-b-a.true)) (sym c.in_limit-last.ensures ∙ c.if-not-last.true)

pub returns-then-not-in_limit : goal.returns-then-not-in_limit
returns-then-not-in_limit c n i j =
    let early : c.args.b < c.args.a → anchor_good c.args.h.right ≡ true = λ l. elim c.else-b-a.branch [
      | else-b-a-via-then-b-a+else-not-last w ↦ sym c.in_limit-last.ensures ∙ w.if-not-last.false
      | else-b-a-via-else-b-a w ↦ absurd (omega (arith, l, w.if-b-a.false))
    ] in
    left_first c.args.h c.args.a c.args.b c.requires.1 c.requires.2 n i j (sym c.in_limit.ensures ∙ c.if-not-in_limit.true) early

pub returns-then-not-in_limit-2 : goal.returns-then-not-in_limit-2
returns-then-not-in_limit-2 c n i j =
    let early : c.args.b < c.args.a → anchor_good c.args.h.right ≡ true = λ l. elim c.else-b-a.branch [
      | else-b-a-via-then-b-a+else-not-last w ↦ sym c.in_limit-last.ensures ∙ w.if-not-last.false
      | else-b-a-via-else-b-a w ↦ absurd (omega (arith, l, w.if-b-a.false))
    ] in
    middle_first c.args.h c.args.a c.args.b c.requires.1 c.requires.2 n i j (sym c.in_limit.ensures ∙ c.if-not-in_limit.false) (sym c.in_limit-2.ensures ∙ c.if-not-in_limit-2.true) early

pub returns-else-last : goal.returns-else-last
returns-else-last c n i j =
    right_last c.args.h c.args.a c.args.b c.requires.1 c.requires.2 n i j
    (sym c.in_limit.ensures ∙ c.if-not-in_limit.false)
    (sym c.in_limit-2.ensures ∙ c.if-not-in_limit-2.false)
    (sym c.in_limit-last.ensures ∙ c.if-last.false)

pub returns-then-last : goal.returns-then-last
returns-then-last c n i j =
    none_first c.args.h c.args.a c.args.b c.requires.1 c.requires.2 n i j
    (sym c.in_limit.ensures ∙ c.if-not-in_limit.false)
    (sym c.in_limit-2.ensures ∙ c.if-not-in_limit-2.false)
    (sym c.in_limit-last.ensures ∙ c.if-last.true)
