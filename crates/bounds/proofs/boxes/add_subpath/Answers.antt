-- The segments one after the other, then the first anchor, if there is one.
use Rattle.std.proofs.Common.{◌≡◌}
use mathlib.Core.Path.{sym, ap, ◌∙◌}
use native.Mathlib.Omega.{arith}
use Rattle.path.specs.declared.anchor.Anchor.{Anchor}
use Rattle.bounds.proofs.Growths.{segments_none, segments_skip, segments_more, subpath-empty, subpath_more}
use Rattle.bounds.proofs.boxes.add_subpath.Goals as goal
use Rattle.bounds.proofs.boxes.add_subpath.Goals.{then-has_segment, else-has_segment}

pub loop-a-init : goal.loop-a-init
loop-a-init c = segments_none _ _ _ _ _

pub loop-a-preserved : goal.loop-a-preserved
loop-a-preserved c =
    let l = c.loop-a in
    elim c.if-has_segment.branch [
      | then-has_segment w ↦ rw w.b-is (segments_more _ _ _ _ _ l.a _ l.invariant (sym c.has_segment.ensures ∙ w.if-has_segment.true) _ _ w.curve_at.ensures w.add_curve-b.ensures)
      | else-has_segment w ↦ rw w.b-is (segments_skip _ _ _ _ _ l.a _ l.invariant (sym c.has_segment.ensures ∙ w.if-has_segment.false))
    ]

pub returns-then-n-gt0 : goal.returns-then-n-gt0
returns-then-n-gt0 c =
    let end : c.loop-a.a ≡ c.args.n = omega arith in
    subpath_more _ _ _ _ _ c.if-n-gt0.true _ _ _ (rw end at c.loop-a.invariant) (ap (λ (o : Anchor). o.p) c.anchor_at.ensures) c.add.ensures

pub returns-else-n-gt0 : goal.returns-else-n-gt0
returns-else-n-gt0 c =
    let end : c.loop-a.a ≡ 0 = omega arith in
    let none : c.args.n ≡ 0 = omega arith in
    (rw end at c.loop-a.invariant) ∙ sym (segments_none _ _ _ _ _) ∙ subpath-empty _ _ _ _ _ none
