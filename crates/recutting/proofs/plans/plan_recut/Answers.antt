-- What the recut of the stretch leaves is tested, and kept in the plan.
use mathlib.Core.Path.{refl, sym, ap, ◌∙◌}
use native.Mathlib.Omega.{arith}
use lib.ListN.{length}
use Rattle.cut_calls.proofs.Laying.{length-numbers}
use Rattle.recutting.proofs.Unrolling.{stretch_count, index_in, stretch_numbers, stretch_flags}
use Rattle.recutting.proofs.Passing.{found_places}
use Rattle.recutting.proofs.plans.plan_recut.Goals as goal

pub first_bad-requires-clause-by_index : goal.first_bad-requires-clause-by_index
first_bad-requires-clause-by_index c i l h =
    let a = c.args in
    let p = c.requires.about in
    let e = ap length c.recut-count.ensures.numbers ∙ length-numbers _ _ _ _ _ in
    let k = index_in a.sub a.w a.s p.0 p.1.index i l h in
    let z = p.0.short in
    omega arith

pub returns-in-Some : goal.returns-in-Some
returns-in-Some c =
    let a = c.args in
    let p = c.requires.about in (
      tt,
      λ v f.
          let h = stretch_numbers a.sub a.w a.s p.0 p.1.index v a.kind a.anchors.now a.radii.now f _ _ (let z = p.0.short in omega arith) c.recut-count.ensures.numbers in
          rw c.at.ensures (refl, sym (found_places a.sub a.w v a.s.from _ h) ∙ sym c.first_bad.ensures ∙ c.in-Some.is),
    )

pub returns-in-None : goal.returns-in-None
returns-in-None c =
    let a = c.args in
    let p = c.requires.about in
    let e = c.recut-count.ensures in (
      refl,
      λ v f.
          let h = stretch_numbers a.sub a.w a.s p.0 p.1.index v a.kind a.anchors.now a.radii.now f _ _ (let z = p.0.short in omega arith) e.numbers in
          record {
            none = sym (found_places a.sub a.w v a.s.from _ h) ∙ sym c.first_bad.ensures ∙ c.in-None.is;
            count = e.count ∙ stretch_count a.sub a.w a.s p.0 p.1.index;
            inside = p.0.inside;
            few = λ i l n. let k = index_in a.sub a.w a.s p.0 p.1.index i l n in let z = p.0.short in omega arith;
            numbers = h;
            flags = stretch_flags a.sub a.w a.s p.0 p.1.index v a.kind a.anchors.now a.radii.now f _ _ (let z = p.0.short in omega arith) e.flags;
          },
    )
