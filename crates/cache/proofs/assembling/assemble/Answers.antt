-- `cache::assembling::assemble`: past the lists, what is answered and left is what the held places come to.
use Rattle.std.proofs.Common.{sym, ◌∙◌}
use native.Mathlib.Omega.{arith}
use Rattle.cache.proofs.Fitting.{fits_says, size_says, size_refused}
use Rattle.cache.proofs.Outcomes.{assemble_lists, assemble-answers, assemble_shapes_lem, assemble_anchors_lem}
use Rattle.cache.proofs.assembling.assemble.Goals as goal

pub returns-in_default : goal.returns-in_default
returns-in_default c =
    let a = c.args in
    let h = assemble_lists a.shapes.now a.numbers.now a.flags.now a.to_shapes.now a.to.now (size_refused _ _ _ (sym c.size_test.ensures ∙ c.in_default.is)) in
    record { answer = rw c.at.ensures h.0; shapes = h.1; anchors = h.2 }

pub hand_over-requires : goal.hand_over-requires
hand_over-requires c =
    let s = size_says _ _ _ _ (sym c.size_test.ensures ∙ c.in-Some.is) in
    let n = s.1 in
    let f = fits_says _ _ _ s.0 in
    (f.words, f.few, f.long, f.flag_each, omega arith)

pub hand_over-requires-else-places-le32 : goal.hand_over-requires-else-places-le32
hand_over-requires-else-places-le32 c =
    let s = size_says _ _ _ _ (sym c.size_test.ensures ∙ c.in-Some.is) in
    let f = fits_says _ _ _ s.0 in
    (f.words, f.few, f.long, f.flag_each, omega (arith, f.few))

pub returns-then-places-le32 : goal.returns-then-places-le32
returns-then-places-le32 c =
    let a = c.args in
    let h = c.hand_over.ensures in
    let s = (size_says _ _ _ _ (sym c.size_test.ensures ∙ c.in-Some.is)).0 in
    record {
      answer = h.answer ∙ assemble-answers a.shapes.now a.numbers.now a.flags.now a.to_shapes.now a.to.now s;
      shapes = h.shapes ∙ assemble_shapes_lem a.shapes.now a.numbers.now a.flags.now a.to_shapes.now a.to.now s;
      anchors = h.anchors ∙ assemble_anchors_lem a.shapes.now a.numbers.now a.flags.now a.to_shapes.now a.to.now s;
    }

pub returns-else-places-le32 : goal.returns-else-places-le32
returns-else-places-le32 c =
    let a = c.args in
    let h = c.hand_over-else-places-le32.ensures in
    let s = (size_says _ _ _ _ (sym c.size_test.ensures ∙ c.in-Some.is)).0 in
    record {
      answer = h.answer ∙ assemble-answers a.shapes.now a.numbers.now a.flags.now a.to_shapes.now a.to.now s;
      shapes = h.shapes ∙ assemble_shapes_lem a.shapes.now a.numbers.now a.flags.now a.to_shapes.now a.to.now s;
      anchors = h.anchors ∙ assemble_anchors_lem a.shapes.now a.numbers.now a.flags.now a.to_shapes.now a.to.now s;
    }
