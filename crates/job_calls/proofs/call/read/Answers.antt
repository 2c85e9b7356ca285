-- `job_calls::call::read`: each outcome answers and leaves what its law says.
use Rattle.std.proofs.Common.{◌≡◌, Err, refl, sym, ◌∙◌, rules}
use Rattle.job_calls.proofs.Outcomes.{length_fails, word_fails, refused-answer, refused_shapes, refused_anchors, refused_radii, facts, handed-answer, handed_shapes_lem, handed_anchors_lem, handed_radii}
use Rattle.job_calls.proofs.call.read.Goals as goal

pub returns-then-bytes-ne0 : goal.returns-then-bytes-ne0
returns-then-bytes-ne0 c =
    let s = c.args in
    let v = length_fails s.bytes.now s.shapes.now s.anchors.now s.radii.now c.if-bytes-ne0.true in
    record {
      answer = rw c.at.ensures (refused-answer _ _ _ _ _ v);
      shapes = refused_shapes _ _ _ _ _ v;
      anchors = refused_anchors _ _ _ _ _ v;
      radii = refused_radii _ _ _ _ _ v;
    }

-- a word is refused
pub returns-in_err-seen : goal.returns-in_err-seen
returns-in_err-seen c =
    let s = c.args in
    let e = c.in_err-seen.field-0.0 in
    let r : c.from_residual.result ≡ Err e = search rules in
    let v = word_fails s.bytes.now s.shapes.now s.anchors.now s.radii.now c.if-bytes-ne0.false e (sym c.in_err-seen.ensures.answer) in
    record {
      answer = r ∙ refused-answer _ _ _ _ _ v;
      shapes = refused_shapes _ _ _ _ _ v;
      anchors = refused_anchors _ _ _ _ _ v;
      radii = refused_radii _ _ _ _ _ v;
    }

-- read to the end word
pub hand_over-requires : goal.hand_over-requires
hand_over-requires c =
    let s = c.args in
    (facts s.bytes.now s.shapes.now s.anchors.now s.radii.now c.if-bytes-ne0.false c.in_ok-seen.seen (sym c.in_ok-seen.ensures.answer)).fair

pub returns : goal.returns
returns c =
    let h = c.hand_over.ensures in
    let s = c.args in
    let b = s.bytes.now in
    let l = c.in_ok-seen.ensures in
    let z = c.new-lists.result in
    let w = c.if-bytes-ne0.false in
    let n = c.in_ok-seen.seen in
    let d = sym l.answer in
    record {
      answer = h.answer ∙ handed-answer b s.shapes.now s.anchors.now s.radii.now w n d;
      shapes = h.shapes ∙ handed_shapes_lem b s.shapes.now s.anchors.now s.radii.now w n d z.shapes _ (search rules) (l.shapes n refl);
      anchors = h.anchors ∙ handed_anchors_lem b s.shapes.now s.anchors.now s.radii.now w n d z.numbers _ (search rules) (l.numbers n refl);
      radii = h.radii ∙ handed_radii b s.shapes.now s.anchors.now s.radii.now w n d z.radii _ (search rules) (l.radii n refl);
    }
