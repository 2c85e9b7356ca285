-- `cut_calls::handing::hand_over`: the scratch lists hold the outline of the places, so it is what is handed over.
use Rattle.std.proofs.Common.{length, take, ◌≡◌, ◌∙◌}
use native.Mathlib.Omega.{arith}
use Rattle.path.specs.Shape.{total}
use Rattle.assembly.specs.Assembled.{place_read, outline_of}
use Rattle.cut_calls.proofs.Handed.{outline_few, front_length, front_total, answer-made, shapes_made, anchors_made}
use Rattle.cut_calls.proofs.handing.hand_over.Goals as goal

pub hand_over-requires : goal.hand_over-requires
hand_over-requires c =
    let a = c.args in
    let q = c.requires in
    let shapes = a.shapes.now in
    let f = place_read a.numbers.now a.flags.now in
    let words = c.assemble.new.to_shapes in
    let e = c.assemble.ensures in
    let l : length (take (length shapes) words) ≡ length shapes = front_length shapes f q.1 _ words a.made.now _ e.shapes e.anchors q.0 q.4 in
    let t : total (take (length shapes) words) ≡ length (outline_of shapes f) = front_total shapes f q.1 _ words a.made.now _ e.shapes e.anchors q.0 q.4 in
    let m = outline_few shapes f in
    (omega arith, omega arith, omega arith)

pub returns : goal.returns
returns c =
    let a = c.args in
    let q = c.requires in
    let shapes = a.shapes.now in
    let f = place_read a.numbers.now a.flags.now in
    let words = c.assemble.new.to_shapes in
    let e = c.assemble.ensures in
    let h = c.hand_over.ensures in
    record {
      answer = h.answer ∙ answer-made shapes f q.1 _ words a.made.now _ e.shapes e.anchors q.0 q.4 a.to_shapes.now a.to.now;
      shapes = h.shapes ∙ shapes_made shapes f q.1 _ words a.made.now _ e.shapes e.anchors q.0 q.4 a.to_shapes.now a.to.now;
      anchors = h.anchors ∙ anchors_made shapes f q.1 _ words a.made.now _ e.shapes e.anchors q.0 q.4 a.to_shapes.now a.to.now;
    }
