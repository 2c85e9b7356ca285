-- After segment j one segment more is put, and at last what closes the subpath.
use Rattle.std.proofs.Common.{◌<◌, ◌^◌, ◌+◌, ◌-◌, ◌≡◌, [], ◌∷◌, length, append-nil, rules, arith}
use Rattle.path.specs.Flat.{anchor_at}
use Rattle.svg.specs.Path.{move_to, segments, closing}
use Rattle.svg.proofs.Glues.{glued}
use Rattle.svg.proofs.Paths.{segments_none, segments_more, subpath_some}
use Rattle.svg.proofs.outline.put_subpath.Goals as goal

pub loop-j-init : goal.loop-j-init
loop-j-init c =
    let none : c.args.k - c.args.k ≡ 0 = omega arith in
    record { text = rw (none, segments_none) (rw c.anchor_at.ensures at c.put_move.ensures.text); room = omega (arith, c.put_move.ensures.room) }

pub loop-j-preserved : goal.loop-j-preserved
loop-j-preserved c =
    let h : length c.args.text.now.out.now < 2 ^ 64 = search rules in
    let f = anchor_at c.args.anchors.now in
    let k = c.args.k in
    let l = c.loop-j in
    let next : l.j + 1 - k ≡ l.j - k + 1 = omega arith in
    let here : k + (l.j - k) ≡ l.j = omega arith in
    record {
      text =
          rw (next, segments_more f k (l.j - k), here)
          (glued (move_to (f k).p ∷ segments f k (l.j - k)) (_ ∷ []) h l.invariant.text (rw (c.anchor_at-in-loop-j.ensures, c.anchor_at-in-loop-j-2.ensures) at c.put_segment.ensures.text));
      room = omega (arith, c.put_segment.ensures.room);
    }

pub returns-then-closed-clause-text : goal.returns-then-closed-clause-text
returns-then-closed-clause-text c =
    let h : length c.args.text.now.out.now < 2 ^ 64 = search rules in
    let s = c.args in
    let f = anchor_at s.anchors.now in
    let m : c.loop-j.j - s.k ≡ s.n - 1 = omega arith in
    rw (subpath_some f s.k s.n s.closed (omega arith), c.if-closed.true)
    (glued (move_to (f s.k).p ∷ segments f s.k (s.n - 1)) (closing f s.k (s.n - 1)) h (rw m at c.loop-j.invariant.text) c.put_closing.ensures.text)

pub returns-else-closed-clause-text : goal.returns-else-closed-clause-text
returns-else-closed-clause-text c =
    let s = c.args in
    let f = anchor_at s.anchors.now in
    let m : c.loop-j.j - s.k ≡ s.n - 1 = omega arith in
    rw (subpath_some f s.k s.n s.closed (omega arith), c.if-closed.false, append-nil) (rw m at c.loop-j.invariant.text)
