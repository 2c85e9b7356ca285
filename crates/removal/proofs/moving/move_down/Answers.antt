-- `removal::moving::move_down` meets its contract: one subpath more, which stays or goes.
use Rattle.std.proofs.Common.{arith, ◌≡◌, ℕ, ◌+◌, ◌-◌, Bool, List, take, drop, length, refl}
use mathlib.Core.Path.{sym, ap, ◌∙◌}
use Rattle.path.specs.Flat.{put_all}
use Rattle.path.specs.Shape.{closed_of}
use Rattle.path.proofs.Shapes.{total-next}
use Rattle.removal.specs.Deleted.{subpath_stays, word_left}
use Rattle.removal.specs.Marks.{kept_in}
use Rattle.removal.proofs.Moved.{held_none, held_goes, held_stays, held_all, word_here, read, past, as_many, left-count, left_most, left-moved}
use Rattle.removal.proofs.moving.move_down.Goals as goal
use Rattle.removal.proofs.moving.move_down.Goals.{then-suffices, else-suffices}

pub loop-s-init : goal.loop-s-init
loop-s-init c = (refl, held_none _ _ _)

-- the marks of a subpath's places
part : (first n : ℕ) (gone : List Bool) → take (first + n - first) (drop first gone) ≡ take n (drop first gone)
part first n gone = let long : first + n - first ≡ n = omega arith in rw long

pub overflow_add-marks : goal.overflow_add-marks
overflow_add-marks c =
    let l = c.loop-s in
    let r = read _ _ _ l.s _ _ _ _ l.invariant.1 c.loop-s-test.true _ _ l.invariant.0 c.count_of-n.ensures in
    record { fits = omega (arith, r.1, c.requires.1) }

pub slice_bounds-marks-end : goal.slice_bounds-marks-end
slice_bounds-marks-end c =
    let l = c.loop-s in
    let r = read _ _ _ l.s _ _ _ _ l.invariant.1 c.loop-s-test.true _ _ l.invariant.0 c.count_of-n.ensures in
    omega (arith, r.1, c.requires.2)

pub move_kept-requires : goal.move_kept-requires
move_kept-requires c =
    let a = c.args in
    let l = c.loop-s in
    let r = read _ _ _ l.s _ _ _ _ l.invariant.1 c.loop-s-test.true _ _ l.invariant.0 c.count_of-n.ensures in
    let many = as_many a.shapes.now a.anchors.now a.gone.now l.s _ _ l.invariant.0 r.0 _ (part l.first c.count_of-n.result a.gone.now) (omega (arith, r.1, c.requires.2)) in
    (omega (arith, many, r.1, c.requires.1), omega (arith, many, r.1, c.requires.3, l.invariant.1.same_numbers), r.3)

pub word-requires : goal.word-requires
word-requires c =
    let a = c.args in
    let l = c.loop-s in
    let r = read _ _ _ l.s _ _ _ _ l.invariant.1 c.loop-s-test.true _ _ l.invariant.0 c.count_of-n.ensures in
    let left = c.count_kept-left.ensures ∙ left-count a.shapes.now a.anchors.now a.gone.now l.s _ _ l.invariant.0 r.0 _ (part l.first c.count_of-n.result a.gone.now) (omega (arith, r.1, c.requires.2)) in
    omega (arith, left, left_most a.shapes.now a.anchors.now (kept_in a.shapes.now a.gone.now) l.s, r.0, r.1, c.requires.1)

pub offset_bounds-shapes-words : goal.offset_bounds-shapes-words
offset_bounds-shapes-words c =
    let l = c.loop-s in
    let r = read _ _ _ l.s _ _ _ _ l.invariant.1 c.loop-s-test.true _ _ l.invariant.0 c.count_of-n.ensures in
    record { fits = omega (arith, r.2, c.loop-s-test.true, c.requires.0) }

pub bounds-shapes-words : goal.bounds-shapes-words
bounds-shapes-words c =
    let l = c.loop-s in
    let r = read _ _ _ l.s _ _ _ _ l.invariant.1 c.loop-s-test.true _ _ l.invariant.0 c.count_of-n.ensures in
    omega (arith, r.2, c.loop-s-test.true, l.invariant.1.same-words)

pub overflow_add-words : goal.overflow_add-words
overflow_add-words c =
    let l = c.loop-s in
    let r = read _ _ _ l.s _ _ _ _ l.invariant.1 c.loop-s-test.true _ _ l.invariant.0 c.count_of-n.ensures in
    record { fits = omega (arith, r.2, c.loop-s-test.true, c.requires.0) }

pub overflow_add-at : goal.overflow_add-at
overflow_add-at c =
    let a = c.args in
    let l = c.loop-s in
    let r = read _ _ _ l.s _ _ _ _ l.invariant.1 c.loop-s-test.true _ _ l.invariant.0 c.count_of-n.ensures in
    let left = c.count_kept-left.ensures ∙ left-count a.shapes.now a.anchors.now a.gone.now l.s _ _ l.invariant.0 r.0 _ (part l.first c.count_of-n.result a.gone.now) (omega (arith, r.1, c.requires.2)) in
    record { fits = omega (arith, left, left_most a.shapes.now a.anchors.now (kept_in a.shapes.now a.gone.now) l.s, r.0, r.1, r.3, c.requires.1) }

pub overflow_add-first : goal.overflow_add-first
overflow_add-first c =
    let l = c.loop-s in
    let r = read _ _ _ l.s _ _ _ _ l.invariant.1 c.loop-s-test.true _ _ l.invariant.0 c.count_of-n.ensures in
    record { fits = omega (arith, r.1, c.requires.1) }

pub loop-s-preserved : goal.loop-s-preserved
unfolding subpath_stays word_left
loop-s-preserved c =
    let a = c.args in
    let l = c.loop-s in
    let h = l.invariant.1 in
    let keep = kept_in a.shapes.now a.gone.now in
    let r = read _ _ _ l.s _ _ _ _ h c.loop-s-test.true _ _ l.invariant.0 c.count_of-n.ensures in
    let left = c.count_kept-left.ensures ∙ left-count a.shapes.now a.anchors.now a.gone.now l.s _ _ l.invariant.0 r.0 _ (part l.first c.count_of-n.result a.gone.now) (omega (arith, r.1, c.requires.2)) in
    let closed = c.closed_of-closed.ensures ∙ ap closed_of (word_here a.shapes.now a.anchors.now keep l.s _ _ _ _ h l.s (omega arith)) in
    let stays : c.suffices.result ≡ subpath_stays a.shapes.now a.anchors.now keep l.s = c.suffices.ensures ∙ rw (closed, left) in
    let unread = past a.shapes.now a.anchors.now keep l.s _ _ _ _ h (omega arith) c.requires.3 in
    let moved = left-moved a.shapes.now a.anchors.now a.gone.now l.s _ _ l.invariant.0 r.0 _ (part l.first c.count_of-n.result a.gone.now) (omega (arith, r.1, c.requires.2)) l.anchors l.at r.3 unread in (
      omega (arith, l.invariant.0, r.0, total-next a.shapes.now l.s (omega arith)),
      elim c.if-suffices.branch [
        | then-suffices w ↦
            rw (w.shapes-is, w.anchors-is, w.at-is, w.words-is)
            (held_stays a.shapes.now a.anchors.now keep l.s _ _ _ _ h (sym stays ∙ w.if-suffices.true) (omega (arith, r.2, c.loop-s-test.true, h.same-words)) _ _
            (w.word.ensures ∙ rw (left, closed)) left _ w.move_kept.auto.anchors (w.move_kept.ensures ∙ ap (put_all l.anchors l.at) moved))
        | else-suffices w ↦
            rw (w.shapes-is, w.anchors-is, w.at-is, w.words-is) (held_goes a.shapes.now a.anchors.now keep l.s _ _ _ _ h (sym stays ∙ w.if-suffices.false))
      ],
    )

pub returns : goal.returns
returns c =
    let a = c.args in
    let l = c.loop-s in
    let e : l.s ≡ length a.shapes.now = omega arith in
    let h = held_all a.shapes.now a.anchors.now (kept_in a.shapes.now a.gone.now) l.shapes l.words l.anchors l.at c.requires.3 (rw e at l.invariant.1) in
    record { answer = h.0; shapes = h.1; anchors = h.2 }
