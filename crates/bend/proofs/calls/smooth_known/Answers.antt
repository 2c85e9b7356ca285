-- One anchor is put anew, or none.
use Rattle.std.proofs.Common.{◌<◌, ◌≤◌}
use mathlib.Core.Path.{sym, ap, ◌∙◌}
use Rattle.path.specs.Shape.{count_of, word_at}
use Rattle.path.specs.Limit.{anchor_good}
use Rattle.call.proofs.Handings.{anchors_kept, anchors_written}
use Rattle.refusal.proofs.Verdicts.{answers_ok, answers_err}
use Rattle.bend.specs.Edits.{smooth_path}
use Rattle.bend.proofs.Afterwards.{none_good, none-put, one_bad, one_good, one_put}
use Rattle.bend.proofs.Smooths.{place_inside, alone_kept, others_kept, put_anew, made_of}
use Rattle.bend.proofs.calls.smooth_known.Goals as goal

pub returns-then-n-lt2 : goal.returns-then-n-lt2
unfolding smooth_path
returns-then-n-lt2 c =
    let a = c.args in
    let p = c.requires in
    let l : count_of (word_at a.shapes.now a.s) < 2 = rw (← c.count_of-n.ensures) c.if-n-lt2.true in
    let kept = alone_kept a.shapes.now a.s a.k a.anchors.now l in
    let v = none_good _ _ _ p.5 p.2 kept in
    record {
      answer = answers_ok _ v;
      anchors = none-put _ _ _ p.5 p.2 kept ∙ anchors_written _ _ v;
    }

pub returns-then-not-in_limit : goal.returns-then-not-in_limit
unfolding smooth_path
returns-then-not-in_limit c =
    let a = c.args in
    let p = c.requires in
    let two : 2 ≤ count_of (word_at a.shapes.now a.s) = rw (← c.count_of-n.ensures) c.if-n-lt2.false in
    let made = made_of a.shapes.now a.s a.k a.anchors.now _ _ _ _ _ _ _ c.start_of-first.ensures c.count_of-n.ensures c.closed_of-closed.ensures c.point_before-before.ensures c.point_after-after.ensures c.anchor_at.ensures c.smoothed-a.ensures in
    let v = one_bad _ _ _ p.5 p.2 _ _ (place_inside _ _ _ p.3 p.4) (put_anew _ _ _ _ two) (others_kept _ _ _ _) (ap anchor_good (sym made) ∙ sym c.if-not-in_limit.ensures) in
    record {
      answer = rw (c.at.ensures, c.start_of-first.ensures) (answers_err _ v);
      anchors = anchors_kept _ _ v;
    }

pub returns : goal.returns
unfolding smooth_path
returns c =
    let a = c.args in
    let p = c.requires in
    let two : 2 ≤ count_of (word_at a.shapes.now a.s) = rw (← c.count_of-n.ensures) c.if-n-lt2.false in
    let made = made_of a.shapes.now a.s a.k a.anchors.now _ _ _ _ _ _ _ c.start_of-first.ensures c.count_of-n.ensures c.closed_of-closed.ensures c.point_before-before.ensures c.point_after-after.ensures c.anchor_at.ensures c.smoothed-a.ensures in
    let inside = place_inside _ _ _ p.3 p.4 in
    let v = one_good _ _ _ p.5 p.2 _ _ inside (put_anew _ _ _ _ two) (others_kept _ _ _ _) (ap anchor_good (sym made) ∙ sym c.if-not-in_limit.ensures) in
    record {
      answer = answers_ok _ v;
      anchors = rw (c.put_anchor.ensures, c.start_of-first.ensures, made) (one_put _ _ _ p.5 p.2 _ _ inside (put_anew _ _ _ _ two) (others_kept _ _ _ _) ∙ anchors_written _ _ v);
    }
