-- Two anchors are put anew, or none.
use Rattle.std.proofs.Common.{◌<◌, ◌≤◌}
use mathlib.Core.Path.{sym, ◌∙◌}
use Rattle.path.specs.Shape.{count_of, word_at}
use Rattle.call.proofs.Handings.{anchors_kept, anchors_written}
use Rattle.refusal.proofs.Verdicts.{answers_ok, answers_err}
use Rattle.bend.specs.Edits.{bend_path}
use Rattle.bend.proofs.Afterwards.{none_good, none-put}
use Rattle.bend.proofs.Bends.{nothing-bent, bent_bad, bent_good, bent_put}
use Rattle.bend.proofs.calls.bend_known.Goals as goal

pub returns-then-n-lt2 : goal.returns-then-n-lt2
unfolding bend_path
returns-then-n-lt2 c =
    let a = c.args in
    let p = c.requires in
    let l : count_of (word_at a.shapes.now a.s) < 2 = rw (← c.count_of-n.ensures) c.if-n-lt2.true in
    let kept = nothing-bent a.shapes.now a.s a.a a.anchors.now a.v a.keep l in
    let v = none_good _ _ _ p.4 p.2 kept in
    record {
      answer = answers_ok _ v;
      anchors = none-put _ _ _ p.4 p.2 kept ∙ anchors_written _ _ v;
    }

pub returns-in-Some : goal.returns-in-Some
unfolding bend_path
returns-in-Some c =
    let a = c.args in
    let p = c.requires in
    let two : 2 ≤ count_of (word_at a.shapes.now a.s) = rw (← c.count_of-n.ensures) c.if-n-lt2.false in
    let out = rw (c.bent_out-from.ensures, c.bent_in-to.ensures, c.anchor_at.ensures, c.anchor_at-2.ensures, c.next.ensures, c.count_of-n.ensures, c.start_of-first.ensures) at c.in-Some.ensures in
    let v = bent_bad a.shapes.now a.s a.a a.anchors.now a.v a.keep p.4 p.2 p.3 two _ (sym out) in
    record { answer = rw c.at.ensures (answers_err _ v); anchors = anchors_kept _ _ v }

pub returns : goal.returns
unfolding bend_path
returns c =
    let a = c.args in
    let p = c.requires in
    let two : 2 ≤ count_of (word_at a.shapes.now a.s) = rw (← c.count_of-n.ensures) c.if-n-lt2.false in
    let none = rw (c.bent_out-from.ensures, c.bent_in-to.ensures, c.anchor_at.ensures, c.anchor_at-2.ensures, c.next.ensures, c.count_of-n.ensures, c.start_of-first.ensures) at (sym c.first_out.ensures ∙ c.in_default.is) in
    let v = bent_good a.shapes.now a.s a.a a.anchors.now a.v a.keep p.4 p.2 p.3 two none in
    record {
      answer = answers_ok _ v;
      anchors = rw (c.put_anchor-2.ensures, c.put_anchor.ensures, c.bent_out-from.ensures, c.bent_in-to.ensures, c.anchor_at.ensures, c.anchor_at-2.ensures, c.next.ensures, c.count_of-n.ensures, c.start_of-first.ensures) (bent_put a.shapes.now a.s a.a a.anchors.now a.v a.keep p.4 p.2 p.3 two ∙ anchors_written _ _ v);
    }
