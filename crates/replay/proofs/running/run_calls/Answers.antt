-- `replay::running::run_calls`: one call more at each turn.
use Rattle.std.proofs.Common.{◌≡◌, ◌*◌, refl, ap, ◌∙◌, arith}
use Rattle.views.specs.View.{overwrite}
use Rattle.cached.specs.Opening.{lent}
use Rattle.replay.specs.Encoding.{call_at, call_count}
use Rattle.replay.specs.Replay.{stage, answer_word}
use Rattle.replay.proofs.Stages.{stage_more, answers-none, answers_more}
use Rattle.replay.proofs.running.run_calls.Goals as goal

pub loop-j-init : goal.loop-j-init
unfolding stage
loop-j-init c = record { under = omega arith; to = refl; room = refl; lists = refl; answers = answers-none _ _ }

pub loop-j-preserved : goal.loop-j-preserved
loop-j-preserved c =
    let a = c.args in
    let l = c.loop-j in
    let i = l.invariant in
    let l0 = lent a.shapes.now a.anchors.now a.radii.now a.numbers.now a.flags.now in
    let f = call_at a.codes.now a.values.now in
    let now = lent l.shapes l.anchors l.radii l.numbers l.flags in
    let o = c.run_call in
    record {
      under = omega arith;
      to = i.to;
      room = o.auto.answers ∙ i.room;
      lists = stage_more a.kind l0 f l.j now _ i.lists o.ensures.lists;
      answers = answers_more a.kind l0 f a.answers.now l.j (omega (arith, c.requires.1)) now l.answers _ i.lists i.answers o.ensures.answers;
    }

pub returns : goal.returns
returns c =
    let a = c.args in
    let l = c.loop-j in
    let i = l.invariant in
    let l0 = lent a.shapes.now a.anchors.now a.radii.now a.numbers.now a.flags.now in
    let f = call_at a.codes.now a.values.now in
    let e : l.j ≡ call_count a.codes.now = omega (arith, c.loop-j-test.false, i.under, i.to) in
    record {
      lists = i.lists ∙ ap (stage a.kind l0 f) e;
      answers = i.answers ∙ ap (λ n. overwrite (n * 5) (answer_word a.kind l0 f) a.answers.now) e;
    }
