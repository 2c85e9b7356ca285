-- `replay::running::run_call`: the call read, run and told.
use Rattle.std.proofs.Common.{ap, ◌∙◌, ◌*◌}
use lib.Seq.{sets}
use Rattle.cached.specs.Opening.{lent}
use Rattle.replay.proofs.Dispatch.{call_read, call_lists_lem, call-small, call-words}
use Rattle.replay.proofs.running.run_call.Goals as goal

pub put_answer-requires : goal.put_answer-requires
put_answer-requires c =
    let a = c.args in
    let call = call_read a.codes.now a.values.now a.j _ _ _ _ c.try_from.ensures c.unwrap_or-which.ensures c.anchor_at-given.ensures in
    (c.requires.2, call-small a.codes.now a.values.now a.j (lent a.shapes.now a.anchors.now a.radii.now a.numbers.now a.flags.now) a.kind _ _ _ call c.run_one-edited.ensures)

pub returns : goal.returns
returns c =
    let a = c.args in
    let call = call_read a.codes.now a.values.now a.j _ _ _ _ c.try_from.ensures c.unwrap_or-which.ensures c.anchor_at-given.ensures in
    let l = lent a.shapes.now a.anchors.now a.radii.now a.numbers.now a.flags.now in
    let o = c.run_one-edited.ensures in
    record {
      lists = call_lists_lem a.codes.now a.values.now a.j l a.kind _ _ _ call o;
      answers = c.put_answer.ensures ∙ ap (sets a.answers.now (a.j * 5)) (call-words a.codes.now a.values.now a.j l a.kind _ _ _ call o);
    }
