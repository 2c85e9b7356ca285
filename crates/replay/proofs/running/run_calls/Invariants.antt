-- The lists are those after j calls, and j answers are told.
use Rattle.std.proofs.Common.{◌≡◌, ◌*◌, ◌≤◌, length}
use Rattle.views.specs.View.{overwrite}
use Rattle.cached.specs.Opening.{lent}
use Rattle.replay.specs.Encoding.{call_at, call_count}
use Rattle.replay.specs.Replay.{stage, answer_word}
use Rattle.replay.proofs.running.run_calls.Given as goal

abbrev pub invariant-loop-j : goal.invariant-loop-j
invariant-loop-j l =
    let l0 = lent l.fn.shapes l.fn.anchors l.fn.radii l.fn.numbers l.fn.flags in
    let f = call_at l.fn.codes l.fn.values in
    record {
      under : l.j ≤ l.m;
      to : l.m ≡ call_count l.fn.codes;
      room : length l.answers ≡ length l.fn.answers;
      lists : lent l.shapes l.anchors l.radii l.numbers l.flags ≡ stage l.fn.kind l0 f l.j;
      answers : l.answers ≡ overwrite (l.j * 5) (answer_word l.fn.kind l0 f) l.fn.answers;
    }
