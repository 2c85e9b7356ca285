-- What `replay` answers and leaves: the fresh cache of a drawing, then encoded calls one after the other. Assumes nothing.
use Rattle.std.proofs.Common.{Result}
use Rattle.std.specs.Prelude.{ℕ, zero, suc, ◌*◌, ◌/◌, ◌%◌, false, ◌&&◌, List, get_or, Float}
use Rattle.refusal.specs.declared.Refusal.{Refusal}
use Rattle.refusal.specs.declared.Reason.TheVariants.{Arguments, Lists}
use Rattle.refusal.specs.Order.{passes, holds, judge, Verdict, accepted, verdict, tests, answering}
use Rattle.path.specs.Shape.{total}
use Rattle.call.specs.Tests.{places, drawing_limit}
use Rattle.call.specs.Answers.{list_left}
use Rattle.corner.specs.Kinds.{kind_of, is_known}
use Rattle.cache.specs.Cache.{cached_in}
use Rattle.cache.specs.Calls.{cut_places}
use Rattle.session.specs.Drawing.{Lent}
use Rattle.session.specs.Edits.{Call}
use Rattle.session.specs.Calls.{lists_fit, lists_after, call_answer, call_lists, built_lists}
use Rattle.session.specs.Session.{played}
use Rattle.replay.specs.Encoding.{call_at, call_count, calls_of, calls_fit, calls_known, answer_words, subpath_of}

-- ---- the calls f 0, f 1, .. on lists l: the lists after the first j of them
unfoldable pub stage : ℕ → Lent → (ℕ → Call) → ℕ → Lent
stage kind l f zero = l
stage kind l f (suc j) = call_lists (stage kind l f j) kind (f j)

-- the five words of a call's answer
unfoldable pub call_words : ℕ → Lent → Call → List ℕ
call_words kind l c = answer_words (call_answer l kind c) (call_lists l kind c).shapes (subpath_of c)

-- word q of the answers
unfoldable pub answer_word : ℕ → Lent → (ℕ → Call) → ℕ → ℕ
answer_word kind l f q = get_or (call_words kind (stage kind l f (q / 5)) (f (q / 5))) (q % 5) 0

-- ---- `replay`: the tests of `build`; 7 also where the calls' lists do not fit, 5 also where a call is none of the three
unfoldable pub replay_verdict : Lent → ℕ → List ℕ → List Float → List ℕ → Verdict
replay_verdict l kind codes values answers =
    verdict
    (tests
    (holds (calls_fit codes values answers && lists_fit l) 0)
    (drawing_limit l.shapes l.anchors l.radii (calls_known codes && is_known (kind_of kind)))
    passes
    passes
    (places (cached_in (cut_places l.shapes l.anchors l.radii (kind_of kind))) (total l.shapes) passes)
    passes)

-- what refuses where a call is none of the three
unfoldable pub unknown_verdict : Lent → Verdict
unknown_verdict l = judge (holds (lists_fit l) 0) Lists (judge (drawing_limit l.shapes l.anchors l.radii false) Arguments accepted)

-- how many calls
unfoldable pub replay_answer : Lent → ℕ → List ℕ → List Float → List ℕ → Result ℕ Refusal
replay_answer l kind codes values answers = answering (replay_verdict l kind codes values answers) (call_count codes)

-- the drawing and its cache
unfoldable pub replay_lists : Lent → ℕ → List ℕ → List Float → List ℕ → Lent
replay_lists l kind codes values answers = lists_after (replay_verdict l kind codes values answers) (played kind (built_lists l kind) (calls_of codes values)) l

-- the answers: five words a call, and what is past them stays
unfoldable pub replay_answers : Lent → ℕ → List ℕ → List Float → List ℕ → List ℕ
replay_answers l kind codes values answers =
    list_left (replay_verdict l kind codes values answers) (call_count codes * 5) (answer_word kind (built_lists l kind) (call_at codes values)) answers
