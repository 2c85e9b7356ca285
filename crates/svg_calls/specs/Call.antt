-- What `to_svg_d` and `write_num` answer, and what they leave in the list lent to them (document 01, 'Text'). Assumes nothing.
use Rattle.std.specs.Prelude.{ℕ, true, List, ◌++◌, leb, length, drop, Float, Result}
use Rattle.real.specs.Limit.{in_limit}
use Rattle.decimal.specs.Text.{float_text}
use Rattle.path.specs.Flat.{anchor_at}
use Rattle.refusal.specs.declared.Refusal.{Refusal}
use Rattle.refusal.specs.declared.Reason.TheVariants.{Output}
use Rattle.refusal.specs.Order.{Test, passes, holds, judge, Verdict, accepted, refused, verdict, tests, answering}
use Rattle.call.specs.Tests.{path_fits, path_limit}
use Rattle.svg.specs.Path.{text_of}

-- 8: the list is as long as the text
unfoldable pub text_room : List ℕ → List ℕ → Test
text_room text out = holds (leb (length text) (length out)) 0

-- the text's length
unfoldable pub answer : Verdict → List ℕ → Result ℕ Refusal
answer v text = answering v (length text)

-- the text, then as it was; a refusal leaves every bit
unfoldable pub left : Verdict → List ℕ → List ℕ → List ℕ
left accepted text out = text ++ drop (length text) out
left (refused why) text out = out

-- ---- `to_svg_d`: at most 1,024 anchors
unfoldable pub to_svg_d_verdict : List ℕ → List Float → List ℕ → Verdict
to_svg_d_verdict shapes anchors out =
    verdict (tests (holds (path_fits 1024 shapes anchors) 0) (path_limit shapes anchors true) passes passes passes (text_room (text_of shapes (anchor_at anchors)) out))

unfoldable pub to_svg_d_answer : List ℕ → List Float → List ℕ → Result ℕ Refusal
to_svg_d_answer shapes anchors out = answer (to_svg_d_verdict shapes anchors out) (text_of shapes (anchor_at anchors))

unfoldable pub to_svg_d_left : List ℕ → List Float → List ℕ → List ℕ
to_svg_d_left shapes anchors out = left (to_svg_d_verdict shapes anchors out) (text_of shapes (anchor_at anchors)) out

-- ---- `write_num`, as a call: the number is tested as a loose argument
unfoldable pub write_num_verdict : Float → List ℕ → Verdict
write_num_verdict x out = verdict (tests passes (holds (in_limit x) 0) passes passes passes (text_room (float_text x) out))

unfoldable pub write_num_answer : Float → List ℕ → Result ℕ Refusal
write_num_answer x out = answer (write_num_verdict x out) (float_text x)

unfoldable pub write_num_left : Float → List ℕ → List ℕ
write_num_left x out = left (write_num_verdict x out) (float_text x) out

-- ---- a text for which only the room is left to test
unfoldable pub room_verdict : List ℕ → List ℕ → Verdict
room_verdict text out = judge (text_room text out) Output accepted

unfoldable pub handed_answer : List ℕ → List ℕ → Result ℕ Refusal
handed_answer text out = answer (room_verdict text out) text

unfoldable pub handed_left : List ℕ → List ℕ → List ℕ
handed_left text out = left (room_verdict text out) text out
