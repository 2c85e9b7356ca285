-- The call at some paths: what each refusal is for, their order, and what is left in the list. Assumes nothing.
use mathlib.Core.Path.{◌≡◌, refl}
use mathlib.Core.Bool.{true, false}
use mathlib.Core.List.{List, [], ◌∷◌}
use Prim.Native.Nat.{ℕ}
use lib.ListN.{length}
use lib.Ieee.{Float, binary64, of_bits, eq}
use Rattle.std.proofs.Common.{Ok, Err, Result}
use Rattle.views.specs.Search.{all, first_false}
use Rattle.real.specs.Limit.{in_limit}
use Rattle.geom.specs.Point.{same}
use Rattle.cubic.specs.Sample.{straight}
use Rattle.path.specs.Limit.{anchor_in}
use Rattle.refusal.specs.Reasons.{refusal_at}
use Rattle.refusal.specs.declared.Refusal.{Refusal}
use Rattle.refusal.specs.declared.Reason.TheVariants.{Arguments, Lists, Output}
use Rattle.refusal.specs.Order.{verdict, first_failing, judge, holds, tests, answering}
use Rattle.call.specs.Tests.{places, path_fits, path_limit}
use Rattle.decimal.specs.Rounding.{in_thousandths}
use Rattle.decimal.specs.Text.{thousandths_text}
use Rattle.svg.specs.Path.{text_of}
use Rattle.svg_calls.specs.Call.{text_room, to_svg_d_verdict, answer, left, to_svg_d_answer, to_svg_d_left}

abbrev f : ℕ → Float
f b = of_bits binary64 b

abbrev Answers : List ℕ → List Float → List ℕ → Result ℕ Refusal → List ℕ → Type 0
Answers shapes anchors out a l = (to_svg_d_answer shapes anchors out ≡ a) × (to_svg_d_left shapes anchors out ≡ l)

-- no path: no text
nothing : Answers [] [] (7 ∷ []) (Ok 0) (7 ∷ [])
unfolding to_svg_d_answer to_svg_d_left answer answering left to_svg_d_verdict verdict first_failing judge holds tests text_room path_fits path_limit places first_false anchor_in all in_limit text_of in_thousandths thousandths_text of_bits eq same straight
nothing = (refl, refl)

-- 'M1 1', and the bytes after it stay
with_room : Answers (1 ∷ []) (f 0x3FF0000000000000 ∷ f 0x3FF0000000000000 ∷ f 0x3FF0000000000000 ∷ f 0x3FF0000000000000 ∷ f 0x3FF0000000000000 ∷ f 0x3FF0000000000000 ∷ []) (0 ∷ 1 ∷ 2 ∷ 3 ∷ 4 ∷ 5 ∷ []) (Ok 4) (77 ∷ 49 ∷ 32 ∷ 49 ∷ 4 ∷ 5 ∷ [])
unfolding to_svg_d_answer to_svg_d_left answer answering left to_svg_d_verdict verdict first_failing judge holds tests text_room path_fits path_limit places first_false anchor_in all in_limit text_of in_thousandths thousandths_text of_bits eq same straight
with_room = (refl, refl)

-- one byte too few
no_room : Answers (1 ∷ []) (f 0x3FF0000000000000 ∷ f 0x3FF0000000000000 ∷ f 0x3FF0000000000000 ∷ f 0x3FF0000000000000 ∷ f 0x3FF0000000000000 ∷ f 0x3FF0000000000000 ∷ []) (0 ∷ 1 ∷ 2 ∷ []) (Err (refusal_at Output 0)) (0 ∷ 1 ∷ 2 ∷ [])
unfolding to_svg_d_answer to_svg_d_left answer answering left to_svg_d_verdict verdict first_failing judge holds tests text_room path_fits path_limit places first_false anchor_in all in_limit text_of in_thousandths thousandths_text of_bits eq same straight
no_room = (refl, refl)

-- 131,072 passes, the next number does not; 5 comes before 8
past_limit : Answers (2 ∷ []) (f 0x4100000000000000 ∷ f 0x3FF0000000000000 ∷ f 0x4100000000000000 ∷ f 0x3FF0000000000000 ∷ f 0x4100000000000000 ∷ f 0x3FF0000000000000 ∷ f 0x3FF0000000000000 ∷ f 0x3FF0000000000000 ∷ f 0x3FF0000000000000 ∷ f 0x3FF0000000000000 ∷ f 0x3FF0000000000000 ∷ f 0x4100000000000001 ∷ []) (9 ∷ []) (Err (refusal_at Arguments 1)) (9 ∷ [])
unfolding to_svg_d_answer to_svg_d_left answer answering left to_svg_d_verdict verdict first_failing judge holds tests text_room path_fits path_limit places first_false anchor_in all in_limit text_of in_thousandths thousandths_text of_bits eq same straight
past_limit = (refl, refl)

-- what is past the anchors is not read
not-read : Answers (1 ∷ []) (f 0x3FF0000000000000 ∷ f 0x3FF0000000000000 ∷ f 0x3FF0000000000000 ∷ f 0x3FF0000000000000 ∷ f 0x3FF0000000000000 ∷ f 0x3FF0000000000000 ∷ f 0x7FF0000000000000 ∷ []) (0 ∷ 0 ∷ 0 ∷ 0 ∷ []) (Ok 4) (77 ∷ 49 ∷ 32 ∷ 49 ∷ [])
unfolding to_svg_d_answer to_svg_d_left answer answering left to_svg_d_verdict verdict first_failing judge holds tests text_room path_fits path_limit places first_false anchor_in all in_limit text_of in_thousandths thousandths_text of_bits eq same straight
not-read = (refl, refl)

-- a number missing; 7 comes before 5
too_short : Answers (2 ∷ []) (f 0x7FF0000000000000 ∷ f 0x3FF0000000000000 ∷ f 0x7FF0000000000000 ∷ f 0x3FF0000000000000 ∷ f 0x7FF0000000000000 ∷ f 0x3FF0000000000000 ∷ f 0x3FF0000000000000 ∷ f 0x3FF0000000000000 ∷ f 0x3FF0000000000000 ∷ f 0x3FF0000000000000 ∷ f 0x3FF0000000000000 ∷ []) [] (Err (refusal_at Lists 0)) []
unfolding to_svg_d_answer to_svg_d_left answer answering left to_svg_d_verdict verdict first_failing judge holds tests text_room path_fits path_limit places first_false anchor_in all in_limit text_of in_thousandths thousandths_text of_bits eq same straight
too_short = (refl, refl)

-- of a list that has numbers for 1,025 anchors, 1,024 pass and one more does not
most : (anchors : List Float) → length anchors ≡ 6150 → path_fits 1024 (1024 ∷ []) anchors ≡ true
unfolding path_fits
most anchors e = rw e

too_many : (anchors : List Float) → length anchors ≡ 6150 → path_fits 1024 (1025 ∷ []) anchors ≡ false
unfolding path_fits
too_many anchors e = refl

-- 33 subpaths
too_many_subpaths : Answers (0 ∷ 0 ∷ 0 ∷ 0 ∷ 0 ∷ 0 ∷ 0 ∷ 0 ∷ 0 ∷ 0 ∷ 0 ∷ 0 ∷ 0 ∷ 0 ∷ 0 ∷ 0 ∷ 0 ∷ 0 ∷ 0 ∷ 0 ∷ 0 ∷ 0 ∷ 0 ∷ 0 ∷ 0 ∷ 0 ∷ 0 ∷ 0 ∷ 0 ∷ 0 ∷ 0 ∷ 0 ∷ 0 ∷ []) [] [] (Err (refusal_at Lists 0)) []
unfolding to_svg_d_answer to_svg_d_left answer answering left to_svg_d_verdict verdict first_failing judge holds tests text_room path_fits path_limit places first_false anchor_in all in_limit text_of in_thousandths thousandths_text of_bits eq same straight
too_many_subpaths = (refl, refl)

-- 32 subpaths
many_subpaths : Answers (0 ∷ 0 ∷ 0 ∷ 0 ∷ 0 ∷ 0 ∷ 0 ∷ 0 ∷ 0 ∷ 0 ∷ 0 ∷ 0 ∷ 0 ∷ 0 ∷ 0 ∷ 0 ∷ 0 ∷ 0 ∷ 0 ∷ 0 ∷ 0 ∷ 0 ∷ 0 ∷ 0 ∷ 0 ∷ 0 ∷ 0 ∷ 0 ∷ 0 ∷ 0 ∷ 0 ∷ 0 ∷ []) [] [] (Ok 0) []
unfolding to_svg_d_answer to_svg_d_left answer answering left to_svg_d_verdict verdict first_failing judge holds tests text_room path_fits path_limit places first_false anchor_in all in_limit text_of in_thousandths thousandths_text of_bits eq same straight
many_subpaths = (refl, refl)
