-- The definitions run on a small drawing, by computation: calls decoded, their answers in words, and each refusal with its place. Assumes nothing.
use mathlib.Core.Path.{◌≡◌, refl}
use mathlib.Core.List.{List, [], ◌∷◌, ◌++◌}
use Prim.Native.Nat.{ℕ}
use lib.ListN.{replicate}
use lib.Ieee.{Float, nan, lt, le, eq, add, sub, mul, of_int, of_bits, binary64}
use Rattle.std.proofs.Common.{Err}
use Rattle.views.specs.View.{overwrite, tabulate}
use Rattle.views.specs.Search.{all, first_false, count}
use Rattle.real.specs.Operators.{float}
use Rattle.real.specs.Limit.{in_limit}
use Rattle.refusal.specs.Reasons.{refusal_at}
use Rattle.refusal.specs.declared.Reason.TheVariants.{Arguments, Lists}
use Rattle.refusal.specs.Order.{holds, judge, first_failing, verdict, tests, answering}
use Rattle.geom.specs.Point.{point, plus, minus, times}
use Rattle.path.specs.Flat.{numbers, anchor_numbers}
use Rattle.path.specs.Limit.{anchor_good, anchor_in, place_in}
use Rattle.path.specs.Shape.{sub_of, prev, next, has_anchor}
use Rattle.call.specs.Tests.{places, path_fits, drawing_fits, drawing_limit}
use Rattle.cut.specs.View.{arrives, leaves}
use Rattle.cut.specs.Subpath.{view_of}
use Rattle.cut.specs.Near.{gap, near}
use Rattle.cut.specs.Places.{corner_at, fitted_at, is_cut, trimmed_at, in_at, out_at, place_of, place_at, place_numbers, cut_at}
use Rattle.cut.specs.Recut.{reached}
use Rattle.corner.specs.Kinds.{kind_of, is_known}
use Rattle.cut_calls.specs.PlainCut.{sub_at, view_at}
use Rattle.session.specs.Drawing.{Lent, drawn, corner_kind, view_in}
use Rattle.cache.specs.Cache.{place_of_path, cached_flags, cached_in, cached_numbers}
use Rattle.cache.specs.Tests.{cache_fits}
use Rattle.session.specs.Edits.{move, set_radius, split, moved, resized, edit_of, places_of}
use Rattle.session.specs.Calls.{lists_fit, written_good, recut_good, edit_limit, room_in, edit_verdict, edit_answer, edited_lists, lists_after, call_verdict, call_answer, call_lists, built_lists}
use Rattle.cache.specs.Calls.{cut_places, build_verdict, build_numbers, build_flags}
use Rattle.call.specs.Answers.{list_left}
use Rattle.cached.specs.Opening.{lent}
use Rattle.replay.specs.Encoding.{call_of, call_at, calls_of, calls_fit, calls_known, told, stands, answer_words, subpath_of}
use Rattle.replay.specs.Replay.{stage, call_words, answer_word, replay_verdict, replay_answer, replay_answers}

abbrev half : Float
half = of_bits binary64 0x3FE0_0000_0000_0000

-- an open subpath of two anchors, (0,0) and (8,0), in lists for two
abbrev two : Lent
two = lent (2 ∷ []) (replicate 6 (float 0) ++ (float 8 ∷ float 0 ∷ float 8 ∷ float 0 ∷ float 8 ∷ float 0 ∷ [])) (float 5 ∷ float 6 ∷ []) (replicate 24 nan) (7 ∷ 8 ∷ [])

-- three calls: anchor 1 to (4,1) with two handles, a radius for anchor 0, a split at a half
abbrev codes : List ℕ
codes = 0 ∷ 0 ∷ 1 ∷ 1 ∷ 0 ∷ 0 ∷ 2 ∷ 0 ∷ 0 ∷ []

abbrev values : List Float
values = (float 4 ∷ float 1 ∷ float 3 ∷ float 1 ∷ float 5 ∷ float 1 ∷ []) ++ (float 2 ∷ replicate 5 nan) ++ half ∷ replicate 5 nan

decoded : calls_of codes values
    ≡ move 0 1 (record { p = point (float 4) (float 1); h_in = point (float 3) (float 1); h_out = point (float 5) (float 1) })
    ∷ set_radius 0 0 (float 2)
    ∷ split 0 0 half
    ∷ []
unfolding calls_of tabulate call_at call_of
decoded = refl

-- 7 at 0: a word too many, a number too few, an answer too short, a flag too few; 5 at the anchor count: a fourth kind of call, a fourth kind of cut
refusals :
    replay_answer two 0 (0 ∷ codes) values (replicate 15 0)
    ∷ replay_answer two 0 (3 ∷ 0 ∷ 1 ∷ []) (replicate 5 nan) (replicate 5 0)
    ∷ replay_answer two 0 (3 ∷ 0 ∷ 1 ∷ []) (replicate 6 nan) (replicate 4 0)
    ∷ replay_answer (lent (2 ∷ []) two.anchors two.radii two.numbers (7 ∷ [])) 0 (3 ∷ 0 ∷ 1 ∷ []) (replicate 6 nan) (replicate 5 0)
    ∷ replay_answer two 0 (3 ∷ 0 ∷ 1 ∷ []) (replicate 6 nan) (replicate 5 0)
    ∷ replay_answer two 3 (1 ∷ 0 ∷ 1 ∷ []) (replicate 6 nan) (replicate 5 0)
    ∷ []
    ≡ Err (refusal_at Lists 0) ∷ Err (refusal_at Lists 0) ∷ Err (refusal_at Lists 0) ∷ Err (refusal_at Lists 0) ∷ Err (refusal_at Arguments 2) ∷ Err (refusal_at Arguments 2) ∷ []
unfolding replay_answer replay_verdict calls_fit calls_known lists_fit cache_fits drawing_fits drawing_limit path_fits places place_in anchor_in verdict first_failing tests answering holds judge kind_of is_known all first_false in_limit of_bits of_int
refusals = refl

-- the answers: anchor 1 moved (two places recut, two anchors, from place 0, its word 2), then no anchor 5; what is past them stays
answers-told : replay_answers two 0 (0 ∷ 0 ∷ 1 ∷ 1 ∷ 0 ∷ 5 ∷ []) values (replicate 11 9) ≡ (0 ∷ 2 ∷ 2 ∷ 0 ∷ 2 ∷ []) ++ (6 ∷ 0 ∷ 0 ∷ 0 ∷ 0 ∷ []) ++ 9 ∷ []
unfolding replay_answers replay_verdict calls_fit calls_known list_left overwrite answer_word stage built_lists build_numbers build_flags build_verdict cut_places view_at cached_numbers cached_flags call_at call_of call_words answer_words told stands subpath_of call_lists lists_after edited_lists call_answer call_verdict edit_verdict edit_answer edit_of moved resized anchor_good has_anchor lists_fit cache_fits room_in written_good recut_good edit_limit drawn drawing_fits drawing_limit path_fits places place_in anchor_in verdict first_failing tests answering holds judge kind_of is_known corner_kind all first_false count in_limit numbers next prev reached near gap view_in view_of sub_at sub_of places_of place_of_path place_at place_of place_numbers cached_in is_cut cut_at fitted_at corner_at arrives leaves in_at out_at trimmed_at plus minus times of_bits of_int add mul sub lt le eq anchor_numbers
answers-told = refl
