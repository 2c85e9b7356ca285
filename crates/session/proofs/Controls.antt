-- The definitions run on small drawings, by computation: a split's anchors and lists, recut counts, and each refusal with its place. Assumes nothing.
use mathlib.Core.Path.{◌≡◌, refl}
use mathlib.Core.List.{List, [], ◌∷◌, ◌++◌}
use Prim.Native.Nat.{ℕ}
use lib.ListN.{replicate}
use lib.Ieee.{Float, nan, lt, le, eq, add, sub, mul, div, of_int, of_bits, binary64}
use Rattle.std.proofs.Common.{Ok, Err, Result}
use Rattle.views.specs.View.{overwrite}
use Rattle.views.specs.Search.{all, first_false, count}
use Rattle.real.specs.Operators.{float}
use Rattle.real.specs.Limit.{in_limit}
use Rattle.refusal.specs.Reasons.{refusal_at}
use Rattle.refusal.specs.declared.Refusal.{Refusal}
use Rattle.refusal.specs.declared.Reason.TheVariants.{Arguments, Reference, Lists, Output, Made}
use Rattle.refusal.specs.Order.{holds, judge, first_failing, verdict, tests, answering}
use Rattle.root.specs.Root.{root_of}
use Rattle.real.specs.StandIns.{abs, min, max}
use Rattle.geom.specs.Point.{point, plus, minus, times, dot, cross, len, lerp}
use Rattle.cubic.specs.Cubic.{split_cubic}
use Rattle.path.specs.declared.anchor.Anchor.{Anchor}
use Rattle.path.specs.Anchor.{is_smooth}
use Rattle.path.specs.Flat.{numbers, anchor_numbers}
use Rattle.path.specs.Limit.{anchor_good, anchor_in, place_in}
use Rattle.path.specs.Shape.{sub_of, is_segment, prev, next, has_anchor}
use Rattle.call.specs.Tests.{places, path_fits, drawing_fits, drawing_limit}
use Rattle.corner.specs.Corner.{corner_of, max_radius_beside}
use Rattle.cut.specs.View.{arrives, leaves}
use Rattle.cut.specs.Subpath.{view_of}
use Rattle.cut.specs.Near.{gap, near, old}
use Rattle.cut.specs.Places.{corner_at, own_at, asked_at, fitted_at, is_cut, trimmed_at, in_at, out_at, place_of, place_at, place_numbers, cut_at}
use Rattle.cut.specs.Recut.{reached}
use Rattle.corner.specs.Kinds.{kind_of, is_known}
use Rattle.cut_calls.specs.PlainCut.{sub_at}
use Rattle.session.specs.declared.answers.Edited.{Edited}
use Rattle.session.specs.Drawing.{Lent, drawn, corner_kind, view_in}
use Rattle.cache.specs.Cache.{place_of_path, cached_numbers, cached_flags, cached_in}
use Rattle.cache.specs.Tests.{cache_fits}
use Rattle.edit.specs.Split.{halves, shifted, split_anchors, split_shapes, has_segment}
use Rattle.session.specs.Edits.{move, set_radius, split, moved, resized, segment_start, segment_end, split_radii, split_at, edit_of, places_of}
use Rattle.session.specs.Calls.{lists_fit, written_good, recut_good, edit_limit, room_in, edit_verdict, edit_answer, numbers_after, flags_after, edited_lists, lists_after, call_verdict, call_answer, call_lists}
use Rattle.session.specs.Commute.{apart, BothOrders, Commute}
use Rattle.session.proofs.Commute.{commute}

abbrev half : Float
half = of_bits binary64 0x3FE0_0000_0000_0000

-- document 01's (0,0) (0,4) (4,4) (4,0) at 0.5
abbrev left : Anchor
left = record { p = point (float 0) (float 0); h_in = point (float 7) (float 7); h_out = point (float 0) (float 4) }

abbrev right : Anchor
right = record { p = point (float 4) (float 0); h_in = point (float 4) (float 4); h_out = point (float 9) (float 9) }

divided : halves left right half
    ≡ record {
      left = record { p = left.p; h_in = left.h_in; h_out = point (float 0) (float 2) };
      middle = record { p = point (float 2) (float 3); h_in = point (float 1) (float 3); h_out = point (float 3) (float 3) };
      right = record { p = right.p; h_in = point (float 4) (float 2); h_out = right.h_out };
    }
unfolding halves split_cubic lerp plus minus times of_bits of_int add mul sub
divided = refl

-- ---- an open subpath of two anchors, (0,0) and (8,0), in lists with room for three, on a cache that others wrote to
abbrev lists : List Float → List ℕ → Lent
lists radii flags = record {
  shapes = 2 ∷ [];
  anchors = replicate 6 (float 0) ++ (float 8 ∷ float 0 ∷ float 8 ∷ float 0 ∷ float 8 ∷ float 0 ∷ []) ++ replicate 6 nan;
  radii = radii;
  numbers = replicate 36 nan;
  flags = flags;
}

abbrev two : Lent
two = lists (float 5 ∷ float 6 ∷ nan ∷ []) (7 ∷ 8 ∷ 9 ∷ [])

abbrev did : ℕ → ℕ → Result Edited Refusal
did recut n = Ok (record { recut = recut; anchors = n })

-- Both places lie within three steps, and within two. 7: a flag too few, whatever the call. 5: a radius at its place, the call's own number and the kind at the
-- anchor count. 6: no such anchor, no such segment. 9: the new anchor, at its place after the split
answers :
    call_answer two 0 (move 0 1 left)
    ∷ call_answer two 2 (set_radius 0 0 half)
    ∷ call_answer (lists (float 5 ∷ float 6 ∷ []) (7 ∷ [])) 9 (move 4 4 left)
    ∷ call_answer (lists (float 5 ∷ nan ∷ []) (7 ∷ 8 ∷ [])) 9 (move 4 4 left)
    ∷ call_answer two 0 (set_radius 4 4 nan)
    ∷ call_answer two 3 (set_radius 4 4 half)
    ∷ call_answer two 0 (move 0 2 left)
    ∷ call_answer two 0 (split 0 1 half)
    ∷ call_answer two 0 (split 0 0 (float 131072))
    ∷ []
    ≡ did 2 2 ∷ did 2 2 ∷ Err (refusal_at Lists 0) ∷ Err (refusal_at Arguments 1) ∷ Err (refusal_at Arguments 2) ∷ Err (refusal_at Arguments 2) ∷ Err (refusal_at Reference 0) ∷ Err (refusal_at Reference 0) ∷ Err (refusal_at Made 1) ∷ []
unfolding call_answer call_verdict edit_verdict edit_answer edit_of moved resized split_at anchor_good has_anchor has_segment is_segment lists_fit cache_fits room_in written_good recut_good edit_limit drawn drawing_fits drawing_limit path_fits places place_in anchor_in verdict first_failing tests answering holds judge kind_of is_known corner_kind all first_false count in_limit numbers split_shapes segment_start segment_end shifted split_anchors split_radii halves old next prev reached near gap view_in view_of sub_at sub_of places_of place_of_path place_at place_of place_numbers cached_in is_cut cut_at fitted_at corner_at arrives leaves in_at out_at trimmed_at split_cubic lerp plus minus times of_bits of_int add mul sub lt le eq
answers = refl

-- the split itself: three places; 8 where a list has no room for them
splits : call_answer two 0 (split 0 0 half) ∷ call_answer (lists (float 5 ∷ float 6 ∷ []) (7 ∷ 8 ∷ [])) 0 (split 0 0 half) ∷ [] ≡ did 3 3 ∷ Err (refusal_at Output 0) ∷ []
unfolding call_answer call_verdict edit_verdict edit_answer edit_of moved resized split_at anchor_good has_anchor has_segment is_segment lists_fit cache_fits room_in written_good recut_good edit_limit drawn drawing_fits drawing_limit path_fits places place_in anchor_in verdict first_failing tests answering holds judge kind_of is_known corner_kind all first_false count in_limit numbers split_shapes segment_start segment_end shifted split_anchors split_radii halves old next prev reached near gap view_in view_of sub_at sub_of places_of place_of_path place_at place_of place_numbers cached_in is_cut cut_at fitted_at corner_at arrives leaves in_at out_at trimmed_at split_cubic lerp plus minus times of_bits of_int add mul sub lt le eq corner_of is_smooth len root_of abs div cross dot min max asked_at own_at max_radius_beside
splits = refl

-- its lists: left, new, right, and radius 0 at the new anchor
split_lists : (edited_lists two (edit_of (drawn two 0) (split 0 0 half))).shapes ≡ 3 ∷ []
unfolding edited_lists edit_of split_at drawn split_shapes
split_lists = refl

split_anchors_lem : (edited_lists two (edit_of (drawn two 0) (split 0 0 half))).anchors
    ≡ replicate 6 (float 0) ++ (float 4 ∷ float 0 ∷ float 2 ∷ float 0 ∷ float 6 ∷ float 0 ∷ []) ++ (float 8 ∷ float 0 ∷ float 8 ∷ float 0 ∷ float 8 ∷ float 0 ∷ [])
unfolding edited_lists edit_of split_at drawn split_shapes segment_start segment_end shifted split_anchors halves old next overwrite anchor_numbers numbers split_cubic lerp plus minus times of_bits of_int add mul sub
split_anchors_lem = refl

split_radii_lem : (edited_lists two (edit_of (drawn two 0) (split 0 0 half))).radii ≡ float 5 ∷ float 0 ∷ float 6 ∷ []
unfolding edited_lists edit_of split_at drawn split_shapes segment_start segment_end split_radii old overwrite of_bits of_int
split_radii_lem = refl

-- ---- flags of another subpath keep every bit, and so do those past the places
abbrev four : Lent
four = record { shapes = 2 ∷ 2 ∷ []; anchors = replicate 24 (float 1); radii = replicate 4 (float 0); numbers = replicate 48 nan; flags = 2147483649 ∷ 3 ∷ 4 ∷ 5 ∷ 6 ∷ [] }

flags_four : (call_lists four 1 (move 1 0 left)).flags ≡ 2147483649 ∷ 3 ∷ 0 ∷ 0 ∷ 6 ∷ []
unfolding call_lists lists_after edited_lists overwrite flags_after cached_flags call_answer call_verdict edit_verdict edit_answer edit_of moved resized split_at anchor_good has_anchor has_segment is_segment lists_fit cache_fits room_in written_good recut_good edit_limit drawn drawing_fits drawing_limit path_fits places place_in anchor_in verdict first_failing tests answering holds judge kind_of is_known corner_kind all first_false count in_limit numbers split_shapes segment_start segment_end shifted split_anchors split_radii halves old next prev reached near gap view_in view_of sub_at sub_of places_of place_of_path place_at place_of place_numbers cached_in is_cut cut_at fitted_at corner_at arrives leaves in_at out_at trimmed_at split_cubic lerp plus minus times of_bits of_int add mul sub lt le eq
flags_four = refl

-- ---- two edits of one anchor, of different sorts: both orders are accepted
both_orders : BothOrders two 0 (move 0 1 left) (set_radius 0 1 half)
unfolding call_lists lists_after edited_lists overwrite anchor_numbers numbers_after cached_numbers flags_after cached_flags call_answer call_verdict edit_verdict edit_answer edit_of moved resized split_at anchor_good has_anchor has_segment is_segment lists_fit cache_fits room_in written_good recut_good edit_limit drawn drawing_fits drawing_limit path_fits places place_in anchor_in verdict first_failing tests answering holds judge kind_of is_known corner_kind all first_false count in_limit numbers split_shapes segment_start segment_end shifted split_anchors split_radii halves old next prev reached near gap view_in view_of sub_at sub_of places_of place_of_path place_at place_of place_numbers cached_in is_cut cut_at fitted_at corner_at arrives leaves in_at out_at trimmed_at split_cubic lerp plus minus times of_bits of_int add mul sub lt le eq
both_orders = record { first_c = refl; then_d = refl; first_d = refl; then_c = refl }

commuting : Commute two 0 (move 0 1 left) (set_radius 0 1 half)
unfolding apart
commuting = commute two 0 (move 0 1 left) (set_radius 0 1 half) refl both_orders
