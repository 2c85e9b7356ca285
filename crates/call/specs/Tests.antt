-- The tests that calls on paths share (document 01, 'Who can cause a refusal'). Assumes nothing.
use Rattle.std.proofs.Common.{Result, Ok, Err}
use Rattle.std.specs.Prelude.{ℕ, ◌*◌, Bool, true, ◌&&◌, cond, List, leb, ltb, length, Float}
use Rattle.views.specs.Search.{first_false}
use Rattle.refusal.specs.declared.Refusal.{Refusal}
use Rattle.refusal.specs.declared.Reason.TheVariants.{Arguments, Lists}
use Rattle.refusal.specs.Reasons.{refusal_at}
use Rattle.refusal.specs.Order.{Test, passes, fails, holds, judge, accepted, answering}
use Rattle.path.specs.declared.anchor.Anchor.{Anchor}
use Rattle.path.specs.Flat.{nth}
use Rattle.path.specs.Shape.{total}
use Rattle.path.specs.Limit.{anchor_good, anchor_in, place_in}

-- the first of n places that does not pass, else what is tested after them
unfoldable pub places : (ℕ → Bool) → ℕ → Test → Test
places good n after = let k = first_false good n in cond (ltb k n) (fails k) after

-- ---- 7: at most 32 subpaths and `most` anchors, six numbers for each
unfoldable pub path_fits : ℕ → List ℕ → List Float → Bool
path_fits most shapes anchors = leb (length shapes) 32 && (leb (total shapes) most && leb (total shapes * 6) (length anchors))

-- and a radius
unfoldable pub drawing_fits : List ℕ → List Float → List Float → Bool
drawing_fits shapes anchors radii = path_fits 512 shapes anchors && leb (total shapes) (length radii)

-- ---- 5: the places of a path, or of a drawing, then the loose arguments at the anchor count
unfoldable pub path_limit : List ℕ → List Float → Bool → Test
path_limit shapes anchors loose = places (anchor_in anchors) (total shapes) (holds loose (total shapes))

unfoldable pub drawing_limit : List ℕ → List Float → List Float → Bool → Test
drawing_limit shapes anchors radii loose = places (place_in anchors radii) (total shapes) (holds loose (total shapes))

-- ---- 9: the anchors of a path that was made
unfoldable pub outline_in : List Anchor → ℕ → Bool
outline_in ps k = anchor_good (nth ps k)

unfoldable pub outline_limit : List Anchor → Test
outline_limit ps = places (outline_in ps) (length ps) passes

-- ---- 8: the lent lists are long enough for m shape words and so many anchors
unfoldable pub room_for : ℕ → ℕ → List ℕ → List Float → Bool
room_for m count to_shapes to = leb m (length to_shapes) && leb (count * 6) (length to)

-- ---- 7 alone: how many anchors, or the refusal
unfoldable pub sized_path : ℕ → List ℕ → List Float → Result ℕ Refusal
sized_path most shapes anchors = cond (path_fits most shapes anchors) (Ok (total shapes)) (Err (refusal_at Lists 0))

-- ---- 7, then 5 without loose arguments: how many anchors, or the refusal
unfoldable pub opened_path : ℕ → List ℕ → List Float → Result ℕ Refusal
opened_path most shapes anchors = answering (judge (holds (path_fits most shapes anchors) 0) Lists (judge (path_limit shapes anchors true) Arguments accepted)) (total shapes)

unfoldable pub opened_drawing : List ℕ → List Float → List Float → Result ℕ Refusal
opened_drawing shapes anchors radii = answering (judge (holds (drawing_fits shapes anchors radii) 0) Lists (judge (drawing_limit shapes anchors radii true) Arguments accepted)) (total shapes)
