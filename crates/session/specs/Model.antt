-- The model drawing: what follows from the calls' arguments and the lists' lengths alone (document 01, 'Kept outline'). Assumes nothing.
use Rattle.std.proofs.Common.{Result}
use Rattle.std.specs.Prelude.{ℕ, ◌+◌, ◌*◌, Bool, ◌&&◌, List, [], ◌∷◌, leb, length}
use Rattle.refusal.specs.declared.Refusal.{Refusal}
use Rattle.refusal.specs.Order.{Test, passes, holds, Verdict, accepted, refused, verdict, tests}
use Rattle.real.specs.Limit.{in_limit}
use Rattle.path.specs.Shape.{count_of, closed_of, total, word_at}
use Rattle.call.specs.Tests.{places}
use Rattle.cut.specs.Near.{near_count}
use Rattle.corner.specs.Kinds.{kind_of, is_known}
use Rattle.session.specs.declared.answers.Edited.{Edited}
use Rattle.session.specs.Drawing.{Drawing, Lent}
use Rattle.cache.specs.Cache.{cached_in}
use Rattle.path.specs.Limit.{anchor_good}
use Rattle.session.specs.Edits.{Call, move, set_radius, split, edit_of, places_of}
use Rattle.session.specs.Calls.{edit_answer}

-- the lent lists' lengths, but for the shape list's, which is the drawing's
pub record Lengths : Type 0 where
  pub anchors : ℕ
  pub radii : ℕ
  pub numbers : ℕ
  pub flags : ℕ

unfoldable pub lengths_of : Lent → Lengths
lengths_of l = record { anchors = length l.anchors; radii = length l.radii; numbers = length l.numbers; flags = length l.flags }

-- lists of these lengths hold n places
unfoldable pub long_for : Lengths → ℕ → Bool
long_for l n = leb (n * 6) l.anchors && (leb n l.radii && (leb (n * 12) l.numbers && leb n l.flags))

-- at most 32 subpaths and 512 anchors
unfoldable pub small_path : List ℕ → Bool
small_path shapes = leb (length shapes) 32 && leb (total shapes) 512

-- the numbers of a drawing at place k are within the limit
unfoldable pub drawing_in : Drawing → ℕ → Bool
drawing_in d k = anchor_good (d.anchor k) && in_limit (d.radius k)

-- 9 on the whole: every anchor of what the edit makes of the drawing, then every place of the plain cut of that
unfoldable pub whole_limit : Drawing → Test
whole_limit d = let n = total d.shapes in places (λ k. anchor_good (d.anchor k)) n (places (cached_in (places_of d)) n passes)

unfoldable pub model_verdict : Drawing → Lengths → Call → Verdict
model_verdict m l c =
    let e = edit_of m c in
    let n = total m.shapes in
    let after = total e.made.shapes in
    verdict
    (tests
    (holds (small_path m.shapes && long_for l n) 0)
    (places (drawing_in m) n (holds (is_known (kind_of m.kind) && e.loose) n))
    (holds e.known 0)
    (holds (leb after 512) 0)
    (whole_limit e.made)
    (holds (long_for l after) 0))

-- how many places lie within three of the moved anchor, two of the anchor whose radius is set, four of the new anchor
unfoldable pub recut_count : Drawing → Call → ℕ
recut_count m (move s i new) = let w = word_at m.shapes s in near_count 3 (count_of w) (closed_of w) i
recut_count m (set_radius s i r) = let w = word_at m.shapes s in near_count 2 (count_of w) (closed_of w) i
recut_count m (split s a t) = let w = word_at m.shapes s in near_count 4 (count_of w + 1) (closed_of w) (a + 1)

unfoldable pub model_answer : Drawing → Lengths → Call → Result Edited Refusal
model_answer m l c = edit_answer (model_verdict m l c) (recut_count m c) (total (edit_of m c).made.shapes)

-- the drawing stays where the call is refused
unfoldable pub drawing_after : Verdict → Drawing → Drawing → Drawing
drawing_after accepted made m = made
drawing_after (refused why) made m = m

unfoldable pub model_next : Drawing → Lengths → Call → Drawing
model_next m l c = drawing_after (model_verdict m l c) (edit_of m c).made m

-- ---- a list of calls, each with the lengths of the lists lent to it
pub record Fed : Type 0 where
  pub call : Call
  pub lengths : Lengths

unfoldable pub model_answers : Drawing → List Fed → List (Result Edited Refusal)
model_answers m [] = []
model_answers m (f ∷ fs) = model_answer m f.lengths f.call ∷ model_answers (model_next m f.lengths f.call) fs

unfoldable pub model_after : Drawing → List Fed → Drawing
model_after m [] = m
model_after m (f ∷ fs) = model_after (model_next m f.lengths f.call) fs
