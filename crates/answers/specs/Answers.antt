-- How the C interface hands over what a call answers: the refusal's number, 0 where accepted, and the words place, count, subpaths, recut. Assumes nothing.
use Rattle.std.specs.Prelude.{ℕ, ◌≡◌, List, [], ◌∷◌, Float, Result, Ok, Err, Option, Some, None}
use Rattle.views.specs.View.{entry}
use Rattle.geom.specs.declared.point.P.{P}
use Rattle.geom.specs.declared.bounds.Bounds.{Bounds}
use Rattle.geom.specs.Point.{point}
use Rattle.cubic.specs.Cubic.{four}
use Rattle.path.specs.declared.shape.AnchorRef.{AnchorRef}
use Rattle.refusal.specs.declared.Refusal.{Refusal}
use Rattle.refusal.specs.Reasons.{number_of}
use Rattle.call.specs.declared.answers.Outline.{Outline}
use Rattle.hit.specs.declared.segments.SegmentAt.{SegmentAt}
use Rattle.job_calls.specs.declared.result.Read.{Read}
use Rattle.session.specs.declared.answers.Edited.{Edited}
use Rattle.session.specs.Drawing.{Lent}
use Rattle.session.specs.Edits.{Call}
use Rattle.session.specs.Calls.{call_answer, call_lists}

-- the control points of eight numbers
abbrev pub curve_of : List Float → List P
curve_of c = four (point (entry c 0) (entry c 1)) (point (entry c 2) (entry c 3)) (point (entry c 4) (entry c 5)) (point (entry c 6) (entry c 7))

-- ---- whatever a call gives where it is accepted
-- the number that is returned
unfoldable pub code : {A : Type 0} → Result A Refusal → ℕ
code (Err e) = number_of e.reason
code (Ok x) = 0

abbrev pub words : ℕ → ℕ → List ℕ
words place count = place ∷ count ∷ 0 ∷ 0 ∷ []

-- what answer[4] holds afterwards, where `of` gives the words of what an accepted call gives
unfoldable pub told : {A : Type 0} → (A → List ℕ) → Result A Refusal → List ℕ
told of (Err e) = words e.place 0
told of (Ok x) = of x

-- what is lent for the result holds this afterwards, where `put` gives what an accepted call makes of it; a refusal leaves it
unfoldable pub left : {A B : Type 0} → (A → B → B) → Result A Refusal → B → B
left put (Err e) old = old
left put (Ok x) old = put x old

-- ---- a number: *length
unfoldable pub number_words : Float → List ℕ
number_words x = words 0 0

unfoldable pub number_put : Float → Float → Float
number_put x old = x

-- ---- a point: point[2]
unfoldable pub point_words : P → List ℕ
point_words p = words 0 1

unfoldable pub point_put : P → List Float → List Float
point_put p old = p.x ∷ p.y ∷ []

-- ---- how many: points in lists, bytes of text, corners, calls
unfoldable pub count_words : ℕ → List ℕ
count_words count = words 0 count

-- ---- an outline in lists
unfoldable pub outline_words : Outline → List ℕ
outline_words o = 0 ∷ o.anchors ∷ o.subpaths ∷ 0 ∷ []

-- ---- an edit of a drawing and its cache
unfoldable pub edited_words : Edited → List ℕ
edited_words e = 0 ∷ e.anchors ∷ 0 ∷ e.recut ∷ []

-- on the lists l an edit c gives this number, leaves these words in answer[4] and the lists `after`
pub record Tells (l : Lent) (kind : ℕ) (c : Call) (returned : ℕ) (answered : List ℕ) (after : Lent) : Type 0 where
  pub number : returned ≡ code (call_answer l kind c)
  pub answer : answered ≡ told edited_words (call_answer l kind c)
  pub lists : after ≡ call_lists l kind c

-- ---- hits: the words place, anchor, subpath, found
unfoldable pub hit_anchor_words : Option AnchorRef → List ℕ
hit_anchor_words None = words 0 0
hit_anchor_words (Some at) = 0 ∷ at.anchor ∷ at.subpath ∷ 1 ∷ []

unfoldable pub hit_segment_words : Option SegmentAt → List ℕ
hit_segment_words None = words 0 0
hit_segment_words (Some at) = 0 ∷ at.anchor ∷ at.subpath ∷ 1 ∷ []

-- *t
unfoldable pub parameter_put : Option SegmentAt → Float → Float
parameter_put None old = old
parameter_put (Some at) old = at.t

-- ---- a box: count is 1, and 0 where there is none
unfoldable pub bounds_words : Option Bounds → List ℕ
bounds_words None = words 0 0
bounds_words (Some b) = words 0 1

-- corners[4]
unfoldable pub corners_put : Option Bounds → List Float → List Float
corners_put None old = old
corners_put (Some b) old = b.min.x ∷ b.min.y ∷ b.max.x ∷ b.max.y ∷ []

-- ---- a job in lists: the words place, anchors, subpaths, kind
unfoldable pub job_words : Read → List ℕ
job_words r = 0 ∷ r.anchors ∷ r.subpaths ∷ r.kind ∷ []
