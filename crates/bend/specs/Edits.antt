-- What the edits of handles answer, and what they leave of the path lent to them: refusals 7, 5, 6, 9. Assumes nothing.
use Rattle.std.specs.Prelude.{ℕ, ◌+◌, Bool, true, ◌&&◌, cond, List, ltb, eqb, length, Float, Option, Some, None, Result}
use Rattle.views.specs.View.{tabulate}
use Rattle.real.specs.Limit.{in_limit}
use Rattle.geom.specs.declared.point.P.{P}
use Rattle.geom.specs.Point.{point_in}
use Rattle.refusal.specs.declared.Refusal.{Refusal}
use Rattle.refusal.specs.declared.Reason.TheVariants.{Made}
use Rattle.refusal.specs.Order.{passes, holds, judge, Verdict, accepted, verdict, tests}
use Rattle.path.specs.declared.anchor.Anchor.{Anchor}
use Rattle.path.specs.Shape.{count_of, closed_of, total, word_at, start, has_anchor, is_segment, next}
use Rattle.path.specs.Flat.{anchor_at}
use Rattle.path.specs.Limit.{anchor_good}
use Rattle.call.specs.declared.answers.Outline.{Outline}
use Rattle.call.specs.Tests.{path_fits, path_limit, outline_limit}
use Rattle.call.specs.Answers.{outline_answer, anchors_left}
use Rattle.bend.specs.Smoothed.{smoothed_at}
use Rattle.bend.specs.Bent.{pull, bent_out, bent_in}

-- ---- an edit in place: the loose arguments, what it refers to, and the path's anchors afterwards
unfoldable pub edit_verdict : List ℕ → List Float → Bool → Bool → List Anchor → Verdict
edit_verdict shapes anchors loose known after =
    verdict (tests (holds (path_fits 512 shapes anchors) 0) (path_limit shapes anchors loose) (holds known 0) passes (outline_limit after) passes)

-- the part of it that is left once 7, 5 and 6 have passed
unfoldable pub last_verdict : List Anchor → Verdict
last_verdict after = judge (outline_limit after) Made accepted

-- ---- `auto_smooth` of anchor k of subpath s
-- the anchor at a place afterwards; a subpath of one anchor stays as it is
unfoldable pub smooth_at : List ℕ → List Float → ℕ → ℕ → ℕ → Anchor
smooth_at shapes anchors s k place =
    let w = word_at shapes s in
    cond (ltb 1 (count_of w) && eqb place (start shapes s + k)) (smoothed_at anchors (start shapes s) (count_of w) (closed_of w) k) (anchor_at anchors place)

unfoldable pub smooth_path : List ℕ → List Float → ℕ → ℕ → List Anchor
smooth_path shapes anchors s k = tabulate (total shapes) (smooth_at shapes anchors s k)

unfoldable pub smooth_verdict : List ℕ → List Float → ℕ → ℕ → Verdict
smooth_verdict shapes anchors s k = edit_verdict shapes anchors true (has_anchor shapes s k) (smooth_path shapes anchors s k)

unfoldable pub smooth_answer : List ℕ → List Float → ℕ → ℕ → Result Outline Refusal
smooth_answer shapes anchors s k = outline_answer (smooth_verdict shapes anchors s k) (length shapes) (total shapes)

unfoldable pub smooth_left : List ℕ → List Float → ℕ → ℕ → List Float
smooth_left shapes anchors s k = anchors_left (smooth_verdict shapes anchors s k) (smooth_path shapes anchors s k) anchors

-- ---- `bend_segment` of the segment from anchor a of subpath s; in a subpath of one anchor index 0 is known too, and nothing is bent
unfoldable pub has_bend : List ℕ → ℕ → ℕ → Bool
has_bend shapes s a =
    let w = word_at shapes s in
    ltb s (length shapes) && cond (eqb (count_of w) 1) (eqb a 0) (is_segment (count_of w) (closed_of w) a)

unfoldable pub bend_at : List ℕ → List Float → ℕ → ℕ → P → Bool → ℕ → Anchor
bend_at shapes anchors s a v keep place =
    let n = count_of (word_at shapes s) in
    let o = anchor_at anchors place in
    cond (ltb 1 n && eqb place (start shapes s + a)) (bent_out v keep o)
    (cond (ltb 1 n && eqb place (start shapes s + next n a)) (bent_in v keep o) o)

unfoldable pub bend_path : List ℕ → List Float → ℕ → ℕ → P → Bool → List Anchor
bend_path shapes anchors s a v keep = tabulate (total shapes) (bend_at shapes anchors s a v keep)

unfoldable pub bend_verdict : List ℕ → List Float → ℕ → ℕ → Float → P → Bool → Verdict
bend_verdict shapes anchors s a t delta keep =
    edit_verdict shapes anchors (in_limit t && point_in delta) (has_bend shapes s a) (bend_path shapes anchors s a (pull t delta) keep)

unfoldable pub bend_answer : List ℕ → List Float → ℕ → ℕ → Float → P → Bool → Result Outline Refusal
bend_answer shapes anchors s a t delta keep = outline_answer (bend_verdict shapes anchors s a t delta keep) (length shapes) (total shapes)

unfoldable pub bend_left : List ℕ → List Float → ℕ → ℕ → Float → P → Bool → List Float
bend_left shapes anchors s a t delta keep =
    anchors_left (bend_verdict shapes anchors s a t delta keep) (bend_path shapes anchors s a (pull t delta) keep) anchors

-- the lower of two places whose new anchors are beyond the limit
unfoldable pub first_out : ℕ → Anchor → ℕ → Anchor → Option ℕ
first_out i a j b =
    cond (anchor_good a) (cond (anchor_good b) None (Some j))
    (cond (ltb i j) (Some i) (cond (anchor_good b) (Some i) (Some j)))
