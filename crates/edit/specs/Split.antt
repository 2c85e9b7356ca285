-- `split`: a segment cut in two by de Casteljau's subdivision, the new anchor put at the index after the segment's start. Assumes nothing.
use Rattle.std.specs.Prelude.{◌≡◌, ℕ, ◌+◌, ◌*◌, ◌≤◌, ◌<◌, Bool, true, ◌&&◌, cond, List, ltb, eqb, length, set, Float, Result}
use Rattle.views.specs.View.{tabulate}
use Rattle.real.specs.Limit.{in_limit}
use Rattle.geom.specs.Flat.{pt}
use Rattle.cubic.specs.Cubic.{split_cubic}
use Rattle.refusal.specs.declared.Refusal.{Refusal}
use Rattle.refusal.specs.declared.Reason.TheVariants.{Output, Made}
use Rattle.refusal.specs.Order.{holds, judge, Verdict, accepted, verdict, tests}
use Rattle.path.specs.declared.anchor.Anchor.{Anchor}
use Rattle.path.specs.Anchor.{segment}
use Rattle.path.specs.Flat.{anchor_at}
use Rattle.path.specs.Limit.{anchor_good}
use Rattle.path.specs.Shape.{count_of, closed_of, total, word_at, start, is_segment, next}
use Rattle.cut.specs.Near.{old}
unfoldable pub use Rattle.cut.specs.Near.{shifted}
use Rattle.call.specs.declared.answers.Outline.{Outline}
use Rattle.call.specs.Tests.{path_fits, path_limit, outline_limit, room_for}
use Rattle.call.specs.Answers.{outline_answer, list_left, anchors_left}
use Rattle.edit.specs.declared.splitting.Halved.{Halved}

-- ---- the effect
-- the ends of a segment, each with its new handle on the split side, and the anchor between them
unfoldable pub halves : Anchor → Anchor → Float → Halved
halves a b t =
    let h = split_cubic (segment a b) t in
    record {
      left = record { p = a.p; h_in = a.h_in; h_out = pt h.before 1 };
      middle = record { p = pt h.before 3; h_in = pt h.before 2; h_out = pt h.after 1 };
      right = record { p = b.p; h_in = pt h.after 2; h_out = b.h_out };
    }

-- the anchors f 0, f 1, .. once the segment from a to b is split: the new one stands at a + 1, whichever way b lies
unfoldable pub split_anchors : (ℕ → Anchor) → ℕ → ℕ → Float → ℕ → Anchor
split_anchors f a b t k =
    let h = halves (f a) (f b) t in
    cond (eqb k a) h.left (cond (eqb k (a + 1)) h.middle (cond (eqb k (shifted a b)) h.right (f (old a k))))

-- whether the anchor that is put to place k is in the limit, where those of a segment go to a, a + 1 and b, and no other is put
unfoldable pub puts_within : Halved → ℕ → ℕ → ℕ → Bool
puts_within h a b k = cond (eqb k a) (anchor_good h.left) (cond (eqb k (a + 1)) (anchor_good h.middle) (cond (eqb k b) (anchor_good h.right) true))

-- ---- on a path of n anchors, whose segment leaves place a for place b
unfoldable pub split_places : List Float → ℕ → ℕ → ℕ → Float → List Anchor
split_places anchors n a b t = tabulate (n + 1) (split_anchors (anchor_at anchors) a b t)

-- segment a of subpath s
unfoldable pub split_path : List ℕ → List Float → ℕ → ℕ → Float → List Anchor
split_path shapes anchors s a t =
    split_places anchors (total shapes) (start shapes s + a) (start shapes s + next (count_of (word_at shapes s)) a) t

unfoldable pub split_shapes : List ℕ → ℕ → List ℕ
split_shapes shapes s = set shapes s (word_at shapes s + 1)

-- ---- what the steps rest on
-- places a and b of a path of n anchors are the ends of a segment, and the path may have one anchor more
pub record Ends (n a b : ℕ) : Type 0 where
  pub from : a < n
  pub to : b < n
  pub apart : a ≡ b → ⊥
  pub few : n < 512

-- ... for which the list has room
pub record Splittable (anchors : List Float) (n a b : ℕ) : Type 0 where
  pub ends : Ends n a b
  pub room : n * 6 + 6 ≤ length anchors

-- subpath s is there, and may have one anchor more
pub record Growable (shapes : List ℕ) (s : ℕ) : Type 0 where
  pub there : s < length shapes
  pub few : count_of (word_at shapes s) < 512

-- ---- the call
-- subpath s has a segment that starts at its anchor a
unfoldable pub has_segment : List ℕ → ℕ → ℕ → Bool
has_segment shapes s a = ltb s (length shapes) && is_segment (count_of (word_at shapes s)) (closed_of (word_at shapes s)) a

unfoldable pub split_verdict : List ℕ → List Float → ℕ → ℕ → Float → Verdict
split_verdict shapes anchors s a t =
    verdict
    (tests
    (holds (path_fits 512 shapes anchors) 0)
    (path_limit shapes anchors (in_limit t))
    (holds (has_segment shapes s a) 0)
    (holds (ltb (total shapes) 512) 0)
    (outline_limit (split_path shapes anchors s a t))
    (holds (room_for (length shapes) (length (split_path shapes anchors s a t)) shapes anchors) 0))

-- the last two tests, of a path that was made in place
unfoldable pub made_verdict : List Anchor → List ℕ → List Float → Verdict
made_verdict made shapes anchors = judge (outline_limit made) Made (judge (holds (room_for (length shapes) (length made) shapes anchors) 0) Output accepted)

unfoldable pub split_answer : List ℕ → List Float → ℕ → ℕ → Float → Result Outline Refusal
split_answer shapes anchors s a t = outline_answer (split_verdict shapes anchors s a t) (length shapes) (total shapes + 1)

unfoldable pub split_shapes_left : List ℕ → List Float → ℕ → ℕ → Float → List ℕ
split_shapes_left shapes anchors s a t = list_left (split_verdict shapes anchors s a t) (length shapes) (word_at (split_shapes shapes s)) shapes

unfoldable pub split_anchors_left : List ℕ → List Float → ℕ → ℕ → Float → List Float
split_anchors_left shapes anchors s a t = anchors_left (split_verdict shapes anchors s a t) (split_path shapes anchors s a t) anchors
