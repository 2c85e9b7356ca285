-- What `join` answers, and what it leaves in the lists lent to it: refusals 7, 5, 6, 10, 9, 8. Assumes nothing.
use Rattle.std.specs.Prelude.{ℕ, ◌+◌, ◌-◌, ◌*◌, Bool, false, ◌&&◌, cond, List, leb, ltb, length, Float, Result}
use Rattle.refusal.specs.declared.Refusal.{Refusal}
use Rattle.refusal.specs.Order.{passes, holds, Verdict, verdict, tests}
use Rattle.path.specs.declared.anchor.Anchor.{Anchor}
use Rattle.path.specs.Shape.{count_of, word_of}
use Rattle.path.specs.Limit.{anchor_in}
use Rattle.call.specs.declared.answers.Outline.{Outline}
use Rattle.call.specs.Tests.{places, outline_limit, room_for}
use Rattle.call.specs.Answers.{outline_answer, list_left, anchors_left}
use Rattle.joining.specs.Joined.{joined_anchors}

-- 7: at most 512 anchors, six numbers for each
unfoldable pub list_fits : ℕ → List Float → Bool
list_fits n xs = leb n 512 && leb (n * 6) (length xs)

-- 5: the target's places follow the drawn ones'
unfoldable pub either_in : List Float → ℕ → List Float → ℕ → Bool
either_in drawn count target k = cond (ltb k count) (anchor_in drawn k) (anchor_in target (k - count))

-- of the target's shape word the count alone is read
unfoldable pub joined_path : List Float → ℕ → List Float → ℕ → Bool → List Anchor
joined_path drawn count target word at_start = joined_anchors drawn count target (count_of word) at_start

unfoldable pub join_verdict : List Float → ℕ → List Float → ℕ → Bool → List ℕ → List Float → Verdict
join_verdict drawn count target word at_start to_shapes to =
    let made = joined_path drawn count target word at_start in
    verdict
    (tests
    (holds (list_fits count drawn && list_fits (count_of word) target) 0)
    (places (either_in drawn count target) (count + count_of word) passes)
    (holds (ltb 0 (count_of word)) 0)
    (holds (leb (length made) 512) 0)
    (outline_limit made)
    (holds (room_for 1 (length made) to_shapes to) 0))

unfoldable pub join_answer : List Float → ℕ → List Float → ℕ → Bool → List ℕ → List Float → Result Outline Refusal
join_answer drawn count target word at_start to_shapes to =
    outline_answer (join_verdict drawn count target word at_start to_shapes to) 1 (length (joined_path drawn count target word at_start))

-- one subpath, which is open
unfoldable pub join_shapes_left : List Float → ℕ → List Float → ℕ → Bool → List ℕ → List Float → List ℕ
join_shapes_left drawn count target word at_start to_shapes to =
    list_left (join_verdict drawn count target word at_start to_shapes to) 1 (λ i. word_of (length (joined_path drawn count target word at_start)) false) to_shapes

unfoldable pub join_anchors_left : List Float → ℕ → List Float → ℕ → Bool → List ℕ → List Float → List Float
join_anchors_left drawn count target word at_start to_shapes to =
    anchors_left (join_verdict drawn count target word at_start to_shapes to) (joined_path drawn count target word at_start) to
