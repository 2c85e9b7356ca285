-- What `path_corners` answers, and what it leaves in the lists lent to it. Assumes nothing.
use Rattle.std.specs.Prelude.{ℕ, ◌*◌, Bool, true, ◌&&◌, Option, List, leb, length, get_or, Float, Result}
use Rattle.views.specs.Search.{all}
use Rattle.real.specs.Limit.{in_limit}
use Rattle.refusal.specs.declared.Refusal.{Refusal}
use Rattle.refusal.specs.declared.Reason.TheVariants.{Output, Made}
use Rattle.refusal.specs.Order.{passes, holds, judge, Verdict, accepted, verdict, tests, answering}
use Rattle.call.specs.Tests.{path_fits, path_limit}
use Rattle.call.specs.Answers.{list_left}
use Rattle.corner.specs.declared.corner.Corner.{Corner}
use Rattle.corner_calls.specs.Corners.{path_corner, corner_places, numbers_of}

-- 9: every number told of the corners at the places ps; place 0, since they are no path
unfoldable pub corners_in : (ℕ → Option Corner) → List ℕ → Bool
corners_in corner ps = all (λ j. in_limit (numbers_of corner ps j)) (length ps * 9)

-- 8: a word and nine numbers for each of n corners
unfoldable pub corners_room : ℕ → List ℕ → List Float → Bool
corners_room n places numbers = leb n (length places) && leb (n * 9) (length numbers)

-- ---- the call: a path of at most 512 anchors
module _ (shapes : List ℕ) (anchors : List Float) (places : List ℕ) (numbers : List Float) where
  unfoldable pub path_corners_verdict : Verdict
  path_corners_verdict =
      let ps = corner_places shapes anchors in
      verdict
      (tests
      (holds (path_fits 512 shapes anchors) 0)
      (path_limit shapes anchors true)
      passes
      passes
      (holds (corners_in (path_corner shapes anchors) ps) 0)
      (holds (corners_room (length ps) places numbers) 0))

  -- how many corners
  unfoldable pub path_corners_answer : Result ℕ Refusal
  path_corners_answer = answering path_corners_verdict (length (corner_places shapes anchors))

  -- the corners' places
  unfoldable pub path_corners_places : List ℕ
  path_corners_places = list_left path_corners_verdict (length (corner_places shapes anchors)) (λ i. get_or (corner_places shapes anchors) i 0) places

  -- nine numbers of each
  unfoldable pub path_corners_numbers : List Float
  path_corners_numbers = list_left path_corners_verdict (length (corner_places shapes anchors) * 9) (numbers_of (path_corner shapes anchors) (corner_places shapes anchors)) numbers

-- ---- corners that are found: what is still tested, answered and left
module _ (corner : ℕ → Option Corner) (ps places : List ℕ) (numbers : List Float) where
  unfoldable pub found_verdict : Verdict
  found_verdict = judge (holds (corners_in corner ps) 0) Made (judge (holds (corners_room (length ps) places numbers) 0) Output accepted)

  unfoldable pub found_answer : Result ℕ Refusal
  found_answer = answering found_verdict (length ps)

  unfoldable pub places_held : List ℕ
  places_held = list_left found_verdict (length ps) (λ i. get_or ps i 0) places

  unfoldable pub found_numbers : List Float
  found_numbers = list_left found_verdict (length ps * 9) (numbers_of corner ps) numbers
