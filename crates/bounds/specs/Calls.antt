-- What `bounds` answers, after 000's `bounds` (document 01, 'Edits, hits and shapes'). Assumes nothing.
use Rattle.std.specs.Prelude.{ℕ, Bool, true, ◌&&◌, ◌||◌, cond, Result, Option, Some, None, List, eqb, Float}
use Rattle.real.specs.Limit.{in_limit}
use Rattle.geom.specs.declared.bounds.Bounds.{Bounds}
use Rattle.refusal.specs.declared.Refusal.{Refusal}
use Rattle.refusal.specs.Order.{passes, holds, Verdict, verdict, tests, answering}
use Rattle.path.specs.Shape.{total}
use Rattle.call.specs.Tests.{path_fits, path_limit}
use Rattle.bounds.specs.Points.{box_of}

-- 9: the numbers of the box
unfoldable pub box_in : Bounds → Bool
box_in b = in_limit b.min.x && (in_limit b.min.y && (in_limit b.max.x && in_limit b.max.y))

-- 7, 5, and 9 where there is a box
unfoldable pub bounds_verdict : List ℕ → List Float → Verdict
bounds_verdict shapes anchors =
    verdict (tests (holds (path_fits 1024 shapes anchors) 0) (path_limit shapes anchors true) passes passes (holds (eqb (total shapes) 0 || box_in (box_of shapes anchors)) 0) passes)

-- a path without anchors has no box
unfoldable pub bounds_answer : List ℕ → List Float → Result (Option Bounds) Refusal
bounds_answer shapes anchors = answering (bounds_verdict shapes anchors) (cond (eqb (total shapes) 0) None (Some (box_of shapes anchors)))
