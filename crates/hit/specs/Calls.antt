-- What the calls answer, after 000's `hit_anchor` and `hit_segment` (document 01, 'Edits, hits and shapes'). Assumes nothing.
use Rattle.std.specs.Prelude.{ℕ, ◌/◌, ◌%◌, Bool, ◌&&◌, List, Float, Result, Option, option_map}
use Rattle.std.specs.Float.Ieee.{le}
use Rattle.real.specs.Limit.{in_limit}
use Rattle.geom.specs.declared.point.P.{P}
use Rattle.geom.specs.Point.{minus, len}
use Rattle.refusal.specs.declared.Refusal.{Refusal}
use Rattle.refusal.specs.Order.{passes, holds, Verdict, verdict, tests, answering}
use Rattle.path.specs.declared.shape.AnchorRef.{AnchorRef}
use Rattle.path.specs.Shape.{total, sub_of}
use Rattle.path.specs.Flat.{anchor_at}
use Rattle.call.specs.Tests.{path_fits, path_limit}
use Rattle.hit.specs.declared.segments.SegmentAt.{SegmentAt}
use Rattle.hit.specs.Nearest.{nearest}
use Rattle.hit.specs.Located.{index_of, located}
use Rattle.hit.specs.Steps.{curve_from, step_parameter, nearest_chord}

-- the loose arguments
unfoldable pub query_in : P → Float → Bool
query_in q tol = in_limit q.x && (in_limit q.y && in_limit tol)

-- 7, then 5
unfoldable pub hit_verdict : List ℕ → List Float → P → Float → Verdict
hit_verdict shapes anchors q tol = verdict (tests (holds (path_fits 512 shapes anchors) 0) (path_limit shapes anchors (query_in q tol)) passes passes passes passes)

-- ---- `hit_anchor`
-- from q to the anchor at place k
unfoldable pub anchor_distance : List Float → P → ℕ → Float
anchor_distance anchors q k = len (minus (anchor_at anchors k).p q)

unfoldable pub nearest_anchor : List Float → P → Float → ℕ → Option ℕ
nearest_anchor anchors q tol n = nearest (λ k. le (anchor_distance anchors q k) tol) (anchor_distance anchors q) n

unfoldable pub hit_anchor_answer : List ℕ → List Float → P → Float → Result (Option AnchorRef) Refusal
hit_anchor_answer shapes anchors q tol = answering (hit_verdict shapes anchors q tol) (option_map (located shapes) (nearest_anchor anchors q tol (total shapes)))

-- ---- `hit_segment`, by N chords to a segment; 000 takes 48
-- where chord i has its point nearest q
unfoldable pub chord_at : ℕ → List ℕ → List Float → P → ℕ → SegmentAt
chord_at N shapes anchors q i =
    record { subpath = sub_of shapes (i / N); anchor = index_of shapes (i / N); t = step_parameter N q (curve_from shapes anchors (i / N)) (i % N) }

unfoldable pub hit_segment_answer : List ℕ → List Float → P → Float → Result (Option SegmentAt) Refusal
hit_segment_answer shapes anchors q tol = answering (hit_verdict shapes anchors q tol) (option_map (chord_at 48 shapes anchors q) (nearest_chord shapes anchors 48 q tol))
