-- The chords of a path's segments, N to a segment, as 000's `hit_segment` tries them. Assumes nothing.
use Rattle.std.specs.Prelude.{ℕ, ◌+◌, ◌*◌, ◌/◌, ◌%◌, Bool, ◌&&◌, cond, List, Float, Option}
use Rattle.std.specs.Float.{binary64}
use Rattle.std.specs.Float.Ieee.{of_bits, lt, le}
use Rattle.real.specs.Operators.{◌⊕◌, ◌⊖◌, ◌⊗◌, ◌⊘◌, float, 0f, 1f}
use Rattle.real.specs.StandIns.{clamp}
use Rattle.geom.specs.declared.point.P.{P}
use Rattle.geom.specs.Point.{plus, minus, times, dot, len}
use Rattle.cubic.specs.Sample.{step_at}
use Rattle.path.specs.Flat.{curve_of}
use Rattle.path.specs.Shape.{count_of, closed_of, total, word_at, start, sub_of, is_segment}
use Rattle.hit.specs.Located.{index_of}
use Rattle.hit.specs.Nearest.{nearest}

abbrev pub 1e-12 : Float
1e-12 = of_bits binary64 0x3D71_9799_812D_EA11

-- ---- the chord from a to b
-- how much of it lies before the point nearest q: all, none or a part, and none of a chord whose square is not above 1e-12
unfoldable pub along : P → P → P → Float
along q a b = let d = minus b a in cond (lt 1e-12 (dot d d)) (clamp (dot (minus q a) d ⊘ dot d d) 0f 1f) 0f

-- from q to that point
unfoldable pub offset : P → P → P → P
offset q a b = minus (plus a (times (minus b a) (along q a b))) q

-- ---- chord j of the N of a curve
module _ (N : ℕ) (q : P) (c : List P) (j : ℕ) where
  unfoldable pub step_offset : P
  step_offset = offset q (step_at c N j) (step_at c N (j + 1))

  -- the curve's parameter there
  unfoldable pub step_parameter : Float
  step_parameter =
      let from = float j ⊘ float N in
      let to = float (j + 1) ⊘ float N in
      from ⊕ (to ⊖ from) ⊗ along q (step_at c N j) (step_at c N (j + 1))

module _ (shapes : List ℕ) where
  -- the word of the subpath in which place k lies
  unfoldable pub word_over : ℕ → ℕ
  word_over k = word_at shapes (sub_of shapes k)

  -- a segment starts at place k
  unfoldable pub starts_at : ℕ → Bool
  starts_at k = is_segment (count_of (word_over k)) (closed_of (word_over k)) (index_of shapes k)

module _ (shapes : List ℕ) (anchors : List Float) where
  -- the curve of the segment that starts there
  unfoldable pub curve_from : ℕ → List P
  curve_from k = curve_of anchors (start shapes (sub_of shapes k)) (count_of (word_over shapes k)) (index_of shapes k)

  -- ---- candidate i is chord i % N of the segment that starts at place i / N
  module _ (N : ℕ) (q : P) where
    unfoldable pub chord_distance : ℕ → Float
    chord_distance i = len (step_offset N q (curve_from (i / N)) (i % N))

    unfoldable pub chord_within : Float → ℕ → Bool
    chord_within tol i = starts_at shapes (i / N) && le (chord_distance i) tol

    unfoldable pub nearest_chord : Float → Option ℕ
    nearest_chord tol = nearest (chord_within tol) chord_distance (total shapes * N)
