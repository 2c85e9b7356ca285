-- What the walk over chords carries after some of them, for any number of chords to a segment. Assumes nothing.
use Rattle.std.specs.Prelude.{ℕ, zero, suc, ◌+◌, ◌*◌, Bool, cond, List, Float}
use Rattle.geom.specs.declared.point.P.{P}
use Rattle.path.specs.Flat.{curve_of}
use Rattle.path.specs.Shape.{is_segment}
use Rattle.hit.specs.declared.best.Best.{Best}
use Rattle.hit.specs.Best.{taken}
use Rattle.hit.specs.Steps.{step_offset}

-- after candidates i, i + 1, .., m of them, which lie v 0, v 1, .. away
unfoldable pub tried : Float → ℕ → (ℕ → P) → Best → ℕ → Best
tried tol i v b zero = b
tried tol i v b (suc j) = taken tol (tried tol i v b j) (i + j) (v j)

-- after the segments that start at the first m of a subpath's n anchors, the first of which is at place k
unfoldable pub tried_from : Float → ℕ → P → List Float → ℕ → ℕ → Bool → Best → ℕ → Best
unfolding tried
tried_from tol N q anchors k n closed b zero = b
tried_from tol N q anchors k n closed b (suc a) =
    let r = tried_from tol N q anchors k n closed b a in
    cond (is_segment n closed a) (tried tol ((k + a) * N) (step_offset N q (curve_of anchors k n a)) r N) r
