-- What a walk over candidates carries: the nearest so far, and a square from which on no vector is nearer. Assumes nothing.
use Rattle.std.specs.Prelude.{◌≡◌, ℕ, Bool, true, false, ◌&&◌, cond, Option, Some, None, Float}
use Rattle.std.specs.Float.Ieee.{lt, le}
use Rattle.geom.specs.declared.point.P.{P}
use Rattle.geom.specs.Point.{dot, len}
use Rattle.hit.specs.declared.best.Candidate.{Candidate}
use Rattle.hit.specs.declared.best.Best.{Best}

-- a distance is nearer than what was found
unfoldable pub beats : Option Candidate → Float → Bool
beats None r = true
beats (Some c) r = lt r c.dist

-- a vector is within tol and nearer than the best so far
unfoldable pub counts : Float → Best → P → Bool
counts tol b d = le (len d) tol && beats b.nearest (len d)

-- the best after candidate i, which lies d away
unfoldable pub taken : Float → Best → ℕ → P → Best
taken tol b i d = cond (counts tol b d) (record { nearest = Some (record { number = i; dist = len d }); bar = dot d d }) b

-- no vector counts whose square is the bar or more
unfoldable pub Barred : Float → Best → Type 0
Barred tol b = (d : P) → le b.bar (dot d d) ≡ true → counts tol b d ≡ false
