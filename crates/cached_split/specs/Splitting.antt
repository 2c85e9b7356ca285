-- A split of a drawing in its lists, step by step: what it rests on once 7, 5, 6 and 10 are passed, and what its parts leave. Assumes nothing.
use Rattle.std.proofs.Common.{Ok}
use Rattle.std.specs.Prelude.{ℕ, ◌+◌, ◌<◌, ◌≡◌, true, List, get_or, Float}
use Rattle.views.specs.View.{overwrite}
use Rattle.real.specs.Limit.{in_limit}
use Rattle.cut.specs.declared.subpath.Sub.{Sub}
use Rattle.cut.specs.Near.{old}
use Rattle.edit.specs.Split.{has_segment}
use Rattle.session.specs.Drawing.{Lent}
use Rattle.cached.specs.declared.opening.Ready.{Ready}
use Rattle.cached.specs.Opening.{ready_of}

-- a drawing and its cache, one segment of it, and room for one anchor more
pub record Begun (l : Lent) (kind s a : ℕ) (t : Float) (r : Ready) : Type 0 where
  pub ready : ready_of l kind (in_limit t) ≡ Ok r
  pub segment : has_segment l.shapes s a ≡ true
  pub few : r.anchors < 512

-- a subpath with one anchor more
abbrev pub grown : Sub → Sub
grown sub = record { first = sub.first; n = sub.n + 1; closed = sub.closed }

-- the flags of n places, those after a one further on
unfoldable pub shifted_flags : List ℕ → ℕ → ℕ → List ℕ
shifted_flags fs a n = overwrite (n + 1) (λ k. get_or fs (old a k) 0) fs
