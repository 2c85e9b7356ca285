-- The first place that breaks the limit (document 01, refusal 5): the least place of which it is so. Assumes nothing.
use Rattle.std.specs.Prelude.{ℕ, ◌+◌, ◌*◌, Bool, ◌&&◌, cond, Option, Some, None, List, ltb, Float}
use Rattle.std.specs.Float.Ieee.{le, neg}
use Rattle.views.specs.View.{entry}
use Rattle.views.specs.Search.{all, first_false}
use Rattle.real.specs.Limit.{in_limit}
use Rattle.path.specs.declared.anchor.Anchor.{Anchor}
use Rattle.path.specs.Flat.{numbers}

-- x is a number of magnitude at most `limit`
unfoldable pub within_limit : Float → Float → Bool
within_limit limit x = le (neg limit) x && le x limit

-- the six numbers of an anchor
unfoldable pub anchor_good : Anchor → Bool
anchor_good a = all (λ i. in_limit (entry (numbers a) i)) 6

-- those of the anchor at place k of a list
unfoldable pub anchor_in : List Float → ℕ → Bool
anchor_in anchors k = all (λ i. in_limit (entry anchors (k * 6 + i))) 6

-- and its radius
unfoldable pub place_in : List Float → List Float → ℕ → Bool
place_in anchors radii k = anchor_in anchors k && in_limit (entry radii k)

-- the least place below n that does not pass
unfoldable pub first_bad : (ℕ → Bool) → ℕ → Option ℕ
first_bad good n = let k = first_false good n in cond (ltb k n) (Some k) None
