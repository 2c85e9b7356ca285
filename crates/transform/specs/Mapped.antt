-- Anchors under an affine map, after 000's `Anchor::map` and `transform`. Assumes nothing.
use Rattle.std.specs.Prelude.{ℕ, Bool, List, Float}
use Rattle.views.specs.View.{entry, tabulate}
use Rattle.views.specs.Search.{all}
use Rattle.real.specs.Limit.{in_limit}
use Rattle.geom.specs.Affine.{affine_apply}
use Rattle.path.specs.declared.anchor.Anchor.{Anchor}
use Rattle.path.specs.Shape.{total}
use Rattle.path.specs.Flat.{anchor_at}

-- `map`: the point and both handles
unfoldable pub mapped : List Float → Anchor → Anchor
mapped m a = record { p = affine_apply m a.p; h_in = affine_apply m a.h_in; h_out = affine_apply m a.h_out }

-- the anchor at a place, mapped
unfoldable pub mapped_at : List Float → List Float → ℕ → Anchor
mapped_at m anchors k = mapped m (anchor_at anchors k)

-- `transform`: the anchors of a path, one for one
unfoldable pub mapped_path : List Float → List ℕ → List Float → List Anchor
mapped_path m shapes anchors = tabulate (total shapes) (mapped_at m anchors)

-- the six numbers of a map are within the limit
unfoldable pub map_in : List Float → Bool
map_in m = all (λ i. in_limit (entry m i)) 6
