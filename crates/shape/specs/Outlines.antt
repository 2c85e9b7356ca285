-- The anchors of a rectangle, an ellipse and a line, after 000's `rect`, `ellipse` and `line`. Assumes nothing.
use Rattle.std.specs.Prelude.{cond, List, [], ◌∷◌, ◌++◌, Float}
use Rattle.std.specs.Float.{binary64}
use Rattle.std.specs.Float.Ieee.{of_bits, lt, neg}
use Rattle.real.specs.Operators.{◌⊕◌, ◌⊖◌, ◌⊗◌, ◌⊘◌, 0f, 2f}
use Rattle.real.specs.StandIns.{max, min, abs}
use Rattle.geom.specs.declared.point.P.{P}
use Rattle.geom.specs.Point.{point, origin, plus, minus, times}
use Rattle.cubic.specs.Cubic.{CEPS}
use Rattle.path.specs.declared.anchor.Anchor.{Anchor}
use Rattle.path.specs.Anchor.{without_handles}
use Rattle.arc.specs.Arc.{KAPPA}

abbrev pub four : Anchor → Anchor → Anchor → Anchor → List Anchor
four a b c d = a ∷ b ∷ c ∷ d ∷ []

-- ---- a rectangle, given any two opposite corners
-- the corner of least coordinates, and the one of greatest
unfoldable pub least : P → P → P
least a b = point (min a.x b.x) (min a.y b.y)

unfoldable pub greatest : P → P → P
greatest a b = point (max a.x b.x) (max a.y b.y)

-- the radius that is asked for, not negative and at most half of either side
unfoldable pub fitted_radius : P → P → Float → Float
fitted_radius lo hi r = min (min (max r 0f) ((hi.x ⊖ lo.x) ⊘ 2f)) ((hi.y ⊖ lo.y) ⊘ 2f)

-- clockwise from the least corner, where y points down
unfoldable pub sharp : P → P → List Anchor
sharp lo hi = four (without_handles lo) (without_handles (point hi.x lo.y)) (without_handles hi) (without_handles (point lo.x hi.y))

-- an anchor and the vectors to its handles
unfoldable pub beside : P → P → P → Anchor
beside p i o = record { p = p; h_in = plus p i; h_out = plus p o }

-- clockwise from the top side, two anchors a corner; k is the length of their handles
unfoldable pub upper_right : P → P → Float → Float → List Anchor
upper_right lo hi r k =
    four
    (beside (point (lo.x ⊕ r) lo.y) (point (neg k) 0f) origin)
    (beside (point (hi.x ⊖ r) lo.y) origin (point k 0f))
    (beside (point hi.x (lo.y ⊕ r)) (point 0f (neg k)) origin)
    (beside (point hi.x (hi.y ⊖ r)) origin (point 0f k))

unfoldable pub lower_left : P → P → Float → Float → List Anchor
lower_left lo hi r k =
    four
    (beside (point (hi.x ⊖ r) hi.y) (point k 0f) origin)
    (beside (point (lo.x ⊕ r) hi.y) origin (point (neg k) 0f))
    (beside (point lo.x (hi.y ⊖ r)) (point 0f k) origin)
    (beside (point lo.x (lo.y ⊕ r)) origin (point 0f (neg k)))

unfoldable pub rounded : P → P → Float → List Anchor
rounded lo hi r = upper_right lo hi r (r ⊗ KAPPA) ++ lower_left lo hi r (r ⊗ KAPPA)

-- `rect`: sharp where the fitted radius is below 1e-9
unfoldable pub rect_between : P → P → Float → List Anchor
rect_between lo hi r = cond (lt r CEPS) (sharp lo hi) (rounded lo hi r)

unfoldable pub rect_anchors : P → P → Float → List Anchor
rect_anchors a b r = rect_between (least a b) (greatest a b) (fitted_radius (least a b) (greatest a b) r)

-- ---- an ellipse
abbrev pub half : Float
half = of_bits binary64 0x3FE0_0000_0000_0000

unfoldable pub centre : P → P → P
centre a b = times (plus a b) half

unfoldable pub semi_axis : Float → Float → Float
semi_axis a b = abs (b ⊖ a) ⊘ 2f

-- a smooth anchor: its handle out at the vector d from it, its handle in at -d
unfoldable pub through : P → P → Anchor
through p d = record { p = p; h_in = minus p d; h_out = plus p d }

-- clockwise from the top
unfoldable pub ellipse_around : P → Float → Float → List Anchor
ellipse_around c rx ry =
    four
    (through (point c.x (c.y ⊖ ry)) (point (rx ⊗ KAPPA) 0f))
    (through (point (c.x ⊕ rx) c.y) (point 0f (ry ⊗ KAPPA)))
    (through (point c.x (c.y ⊕ ry)) (point (neg (rx ⊗ KAPPA)) 0f))
    (through (point (c.x ⊖ rx) c.y) (point 0f (neg (ry ⊗ KAPPA))))

-- `ellipse`
unfoldable pub ellipse_anchors : P → P → List Anchor
ellipse_anchors a b = ellipse_around (centre a b) (semi_axis a.x b.x) (semi_axis a.y b.y)

-- ---- `line`
unfoldable pub line_anchors : P → P → List Anchor
line_anchors a b = without_handles a ∷ without_handles b ∷ []
