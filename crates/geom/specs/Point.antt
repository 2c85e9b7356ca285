-- Points and vectors, after 001's `P`. Assumes nothing.
use Rattle.std.specs.Prelude.{Bool, ◌&&◌, Float}
use Rattle.std.specs.Float.Ieee.{eq}
use Rattle.root.specs.Root.{root_of}
use Rattle.real.specs.Limit.{in_limit}
use Rattle.real.specs.Operators.{◌⊕◌, ◌⊖◌, ◌⊗◌, 0f}
use Rattle.geom.specs.declared.point.P.{P}

-- `new`
abbrev pub point : Float → Float → P
point x y = record { x = x; y = y }

abbrev pub origin : P
origin = point 0f 0f

-- `add`, `sub` and `mul`
unfoldable pub plus : P → P → P
plus a b = point (a.x ⊕ b.x) (a.y ⊕ b.y)

unfoldable pub minus : P → P → P
minus a b = point (a.x ⊖ b.x) (a.y ⊖ b.y)

unfoldable pub times : P → Float → P
times a s = point (a.x ⊗ s) (a.y ⊗ s)

-- both coordinates are within the limit
unfoldable pub point_in : P → Bool
point_in p = in_limit p.x && in_limit p.y

-- `==`: of numbers, so -0 is 0
unfoldable pub same : P → P → Bool
same a b = eq a.x b.x && eq a.y b.y

unfoldable pub dot : P → P → Float
dot a b = a.x ⊗ b.x ⊕ a.y ⊗ b.y

unfoldable pub cross : P → P → Float
cross a b = a.x ⊗ b.y ⊖ a.y ⊗ b.x

-- document 01: root(x·x + y·y) for `hypot`
unfoldable pub len : P → Float
len a = root_of (a.x ⊗ a.x ⊕ a.y ⊗ a.y)

unfoldable pub dist : P → P → Float
dist a b = len (minus a b)

unfoldable pub lerp : P → P → Float → P
lerp a b t = plus a (times (minus b a) t)
