-- Affine maps, after 001's `affine_apply`. Assumes nothing.
use Rattle.std.specs.Prelude.{List, Float}
use Rattle.views.specs.View.{entry}
use Rattle.real.specs.Operators.{◌⊕◌, ◌⊗◌}
use Rattle.geom.specs.declared.point.P.{P}
use Rattle.geom.specs.Point.{point}

-- [a b c d e f] at p: (a·x + c·y + e, b·x + d·y + f)
abbrev pub affine_apply : List Float → P → P
affine_apply m p = point (entry m 0 ⊗ p.x ⊕ entry m 2 ⊗ p.y ⊕ entry m 4) (entry m 1 ⊗ p.x ⊕ entry m 3 ⊗ p.y ⊕ entry m 5)
