-- Handles of circular arcs, after 000's `square_to` and `arc_handle`. Assumes nothing.
use Rattle.std.specs.Prelude.{cond, Float}
use Rattle.std.specs.Float.{binary64}
use Rattle.std.specs.Float.Ieee.{of_bits, lt, neg}
use Rattle.root.specs.Root.{root_of}
use Rattle.real.specs.Operators.{◌⊕◌, ◌⊖◌, ◌⊗◌, ◌⊘◌, 0f, 1f, 2f, 3f, 4f}
use Rattle.real.specs.StandIns.{max, clamp, abs}
use Rattle.geom.specs.declared.point.P.{P}
use Rattle.geom.specs.Point.{origin, minus, times, dot, len}
use Rattle.cubic.specs.Cubic.{CEPS}
use Rattle.side.specs.Side.{unit}

abbrev pub 1e-12 : Float
1e-12 = of_bits binary64 0x3D71_9799_812D_EA11

-- 0.5522847498: a quarter circle's
abbrev pub KAPPA : Float
KAPPA = of_bits binary64 0x3FE1_AC51_114F_0EAF

-- the unit direction square to unit a, on b's side
unfoldable pub square_to : P → P → P
square_to a b =
    let w = minus b (times a (dot a b)) in
    cond (lt CEPS (len w)) (unit w) origin

-- 4/3 · tan(angle / 4), for an angle with this cosine
unfoldable pub arc_handle : Float → Float
arc_handle cosine =
    let k = clamp cosine (neg 1f) 1f in
    let sin_half = root_of (max ((1f ⊖ k) ⊘ 2f) 0f) in
    let cos_half = root_of (max ((1f ⊕ k) ⊘ 2f) 0f) in
    cond (lt (abs cosine) 1e-12) KAPPA (4f ⊘ 3f ⊗ sin_half ⊘ (1f ⊕ cos_half))
