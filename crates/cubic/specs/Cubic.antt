-- Cubics of four control points, after 000's `cubic_at`, `deriv_at`, `split_cubic` and `subsegment`. Assumes nothing.
use Rattle.std.specs.Prelude.{cond, List, [], ◌∷◌, Float}
use Rattle.std.specs.Float.{binary64}
use Rattle.std.specs.Float.Ieee.{of_bits, le}
use Rattle.real.specs.Operators.{◌⊖◌, ◌⊗◌, ◌⊘◌, 0f, 1f, 3f, 6f}
use Rattle.real.specs.StandIns.{min, clamp}
use Rattle.geom.specs.declared.point.P.{P}
use Rattle.geom.specs.Point.{plus, minus, times, lerp}
use Rattle.geom.specs.Flat.{pt}
use Rattle.cubic.specs.declared.subdivision.Halves.{Halves}

-- 000's 1e-9
abbrev pub CEPS : Float
CEPS = of_bits binary64 0x3E11_2E0B_E826_D695

-- the list of four control points
abbrev pub four : P → P → P → P → List P
four a b c d = a ∷ b ∷ c ∷ d ∷ []

unfoldable pub cubic_at : List P → Float → P
cubic_at c t =
    let u = 1f ⊖ t in
    plus (plus (plus (times (pt c 0) (u ⊗ u ⊗ u)) (times (pt c 1) (3f ⊗ u ⊗ u ⊗ t))) (times (pt c 2) (3f ⊗ u ⊗ t ⊗ t))) (times (pt c 3) (t ⊗ t ⊗ t))

unfoldable pub deriv_at : List P → Float → P
deriv_at c t =
    let s = 1f ⊖ t in
    plus (plus (times (minus (pt c 1) (pt c 0)) (3f ⊗ s ⊗ s)) (times (minus (pt c 2) (pt c 1)) (6f ⊗ s ⊗ t))) (times (minus (pt c 3) (pt c 2)) (3f ⊗ t ⊗ t))

-- a cubic split at t. `specs/DeCasteljau.antt` has the rule of which this is the case of four points
unfoldable pub split_cubic : List P → Float → Halves
split_cubic c t =
    let p01 = lerp (pt c 0) (pt c 1) t in
    let p12 = lerp (pt c 1) (pt c 2) t in
    let p23 = lerp (pt c 2) (pt c 3) t in
    let p012 = lerp p01 p12 t in
    let p123 = lerp p12 p23 t in
    let m = lerp p012 p123 t in
    record { before = four (pt c 0) p01 p012 m; after = four m p123 p23 (pt c 3) }

-- the part of a cubic between t0 and t1
unfoldable pub subsegment : List P → Float → Float → List P
subsegment c t0 t1 =
    let left = (split_cubic c (min t1 1f)).before in
    let u = clamp (t0 ⊘ t1) 0f 1f in
    cond (le t1 CEPS) (four (pt c 0) (pt c 0) (pt c 0) (pt c 0)) (split_cubic left u).after
