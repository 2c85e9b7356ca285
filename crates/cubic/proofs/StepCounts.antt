-- How many steps `sample` takes. Assumes nothing.
use mathlib.Core.Bool.{Bool, true, false, cond}
use Prim.Native.Nat.{ℕ, ◌^◌, ◌<◌}
use native.Mathlib.Omega.{arith}
use mathlib.Core.List.{List}
use lib.Dec.{ltb}
use Rattle.geom.specs.declared.point.P.{P}
use Rattle.cubic.specs.Sample.{straight, steps}

pub steps-small : (c : List P) (n : ℕ) → n < 2 ^ 53 → steps c n < 2 ^ 53
unfolding steps
steps-small c n h = go (straight c) (ltb n 1)
  where
    go : (a b : Bool) → cond a 1 (cond b 1 n) < 2 ^ 53
    go true b = omega arith
    go false true = omega arith
    go false false = h
