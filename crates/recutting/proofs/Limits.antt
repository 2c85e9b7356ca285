-- The limit on the places within reach, index by index. Assumes nothing.
use mathlib.Core.Path.{◌≡◌}
use mathlib.Core.Bool.{Bool}
use Prim.Native.Nat.{ℕ, ◌+◌, ◌-◌, ◌<◌}
use native.Mathlib.Omega.{arith}
use borrow.Author.Tests.{le-leb, lt-ltb}
use Rattle.cut.specs.declared.subpath.Sub.{Sub}
use Rattle.cut.specs.declared.subpath.Window.{Window}
use Rattle.cut.specs.Near.{near}
use Rattle.recutting.specs.Near.{reached_in}

module _ (sub : Sub) (w : Window) where
  abbrev close : ℕ → Bool
  close = near w.reach sub.n sub.closed w.at

  pub reached-index : (j : ℕ) → j < sub.n → reached_in sub w (sub.first + j) ≡ close j
  unfolding reached_in
  reached-index j l =
      let e : sub.first + j - sub.first ≡ j = omega arith in
      rw (le-leb sub.first (sub.first + j) (omega arith), lt-ltb (sub.first + j) (sub.first + sub.n) (omega arith), e)
