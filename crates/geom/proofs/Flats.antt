-- Points in flat lists: what a list reads once a point is stored at its place. Assumes nothing.
use mathlib.Core.Path.{◌≡◌, ap, sym, ◌∙◌}
use mathlib.Core.List.{List}
use Prim.Native.Nat.{ℕ, ◌+◌, ◌*◌, ◌/◌, ◌%◌, ◌≤◌, ◌<◌}
use native.Mathlib.Omega.{arith}
use lib.ListN.{length, set, length-set}
use lib.Ieee.{Float, nan}
use Rattle.views.specs.View.{entry}
use Rattle.views.proofs.Laws.{fill_more, keep_more}
use Rattle.geom.specs.declared.point.P.{P}
use Rattle.geom.specs.Flat.{coordinate, coordinates}

pub coordinates_x : (f : ℕ → P) (k : ℕ) → coordinates f (2 * k) ≡ (f k).x
unfolding coordinates coordinate
coordinates_x f k =
    let a : 2 * k / 2 ≡ k = omega arith in
    let b : 2 * k % 2 ≡ 0 = omega arith in
    rw (a, b)

pub coordinates_y : (f : ℕ → P) (k : ℕ) → coordinates f (2 * k + 1) ≡ (f k).y
unfolding coordinates coordinate
coordinates_y f k =
    let a : (2 * k + 1) / 2 ≡ k = omega arith in
    let b : (2 * k + 1) % 2 ≡ 1 = omega arith in
    rw (a, b)

-- point k stored
abbrev pub stored : List Float → ℕ → P → List Float
stored xs k p = set (set xs (2 * k) p.x) (2 * k + 1) p.y

module _ (xs : List Float) (k : ℕ) (p : P) where
  -- a loop that stores points from the front: one more, below it and from it on
  pub store_more : (f : ℕ → P) → 2 * k + 1 < length xs → ((j : ℕ) → j < 2 * k → entry xs j ≡ coordinates f j) → p ≡ f k
      → (j : ℕ) → j < 2 * (k + 1) → entry (stored xs k p) j ≡ coordinates f j
  store_more f l below e j h =
      fill_more nan (set xs (2 * k) p.x) (2 * k + 1) p.y (coordinates f) (simp length-set l)
      (fill_more nan xs (2 * k) p.x (coordinates f) (omega arith) below (ap (λ q. q.x) e ∙ sym (coordinates_x f k)))
      (ap (λ q. q.y) e ∙ sym (coordinates_y f k))
      j (omega arith)

  pub store_keep : (ys : List Float) → ((j : ℕ) → 2 * k ≤ j → entry xs j ≡ entry ys j) → (j : ℕ) → 2 * (k + 1) ≤ j → entry (stored xs k p) j ≡ entry ys j
  store_keep ys kept j h = keep_more nan (set xs (2 * k) p.x) (2 * k + 1) p.y ys (keep_more nan xs (2 * k) p.x ys kept) j (omega arith)
