-- An anchor within the limit: each of its points is, and so is the place of a list that holds it. Assumes nothing.
use mathlib.Core.Path.{◌≡◌, refl, sym, ap, ◌∙◌}
use mathlib.Core.Bool.{Bool, true, false, ◌&&◌}
use mathlib.Core.List.{List}
use Prim.Native.Nat.{ℕ, ◌+◌, ◌*◌}
use lib.Ieee.{Float}
use Rattle.views.specs.Search.{all}
use Rattle.views.proofs.Searches.{all_cong}
use Rattle.real.specs.Limit.{in_limit}
use Rattle.geom.specs.Point.{point_in}
use Rattle.path.specs.declared.anchor.Anchor.{Anchor}
use Rattle.path.specs.Flat.{anchor_at, numbers}
use Rattle.path.specs.Limit.{anchor_good, anchor_in}
use Rattle.path.proofs.Places.{anchor-number, numbers_at}

by_pairs : (a b c d e f : Bool) → (a && (b && (c && (d && (e && (f && true)))))) ≡ ((a && b) && ((c && d) && (e && f)))
by_pairs false b c d e f = refl
by_pairs true false c d e f = refl
by_pairs true true false d e f = refl
by_pairs true true true false e f = refl
by_pairs true true true true false f = refl
by_pairs true true true true true false = refl
by_pairs true true true true true true = refl

pub good_points : (a : Anchor) → anchor_good a ≡ (point_in a.p && (point_in a.h_in && point_in a.h_out))
unfolding anchor_good all numbers point_in
good_points a =
    by_pairs (in_limit a.p.x) (in_limit a.p.y) (in_limit a.h_in.x) (in_limit a.h_in.y) (in_limit a.h_out.x) (in_limit a.h_out.y)

pub anchor_good_lem : (xs : List Float) (k : ℕ) → anchor_in xs k ≡ anchor_good (anchor_at xs k)
unfolding anchor_in anchor_good
anchor_good_lem xs k = all_cong _ _ 6 (λ i l. ap in_limit (sym (numbers_at xs (k * 6 + i)) ∙ anchor-number (anchor_at xs) k i l))
