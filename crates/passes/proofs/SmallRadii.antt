-- Where the radius that is set is not above 1e-9, no cut is made. Assumes nothing.
use mathlib.Core.Path.{◌≡◌, refl, sym, ◌∙◌}
use mathlib.Core.Bool.{Bool, true, false, cond, true≢false}
use Prim.Native.Nat.{ℕ}
use Rattle.std.proofs.Common.{Option, Some, None}
use Rattle.std.specs.Option.{option_map_or}
use Rattle.corner.specs.declared.corner.Corner.{Corner}
use lib.Ieee.{Float, is_nan, lt, of_bits}
use Rattle.real.specs.Operators.{0f}
use Rattle.real.specs.StandIns.{max, min}
use Rattle.real.proofs.Orders.{not_below, lt-is-le, number-le, lt-le_trans}
use Rattle.cubic.specs.Cubic.{CEPS}
use Rattle.path.specs.Shape.{prev, next}
use Rattle.corner.specs.Corner.{max_radius_beside}
use Rattle.cut.specs.View.{View}
use Rattle.cut.specs.Places.{corner_at, own_at, asked_at, fitted_at, is_cut}

-- the larger of a number and 0 is a number, and not above 1e-9 where that number is not
own_number : (r : Float) → is_nan (max r 0f) ≡ false
unfolding max is_nan of_bits
own_number r = go (lt 0f r) refl
  where
    go : (b : Bool) → lt 0f r ≡ b → is_nan (cond b r 0f) ≡ false
    go true e = number-le 0f r (lt-is-le 0f r e)
    go false e = refl

own_small : (r : Float) → lt CEPS r ≡ false → lt CEPS (max r 0f) ≡ false
unfolding max lt of_bits
own_small r h = go (lt 0f r)
  where
    go : (b : Bool) → lt CEPS (cond b r 0f) ≡ false
    go true = h
    go false = refl

-- nor is the smaller of such a one and any other
min-small : (x y : Float) → is_nan x ≡ false → lt CEPS x ≡ false → lt CEPS (min x y) ≡ false
unfolding min
min-small x y n h = go (lt x y) refl
  where
    other : lt x y ≡ false → (b : Bool) → lt CEPS y ≡ b → b ≡ false
    other e true f = absurd (true≢false (sym (lt-le_trans CEPS y x n f (not_below x y n (number-le CEPS y (lt-is-le CEPS y f)) e)) ∙ h))
    other e false f = refl

    go : (b : Bool) → lt x y ≡ b → lt CEPS (cond b x y) ≡ false
    go true e = h
    go false e = other e (lt CEPS y) refl

pub small_uncut : (v : View) (i : ℕ) → lt CEPS (v.radius i) ≡ false → is_cut v i ≡ false
unfolding is_cut fitted_at own_at lt of_bits
small_uncut v i h = go (corner_at v i)
  where
    go : (c : Option Corner) → lt CEPS (option_map_or (λ k. min (max (v.radius i) 0f) (max_radius_beside k (asked_at v (prev v.n i)) (asked_at v (next v.n i)))) c 0f) ≡ false
    go (Some k) = min-small (max (v.radius i) 0f) (max_radius_beside k (asked_at v (prev v.n i)) (asked_at v (next v.n i))) (own_number (v.radius i)) (own_small (v.radius i) h)
    go None = refl
