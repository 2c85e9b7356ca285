-- Corners before and after their sides are measured. Assumes nothing.
use mathlib.Core.Path.{◌≡◌, refl, ap₂, sym, ◌∙◌}
use mathlib.Core.Bool.{Bool, true, false, ◌&&◌}
use Rattle.std.proofs.Common.{Option, Some, None}
use native.Mathlib.Omega.{arith}
use Prim.Native.Nat.{ℕ}
use lib.Ieee.{Float, lt}
use Rattle.real.specs.Finite.{is_finite}
use Rattle.views.proofs.Bools.{and_false}
use Rattle.cubic.specs.Cubic.{CEPS}
use Rattle.side.specs.Side.{length_of, long_enough}
use Rattle.corner.specs.declared.corner.Corner.{Corner}
use Rattle.corner.specs.Corner.{1e-6, sin, with_lengths, Unmeasured, sharp}

pub same_some : (c d : Corner) → Some c ≡ Some d → c ≡ d
same_some c d e = cc

pub none_some : (d : Corner) → None ≡ Some d → ⊥
none_some d e = let z : ◌≡◌ {A = ℕ} 0 1 = cc in omega arith

-- what `of` ensures where there is no corner
pub nothing : (chords : ℕ) (r k : Option Corner) → r ≡ None → k ≡ None → Unmeasured chords r k
nothing chords r k e f = record {
  is = rw (e, f) refl;
  long = λ d h. absurd (none_some d (sym e ∙ h));
  lines = λ d h. absurd (none_some d (sym e ∙ h));
}

-- the tests of a corner, side by side
regroup : (a b c d s : Bool) → (s && (a && c) && (b && d)) ≡ (a && b && c && d && s)
regroup a b c d false = sym (and_false (a && b && c && d))
regroup false b c d true = refl
regroup true false false d true = refl
regroup true false true d true = refl
regroup true true false d true = refl
regroup true true true false true = refl
regroup true true true true true = refl

sides : (s : Bool) (l m : Float) → (s && long_enough l && long_enough m) ≡ (lt CEPS l && lt CEPS m && is_finite l && is_finite m && s)
unfolding long_enough
sides s l m = regroup (lt CEPS l) (lt CEPS m) (is_finite l) (is_finite m) s

-- a corner is sharp before it is measured where it is afterwards
module _ (chords : ℕ) (c : Corner) (u : long_enough c.lu ≡ long_enough (length_of chords c.side_u)) (v : long_enough c.lv ≡ long_enough (length_of chords c.side_v)) where
  pub sharp-measured : sharp c ≡ sharp (with_lengths chords c)
  unfolding sharp with_lengths sin
  sharp-measured =
      let s = lt 1e-6 (sin c) in
      sym (sides s c.lu c.lv) ∙ ap₂ (λ a b. s && a && b) u v ∙ sides s (length_of chords c.side_u) (length_of chords c.side_v)

-- and its first side is then long
pub sharp_long : (c : Corner) → sharp c ≡ true → lt CEPS c.lu ≡ true
unfolding sharp
sharp_long c e = go (lt CEPS c.lu) e
  where
    go : (b : Bool) → (b && lt CEPS c.lv && is_finite c.lu && is_finite c.lv && lt 1e-6 (sin c)) ≡ true → b ≡ true
    go true h = refl
    go false h = h
