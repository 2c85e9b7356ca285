-- Chords by what the calls on the way give, and the candidates of a curve and of a subpath, one more at a time. Assumes nothing.
use mathlib.Core.Path.{◌≡◌}
use mathlib.Core.Bool.{Bool, true, false}
use mathlib.Core.List.{List}
use Prim.Native.Nat.{ℕ, ◌+◌, ◌*◌}
use native.Mathlib.Numerals.{add-one}
use lib.Ieee.{Float, lt}
use Rattle.real.specs.Operators.{◌⊘◌, 0f, 1f}
use Rattle.real.specs.StandIns.{clamp}
use Rattle.geom.specs.declared.point.P.{P}
use Rattle.geom.specs.Point.{plus, minus, times, dot}
use Rattle.cubic.specs.Sample.{step_at}
use Rattle.path.specs.Flat.{curve_of}
use Rattle.path.specs.Shape.{is_segment}
use Rattle.hit.specs.declared.best.Best.{Best}
use Rattle.hit.specs.Best.{taken}
use Rattle.hit.specs.Steps.{1e-12, along, offset, step_offset}
use Rattle.hit.specs.Tried.{tried, tried_from}

module _ (q a b d : P) (s : Float) (d-is : d ≡ minus b a) (s-is : s ≡ dot d d) where
  pub along-part : (e : P) (n r : Float) → e ≡ minus q a → n ≡ dot e d → r ≡ clamp (n ⊘ s) 0f 1f → lt 1e-12 s ≡ true → r ≡ along q a b
  unfolding along
  along-part e n r e-is n-is r-is t = rw (← d-is, ← e-is, ← s-is, ← n-is, t) r-is

  pub along-none : lt 1e-12 s ≡ false → 0f ≡ along q a b
  unfolding along
  along-none t = rw (← d-is, ← s-is, t)

pub offset-is : (q a b d m s r : P) (u : Float) → u ≡ along q a b → d ≡ minus b a → m ≡ times d u → s ≡ plus a m → r ≡ minus s q → r ≡ offset q a b
unfolding offset
offset-is q a b d m s r u u-is d-is m-is s-is r-is = rw (← u-is, ← d-is, ← m-is, ← s-is) r-is

-- ---- one more chord
pub chord-offset : (N : ℕ) (q : P) (c : List P) (j : ℕ) (from to w : P) → from ≡ step_at c N j → to ≡ step_at c N (j + 1) → w ≡ offset q from to → w ≡ step_offset N q c j
unfolding step_offset
chord-offset N q c j from to w f t e = rw (← f, ← t) e

pub tried_more : (tol : Float) (i : ℕ) (v : ℕ → P) (b₀ b r : Best) (j : ℕ) (w : P) → b ≡ tried tol i v b₀ j → w ≡ v j → r ≡ taken tol b (i + j) w → r ≡ tried tol i v b₀ (j + 1)
unfolding tried
tried_more tol i v b₀ b r j w e f g = rw (add-one j, ← e, ← f) g

-- ---- one more segment
module _ (tol : Float) (N : ℕ) (q : P) (anchors : List Float) (k n : ℕ) (closed : Bool) (b₀ b : Best) (a : ℕ) (e : b ≡ tried_from tol N q anchors k n closed b₀ a) where
  pub from_skip : is_segment n closed a ≡ false → b ≡ tried_from tol N q anchors k n closed b₀ (a + 1)
  unfolding tried_from
  from_skip t = rw (add-one a, t) e

  pub from_more : is_segment n closed a ≡ true → (c : List P) (r : Best) → c ≡ curve_of anchors k n a → r ≡ tried tol ((k + a) * N) (step_offset N q c) b N → r ≡ tried_from tol N q anchors k n closed b₀ (a + 1)
  unfolding tried_from
  from_more t c r f g = rw (add-one a, t, ← e, ← f) g
