-- From the bar on no vector counts: a root never falls. Assumes nothing.
use mathlib.Core.Path.{◌≡◌, refl, sym, ◌∙◌}
use mathlib.Core.Bool.{Bool, true, false, true≢false}
use Prim.Native.Nat.{ℕ}
use lib.Dec.{T}
use lib.Ieee.{Float, nan, inf, fin, lt, le, eq}
use lib.Ieee.Bits.{is_true}
use Rattle.views.proofs.Bools.{and_false}
use Rattle.root.specs.Root.{root_of}
use Rattle.root.proofs.Theorems.{root_mono}
use Rattle.real.specs.Limit.{in_limit}
use Rattle.real.proofs.Tables.{Rising, none, some, square_rises, sum_rises}
use Rattle.geom.specs.declared.point.P.{P}
use Rattle.geom.specs.Point.{dot, len}
use Rattle.std.proofs.Common.{Some, None}
use Rattle.hit.specs.declared.best.Best.{Best}
use Rattle.hit.specs.Best.{beats, counts, taken, Barred}
use Rattle.real.proofs.Orders.{not_above, le_trans}

holds : (b : Bool) → b ≡ true → T b
holds true e = tt
holds false e = absurd (true≢false (sym e))

nothing_below : (x : Float) → le x nan ≡ true → ⊥
unfolding lt eq le
nothing_below nan h = true≢false (sym h)
nothing_below (inf s) h = true≢false (sym h)
nothing_below (fin s m e) h = true≢false (sym h)

-- roots rise with squares
roots_rise : (x y : Float) → Rising x → Rising y → le x y ≡ true → le (root_of x) (root_of y) ≡ true
unfolding lt eq le
roots_rise x y none q h = absurd (true≢false (sym h))
roots_rise x y (some p) none h = absurd (nothing_below x h)
roots_rise x y (some p) (some q) h = is_true _ (root_mono x y p q (holds _ h))

square-of : (d : P) → Rising (dot d d)
unfolding dot
square-of d = sum_rises _ _ (square_rises d.x) (square_rises d.y)

pub root-is-len : (d : P) → root_of (dot d d) ≡ len d
unfolding dot len
root-is-len d = refl

-- a square whose root is above tol bars whatever is not below it
pub bars : (tol g : Float) → Rising g → lt tol (root_of g) ≡ true → (d : P) → le g (dot d d) ≡ true → le (len d) tol ≡ false
bars tol g r h d k = go (le (len d) tol) refl
  where
    rise : le (root_of g) (len d) ≡ true
    rise = rw (root-is-len d) at (roots_rise g (dot d d) r (square-of d) k)

    go : (b : Bool) → le (len d) tol ≡ b → le (len d) tol ≡ false
    go false e = e
    go true e = absurd (true≢false (sym h ∙ not_above (root_of g) tol (le_trans (root_of g) (len d) tol rise e)))

pub nothing-barred : (tol g : Float) (b : Best) → b.nearest ≡ None → b.bar ≡ g → Rising g → lt tol (root_of g) ≡ true → Barred tol b
unfolding Barred counts
nothing-barred tol g b f e r h d k = rw (bars tol g r h d (rw e at k))

-- the infinity does
pub endless : (tol : Float) → in_limit tol ≡ true → lt tol (root_of (inf false)) ≡ true
unfolding in_limit lt root_of
endless nan e = absurd (true≢false (sym e))
endless (inf s) e = absurd (true≢false (sym e))
endless (fin s m e') e = refl

-- a candidate that counts is the new bar
abbrev pub lead : ℕ → P → Best
lead i d = record { nearest = Some (record { number = i; dist = len d }); bar = dot d d }

new_bar : (tol : Float) (i : ℕ) (d : P) → Barred tol (lead i d)
unfolding Barred counts beats
new_bar tol i d v k =
    let rise : le (len d) (len v) ≡ true = rw (root-is-len d, root-is-len v) at (roots_rise (dot d d) (dot v v) (square-of d) (square-of v) k) in
    rw (not_above (len d) (len v) rise, and_false)

pub taken-barred : (tol : Float) (b : Best) (i : ℕ) (d : P) → Barred tol b → Barred tol (taken tol b i d)
unfolding taken
taken-barred tol b i d h = go (counts tol b d) refl
  where
    go : (t : Bool) → counts tol b d ≡ t → Barred tol (taken tol b i d)
    go false e = rw e h
    go true e = rw e (new_bar tol i d)

-- what the code's tests come to
module _ (tol : Float) (b : Best) (i : ℕ) (d : P) (h : Barred tol b) where
  abbrev pub Taken : Best → Type 0
  Taken r = (r ≡ taken tol b i d) × Barred tol r

  kept : counts tol b d ≡ false → Taken b
  unfolding taken
  kept e = (rw e, h)

  pub barred_out : (square : Float) → square ≡ dot d d → le b.bar square ≡ true → Taken b
  unfolding Barred
  barred_out square e t = kept (h d (rw e at t))

  module _ (length : Float) (l : length ≡ len d) where
    pub too_far : le length tol ≡ false → Taken b
    unfolding counts
    too_far t = kept (rw (← l, t))

    pub no_nearer : le length tol ≡ true → beats b.nearest length ≡ false → Taken b
    unfolding counts
    no_nearer t n = kept (rw (← l, t, n))

    pub leads : (square : Float) → square ≡ dot d d → le length tol ≡ true → beats b.nearest length ≡ true
        → Taken (record { nearest = Some (record { number = i; dist = length }); bar = square })
    unfolding counts taken
    leads square e t n =
        let c : counts tol b d ≡ true = rw (← l, t, n) in
        rw (l, e) (rw c, new_bar tol i d)
