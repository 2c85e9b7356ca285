-- A table of running sums of lengths never falls, whatever the numbers, NaN among them: a length is a NaN or not negative, and after a NaN
-- every sum is a NaN. So the first entry not below s is the count of those below, for any length of the table and any s; and what an entry exceeds
-- each later one exceeds, as far as they are finite. Assumes nothing.
use mathlib.Core.Path.{◌≡◌, refl, sym, subst}
use mathlib.Core.Logic.{⊎_elim}
use mathlib.Core.Bool.{Bool, true, false}
use Prim.Native.Nat.{ℕ, zero, suc, ◌≤◌}
use native.Mathlib.Omega.{arith}
use lib.Dec.{T}
use lib.Ieee.{Float, nan, inf, fin, binary64, of_bits, is_nan, add, mul, lt, fits}
use lib.Ieee.Scale.{finite}
use lib.Ieee.Fits.{add-fits}
use lib.Ieee.Bits.{of_bits-fits, is_true}
use Rattle.root.specs.Root.{root_of}
use Rattle.root.specs.Sign.{nonneg}
use Rattle.root.proofs.Theorems.{root-nonneg}
use Rattle.views.specs.Search.{first_false, count}
use Rattle.views.proofs.Laws.{order}
use Rattle.views.proofs.Searches.{first_count}
use Rattle.real.proofs.Orders.{lt-le_trans}
use Rattle.real.proofs.Sums.{add-nonneg, add_grows, below_trans, square-nonneg}
use Rattle.real.proofs.Magnitudes.{finite_sum}
use Rattle.real.specs.Operators.{◌⊕◌, ◌⊗◌}
use Rattle.real.specs.Sums.{running}

-- a NaN, or not negative
pub data Rising : Float → Type 0 where
  none : Rising nan
  some : {x : Float} → T (nonneg x) → Rising x

pub square_rises : (x : Float) → Rising (x ⊗ x)
unfolding mul is_nan
square_rises nan = none
square_rises (inf s) = some (square-nonneg binary64 (inf s) tt)
square_rises (fin s m e) = some (square-nonneg binary64 (fin s m e) tt)

pub sum_rises : (x y : Float) → Rising x → Rising y → Rising (x ⊕ y)
unfolding add
sum_rises x y none q = none
sum_rises x y (some p) none = nothing x
  where
    nothing : (x : Float) → Rising (add binary64 x nan)
    nothing nan = none
    nothing (inf s) = none
    nothing (fin s m e) = none
sum_rises x y (some p) (some q) = some (add-nonneg binary64 x y p q)

pub root_rises : (x : Float) → Rising x → Rising (root_of x)
unfolding root_of
root_rises x none = none
root_rises x (some p) = some (root-nonneg x p)

-- what is below s after one more is below s before
below_add : (x y s : Float) → T (fits binary64 x) → Rising x → Rising y → T (lt (add binary64 x y) s) → T (lt x s)
unfolding add lt
below_add x y s t none q h = h
below_add x y s t (some p) none h = absurd (nothing x h)
  where
    nothing : (x : Float) → T (lt (add binary64 x nan) s) → ⊥
    nothing nan h = h
    nothing (inf b) h = h
    nothing (fin b m e) h = h
below_add x y s t (some p) (some q) h = below_trans x (add binary64 x y) s p (add-nonneg binary64 x y p q) (add_grows binary64 x y t p q) h

pub finite_nonneg : {x : Float} → Rising x → T (finite x) → T (nonneg x)
finite_nonneg none h = absurd h
finite_nonneg (some p) h = p

finite_number : (x : Float) → T (finite x) → is_nan x ≡ false
unfolding is_nan
finite_number nan h = absurd h
finite_number (inf s) h = absurd h
finite_number (fin s m e) h = refl

module _ (f : ℕ → Float) (rising : (k : ℕ) → Rising (f k)) where
  run_fits : (k : ℕ) → T (fits binary64 (running f k))
  unfolding running
  run_fits zero = of_bits-fits binary64 0
  run_fits (suc k) = add-fits binary64 (running f k) (f k)

  run_rises : (k : ℕ) → Rising (running f k)
  unfolding running of_bits
  run_rises zero = some tt
  run_rises (suc k) = sum_rises (running f k) (f k) (run_rises k) (rising k)

  is : (b : Bool) → b ≡ true → T b
  is true e = tt
  is false e = subst T (sym e) tt

  back : (s : Float) (k : ℕ) → lt (running f (suc k)) s ≡ true → lt (running f k) s ≡ true
  unfolding running
  back s k e = is_true _ (below_add (running f k) (f k) s (run_fits k) (run_rises k) (rising k) (is _ e))

  pub first_is-count : (n : ℕ) (s : Float) → first_false (λ k. lt (running f k) s) n ≡ count (λ k. lt (running f k) s) n
  first_is-count n s = first_count (λ k. lt (running f k) s) n (λ k l e. back s k e)

  above_next : (s : Float) (n : ℕ) → T (finite (running f (suc n))) → lt s (running f n) ≡ true → lt s (running f (suc n)) ≡ true
  unfolding running
  above_next s n t e =
      let w = finite_sum binary64 (running f n) (f n) t in
      lt-le_trans s (running f n) (running f (suc n)) (finite_number (running f (suc n)) t) e
      (is_true _ (add_grows binary64 (running f n) (f n) (run_fits n) (finite_nonneg (run_rises n) w.0) (finite_nonneg (rising n) w.1)))

  -- the sums before a finite one are finite
  pub above_stays : (s : Float) (k n : ℕ) → k ≤ n → T (finite (running f n)) → lt s (running f k) ≡ true → lt s (running f n) ≡ true
  unfolding running
  above_stays s k zero h t e = let z : k ≡ 0 = omega arith in rw z at e
  above_stays s k (suc n) h t e =
      ⊎_elim (λ g. let z : k ≡ suc n = omega arith in rw z at e)
      (λ g. above_next s n t (above_stays s k n (omega arith) (finite_sum binary64 (running f n) (f n) t).0 e)) (order (suc n) k)
