-- A walk over candidates stands at the nearest of those it has tried. Assumes nothing.
use mathlib.Core.Path.{◌≡◌, refl, sym, ◌∙◌}
use mathlib.Core.Bool.{Bool, true, false, ◌&&◌}
use Prim.Native.Nat.{ℕ, zero, suc, ◌+◌, ◌<◌}
use native.Mathlib.Nat.{add-zero, add-suc, le_refl}
use native.Mathlib.Omega.{arith}
use lib.Ieee.{Float, le}
use Rattle.geom.specs.declared.point.P.{P}
use Rattle.geom.specs.Point.{len}
use Rattle.std.proofs.Common.{Option, Some, None, option_map}
use Rattle.hit.specs.declared.best.Candidate.{Candidate}
use Rattle.hit.specs.declared.best.Best.{Best}
use Rattle.hit.specs.Best.{beats, counts, taken}
use Rattle.hit.specs.Tried.{tried}
use Rattle.hit.specs.Nearest.{nearer, nearest}

pub same_at : (i j : ℕ) → Some i ≡ Some j → i ≡ j
same_at i j e = cc

pub apart : (j : ℕ) → None ≡ Some j → ⊥
apart j e = let z : ◌≡◌ {A = ℕ} 0 1 = cc in omega arith

module _ (within : ℕ → Bool) (d : ℕ → Float) where
  -- a candidate at its distance
  abbrev pub candidate : ℕ → Candidate
  candidate k = record { number = k; dist = d k }

  -- b is the nearest of the first n, at its distance
  pub record Stands (n : ℕ) (b : Best) : Type 0 where
    pub found : b.nearest ≡ option_map candidate (nearest within d n)

  pub stands-none : (b : Best) → b.nearest ≡ None → Stands 0 b
  unfolding nearest
  stands-none b e = record { found = e }

  -- its number
  pub stands_number : (n : ℕ) (b : Best) → Stands n b → option_map (λ (c : Candidate). c.number) b.nearest ≡ nearest within d n
  stands_number n b s = rw s.found (same-number (nearest within d n))
    where
      same-number : (f : Option ℕ) → option_map (λ (c : Candidate). c.number) (option_map candidate f) ≡ f
      same-number None = refl
      same-number (Some k) = refl

  module _ (n : ℕ) (b : Best) (s : Stands n b) where
    -- a candidate that is not within
    pub stands_skip : within n ≡ false → Stands (suc n) b
    unfolding nearest
    stands_skip e = record { found = rw e s.found }

    module _ (tol : Float) (v : P) (w : within n ≡ le (len v) tol) (l : d n ≡ len v) where
      same_test : (f : Option ℕ) → beats (option_map candidate f) (len v) ≡ nearer d n f
      unfolding beats nearer
      same_test None = refl
      same_test (Some j) = rw l refl

      -- the code's test is the definition's
      test : counts tol b v ≡ (within n && nearer d n (nearest within d n))
      unfolding counts
      test = rw (w, s.found, same_test (nearest within d n))

      pub stands_more : Stands (suc n) (taken tol b n v)
      unfolding taken nearest
      stands_more = go (counts tol b v) refl
        where
          go : (t : Bool) → counts tol b v ≡ t → Stands (suc n) (taken tol b n v)
          go true e = rw e (record { found = rw (sym test ∙ e, l) refl })
          go false e = rw e (record { found = rw (sym test ∙ e) s.found })

  -- ---- several candidates
  -- of which none is within
  pub stands_skipped : (i m : ℕ) (b : Best) → Stands i b → ((j : ℕ) → j < m → within (i + j) ≡ false) → Stands (i + m) b
  stands_skipped i zero b s h = rw (add-zero i) s
  stands_skipped i (suc m) b s h = rw (add-suc i m) (stands_skip (i + m) b (stands_skipped i m b s (λ j l. h j (omega arith))) (h m (le_refl (suc m))))

  -- which lie v 0, v 1, .. away
  pub stands-tried : (tol : Float) (i m : ℕ) (v : ℕ → P) (b : Best) → Stands i b
      → ((j : ℕ) → j < m → within (i + j) ≡ le (len (v j)) tol) → ((j : ℕ) → j < m → d (i + j) ≡ len (v j)) → Stands (i + m) (tried tol i v b m)
  unfolding tried
  stands-tried tol i zero v b s h k = rw (add-zero i) s
  stands-tried tol i (suc m) v b s h k =
      rw (add-suc i m)
      (stands_more (i + m) (tried tol i v b m) (stands-tried tol i m v b s (λ j l. h j (omega arith)) (λ j l. k j (omega arith))) tol (v m) (h m (le_refl (suc m))) (k m (le_refl (suc m))))
