-- What the size of a cache's lists comes to, and what a call that passed the test may rest on. Assumes nothing.
use mathlib.Core.Path.{◌≡◌, refl, sym}
use mathlib.Core.Bool.{Bool, true, false, ◌&&◌, cond, true≢false}
use mathlib.Core.List.{List}
use Prim.Native.Nat.{ℕ, ◌*◌, ◌≤◌, ◌<◌}
use native.Mathlib.Omega.{arith}
use lib.Dec.{leb}
use lib.ListN.{length}
use lib.Ieee.{Float}
use borrow.Author.Tests.{leb-true, le-leb, lt-leb}
use Rattle.views.proofs.Bools.{and_false}
use Rattle.std.proofs.Common.{Some, None}
use Rattle.path.specs.Shape.{total, sized_of}
use Rattle.path.proofs.Shapes.{Fits}
use Rattle.cache.specs.Tests.{cache_fits, cache_size}

-- whatever b tests
module _ (b : Bool) (n : ℕ) where
  sized_wrong : b ≡ false → None ≡ cond b (Some n) None
  sized_wrong e = rw e

  sized_good : b ≡ true → Some n ≡ cond b (Some n) None
  sized_good e = rw e

  wrong_says : cond b (Some n) None ≡ None → b ≡ false
  wrong_says = go b
    where
      go : (d : Bool) → cond d (Some n) None ≡ None → d ≡ false
      go true e = let z : ◌≡◌ {A = ℕ} 0 1 = cc in absurd (omega arith)
      go false e = refl

  good_says : (m : ℕ) → cond b (Some n) None ≡ Some m → (b ≡ true) × (m ≡ n)
  good_says m = go b
    where
      same_count : Some n ≡ Some m → m ≡ n
      same_count e = cc

      go : (d : Bool) → cond d (Some n) None ≡ Some m → (d ≡ true) × (m ≡ n)
      go true e = (refl, same_count e)
      go false e = let z : ◌≡◌ {A = ℕ} 0 1 = cc in absurd (omega arith)

module _ (shapes : List ℕ) (numbers : List Float) (flags : List ℕ) where
  -- ---- by what the tests found
  pub size_wrong : sized_of shapes 512 ≡ None → None ≡ cache_size shapes numbers flags
  unfolding sized_of cache_size cache_fits
  size_wrong e = sized_wrong _ _ (go (leb (length shapes) 32) (leb (total shapes) 512) _ (wrong_says _ _ e))
    where
      go : (p q r : Bool) → (p && q) ≡ false → (p && (q && r)) ≡ false
      go true true r e = absurd (true≢false e)
      go true false r e = refl
      go false q r e = refl

  module _ (n : ℕ) (f : Fits shapes 512 n) where
    pub numbers-short : length numbers < n * 12 → None ≡ cache_size shapes numbers flags
    unfolding cache_size cache_fits
    numbers-short h =
        let e = f.count in
        let b : cache_fits shapes numbers flags ≡ false = rw (le-leb _ _ f.words, le-leb _ _ f.anchors, lt-leb (total shapes * 12) (length numbers) (omega arith)) in
        sized_wrong _ _ b

    pub flags_short : length flags < n → None ≡ cache_size shapes numbers flags
    unfolding cache_size cache_fits
    flags_short h =
        let e = f.count in
        let b : cache_fits shapes numbers flags ≡ false =
        rw (le-leb _ _ f.words, le-leb _ _ f.anchors, lt-leb (total shapes) (length flags) (omega arith)) (and_false (leb (total shapes * 12) (length numbers))) in
        sized_wrong _ _ b

    pub size_good : n * 12 ≤ length numbers → n ≤ length flags → Some n ≡ cache_size shapes numbers flags
    unfolding cache_size cache_fits
    size_good h l =
        let e = f.count in
        let b : cache_fits shapes numbers flags ≡ true =
        rw (le-leb _ _ f.words, le-leb _ _ f.anchors, le-leb (total shapes * 12) (length numbers) (omega arith), le-leb (total shapes) (length flags) (omega arith)) in
        rw f.count (sized_good _ _ b)

  -- ---- and back
  pub record CacheFits : Type 0 where
    pub words : length shapes ≤ 32
    pub few : total shapes ≤ 512
    pub long : total shapes * 12 ≤ length numbers
    pub flag_each : total shapes ≤ length flags

  pub fits_says : cache_fits shapes numbers flags ≡ true → CacheFits
  unfolding cache_fits
  fits_says =
      go (leb (length shapes) 32) (leb (total shapes) 512) (leb (total shapes * 12) (length numbers)) (leb (total shapes) (length flags)) refl refl refl refl
    where
      go : (p q r s : Bool) → leb (length shapes) 32 ≡ p → leb (total shapes) 512 ≡ q → leb (total shapes * 12) (length numbers) ≡ r → leb (total shapes) (length flags) ≡ s
          → (p && (q && (r && s))) ≡ true → CacheFits
      go true true true true e f g h t = record { words = leb-true _ _ e; few = leb-true _ _ f; long = leb-true _ _ g; flag_each = leb-true _ _ h }
      go true true true false e f g h t = absurd (true≢false (sym t))
      go true true false s e f g h t = absurd (true≢false (sym t))
      go true false r s e f g h t = absurd (true≢false (sym t))
      go false q r s e f g h t = absurd (true≢false (sym t))

  pub fits-is : CacheFits → cache_fits shapes numbers flags ≡ true
  unfolding cache_fits
  fits-is f = rw (le-leb _ _ f.words, le-leb _ _ f.few, le-leb _ _ f.long, le-leb _ _ f.flag_each)

  pub size_says : (n : ℕ) → cache_size shapes numbers flags ≡ Some n → (cache_fits shapes numbers flags ≡ true) × (n ≡ total shapes)
  unfolding cache_size
  size_says n e = good_says _ _ n e

  pub size_refused : cache_size shapes numbers flags ≡ None → cache_fits shapes numbers flags ≡ false
  unfolding cache_size
  size_refused e = wrong_says _ _ e
