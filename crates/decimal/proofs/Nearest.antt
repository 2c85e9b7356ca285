-- `thousandths_of` is the nearest whole number of thousandths, ties to even, and there is one such number only. Assumes nothing.
use mathlib.Core.Path.{◌≡◌, sym, subst}
use mathlib.Core.Logic.{◌⊎◌, inl, inr, ⊎_elim}
use mathlib.Core.Bool.{Bool}
use Prim.Native.Nat.{ℕ, suc, ◌+◌, ◌*◌, ◌/◌, ◌%◌, ◌≤◌, ◌<◌}
use native.Mathlib.Nat.{suc-mul, mul-le-mul_right, div-add-mod', mod-lt}
use native.Mathlib.Omega.{arith}
use lib.Ieee.{fin, up, down}
use lib.Ieee.Fits.{down_pos}
use lib.Ieee.Nearest.{closest}
use Rattle.views.proofs.Laws.{order, same}
use Rattle.decimal.specs.Rounding.{thousandths_of}
use Rattle.decimal.specs.Rounding.{distance, NearestEven}
use Rattle.decimal.proofs.Values.{closest_down, closest_tie, closest_up}

unequal : (a b : ℕ) → (a ≡ b → ⊥) → (a < b) ⊎ (b < a)
unequal a b n = ⊎_elim (λ h. inr (omega (arith, n))) (λ h. inl h) (order b a)

-- two multiples of d are at least d distance, or the same
above : (k q d : ℕ) → k < q → k * d + d ≤ q * d
above k q d h = let e : suc k * d ≤ q * d = mul-le-mul_right d h in omega (arith, suc-mul k d)

module _ (n d q : ℕ) (D : 0 < d) where
  -- less than half a unit away
  inside : distance n (q * d) * 2 < d → NearestEven n d q
  inside h = record {
    near = λ k. ⊎_elim (λ e. rw e (omega arith)) (λ ne. ⊎_elim (λ l. omega (arith, above k q d l)) (λ l. omega (arith, above q k d l)) (unequal k q ne)) (same k q);
    even = λ k ne e. absurd (⊎_elim (λ l. omega (arith, above k q d l)) (λ l. omega (arith, above q k d l)) (unequal k q ne));
  }

  -- half a unit away, and even
  halfway : distance n (q * d) * 2 ≡ d → q % 2 ≡ 0 → NearestEven n d q
  halfway h z = record {
    near = λ k. ⊎_elim (λ e. rw e (omega arith)) (λ ne. ⊎_elim (λ l. omega (arith, above k q d l)) (λ l. omega (arith, above q k d l)) (unequal k q ne)) (same k q);
    even = λ k ne e. z;
  }

pub closest_is : (n d : ℕ) → 0 < d → NearestEven n d (closest n d)
closest_is n d D =
    ⊎_elim
    (λ h. ⊎_elim (λ e. tied e) (λ ne. down' (⊎_elim (λ l. l) (λ l. absurd (omega arith)) (unequal (n % d * 2) d ne))) (same (n % d * 2) d))
    (λ h. up' h)
    (order (n % d * 2) d)
  where
    e : n / d * d + n % d ≡ n
    e = div-add-mod' n d

    l : n % d < d
    l = mod-lt n D

    down' : n % d * 2 < d → NearestEven n d (closest n d)
    down' h = rw (closest_down n d h) (inside n d (n / d) D (omega (arith, e)))

    up' : d < n % d * 2 → NearestEven n d (closest n d)
    up' h = rw (closest_up n d h) (inside n d (suc (n / d)) D (omega (arith, e, l, suc-mul (n / d) d)))

    tied : n % d * 2 ≡ d → NearestEven n d (closest n d)
    tied h =
        rw (closest_tie n d h)
        (⊎_elim
        (λ z. let p : n / d + n / d % 2 ≡ n / d = omega arith in let w : distance n (n / d * d) * 2 ≡ d = omega (arith, e) in subst (NearestEven n d) (sym p) (halfway n d (n / d) D w z))
        (λ z. let p : n / d + n / d % 2 ≡ suc (n / d) = omega arith in rw p (halfway n d (suc (n / d)) D (omega (arith, e, suc-mul (n / d) d)) (omega arith)))
        (same (n / d % 2) 0))

-- there is one only
next : (n d q r : ℕ) → 0 < d → NearestEven n d q → NearestEven n d r → q < r → ⊥
next n d q r D p s h =
    let a = p.near r in
    let b = s.near q in
    let c = p.near (suc q) in
    let u : q % 2 ≡ 0 = p.even r (λ w. omega arith) (omega arith) in
    let v : r % 2 ≡ 0 = s.even q (λ w. omega arith) (omega arith) in
    let g : suc q < r = ⊎_elim (λ w. absurd (omega arith)) (λ w. w) (order r (suc q)) in
    omega (arith, suc-mul q d, above (suc q) r d g, a, b, c)

pub only : (n d q r : ℕ) → 0 < d → NearestEven n d q → NearestEven n d r → q ≡ r
only n d q r D p s =
    ⊎_elim (λ e. e) (λ ne. absurd (⊎_elim (λ h. next n d q r D p s h) (λ h. next n d r q D s p h) (unequal q r ne))) (same q r)

-- the theorem: |x| is m * up e / down e, and in thousandths m * up e * 1000 / down e
pub thousandths-nearest : (s : Bool) (m : ℕ) (e : _) → NearestEven (m * up e * 1000) (down e) (thousandths_of (fin s m e))
unfolding thousandths_of
thousandths-nearest s m e = closest_is (m * up e * 1000) (down e) (down_pos e)
