-- What a number that was tried as a kind is. Assumes nothing.
use Rattle.std.proofs.Common.{Option, Some, None, Ok, Err, ◌≡◌}
use mathlib.Core.Path.{refl}
use Prim.Native.Nat.{ℕ}
use native.Mathlib.Omega.{arith}
use Rattle.std.specs.Option.{ok_or}

module _ {A E : Type 0} (e : E) where
  ok_err : (x : A) (y : E) → Ok x ≡ Err y → ⊥
  ok_err x y h = let z : ◌≡◌ {A = ℕ} 0 1 = cc in omega arith

  pub tried_some : (o : Option A) (x : A) → ok_or o e ≡ Ok x → o ≡ Some x
  tried_some (Some y) x h = cc
  tried_some None x h = let z : ◌≡◌ {A = ℕ} 0 1 = cc in absurd (omega arith)

  pub tried_none : (o : Option A) (y : E) → ok_or o e ≡ Err y → o ≡ None
  tried_none (Some x) y h = absurd (ok_err x y h)
  tried_none None y h = refl
