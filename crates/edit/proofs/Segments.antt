-- What a segment that exists says of its ends. Assumes nothing.
use mathlib.Core.Path.{◌≡◌, refl, sym}
use mathlib.Core.Logic.{⊎_elim}
use mathlib.Core.Bool.{Bool, true, false, ◌&&◌, ◌||◌, true≢false}
use Prim.Native.Nat.{ℕ, ◌+◌, ◌<◌}
use native.Mathlib.Omega.{arith}
use lib.Dec.{ltb, eqb}
use borrow.Author.Tests.{ltb-true, eqb-true, lt-ltb, le-ltb}
use Rattle.views.proofs.Laws.{order}
use Rattle.path.specs.Shape.{is_segment, next}

pub segment_says : (n : ℕ) (c : Bool) (a : ℕ) → is_segment n c a ≡ true → (a < n) × (1 < n)
unfolding is_segment
segment_says n c a = go (ltb (a + 1) n) c (ltb 1 n) (eqb (a + 1) n) refl refl refl
  where
    go : (p q r s : Bool) → ltb (a + 1) n ≡ p → ltb 1 n ≡ r → eqb (a + 1) n ≡ s → (p || q && (r && s)) ≡ true → (a < n) × (1 < n)
    go true q r s e f g h = let l = ltb-true (a + 1) n e in (omega arith, omega arith)
    go false true true true e f g h = let l = ltb-true 1 n f in let m = eqb-true (a + 1) n g in (omega arith, omega arith)
    go false true true false e f g h = absurd (true≢false (sym h))
    go false true false s e f g h = absurd (true≢false (sym h))
    go false false r s e f g h = absurd (true≢false (sym h))

-- the next index is another one
pub next_other : (n a : ℕ) → a < n → 1 < n → (next n a < n) × (a ≡ next n a → ⊥)
unfolding next
next_other n a h l =
    ⊎_elim
    (λ m. rw (le-ltb (a + 1) n m) (omega arith, λ e. omega arith))
    (λ m. rw (lt-ltb (a + 1) n m) (m, λ e. omega arith))
    (order n (a + 1))
