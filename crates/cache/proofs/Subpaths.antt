-- A place of a path is an index of the subpath in which it lies, and back. Assumes nothing.
use mathlib.Core.Path.{◌≡◌, ap}
use mathlib.Core.Logic.{⊎_elim}
use mathlib.Core.List.{List, [], ◌∷◌}
use Prim.Native.Nat.{ℕ, zero, suc, ◌+◌, ◌-◌, ◌≤◌, ◌<◌}
use native.Mathlib.Nat.{le_of_suc-le-suc, not-suc-le-zero}
use native.Mathlib.Omega.{arith}
use lib.ListN.{length}
use borrow.Author.Tests.{lt-ltb, le-ltb}
use Rattle.views.proofs.Laws.{order}
use Rattle.path.specs.Shape.{count_of, total, word_at, start, sub_of}

-- place k is an index of subpath s
pub record Within (shapes : List ℕ) (k s : ℕ) : Type 0 where
  pub subpath : s < length shapes
  pub from : start shapes s ≤ k
  pub below : k < start shapes s + count_of (word_at shapes s)

pub located : (shapes : List ℕ) (k : ℕ) → k < total shapes → Within shapes k (sub_of shapes k)
unfolding sub_of
located [] k l = absurd (not-suc-le-zero l)
located (w ∷ ws) k l =
    ⊎_elim
    (λ h.
    let r = located ws (k - count_of w) (omega arith) in
    rw (le-ltb k (count_of w) h) (record { subpath = omega (arith, r.subpath); from = omega (arith, r.from); below = omega (arith, r.below) }))
    (λ h. rw (lt-ltb k (count_of w) h) (record { subpath = omega arith; from = omega arith; below = omega arith }))
    (order (count_of w) k)

pub sub_of_lem : (shapes : List ℕ) (s i : ℕ) → s < length shapes → i < count_of (word_at shapes s) → sub_of shapes (start shapes s + i) ≡ s
unfolding sub_of
sub_of_lem [] s i l h = absurd (not-suc-le-zero l)
sub_of_lem (w ∷ ws) zero i l h = rw (lt-ltb (start (w ∷ ws) zero + i) (count_of w) (omega arith))
sub_of_lem (w ∷ ws) (suc s) i l h =
    let e : start (w ∷ ws) (suc s) + i - count_of w ≡ start ws s + i = omega arith in
    rw (le-ltb (start (w ∷ ws) (suc s) + i) (count_of w) (omega arith), e) (ap suc (sub_of_lem ws s i (le_of_suc-le-suc l) h))
