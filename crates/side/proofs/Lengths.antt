-- Lengths along a curve, chord by chord, and the chord in which one falls. Assumes nothing.
use mathlib.Core.Path.{◌≡◌, refl, ap, ap₂, sym, ◌∙◌}
use mathlib.Core.Bool.{false}
use mathlib.Core.List.{List}
use mathlib.Core.Logic.{⊎_elim}
use Prim.Native.Nat.{ℕ, zero, suc, ◌+◌, ◌≤◌, ◌<◌}
use native.Mathlib.Nat.{le_refl}
use native.Mathlib.Numerals.{add-one}
use native.Mathlib.Omega.{arith}
use lib.Ieee.{Float, nan, lt}
use borrow.Author.Tests.{lt-ltb, le-ltb}
use Rattle.views.specs.View.{entry}
use Rattle.views.specs.Search.{first_false}
use Rattle.views.proofs.Laws.{order, at_tabulate}
use Rattle.views.proofs.Searches.{first_cong}
use Rattle.real.specs.Operators.{◌⊕◌}
use Rattle.real.specs.Sums.{running}
use Rattle.geom.specs.declared.point.P.{P}
use Rattle.root.specs.Root.{root_of}
use Rattle.geom.specs.Point.{dot, len, dist}
use Rattle.cubic.specs.Sample.{step_at, chord}
use Rattle.cubic.proofs.Chords.{chord_first}
use Rattle.side.specs.declared.side.Side.{Side}
use Rattle.side.specs.Side.{is_straight_side, chord_square, arclen_table, length_of, chord_of, chord_at}

-- one chord more, from p to q
pub length_next : (c : List P) (n k : ℕ) {p q : P} {len d : Float} →
    p ≡ step_at c n k → q ≡ step_at c n (k + 1) → len ≡ running (chord c n) k → d ≡ dist p q → len ⊕ d ≡ running (chord c n) (k + 1)
unfolding running chord
length_next c n k from to so_far here = ap₂ ◌⊕◌ so_far (here ∙ ap₂ dist from to) ∙ sym (ap (running (chord c n)) (add-one k))

-- a chord is the root of its square
pub chord-root : (c : List P) (n k : ℕ) → root_of (chord_square c n k) ≡ chord c n k
unfolding chord_square chord dist len dot
chord-root c n k = refl

-- sums of the same numbers
pub running_cong : (f g : ℕ → Float) (n : ℕ) → ((k : ℕ) → k < n → f k ≡ g k) → running f n ≡ running g n
unfolding running
running_cong f g zero h = refl
running_cong f g (suc n) h = ap₂ ◌⊕◌ (running_cong f g n (λ k l. h k (omega arith))) (h n (omega arith))

-- the table's entries
pub table_at : (c : List P) (n i : ℕ) → i ≤ n → entry (arclen_table c n) i ≡ running (chord c n) i
unfolding arclen_table
table_at c n i h = at_tabulate nan (n + 1) (running (chord c n)) i (omega arith)

-- on a curve `length`, which holds no table, is the table's last entry to the bit, for any number of chords
pub length_last : (n : ℕ) (o : Side) → is_straight_side o.c ≡ false → length_of n o ≡ entry (arclen_table o.c n) n
unfolding length_of
length_last n o curved = rw (curved, table_at o.c n n (le_refl n))

-- a chord is one of n
pub chord-within : (n below : ℕ) → 1 ≤ n → (1 ≤ chord_of n below) × (chord_of n below ≤ n)
unfolding chord_of
chord-within n below h =
    ⊎_elim
    (λ l. ⊎_elim (λ m. rw (le-ltb below 1 l, le-ltb n below m) (l, m)) (λ m. rw (le-ltb below 1 l, lt-ltb n below m) (h, le_refl n)) (order below n))
    (λ l. rw (lt-ltb below 1 l) (le_refl 1, h))
    (order 1 below)

-- the search finds the chord in the table, for any number of chords
pub chord_found : (c : List P) (n : ℕ) (s : Float) → chord_of n (first_false (λ k. lt (entry (arclen_table c n) k) s) (n + 1)) ≡ chord_at (chord c n) n s
unfolding chord_at
chord_found c n s =
    ap (chord_of n)
    (first_cong (λ k. lt (entry (arclen_table c n) k) s) (λ k. lt (running (chord c n) k) s) (n + 1) (λ k l. ap (λ x. lt x s) (table_at c n k (omega arith)))
    ∙ chord_first c n s (n + 1))
