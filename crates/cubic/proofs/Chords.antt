-- The table of a cubic's chord lengths never falls, for any number of chords: its first entry not below s is the count of those below. Assumes nothing.
use mathlib.Core.Path.{◌≡◌}
use mathlib.Core.List.{List}
use Prim.Native.Nat.{ℕ}
use lib.Ieee.{Float, lt}
use Rattle.views.specs.Search.{first_false, count}
use Rattle.real.specs.Operators.{◌⊕◌, ◌⊗◌}
use Rattle.real.specs.Sums.{running}
use Rattle.real.proofs.Tables.{Rising, square_rises, sum_rises, root_rises, first_is-count}
use Rattle.geom.specs.declared.point.P.{P}
use Rattle.geom.specs.Point.{len, dist}
use Rattle.cubic.specs.Sample.{chord}

pub len_rises : (a : P) → Rising (len a)
unfolding len
len_rises a = root_rises (a.x ⊗ a.x ⊕ a.y ⊗ a.y) (sum_rises (a.x ⊗ a.x) (a.y ⊗ a.y) (square_rises a.x) (square_rises a.y))

pub chord_rises : (c : List P) (n k : ℕ) → Rising (chord c n k)
unfolding chord dist
chord_rises c n k = len_rises _

pub chord_first : (c : List P) (chords : ℕ) (s : Float) (n : ℕ) → first_false (λ k. lt (running (chord c chords) k) s) n ≡ count (λ k. lt (running (chord c chords) k) s) n
chord_first c chords s n = first_is-count (chord c chords) (chord_rises c chords) n s
