-- Which anchor `auto_smooth` puts anew, and that it is there. Assumes nothing.
use mathlib.Core.Path.{◌≡◌, refl}
use mathlib.Core.Bool.{Bool, and-false}
use mathlib.Core.List.{List}
use Prim.Native.Nat.{ℕ, ◌+◌, ◌≤◌, ◌<◌}
use native.Mathlib.Omega.{arith}
use lib.ListN.{length}
use lib.Ieee.{Float}
use borrow.Author.Tests.{lt-ltb, le-ltb, eq-eqb, ne_eqb}
use Rattle.path.specs.declared.anchor.Anchor.{Anchor}
use Rattle.path.specs.Shape.{count_of, closed_of, total, word_at, start}
use Rattle.path.specs.Flat.{anchor_at}
use Rattle.path.proofs.Shapes.{total_in}
use Rattle.std.proofs.Common.{Option}
use Rattle.geom.specs.declared.point.P.{P}
use Rattle.bend.specs.Smoothed.{point_before, point_after, smoothed, smoothed_at}
use Rattle.bend.specs.Edits.{smooth_at}

module _ (shapes : List ℕ) (s k : ℕ) where
  pub place_inside : s < length shapes → k < count_of (word_at shapes s) → start shapes s + k < total shapes
  place_inside h l = omega (arith, total_in shapes s h)

  module _ (anchors : List Float) where
    pub alone_kept : count_of (word_at shapes s) < 2 → (q : ℕ) → smooth_at shapes anchors s k q ≡ anchor_at anchors q
    unfolding smooth_at
    alone_kept h q = rw (le-ltb 1 (count_of (word_at shapes s)) (omega arith))

    pub others_kept : (q : ℕ) → (q ≡ start shapes s + k → ⊥) → smooth_at shapes anchors s k q ≡ anchor_at anchors q
    unfolding smooth_at
    others_kept q ne = rw (ne_eqb q (start shapes s + k) ne, and-false)

    pub put_anew : 2 ≤ count_of (word_at shapes s)
        → smooth_at shapes anchors s k (start shapes s + k) ≡ smoothed_at anchors (start shapes s) (count_of (word_at shapes s)) (closed_of (word_at shapes s)) k
    unfolding smooth_at
    put_anew h = rw (lt-ltb 1 (count_of (word_at shapes s)) (omega arith), eq-eqb (start shapes s + k) (start shapes s + k) refl)

    -- what the calls made it of
    pub made_of : (first n : ℕ) (closed : Bool) (before after : Option P) (o a : Anchor)
        → first ≡ start shapes s → n ≡ count_of (word_at shapes s) → closed ≡ closed_of (word_at shapes s)
        → before ≡ point_before anchors first n closed k → after ≡ point_after anchors first n closed k → o ≡ anchor_at anchors (first + k) → a ≡ smoothed before o after
        → a ≡ smoothed_at anchors (start shapes s) (count_of (word_at shapes s)) (closed_of (word_at shapes s)) k
    unfolding smoothed_at
    made_of first n closed before after o a ef en ec eb ea eo e = rw (← ef, ← en, ← ec, ← eb, ← ea, ← eo) e
