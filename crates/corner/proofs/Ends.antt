-- Where a cut meets its sides does not turn on the kind. Assumes nothing.
use mathlib.Core.Path.{◌≡◌, refl}
use Prim.Native.Nat.{ℕ}
use lib.Ieee.{Float}
use Rattle.corner.specs.declared.corner.Corner.{Corner}
use Rattle.corner.specs.declared.cut.Cut.{Cut}
use Rattle.corner.specs.declared.kind.CornerKind.{CornerKind}
use Rattle.corner.specs.Cut.{cut}

pub record SameEnds (a b : Cut) : Type 0 where
  pub tu : a.tu ≡ b.tu
  pub tv : a.tv ≡ b.tv
  pub start : a.start ≡ b.start
  pub end : a.end ≡ b.end

pub cut_ends : (chords : ℕ) (c : Corner) (radius : Float) (kind other : CornerKind) → SameEnds (cut chords c radius kind) (cut chords c radius other)
unfolding cut
cut_ends chords c radius kind other = record { tu = refl; tv = refl; start = refl; end = refl }
