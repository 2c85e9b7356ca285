-- A subpath seen as functions of the index: what the corner cut reads. Assumes nothing.
use Rattle.std.specs.Prelude.{ℕ, ◌+◌, Bool, ◌||◌, ltb, Float}
use Rattle.path.specs.declared.anchor.Anchor.{Anchor}
use Rattle.corner.specs.declared.kind.CornerKind.{CornerKind}

-- n anchors, each with the radius that is set there and the kind of its cut; `chords` for a curve's length
pub record View : Type 0 where
  pub n : ℕ
  pub closed : Bool
  pub chords : ℕ
  pub anchor : ℕ → Anchor
  pub radius : ℕ → Float
  pub kind : ℕ → CornerKind

-- whether a segment arrives at i, and whether one leaves it
unfoldable pub arrives : View → ℕ → Bool
arrives v i = v.closed || ltb 0 i

unfoldable pub leaves : View → ℕ → Bool
leaves v i = v.closed || ltb (i + 1) v.n
