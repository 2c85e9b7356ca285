-- Drawings, and the lists lent for a drawing and its cache (document 01, 'Points, root, cubics', 'Kept outline'). Assumes nothing.
use Rattle.std.specs.Prelude.{ℕ, List, Float}
use Rattle.views.specs.View.{entry}
use Rattle.path.specs.declared.anchor.Anchor.{Anchor}
use Rattle.path.specs.Flat.{anchor_at}
use Rattle.corner.specs.declared.kind.CornerKind.{CornerKind}
use Rattle.corner.specs.declared.kind.CornerKind.TheVariants.{Round}
use Rattle.cut.specs.View.{View}
use Rattle.cut.specs.Subpath.{view_of}
use Rattle.std.specs.Prelude.{Option}
use Rattle.corner.specs.declared.kind.CornerKind.{CornerKind}
use Rattle.std.specs.Prelude.{Some, None}
use Rattle.corner.specs.Kinds.{kind_of}
use Rattle.cut_calls.specs.PlainCut.{sub_at}

-- shape words, the kind by its number (document 01's head word), and what stands at each place
pub record Drawing : Type 0 where
  pub shapes : List ℕ
  pub kind : ℕ
  pub anchor : ℕ → Anchor
  pub radius : ℕ → Float

-- the kind of a number; one that is not known is refused before it is read
unfoldable pub corner_kind : Option CornerKind → CornerKind
corner_kind (Some k) = k
corner_kind None = Round

-- subpath s of a drawing, with 128 chords
unfoldable pub view_in : Drawing → ℕ → View
view_in d s = view_of d.anchor d.radius (λ k. corner_kind (kind_of d.kind)) 128 (sub_at d.shapes s)

-- the lists: a drawing's three, and the cache's two (twelve numbers and a flag a place)
pub record Lent : Type 0 where
  pub shapes : List ℕ
  pub anchors : List Float
  pub radii : List Float
  pub numbers : List Float
  pub flags : List ℕ

-- the drawing in them
unfoldable pub drawn : Lent → ℕ → Drawing
drawn l kind = record { shapes = l.shapes; kind = kind; anchor = anchor_at l.anchors; radius = entry l.radii }
