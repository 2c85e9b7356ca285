-- The plain cut of a drawing and its text, and the outline that a cache holds (document 01, 'Plain cut', 'Kept outline', 'Text'). Assumes nothing.
use Rattle.std.specs.Prelude.{ℕ, ◌-◌, Bool, List, length}
use Rattle.std.specs.Float.Ieee.{lt}
use Rattle.views.specs.View.{tabulate}
use Rattle.cubic.specs.Cubic.{CEPS}
use Rattle.path.specs.declared.anchor.Anchor.{Anchor}
use Rattle.path.specs.Flat.{nth}
use Rattle.path.specs.Shape.{start, sub_of}
use Rattle.cut.specs.Places.{fitted_at}
use Rattle.assembly.specs.Assembled.{place_read, outline_words}
use Rattle.cut_calls.specs.PlainCut.{cut_up_to, cut_shape}
use Rattle.svg.specs.Path.{text_of}
use Rattle.session.specs.Drawing.{Drawing, Lent, view_in}
use Rattle.cache.specs.Calls.{held_outline}

-- shape words and anchors
pub record Outline : Type 0 where
  pub words : List ℕ
  pub anchors : List Anchor

-- the plain cut: `cut_corners` of each subpath, one after the other
unfoldable pub plain_cut : Drawing → Outline
plain_cut d = record { words = tabulate (length d.shapes) (cut_shape (view_in d)); anchors = cut_up_to (view_in d) (length d.shapes) }

-- its text
unfoldable pub plain_text : Drawing → List ℕ
plain_text d = let o = plain_cut d in text_of o.words (nth o.anchors)

-- the fitted radius at place k exceeds 1e-9
unfoldable pub cut_in : Drawing → ℕ → Bool
cut_in d k = let s = sub_of d.shapes k in lt CEPS (fitted_at (view_in d s) (k - start d.shapes s))

-- ---- what the cache's lists hold, put together
unfoldable pub assembled_from : Lent → Outline
assembled_from l =
    record { words = outline_words l.shapes (place_read l.numbers l.flags); anchors = held_outline l.shapes l.numbers l.flags }
