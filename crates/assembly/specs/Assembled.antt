-- The outline that places make of a path, and what the lists for it hold afterwards. Assumes nothing.
use Rattle.std.specs.Prelude.{ℕ, zero, suc, ◌+◌, ◌*◌, List, [], ◌++◌, leb, length, get_or, Float}
use Rattle.views.specs.View.{tabulate}
use Rattle.path.specs.declared.anchor.Anchor.{Anchor}
use Rattle.path.specs.Flat.{anchor_at}
use Rattle.path.specs.Shape.{count_of, closed_of, word_at, word_of, start}
use Rattle.cut.specs.declared.places.Place.{Place}
use Rattle.cut.specs.Outline.{assembled}

-- place k of lists: twelve numbers, and a flag whose top bit says whether it is cut
unfoldable pub place_read : List Float → List ℕ → ℕ → Place
place_read numbers flags k = record { cut = leb 2147483648 (get_or flags k 0); start = anchor_at numbers (2 * k); end = anchor_at numbers (2 * k + 1) }

-- the places from `first` on
abbrev pub places_from : List Float → List ℕ → ℕ → ℕ → Place
places_from numbers flags first = λ i. place_read numbers flags (first + i)

-- the outline of subpath s, from the places of the path
unfoldable pub subpath_outline : List ℕ → (ℕ → Place) → ℕ → List Anchor
subpath_outline shapes f s = assembled (count_of (word_at shapes s)) (closed_of (word_at shapes s)) (λ i. f (start shapes s + i))

-- of the first m subpaths, one after the other
unfoldable pub outline_up_to : List ℕ → (ℕ → Place) → ℕ → List Anchor
outline_up_to shapes f zero = []
outline_up_to shapes f (suc m) = outline_up_to shapes f m ++ subpath_outline shapes f m

unfoldable pub outline_of : List ℕ → (ℕ → Place) → List Anchor
outline_of shapes f = outline_up_to shapes f (length shapes)

-- the shape word of subpath s of the outline
unfoldable pub outline_shapes : List ℕ → (ℕ → Place) → ℕ → ℕ
outline_shapes shapes f s = word_of (length (subpath_outline shapes f s)) (closed_of (word_at shapes s))

-- all of them
abbrev pub outline_words : List ℕ → (ℕ → Place) → List ℕ
outline_words shapes f = tabulate (length shapes) (outline_shapes shapes f)
