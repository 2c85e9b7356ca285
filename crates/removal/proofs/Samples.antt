-- `delete` on samples: an anchor goes, a subpath with too few left goes, wherever it stands. Assumes nothing.
use mathlib.Core.Path.{◌≡◌, refl}
use mathlib.Core.Bool.{true, false}
use mathlib.Core.List.{List, [], ◌∷◌}
use Prim.Native.Nat.{ℕ}
use lib.Ieee.{Float}
use Rattle.views.specs.Search.{all}
use Rattle.path.specs.Flat.{anchor_at}
use Rattle.path.specs.Shape.{word_of, has_anchor}
use Rattle.removal.specs.Deleted.{whole_pairs, points_in, names, unnamed, keeps, retained, suffices, subpath_left, subpath_stays, word_left, words_up_to, anchors_up_to, kept_words, kept_anchors, deleted_words, deleted_anchors}

-- closed subpaths of three and four anchors, an open one of two
abbrev triangle : ℕ
triangle = 0x8000_0003

abbrev square : ℕ
square = 0x8000_0004

abbrev segment : ℕ
segment = 2

module _ (xs : List Float) where
  -- a square without its anchor 1, which is named twice
  one_goes : (deleted_words (square ∷ []) xs (0 ∷ 1 ∷ 0 ∷ 1 ∷ []) ≡ triangle ∷ [])
      × (deleted_anchors (square ∷ []) xs (0 ∷ 1 ∷ 0 ∷ 1 ∷ []) ≡ anchor_at xs 0 ∷ anchor_at xs 2 ∷ anchor_at xs 3 ∷ [])
  unfolding deleted_words deleted_anchors kept_words kept_anchors words_up_to anchors_up_to subpath_stays word_left subpath_left suffices retained keeps unnamed names all word_of
  one_goes = (refl, refl)

  -- two of its anchors leave too few; a triangle after it stays
  square_goes : (deleted_words (square ∷ triangle ∷ []) xs (0 ∷ 3 ∷ 0 ∷ 0 ∷ []) ≡ triangle ∷ [])
      × (deleted_anchors (square ∷ triangle ∷ []) xs (0 ∷ 3 ∷ 0 ∷ 0 ∷ []) ≡ anchor_at xs 4 ∷ anchor_at xs 5 ∷ anchor_at xs 6 ∷ [])
  unfolding deleted_words deleted_anchors kept_words kept_anchors words_up_to anchors_up_to subpath_stays word_left subpath_left suffices retained keeps unnamed names all word_of
  square_goes = (refl, refl)

  -- with nothing named, empty subpaths go, and closed ones of two anchors; an open one of two stays
  too_few_go : (deleted_words (0 ∷ 0x8000_0002 ∷ segment ∷ 0x8000_0000 ∷ 1 ∷ []) xs [] ≡ segment ∷ [])
      × (deleted_anchors (0 ∷ 0x8000_0002 ∷ segment ∷ 0x8000_0000 ∷ 1 ∷ []) xs [] ≡ anchor_at xs 2 ∷ anchor_at xs 3 ∷ [])
  unfolding deleted_words deleted_anchors kept_words kept_anchors words_up_to anchors_up_to subpath_stays word_left subpath_left suffices retained keeps unnamed names all word_of
  too_few_go = (refl, refl)

-- the triangle of a square and a triangle has no anchor 3; a third number is no pair
points : (all (points_in (square ∷ triangle ∷ []) (0 ∷ 3 ∷ 1 ∷ 2 ∷ [])) 2 ≡ true) × (all (points_in (square ∷ triangle ∷ []) (0 ∷ 3 ∷ 1 ∷ 3 ∷ [])) 2 ≡ false)
    × (whole_pairs (0 ∷ 3 ∷ 1 ∷ []) ≡ false)
unfolding points_in has_anchor all whole_pairs
points = (refl, refl, refl)
