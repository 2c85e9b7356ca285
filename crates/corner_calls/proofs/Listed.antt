-- What the places of a path's corners are: as many as there are corners, in rising order, each of them one, and none left out. Assumes nothing.
use mathlib.Core.Path.{◌≡◌}
use mathlib.Core.Bool.{true}
use mathlib.Core.List.{List}
use Prim.Native.Nat.{ℕ, ◌<◌}
use lib.ListN.{length, get_or}
use lib.Ieee.{Float}
use Rattle.std.proofs.Common.{is_some}
use Rattle.views.specs.Search.{count}
use Rattle.path.specs.Shape.{total}
use Rattle.corner_calls.specs.Corners.{path_corner, found_below, corner_places}
use Rattle.corner_calls.proofs.Chosen.{chosen-count, chosen_in, chosen_rises, chosen_at}

module _ (shapes : List ℕ) (anchors : List Float) where
  pub corners_count : length (corner_places shapes anchors) ≡ count (λ k. is_some (path_corner shapes anchors k)) (total shapes)
  unfolding corner_places found_below
  corners_count = chosen-count _ (total shapes)

  pub corners_rise : (i j : ℕ) → i < j → j < length (corner_places shapes anchors) → get_or (corner_places shapes anchors) i 0 < get_or (corner_places shapes anchors) j 0
  unfolding corner_places found_below
  corners_rise i j l h = chosen_rises _ (total shapes) i j l h

  pub corners_found : (i : ℕ) → i < length (corner_places shapes anchors)
      → (get_or (corner_places shapes anchors) i 0 < total shapes) × (is_some (path_corner shapes anchors (get_or (corner_places shapes anchors) i 0)) ≡ true)
  unfolding corner_places found_below
  corners_found i l = chosen_in _ (total shapes) i l

  -- corner k stands at the count of those before it
  pub corners_all : (k : ℕ) → k < total shapes → is_some (path_corner shapes anchors k) ≡ true
      → (count (λ j. is_some (path_corner shapes anchors j)) k < length (corner_places shapes anchors))
      × (get_or (corner_places shapes anchors) (count (λ j. is_some (path_corner shapes anchors j)) k) 0 ≡ k)
  unfolding corner_places found_below
  corners_all k l e = chosen_at _ (total shapes) k l e
