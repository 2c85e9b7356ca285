-- The corners of a path, in order, and the nine numbers that are told of each, after 000's `path_corners`. Assumes nothing.
use Rattle.std.specs.Prelude.{ℕ, zero, suc, ◌-◌, ◌*◌, ◌/◌, ◌%◌, ◌<◌, ◌≡◌, Bool, cond, Option, List, [], ◌∷◌, ◌++◌, length, get_or, Float}
use Rattle.std.specs.Option.{is_some, option_map_or}
use Rattle.std.proofs.lemmas.List.Edits.{sets}
use Rattle.views.specs.View.{entry}
use Rattle.real.specs.Operators.{0f}
use Rattle.path.specs.Flat.{anchor_at}
use Rattle.path.specs.Shape.{total, start, sub_of}
use Rattle.corner.specs.declared.corner.Corner.{Corner}
use Rattle.corner.specs.declared.kind.CornerKind.TheVariants.{Round}
use Rattle.corner.specs.Corner.{max_radius}
use Rattle.cut.specs.declared.subpath.Sub.{Sub}
use Rattle.cut.specs.View.{View}
use Rattle.cut.specs.Subpath.{view_of}
use Rattle.cut.specs.Places.{corner_at}
use Rattle.cut_calls.specs.PlainCut.{sub_at}

-- a subpath's view, with 128 chords: what a corner is turns on no radius and no kind
unfoldable pub plain_view : List Float → Sub → View
plain_view anchors sub = view_of (anchor_at anchors) (λ k. 0f) (λ k. Round) 128 sub

-- the corner at place k of a path, if there is one
unfoldable pub path_corner : List ℕ → List Float → ℕ → Option Corner
path_corner shapes anchors k = let s = sub_of shapes k in corner_at (plain_view anchors (sub_at shapes s)) (k - start shapes s)

-- the indices below n that pass, in order
unfoldable pub chosen : (ℕ → Bool) → ℕ → List ℕ
chosen p zero = []
chosen p (suc n) = chosen p n ++ cond (p n) (n ∷ []) []

-- the places below n at which there is a corner
unfoldable pub found_below : (ℕ → Option Corner) → ℕ → List ℕ
found_below corner n = chosen (λ k. is_some (corner k)) n

unfoldable pub corner_places : List ℕ → List Float → List ℕ
corner_places shapes anchors = found_below (path_corner shapes anchors) (total shapes)

-- ---- what is told of a corner: the point, the directions and lengths of its sides, and the largest radius
unfoldable pub corner_numbers : Corner → List Float
corner_numbers c = c.at.x ∷ c.at.y ∷ c.u.x ∷ c.u.y ∷ c.v.x ∷ c.v.y ∷ c.lu ∷ c.lv ∷ max_radius c ∷ []

-- number j of the corners at the places ps, nine each; 0 where there is none
unfoldable pub numbers_of : (ℕ → Option Corner) → List ℕ → ℕ → Float
numbers_of corner ps j = option_map_or (λ c. entry (corner_numbers c) (j % 9)) (corner (get_or ps (j / 9) 0)) 0f

-- xs with corner i's put to c's
unfoldable pub put_corner : List Float → ℕ → Corner → List Float
put_corner xs i c = sets xs (i * 9) (corner_numbers c)

-- ---- what the search hands on: lists in front of which the n corners stand that were found below place k
pub record Holds (corner : ℕ → Option Corner) (k : ℕ) (at : List ℕ) (rows : List Float) (n : ℕ) : Type 0 where
  pub count : n ≡ length (found_below corner k)
  pub place : (i : ℕ) → i < n → get_or at i 0 ≡ get_or (found_below corner k) i 0
  pub number : (j : ℕ) → j < n * 9 → entry rows j ≡ numbers_of corner (found_below corner k) j
