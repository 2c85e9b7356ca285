-- A tape (request 6/14): an open outline of any number of anchors, each with its radius and the kind of its cut, in a list. Assumes nothing.
use Rattle.std.specs.Prelude.{ℕ, ◌+◌, ◌-◌, false, cond, List, [], ◌∷◌, ◌++◌, ltb, length, get_or, take, drop, Float}
use Rattle.views.specs.View.{tabulate}
use Rattle.real.specs.Operators.{0f}
use Rattle.geom.specs.Point.{origin}
use Rattle.path.specs.declared.anchor.Anchor.{Anchor}
use Rattle.path.specs.Anchor.{without_handles}
use Rattle.corner.specs.declared.kind.CornerKind.{CornerKind}
use Rattle.corner.specs.declared.kind.CornerKind.TheVariants.{Round}
use Rattle.cut.specs.declared.places.Place.{Place}
use Rattle.cut.specs.View.{View}
use Rattle.cut.specs.Places.{place_at}

-- what is fed at once
pub record Knot : Type 0 where
  pub anchor : Anchor
  pub radius : Float
  pub kind : CornerKind

-- the knot at index i, and any one past the end
unfoldable pub knot_at : List Knot → ℕ → Knot
knot_at xs i = get_or xs i (record { anchor = without_handles origin; radius = 0f; kind = Round })

-- a list of knots as an open subpath
unfoldable pub tape_view : ℕ → List Knot → View
tape_view chords xs =
    record { n = length xs; closed = false; chords = chords; anchor = λ i. (knot_at xs i).anchor; radius = λ i. (knot_at xs i).radius; kind = λ i. (knot_at xs i).kind }

-- its fresh cache, place by place, whatever its length
unfoldable pub tape_places : ℕ → List Knot → List Place
tape_places chords xs = tabulate (length xs) (place_at (tape_view chords xs))

-- the knots from i - 3 to i + 3, as far as there are such
unfoldable pub window : List Knot → ℕ → List Knot
window xs i = take (i + 4 - (i - 3)) (drop (i - 3) xs)

-- ---- fed knot by knot
-- how many knots after it decide a place, so that it comes out so late; and how many are held: as many on each side of the one whose place comes out next
abbrev pub tape_lag : ℕ
tape_lag = 3

abbrev pub tape_held : ℕ
tape_held = 7

-- the last ones
unfoldable pub held : List Knot → List Knot
held xs = drop (length xs - tape_held) xs

-- what a feed gives out, by the knots then held: the place of the one that now has three after it
unfoldable pub given : ℕ → List Knot → List Place
given chords w = cond (ltb (length w) (tape_lag + 1)) [] (place_at (tape_view chords w) (length w - (tape_lag + 1)) ∷ [])

-- what finishing gives out: the places of the last three
unfoldable pub rest : ℕ → List Knot → List Place
rest chords w = drop (length w - tape_lag) (tape_places chords w)

-- the knots fed one after the other to a tape that holds w: what it then holds, and all that it has given out
unfoldable pub held_after : List Knot → List Knot → List Knot
held_after w [] = w
held_after w (x ∷ xs) = held_after (held (w ++ x ∷ [])) xs

unfoldable pub given_after : ℕ → List Knot → List Knot → List Place
given_after chords w [] = []
given_after chords w (x ∷ xs) = let v = held (w ++ x ∷ []) in given chords v ++ given_after chords v xs
