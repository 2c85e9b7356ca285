-- The cut cache (document 01, 'Kept outline'): what a list of twelve numbers a place and a list of flags hold of places. Assumes nothing.
use Rattle.std.specs.Prelude.{ℕ, ◌-◌, ◌/◌, ◌%◌, Bool, List, Float}
use Rattle.views.specs.View.{entry}
use Rattle.views.specs.Search.{all}
use Rattle.real.specs.Limit.{in_limit}
use Rattle.path.specs.Shape.{start, sub_of}
use Rattle.cut.specs.declared.places.Place.{Place}
use Rattle.cut.specs.View.{View}
use Rattle.cut.specs.Places.{place_at, place_numbers}
use Rattle.cut.specs.Rows.{flag_of}

-- what the cut leaves at place k of a path whose subpaths have these views
unfoldable pub place_of_path : List ℕ → (ℕ → View) → ℕ → Place
place_of_path shapes view k = let s = sub_of shapes k in place_at (view s) (k - start shapes s)

-- number j and flag k of the places f 0, f 1, ..
unfoldable pub cached_numbers : (ℕ → Place) → ℕ → Float
cached_numbers f j = entry (place_numbers (f (j / 12))) (j % 12)

unfoldable pub cached_flags : (ℕ → Place) → ℕ → ℕ
cached_flags f k = flag_of (f k).cut

-- the twelve numbers of place k are within the limit
unfoldable pub cached_in : (ℕ → Place) → ℕ → Bool
cached_in f k = all (λ i. in_limit (entry (place_numbers (f k)) i)) 12
