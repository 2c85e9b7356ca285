-- Lists of places after those within reach of an index were recut: by number and by flag, all others as they were. Assumes nothing.
use Rattle.std.specs.Prelude.{ℕ, ◌+◌, ◌-◌, ◌*◌, ◌/◌, ◌%◌, Bool, ◌&&◌, cond, List, leb, ltb, length, get_or, Float}
use Rattle.views.specs.View.{entry, tabulate}
use Rattle.path.specs.Flat.{put_anchor}
use Rattle.cut.specs.declared.places.Place.{Place}
use Rattle.cut.specs.View.{View}
use Rattle.cut.specs.Near.{near}
use Rattle.cut.specs.Places.{is_cut, place_at, place_numbers}
use Rattle.cut.specs.Rows.{flag_of}

-- the twelve numbers of place k put: those of its start, then those of its end
abbrev pub put_place : List Float → ℕ → Place → List Float
put_place xs k q = put_anchor (put_anchor xs (2 * k) q.start) (2 * k + 1) q.end

-- place k of the path is an index of the view v, which starts at `first`, within reach of `at`
unfoldable pub reached : View → ℕ → ℕ → ℕ → ℕ → Bool
reached v first reach at k = leb first k && (ltb k (first + v.n) && near reach v.n v.closed at (k - first))

unfoldable pub recut_numbers : View → ℕ → ℕ → ℕ → List Float → List Float
recut_numbers v first reach at xs =
    tabulate (length xs)
    (λ j. cond (reached v first reach at (j / 12)) (entry (place_numbers (place_at v (j / 12 - first))) (j % 12)) (entry xs j))

unfoldable pub recut_flags : View → ℕ → ℕ → ℕ → List ℕ → List ℕ
recut_flags v first reach at fs = tabulate (length fs) (λ k. cond (reached v first reach at k) (flag_of (is_cut v (k - first))) (get_or fs k 0))
