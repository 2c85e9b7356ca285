-- The places of a subpath within reach of an index, and the limit on their numbers. Assumes nothing.
use Rattle.std.specs.Prelude.{ℕ, ◌+◌, ◌-◌, ◌≤◌, ◌<◌, Bool, not, ◌&&◌, ◌||◌, leb, ltb}
use Rattle.views.specs.View.{entry}
use Rattle.views.specs.Search.{all}
use Rattle.real.specs.Limit.{in_limit}
use Rattle.cut.specs.declared.subpath.Sub.{Sub}
use Rattle.cut.specs.declared.subpath.Window.{Window}
use Rattle.cut.specs.View.{View}
use Rattle.cut.specs.Near.{near}
use Rattle.cut.specs.Places.{place_at, place_numbers}

-- the subpath is of a path that is not too large, and the window is about one of its indices, of four steps at most
pub record Around (sub : Sub) (w : Window) : Type 0 where
  pub few : sub.first + sub.n ≤ 1024
  pub index : w.at < sub.n
  pub reach : w.reach ≤ 4

-- place k of the path is an index of the subpath within reach
unfoldable pub reached_in : Sub → Window → ℕ → Bool
reached_in sub w k = leb sub.first k && (ltb k (sub.first + sub.n) && near w.reach sub.n sub.closed w.at (k - sub.first))

-- a place within reach passes a test
unfoldable pub passes_near : Sub → Window → (ℕ → Bool) → ℕ → Bool
passes_near sub w t k = not (reached_in sub w k) || t k

-- the twelve numbers of place k are in the limit, if it is within reach
unfoldable pub good_near : View → Sub → Window → ℕ → Bool
good_near v sub w = passes_near sub w (λ k. all (λ q. in_limit (entry (place_numbers (place_at v (k - sub.first))) q)) 12)
