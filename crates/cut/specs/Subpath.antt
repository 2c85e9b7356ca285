-- A subpath in flat lists, seen as a view. Assumes nothing.
use Rattle.std.specs.Prelude.{ℕ, ◌+◌, ◌*◌, ◌≤◌, Float}
use Rattle.path.specs.declared.anchor.Anchor.{Anchor}
use Rattle.corner.specs.declared.kind.CornerKind.{CornerKind}
use Rattle.cut.specs.declared.subpath.Sub.{Sub}
use Rattle.cut.specs.declared.subpath.Window.{Window}
use Rattle.cut.specs.View.{View}

-- the view of a subpath, from what stands at each place of the path
unfoldable pub view_of : (ℕ → Anchor) → (ℕ → Float) → (ℕ → CornerKind) → ℕ → Sub → View
view_of anchor radius kind chords sub = record {
  n = sub.n;
  closed = sub.closed;
  chords = chords;
  anchor = λ i. anchor (sub.first + i);
  radius = λ i. radius (sub.first + i);
  kind = λ i. kind (sub.first + i);
}

-- its anchors are in the list, of so many numbers, of a path that is not too large
pub record Fits (sub : Sub) (numbers : ℕ) : Type 0 where
  pub small : sub.first + sub.n ≤ 1024
  pub long : (sub.first + sub.n) * 6 ≤ numbers

-- the window is about an index of it
pub record Inside (sub : Sub) (w : Window) : Type 0 where
  pub index : w.at ≤ sub.n
  pub few : w.reach ≤ 1024
