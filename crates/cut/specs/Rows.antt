-- What the passes of the cut hand on. Not part of any promise: the outer contracts do not speak of it. Assumes nothing.
use Rattle.std.specs.Prelude.{ℕ, ◌<◌, ◌≡◌, Bool, true, cond, Option, Some, None, option_map, List, get_or, Float}
use Rattle.std.specs.Option.{option_map_or}
use Rattle.real.specs.Operators.{0f}
use Rattle.real.specs.StandIns.{max, min}
use Rattle.corner.specs.declared.corner.Corner.{Corner}
use Rattle.corner.specs.declared.cut.Cut.{Cut}
use Rattle.corner.specs.Corner.{Unmeasured, setback, max_radius_beside}
use Rattle.cut.specs.declared.rows.Row.{Row}
use Rattle.path.specs.Shape.{prev, next}
use Rattle.cut.specs.View.{View, leaves}
use Rattle.cut.specs.Near.{near}
use Rattle.cut.specs.Places.{corner_at, asked_at, cut_at}

unfoldable pub row_of : Corner → Float → Row
row_of c radius = record { u = c.u; v = c.v; lu = c.lu; lv = c.lv; asked = setback c (max radius 0f) }

-- the row of the corner at index i, if there is one, before its curved sides are measured
pub record RowHeld (v : View) (i : ℕ) (r : Option Row) : Type 0 where
  pub corner : Option Corner
  pub unmeasured : Unmeasured v.chords corner (corner_at v i)
  pub is : r ≡ option_map (λ c. row_of c (v.radius i)) corner

-- how far a row asks for its sides: 0 where there is no corner
unfoldable pub asked_in : Option Row → Float
asked_in r = option_map_or (λ k. k.asked) r 0f

unfoldable pub fitted_of : Corner → Float → Float → Float → Float
fitted_of c radius before after = min (max radius 0f) (max_radius_beside c before after)

-- a flag: top bit 1 where cut
abbrev pub flag_of : Bool → ℕ
flag_of b = cond b 2147483648 0

-- the rows of the corners within k steps of `at`
pub record HoldsRows (v : View) (k at : ℕ) (rows : List (Option Row)) : Type 0 where
  pub row : (i : ℕ) → i < v.n → near k v.n v.closed at i ≡ true → RowHeld v i (get_or rows i None)

-- what the cut at index i reads of the rows: its own, and what its neighbours ask where it is a corner
pub record HoldsBeside (v : View) (i : ℕ) (rows : List (Option Row)) : Type 0 where
  pub here : RowHeld v i (get_or rows i None)
  pub beside : (c : Corner) → corner_at v i ≡ Some c
      → (asked_in (get_or rows (prev v.n i) None) ≡ asked_at v (prev v.n i)) × (asked_in (get_or rows (next v.n i) None) ≡ asked_at v (next v.n i))

-- the cuts there
pub record HoldsCuts (v : View) (k at : ℕ) (cuts : List (Option Cut)) : Type 0 where
  pub made : (i : ℕ) → i < v.n → near k v.n v.closed at i ≡ true → get_or cuts i None ≡ cut_at v i

-- the same at the ends of the segment that leaves j alone
pub record HoldsEnds (v : View) (j : ℕ) (cuts : List (Option Cut)) : Type 0 where
  pub leaving : leaves v j ≡ true
  pub made : get_or cuts j None ≡ cut_at v j
  pub made-next : get_or cuts (next v.n j) None ≡ cut_at v (next v.n j)
