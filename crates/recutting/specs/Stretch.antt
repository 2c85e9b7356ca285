-- A stretch of a subpath about a window: the anchors on which the places within reach turn, in a row, round the end where the subpath is closed. Assumes nothing.
use Rattle.std.specs.Prelude.{ℕ, ◌+◌, ◌*◌, ◌≤◌, ◌<◌, ◌≡◌, ◌⊎◌, true, false, cond, List, eqb, length, get_or, Float}
use Rattle.views.specs.View.{entry}
use Rattle.path.specs.declared.anchor.Anchor.{Anchor}
use Rattle.std.specs.Prelude.{Option, Some, None, Result, MatchResult}
use Rattle.refusal.specs.declared.Reason.TheVariants.{Made}
use Rattle.refusal.specs.declared.Refusal.{Refusal}
use Rattle.path.specs.Limit.{first_bad}
use Rattle.path.specs.Flat.{anchor_at}
use Rattle.corner.specs.declared.kind.CornerKind.{CornerKind}
use Rattle.cut.specs.declared.subpath.Sub.{Sub}
use Rattle.cut.specs.declared.subpath.Window.{Window}
use Rattle.cut.specs.View.{View}
use Rattle.cut.specs.Subpath.{view_of}
use Rattle.cut.specs.Near.{near, near_count, old}
use Rattle.cut.specs.Places.{is_cut, place_at, place_numbers}
use Rattle.cut.specs.Rows.{flag_of}
use Rattle.cut.specs.Unrolled.{unrolled, rolled}
use Rattle.recutting.specs.declared.stretches.Stretch.{Stretch}
use Rattle.recutting.specs.declared.stretches.Gathered.{Gathered}
use Rattle.recutting.specs.declared.plans.Plan.{Plan}
use Rattle.recutting.specs.Near.{good_near}

-- ---- which stretch
-- where one starts: at an index of n anchors, which are not too many
pub record Start (n from : ℕ) : Type 0 where
  pub few : n ≤ 1024
  pub inside : from < n

-- the whole subpath
pub record Whole (sub : Sub) (w : Window) (s : Stretch) : Type 0 where
  pub starts : s.from ≡ 0
  pub size : s.n ≡ sub.n
  pub closed : s.closed ≡ sub.closed
  pub middle : s.mid ≡ w.at

-- a part of it: three anchors and more on each side of the window, or up to an end of the subpath
pub record Part (sub : Sub) (w : Window) (s : Stretch) : Type 0 where
  pub straight : s.closed ≡ false
  pub within : sub.closed ≡ false → s.from + s.n ≤ sub.n
  pub middle : (s.from + s.mid ≡ w.at) ⊎ (s.from + s.mid ≡ w.at + sub.n)
  pub mid_in : s.mid < s.n
  pub low : (w.reach + 3 ≤ s.mid) ⊎ ((sub.closed ≡ false) × (s.from ≡ 0))
  pub high : (s.mid + w.reach + 3 < s.n) ⊎ ((sub.closed ≡ false) × (s.from + s.n ≡ sub.n))

pub record About (sub : Sub) (w : Window) (s : Stretch) : Type 0 where
  pub inside : s.from < sub.n
  pub few : s.n ≤ sub.n
  pub short : s.n ≤ 15
  pub middle : s.mid < s.n
  pub is : Whole sub w s ⊎ Part sub w s

-- ---- what it holds
-- the stretch s as a subpath of its own lists, and the window in it
abbrev pub stretch_sub : Stretch → Sub
stretch_sub s = record { first = 0; n = s.n; closed = s.closed }

abbrev pub stretch_view : List Float → List Float → CornerKind → Stretch → View
stretch_view anchors radii kind s = view_of (anchor_at anchors) (entry radii) (λ k. kind) 128 (stretch_sub s)

-- the lists hold the anchors and radii of the stretch s of a view v
pub record Stretched (v : View) (kind : CornerKind) (sub : Sub) (s : Stretch) (anchors radii : List Float) : Type 0 where
  pub size : v.n ≡ sub.n
  pub closed : v.closed ≡ sub.closed
  pub chords : v.chords ≡ 128
  pub anchor : (j : ℕ) → j < s.n → anchor_at anchors j ≡ v.anchor (unrolled sub.n s.from j)
  pub radius : (j : ℕ) → j < s.n → entry radii j ≡ v.radius (unrolled sub.n s.from j)
  pub kinds : (j : ℕ) → j < s.n → kind ≡ v.kind (unrolled sub.n s.from j)

-- they were gathered from the lists of a path; an anchor is put in after index `gap`
pub record From (anchors radii : List Float) (sub : Sub) (s : Stretch) (gap : ℕ) (g : Gathered) : Type 0 where
  pub anchors_long : length g.anchors ≡ 90
  pub radii_long : length g.radii ≡ 15
  pub anchor : (j : ℕ) → j < s.n → anchor_at g.anchors j ≡ anchor_at anchors (sub.first + old gap (unrolled sub.n s.from j))
  pub radius : (j : ℕ) → j < s.n → entry g.radii j ≡ entry radii (sub.first + old gap (unrolled sub.n s.from j))

-- ---- what is left
-- the lists hold the places of v within reach, each at the stretch's index
pub record HoldsNumbers (v : View) (sub : Sub) (w : Window) (from : ℕ) (numbers : List Float) : Type 0 where
  pub number : (i q : ℕ) → i < sub.n → near w.reach sub.n sub.closed w.at i ≡ true → q < 12
      → entry numbers (rolled sub.n from i * 12 + q) ≡ entry (place_numbers (place_at v i)) q

pub record HoldsFlags (v : View) (sub : Sub) (w : Window) (from : ℕ) (flags : List ℕ) : Type 0 where
  pub flag : (i : ℕ) → i < sub.n → near w.reach sub.n sub.closed w.at i ≡ true
      → get_or flags (rolled sub.n from i) 0 ≡ flag_of (is_cut v i)

-- the first place within reach that breaks the limit
unfoldable pub places_found : View → Sub → Window → Option ℕ
places_found v sub w = first_bad (good_near v sub w) (sub.first + sub.n)

-- accepted: how many are recut, and what they are
pub record Accepts (v : View) (sub : Sub) (w : Window) (p : Plan) : Type 0 where
  pub none : places_found v sub w ≡ None
  pub count : p.count ≡ near_count w.reach sub.n sub.closed w.at
  pub inside : p.from < sub.n
  pub few : (i : ℕ) → i < sub.n → near w.reach sub.n sub.closed w.at i ≡ true → rolled sub.n p.from i < 15
  pub numbers : HoldsNumbers v sub w p.from p.numbers
  pub flags : HoldsFlags v sub w p.from p.flags

-- decided: a plan, or 9 at the first bad place
abbrev pub Decides : View → Sub → Window → Result Plan Refusal → Type 0
Decides v sub w r = MatchResult r (Accepts v sub w) (λ why. (why.reason ≡ Made) × (places_found v sub w ≡ Some why.place))

-- ---- an edit of one anchor: v is a subpath of the path in the lists, with this anchor and this radius at index `at`
pub record Put (v : View) (kind : CornerKind) (sub : Sub) (at : ℕ) (a : Anchor) (radius : Float) (anchors radii : List Float) : Type 0 where
  pub size : v.n ≡ sub.n
  pub closed : v.closed ≡ sub.closed
  pub chords : v.chords ≡ 128
  pub anchor : (k : ℕ) → v.anchor k ≡ cond (eqb k at) a (anchor_at anchors (sub.first + k))
  pub set-radius : (k : ℕ) → v.radius k ≡ cond (eqb k at) radius (entry radii (sub.first + k))
  pub kinds : (k : ℕ) → kind ≡ v.kind k
