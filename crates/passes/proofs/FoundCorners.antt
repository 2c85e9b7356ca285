-- Corners by their rows: in which directions a corner's sides leave, a row tells, and what it leaves out the anchors give. Assumes nothing.
use mathlib.Core.Path.{◌≡◌, refl, ap, sym, subst, ◌∙◌}
use mathlib.Core.Bool.{Bool, true, false, ◌&&◌, cond}
use Prim.Native.Nat.{ℕ, suc, ◌+◌, ◌≤◌, ◌<◌}
use native.Mathlib.Omega.{arith}
use lib.Ieee.{Float, lt}
use Rattle.std.proofs.Common.{Option, Some, None, option_map, List, get_or}
use Rattle.std.specs.Option.{option_map_or}
use Rattle.real.specs.Operators.{0f}
use Rattle.real.specs.StandIns.{max}
use Rattle.geom.specs.declared.point.P.{P}
use Rattle.cubic.specs.Cubic.{CEPS}
use Rattle.path.specs.declared.anchor.Anchor.{Anchor}
use Rattle.path.specs.Anchor.{is_smooth}
use Rattle.path.specs.Shape.{prev, next}
use Rattle.side.specs.declared.side.Side.{Side}
use Rattle.corner.specs.declared.corner.Corner.{Corner}
use Rattle.side.specs.Side.{direction, length_of, OnLine}
use Rattle.corner.specs.Corner.{side_before, side_after, cos, sin, with_lengths, sharp, meet, between, corner_of, setback}
use Rattle.corner.proofs.Measures.{same_some, none_some}
use Rattle.cut.specs.declared.rows.Row.{Row}
use Rattle.cut.specs.View.{View, arrives, leaves}
use Rattle.cut.specs.Near.{near}
use Rattle.cut.specs.Places.{corner_at, own_at, asked_at, fitted_at}
use Rattle.cut.specs.Rows.{row_of, RowHeld, asked_in, fitted_of, HoldsRows, HoldsBeside}
use Rattle.cut.proofs.Steps.{prev-lt, next-lt, near_more, near-prev, near_next}
use Rattle.cut.proofs.Follow.{inner}

-- ---- a corner that there is: its point, its directions, and its sides, measured
abbrev Made : ℕ → P → Side → Side → Corner → Type 0
Made chords at su sv c = record { at = at; u = c.u; v = c.v; lu = length_of chords su; lv = length_of chords sv; side_u = su; side_v = sv } ≡ c

meet-made : (chords : ℕ) (at u v : P) (su sv : Side) (c : Corner) → meet chords at u v su sv ≡ Some c → Made chords at su sv c
unfolding meet
meet-made chords at u v su sv c = go (sharp k)
  where
    k : Corner
    k = record { at = at; u = u; v = v; lu = length_of chords su; lv = length_of chords sv; side_u = su; side_v = sv }

    go : (b : Bool) → cond b (Some k) None ≡ Some c → Made chords at su sv c
    go true h = subst (Made chords at su sv) (same_some k c h) refl
    go false h = absurd (none_some c h)

between-made : (chords : ℕ) (at : P) (su sv : Side) (d e : Option P) (c : Corner) → between chords at su sv d e ≡ Some c → Made chords at su sv c
unfolding between
between-made chords at su sv (Some u) (Some v) c h = meet-made chords at u v su sv c h
between-made chords at su sv (Some u) None c h = absurd (none_some c h)
between-made chords at su sv None e c h = absurd (none_some c h)

of-made : (chords : ℕ) (a p q : Anchor) (c : Corner) → corner_of chords a p q ≡ Some c → Made chords a.p (side_before a p) (side_after a q) c
unfolding corner_of
of-made chords a p q c = go (is_smooth a)
  where
    su : Side
    su = side_before a p

    sv : Side
    sv = side_after a q

    go : (b : Bool) → cond b None (between chords a.p su sv (direction su) (direction sv)) ≡ Some c → Made chords a.p su sv c
    go true h = absurd (none_some c h)
    go false h = between-made chords a.p su sv (direction su) (direction sv) c h

module _ (v : View) (i : ℕ) where
  abbrev pub before_side : Side
  before_side = side_before (v.anchor i) (v.anchor (prev v.n i))

  abbrev pub after_side : Side
  after_side = side_after (v.anchor i) (v.anchor (next v.n i))

  pub corner-of : (c : Corner) → corner_at v i ≡ Some c → Made v.chords (v.anchor i).p before_side after_side c
  unfolding corner_at
  corner-of c = go (arrives v i && leaves v i)
    where
      go : (b : Bool) → cond b (corner_of v.chords (v.anchor i) (v.anchor (prev v.n i)) (v.anchor (next v.n i))) None ≡ Some c
          → Made v.chords (v.anchor i).p before_side after_side c
      go true h = of-made v.chords (v.anchor i) (v.anchor (prev v.n i)) (v.anchor (next v.n i)) c h
      go false h = absurd (none_some c h)

  -- the same, from parts that are equal to these
  pub corner-made : (c : Corner) → corner_at v i ≡ Some c → (at du dv : P) (lu lv : Float) (su sv : Side) → at ≡ (v.anchor i).p → du ≡ c.u → dv ≡ c.v
      → su ≡ before_side → sv ≡ after_side → lu ≡ length_of v.chords su → lv ≡ length_of v.chords sv
      → corner_at v i ≡ Some (record { at = at; u = du; v = dv; lu = lu; lv = lv; side_u = su; side_v = sv })
  corner-made c e at du dv lu lv su sv p q r s t x y = e ∙ ap Some (sym (rw (x, y, p, q, r, s, t) (corner-of c e)))

  -- its sides are those that the anchors give, and it is measured
  pub sides : (c : Corner) → corner_at v i ≡ Some c → (c.side_u ≡ before_side) × (c.side_v ≡ after_side)
  sides c e = (sym (ap (λ (k : Corner). k.side_u) (corner-of c e)), sym (ap (λ (k : Corner). k.side_v) (corner-of c e)))

  pub measured : (c : Corner) → corner_at v i ≡ Some c → with_lengths v.chords c ≡ c
  unfolding with_lengths
  measured c e = subst (λ (k : Corner). with_lengths v.chords k ≡ k) (corner-of c e) refl

  -- ---- what a row tells
  pub held-none : RowHeld v i None → corner_at v i ≡ None
  held-none h = go h.corner h.unmeasured.is h.is
    where
      go : (c : Option Corner) → option_map (with_lengths v.chords) c ≡ corner_at v i → None ≡ option_map (λ k. row_of k (v.radius i)) c → corner_at v i ≡ None
      go None m e = sym m
      go (Some k) m e = let z : ◌≡◌ {A = ℕ} 0 1 = cc in absurd (omega arith)

  -- the corner whose row this is
  pub record Known (r : Row) : Type 0 where
    pub before : Corner
    pub is : corner_at v i ≡ Some (with_lengths v.chords before)
    pub line_u : OnLine v.chords before.side_u before.lu
    pub line_v : OnLine v.chords before.side_v before.lv
    pub row : r ≡ row_of before (v.radius i)

  pub held-some : (r : Row) → RowHeld v i (Some r) → Known r
  held-some r h = go h.corner h.unmeasured.is h.unmeasured.lines h.is
    where
      go : (c : Option Corner) → option_map (with_lengths v.chords) c ≡ corner_at v i
          → ((d : Corner) → c ≡ Some d → OnLine v.chords d.side_u d.lu × OnLine v.chords d.side_v d.lv)
          → Some r ≡ option_map (λ k. row_of k (v.radius i)) c → Known r
      go None m l e = let z : ◌≡◌ {A = ℕ} 0 1 = cc in absurd (omega arith)
      go (Some k) m l e = record { before = k; is = sym m; line_u = (l k refl).0; line_v = (l k refl).1; row = cc }

  -- its first length is above 1e-9
  pub row_long : (r : Row) → RowHeld v i (Some r) → lt CEPS r.lu ≡ true
  unfolding row_of
  row_long r h = go h.corner h.unmeasured.long h.is
    where
      go : (c : Option Corner) → ((d : Corner) → c ≡ Some d → lt CEPS d.lu ≡ true) → Some r ≡ option_map (λ k. row_of k (v.radius i)) c → lt CEPS r.lu ≡ true
      go None l e = let z : ◌≡◌ {A = ℕ} 0 1 = cc in absurd (omega arith)
      go (Some k) l e = let q : r ≡ row_of k (v.radius i) = cc in subst (λ (s : Row). lt CEPS s.lu ≡ true) (sym q) (l k refl)

  pub asked-held : (r : Option Row) → RowHeld v i r → asked_in r ≡ asked_at v i
  unfolding asked_in asked_at own_at row_of setback cos sin with_lengths
  asked-held r h = rw (h.is, ← h.unmeasured.is) (go h.corner)
    where
      go : (c : Option Corner) → option_map_or (λ (k : Row). k.asked) (option_map (λ k. row_of k (v.radius i)) c) 0f
          ≡ option_map_or (λ k. setback k (max (v.radius i) 0f)) (option_map (with_lengths v.chords) c) 0f
      go None = refl
      go (Some k) = refl

-- ---- an index within one step more than the reach, where the rows are held within two
module _ (v : View) (k at : ℕ) (rows : List (Option Row)) (inside : at ≤ v.n) (i : ℕ) (l : i < v.n) (e : near (k + 1) v.n v.closed at i ≡ true)
    (h : HoldsRows v (k + 2) at rows) where
  held : (j : ℕ) → j < v.n → near (suc (k + 1)) v.n v.closed at j ≡ true → RowHeld v j (get_or rows j None)
  held j b q = let z : k + 2 ≡ suc (k + 1) = omega arith in h.row j b (rw z q)

  pub held_beside : HoldsBeside v i rows
  unfolding arrives leaves
  held_beside = record {
    here = held i l (near_more (k + 1) v.n v.closed at i e);
    beside = λ c f.
        let b = inner v i c f in (
          asked-held v (prev v.n i) _ (held (prev v.n i) (prev-lt v.n i l) (near-prev (k + 1) v.n v.closed at i inside l b.0 e)),
          asked-held v (next v.n i) _ (held (next v.n i) (next-lt v.n i l) (near_next (k + 1) v.n v.closed at i inside l b.1 e)),
        );
  }

pub fitted-held : (v : View) (i : ℕ) (rows : List (Option Row)) → HoldsBeside v i rows → (c : Corner) → corner_at v i ≡ Some c
    → fitted_of c (v.radius i) (asked_in (get_or rows (prev v.n i) None)) (asked_in (get_or rows (next v.n i) None)) ≡ fitted_at v i
unfolding fitted_of fitted_at own_at
fitted-held v i rows h c f = let b = h.beside c f in rw (f, b.0, b.1) refl
