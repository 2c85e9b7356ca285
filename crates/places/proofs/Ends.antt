-- What the third pass reads of the second's list is what the definitions ask: at an index, and at both ends of a segment. Assumes nothing.
use mathlib.Core.Path.{◌≡◌, ap, ◌∙◌}
use mathlib.Core.Bool.{true, false, ◌||◌}
use mathlib.Core.List.{List}
use Prim.Native.Nat.{ℕ, suc, ◌+◌, ◌≤◌, ◌<◌}
use native.Mathlib.Numerals.{add-one}
use lib.ListN.{get_or}
use Rattle.std.proofs.Common.{Option, None, is_some}
use Rattle.path.specs.Shape.{prev, next}
use Rattle.corner.specs.declared.cut.Cut.{Cut}
use Rattle.cut.specs.View.{View, arrives, leaves}
use Rattle.cut.specs.Near.{near}
use Rattle.cut.specs.Places.{is_cut, cut_at, trim, trimmed_at}
use Rattle.cut.specs.Rows.{HoldsCuts, HoldsEnds}
use Rattle.cut.proofs.Outlines.{cut_made}
use Rattle.cut.proofs.Steps.{prev-lt, next-lt, next-prev, near_more, near-prev, near_next, leaves-prev}

-- ---- the ends of a segment
module _ (v : View) (j : ℕ) (cuts : List (Option Cut)) (h : HoldsEnds v j cuts) where
  made_here : is_some (get_or cuts j None) ≡ is_cut v j
  made_here = ap is_some h.made ∙ cut_made v j

  made_next : is_some (get_or cuts (next v.n j) None) ≡ is_cut v (next v.n j)
  made_next = ap is_some h.made-next ∙ cut_made v (next v.n j)

  pub trimmed_cut : (is_some (get_or cuts j None) || is_some (get_or cuts (next v.n j) None)) ≡ true
      → trim (v.anchor j) (v.anchor (next v.n j)) (get_or cuts j None) (get_or cuts (next v.n j) None) ≡ trimmed_at v j
  unfolding trimmed_at
  trimmed_cut e = rw (h.leaving, ← made_here, ← made_next, e, h.made, h.made-next)

  pub trimmed_kept : (is_some (get_or cuts j None) || is_some (get_or cuts (next v.n j) None)) ≡ false
      → record { out = (v.anchor j).h_out; into = (v.anchor (next v.n j)).h_in } ≡ trimmed_at v j
  unfolding trimmed_at
  trimmed_kept e = rw (h.leaving, ← made_here, ← made_next, e)

-- ---- an index within reach, where the cuts are held within one step more
module _ (v : View) (k at : ℕ) (cuts : List (Option Cut)) (inside : at ≤ v.n) (i : ℕ) (l : i < v.n) (e : near k v.n v.closed at i ≡ true)
    (h : HoldsCuts v (k + 1) at cuts) where
  further : (j : ℕ) → near (suc k) v.n v.closed at j ≡ true → near (k + 1) v.n v.closed at j ≡ true
  further j q = rw (add-one k) q

  pub cut_here : get_or cuts i None ≡ cut_at v i
  cut_here = h.made i l (further i (near_more k v.n v.closed at i e))

  -- the segment that leaves it
  pub ends_after : leaves v i ≡ true → HoldsEnds v i cuts
  unfolding leaves
  ends_after q = record {
    leaving = q;
    made = cut_here;
    made-next = h.made (next v.n i) (next-lt v.n i l) (further (next v.n i) (near_next k v.n v.closed at i inside l q e));
  }

  -- the one that arrives
  pub ends_before : arrives v i ≡ true → HoldsEnds v (prev v.n i) cuts
  unfolding arrives leaves
  ends_before q = record {
    leaving = leaves-prev v.n i v.closed l q;
    made = h.made (prev v.n i) (prev-lt v.n i l) (further (prev v.n i) (near-prev k v.n v.closed at i inside l q e));
    made-next = rw (next-prev v.n i l) cut_here;
  }
