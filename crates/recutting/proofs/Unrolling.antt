-- A stretch about a window: the indices within reach, as many and the same in the stretch as in the subpath, and what the cut leaves at each. Assumes nothing.
use mathlib.Core.Path.{◌≡◌, refl, sym, ap, ◌∙◌}
use mathlib.Core.Logic.{◌⊎◌, inl, inr, ⊎_elim}
use mathlib.Core.Bool.{Bool, true, false}
use mathlib.Core.List.{List}
use Prim.Native.Nat.{ℕ, ◌+◌, ◌-◌, ◌*◌, ◌/◌, ◌%◌, ◌≤◌, ◌<◌}
use native.Mathlib.Omega.{arith}
use lib.ListN.{length, get_or, set}
use lib.Seq.{get_or-set_same, get_or-set_other}
use borrow.Author.Tests.{eq-eqb, ne_eqb}
use lib.Ieee.{Float, nan}
use Rattle.views.specs.View.{entry}
use Rattle.views.specs.Search.{count}
use Rattle.views.proofs.Laws.{same, at_tabulate}
use Rattle.views.proofs.Bools.{not_both}
use Rattle.views.proofs.Searches.{count_cong, count_none, count_add}
use Rattle.path.specs.declared.anchor.Anchor.{Anchor}
use Rattle.path.specs.Flat.{anchor_at, put_anchor}
use Rattle.path.proofs.Places.{at_put, at_put_other}
use Rattle.corner.specs.declared.kind.CornerKind.{CornerKind}
use Rattle.cut.specs.declared.subpath.Sub.{Sub}
use Rattle.cut.specs.declared.subpath.Window.{Window}
use Rattle.cut.specs.View.{View}
use Rattle.cut.specs.Subpath.{view_of}
use Rattle.cut.specs.Near.{gap, near, near_count, old}
use Rattle.cut.specs.Places.{is_cut, place_at, place_numbers}
use Rattle.cut.specs.Rows.{flag_of}
use Rattle.cut.specs.Recut.{reached, recut_numbers, recut_flags}
use Rattle.cut.specs.Unrolled.{unrolled, rolled}
use Rattle.cut.proofs.Steps.{refuted, same_test, near_cases, near_open, near_in, near-round}
use Rattle.cut.proofs.Locality.{locality}
use Rattle.cut.proofs.Shifts.{old_low}
use Rattle.cut.proofs.Outlines.{place_cut}
use Rattle.cut.proofs.Unrolled.{Index, index-of, index_is, index_back, index_one, unrolled_in, unrolled-rolled, unrolled_place, count-round}
use Rattle.cache.proofs.Reached.{reached_here}
use Rattle.recutting.specs.declared.stretches.Stretch.{Stretch}
use Rattle.recutting.specs.declared.stretches.Gathered.{Gathered}
use Rattle.recutting.specs.Stretch.{Put, From, Whole, Part, About, stretch_view, Stretched, HoldsNumbers, HoldsFlags}

-- ---- the indices within reach
module _ (sub : Sub) (w : Window) (s : Stretch) (a : About sub w s) (at_in : w.at < sub.n) where
  abbrev n : ℕ
  n = sub.n

  abbrev m : ℕ
  m = s.n

  abbrev from : ℕ
  from = s.from

  abbrev mid : ℕ
  mid = s.mid

  abbrev reach : ℕ
  reach = w.reach

  abbrev there : ℕ → Bool
  there = near w.reach sub.n sub.closed w.at

  abbrev here : ℕ → Bool
  here = near w.reach s.n s.closed s.mid

  -- ---- of a part
  module _ (p : Part sub w s) where
    open_middle : sub.closed ≡ false → from + mid ≡ w.at
    open_middle o =
        let q = p.within o in
        let l = p.mid_in in
        ⊎_elim (λ (e : from + mid ≡ w.at). e) (λ (e : from + mid ≡ w.at + n). absurd (omega arith)) p.middle

    closed_low : sub.closed ≡ true → reach + 3 ≤ mid
    closed_low c = ⊎_elim (λ (h : reach + 3 ≤ mid). h) (λ (h : (sub.closed ≡ false) × (from ≡ 0)). absurd (not_both sub.closed h.0 c)) p.low

    closed_high : sub.closed ≡ true → mid + reach + 3 < m
    closed_high c = ⊎_elim (λ (h : mid + reach + 3 < m). h) (λ (h : (sub.closed ≡ false) × (from + m ≡ n)). absurd (not_both sub.closed h.0 c)) p.high

    module _ (i j : ℕ) (x : Index n from j i) (jn : j < n) where
      -- there, so here
      forth_open : sub.closed ≡ false → gap w.at i ≤ reach → (j < m) × (gap mid j ≤ reach)
      unfolding gap
      forth_open o g =
          let e = open_middle o in
          let q = p.within o in
          let b = x.below in
          ⊎_elim
          (λ (d : from + j ≡ i).
          (⊎_elim (λ (h : mid + reach + 3 < m). omega arith) (λ (h : (sub.closed ≡ false) × (from + m ≡ n)). let z = h.1 in omega arith) p.high, omega arith))
          (λ (d : from + j ≡ i + n).
          absurd (⊎_elim (λ (h : reach + 3 ≤ mid). omega arith) (λ (h : (sub.closed ≡ false) × (from ≡ 0)). let z = h.1 in omega arith) p.low))
          x.is

      forth_closed : sub.closed ≡ true → (gap w.at i ≤ reach) ⊎ (n ≤ gap w.at i + reach) → (j < m) × (gap mid j ≤ reach)
      unfolding gap
      forth_closed c g = go x.is p.middle g
        where
          go : (from + j ≡ i) ⊎ (from + j ≡ i + n) → (from + mid ≡ w.at) ⊎ (from + mid ≡ w.at + n) → (gap w.at i ≤ reach) ⊎ (n ≤ gap w.at i + reach) → (j < m) × (gap mid j ≤ reach)
          go (inl d) (inl e) (inl g) = let l = closed_low c in let h = closed_high c in let f = a.few in (omega arith, omega arith)
          go (inl d) (inl e) (inr g) = let l = closed_low c in let h = closed_high c in let f = a.few in let b = x.below in absurd (omega arith)
          go (inl d) (inr e) (inl g) = let l = closed_low c in let h = closed_high c in let f = a.few in let b = x.below in absurd (omega arith)
          go (inl d) (inr e) (inr g) = let l = closed_low c in let h = closed_high c in let f = a.few in let b = x.below in (omega arith, omega arith)
          go (inr d) (inl e) (inl g) = let l = closed_low c in let h = closed_high c in let f = a.few in let b = x.below in absurd (omega arith)
          go (inr d) (inl e) (inr g) = let l = closed_low c in let h = closed_high c in let f = a.few in let b = x.below in (omega arith, omega arith)
          go (inr d) (inr e) (inl g) = let l = closed_low c in let h = closed_high c in let f = a.few in let b = x.below in (omega arith, omega arith)
          go (inr d) (inr e) (inr g) = let l = closed_low c in let h = closed_high c in let f = a.few in let b = x.below in absurd (omega arith)

      forth : there i ≡ true → (j < m) × (gap mid j ≤ reach)
      forth h = by sub.closed refl (near_cases w.reach n sub.closed w.at i h)
        where
          by : (b : Bool) → sub.closed ≡ b → (gap w.at i ≤ reach) ⊎ ((sub.closed ≡ true) × (n ≤ gap w.at i + reach)) → (j < m) × (gap mid j ≤ reach)
          by true c (inl g) = forth_closed c (inl g)
          by true c (inr g) = forth_closed c (inr g.1)
          by false o (inl g) = forth_open o g
          by false o (inr g) = absurd (not_both sub.closed o g.0)

      -- here, so there
      back : j < m → gap mid j ≤ reach → there i ≡ true
      unfolding gap
      back l g = by sub.closed refl x.is p.middle
        where
          by : (b : Bool) → sub.closed ≡ b → (from + j ≡ i) ⊎ (from + j ≡ i + n) → (from + mid ≡ w.at) ⊎ (from + mid ≡ w.at + n) → there i ≡ true
          by b c (inl d) (inl e) = near_in reach n sub.closed w.at i (omega arith)
          by b c (inr d) (inr e) = near_in reach n sub.closed w.at i (omega arith)
          by true c (inl d) (inr e) = near-round reach n sub.closed w.at i c (omega arith)
          by true c (inr d) (inl e) = near-round reach n sub.closed w.at i c (omega arith)
          by false c (inl d) (inr e) = let q = p.within c in let z = p.mid_in in absurd (omega arith)
          by false c (inr d) (inl e) = let q = p.within c in absurd (omega arith)

      here_there : j < m → here j ≡ there i
      here_there l =
          same_test (here j) (there i)
          (λ h. back l (near_open reach m s.closed mid j p.straight h))
          (λ h. near_in reach m s.closed mid j (forth h).1)

    part_count : near_count w.reach s.n s.closed s.mid ≡ near_count w.reach sub.n sub.closed w.at
    unfolding near_count
    part_count =
        let f = a.few in
        let e : n ≡ m + (n - m) = omega arith in
        let x : count (λ j. there (unrolled n from j)) m ≡ count here m = count_cong _ here m (λ j l. let y : j < n = omega arith in sym (here_there (unrolled n from j) j (index-of n from j a.inside (omega arith)) y l)) in
        let z : count (λ j. there (unrolled n from (m + j))) (n - m) ≡ 0 = count_none _ (n - m) (λ j l. past j l) in
        sym (sym (count-round there n from a.inside) ∙ ap (count (λ j. there (unrolled n from j))) e ∙ count_add (λ j. there (unrolled n from j)) m (n - m) ∙ omega (arith, x, z))
      where
        past : (j : ℕ) → j < n - m → there (unrolled n from (m + j)) ≡ false
        past j l = refuted _ (λ h. let q = (forth (unrolled n from (m + j)) (m + j) (index-of n from (m + j) a.inside (omega arith)) (omega arith) h).0 in omega arith)

  -- ---- of any stretch
  pub stretch_count : near_count w.reach s.n s.closed s.mid ≡ near_count w.reach sub.n sub.closed w.at
  stretch_count = ⊎_elim (λ (h : Whole sub w s). rw (h.size, h.closed, h.middle)) (λ (p : Part sub w s). part_count p) a.is

  -- the index of the stretch
  module _ (i : ℕ) (l : i < sub.n) where
    abbrev j : ℕ
    j = rolled sub.n s.from i

    at_i : Index n from j i
    at_i = (index_back n from i a.inside l).0

    whole-index : Whole sub w s → j ≡ i
    whole-index h =
        let z = h.starts in
        let b = (index_back n from i a.inside l).1 in
        ⊎_elim (λ (e : from + j ≡ i). omega arith) (λ (e : from + j ≡ i + n). absurd (omega arith)) at_i.is

    pub index_in : near w.reach sub.n sub.closed w.at i ≡ true → rolled sub.n s.from i < s.n
    index_in h =
        ⊎_elim
        (λ (q : Whole sub w s). let e = whole-index q in let z = q.size in omega arith)
        (λ (p : Part sub w s). (forth p i j at_i (index_back n from i a.inside l).1 h).0)
        a.is

    pub index-near : near w.reach sub.n sub.closed w.at i ≡ true → near w.reach s.n s.closed s.mid (rolled sub.n s.from i) ≡ true
    index-near h =
        ⊎_elim
        (λ (q : Whole sub w s). rw (whole-index q, q.size, q.closed, q.middle) h)
        (λ (p : Part sub w s). near_in reach m s.closed mid j (forth p i j at_i (index_back n from i a.inside l).1 h).1)
        a.is

    -- ---- what the cut leaves there
    module _ (v : View) (kind : CornerKind) (anchors radii : List Float) (f : Stretched v kind sub s anchors radii) (h : near w.reach sub.n sub.closed w.at i ≡ true) where
      abbrev r : View
      r = stretch_view anchors radii kind s

      whole_place : Whole sub w s → place_at r j ≡ place_at v i
      unfolding view_of
      whole_place q =
          ap (place_at r) (whole-index q)
          ∙ locality v r i (let z = q.size in omega arith) (record {
            n = q.size ∙ sym f.size;
            closed = q.closed ∙ sym f.closed;
            chords = sym f.chords;
            anchors = λ k b g. ap (anchor_at anchors) (omega arith) ∙ f.anchor k b ∙ ap v.anchor (same k b);
            radii = λ k b g. ap (entry radii) (omega arith) ∙ f.radius k b ∙ ap v.radius (same k b);
            kind = f.kinds i (let z = q.size in omega arith) ∙ ap v.kind (same i (let z = q.size in omega arith));
          })
        where
          same : (k : ℕ) → k < s.n → unrolled sub.n s.from k ≡ k
          same k b = let z = q.starts in let y = q.size in unrolled_in sub.n s.from k (omega arith) ∙ omega arith

      part_place : Part sub w s → place_at r j ≡ place_at v i
      unfolding view_of gap
      part_place p =
          let d = forth p i j at_i (index_back n from i a.inside l).1 h in
          let j_in = d.0 in
          let close = d.1 in
          unrolled_place v r from (record {
            inside = rw f.size a.inside;
            few = rw f.size a.few;
            straight = p.straight;
            within = λ o. rw f.size (p.within (sym f.closed ∙ o));
            chords = sym f.chords;
            anchors = λ k b. rw f.size (ap (anchor_at anchors) (omega arith) ∙ f.anchor k b);
            radii = λ k b. rw f.size (ap (entry radii) (omega arith) ∙ f.radius k b);
            kinds = λ k b. rw f.size (f.kinds k b);
          }) j (record {
            inside = j_in;
            low = ⊎_elim (λ (g : reach + 3 ≤ mid). inl (omega arith)) (λ (g : (sub.closed ≡ false) × (from ≡ 0)). inr (f.closed ∙ g.0, g.1)) p.low;
            high = ⊎_elim (λ (g : mid + reach + 3 < m). inl (omega arith)) (λ (g : (sub.closed ≡ false) × (from + m ≡ n)). inr (f.closed ∙ g.0, g.1 ∙ sym f.size)) p.high;
          })
          ∙ ap (place_at v) (ap (λ z. unrolled z from j) f.size ∙ unrolled-rolled n from i a.inside l)

      pub stretch_place : place_at (stretch_view anchors radii kind s) (rolled sub.n s.from i) ≡ place_at v i
      stretch_place = ⊎_elim whole_place part_place a.is

      pub stretch_cut : is_cut (stretch_view anchors radii kind s) (rolled sub.n s.from i) ≡ is_cut v i
      stretch_cut = sym (place_cut r j) ∙ ap (λ q. q.cut) stretch_place ∙ place_cut v i

  -- ---- the lists that the recut of the stretch leaves
  module _ (v : View) (kind : CornerKind) (anchors radii : List Float) (f : Stretched v kind sub s anchors radii) where
    reach_here : (i : ℕ) → (l : i < sub.n) → near w.reach sub.n sub.closed w.at i ≡ true
        → reached (stretch_view anchors radii kind s) 0 w.reach s.mid (rolled sub.n s.from i) ≡ true
    unfolding view_of
    reach_here i l h =
        let k = index_in i l h in
        reached_here (stretch_view anchors radii kind s) 0 w.reach s.mid (rolled n from i) (omega arith) (omega arith)
        ∙ ap (near w.reach s.n s.closed s.mid) (omega arith)
        ∙ index-near i l h

    pub stretch_numbers : (before numbers : List Float) → s.n * 12 ≤ length before → numbers ≡ recut_numbers (stretch_view anchors radii kind s) 0 w.reach s.mid before
        → HoldsNumbers v sub w s.from numbers
    unfolding recut_numbers
    stretch_numbers before numbers long e = record {
      number = λ i q l h b.
          let d = rolled n from i in
          let x : (d * 12 + q) / 12 ≡ d = omega arith in
          let y : (d * 12 + q) % 12 ≡ q = omega arith in
          let k = index_in i l h in
          ap (λ z. entry z (d * 12 + q)) e
          ∙ at_tabulate nan (length before) _ (d * 12 + q) (omega arith)
          ∙ rw (x, y, reach_here i l h) (ap (λ z. entry (place_numbers (place_at (stretch_view anchors radii kind s) z)) q) (omega arith) ∙ ap (λ z. entry (place_numbers z) q) (stretch_place i l v kind anchors radii f h));
    }

    pub stretch_flags : (before flags : List ℕ) → s.n ≤ length before → flags ≡ recut_flags (stretch_view anchors radii kind s) 0 w.reach s.mid before
        → HoldsFlags v sub w s.from flags
    unfolding recut_flags
    stretch_flags before flags long e = record {
      flag = λ i l h.
          let d = rolled n from i in
          let k = index_in i l h in
          ap (λ z. get_or z d 0) e
          ∙ at_tabulate 0 (length before) _ d (omega arith)
          ∙ rw (reach_here i l h) (ap (λ z. flag_of (is_cut (stretch_view anchors radii kind s) z)) (omega arith) ∙ ap flag_of (stretch_cut i l v kind anchors radii f h));
    }

-- ---- the index about which the window is
pub middle-index : (sub : Sub) (w : Window) (s : Stretch) → About sub w s → w.at < sub.n → Index sub.n s.from s.mid w.at
middle-index sub w s a h =
    record {
      is = ⊎_elim (λ (q : Whole sub w s). let x = q.starts in let y = q.middle in inl (omega arith)) (λ (p : Part sub w s). p.middle) a.is;
      below = h;
    }

-- ---- one anchor and its radius put there
module _ (sub : Sub) (w : Window) (s : Stretch) (a : About sub w s) (here_in : w.at < sub.n) (v : View) (kind : CornerKind) (new : Anchor) (radius : Float)
    (anchors radii : List Float) (put : Put v kind sub w.at new radius anchors radii) (g : Gathered) (f : From anchors radii sub s sub.n g) where
  module _ (j : ℕ) (l : j < s.n) where
    abbrev i : ℕ
    i = unrolled sub.n s.from j

    here_i : Index sub.n s.from j i
    here_i = index-of sub.n s.from j a.inside (let q = a.few in omega arith)

    stood_there : old sub.n i ≡ i
    stood_there = let b = here_i.below in old_low sub.n i (omega arith)

    is_at : j ≡ s.mid → i ≡ w.at
    is_at e = ap (unrolled sub.n s.from) e ∙ index_is sub.n s.from s.mid w.at (middle-index sub w s a here_in)

    else_at : (j ≡ s.mid → ⊥) → i ≡ w.at → ⊥
    else_at ne e =
        let q = a.few in
        let z = a.middle in
        ne (index_one sub.n s.from w.at j s.mid (omega arith) (omega arith) (rw e at here_i) (middle-index sub w s a here_in))

    put-anchor_at : anchor_at (put_anchor g.anchors s.mid new) j ≡ v.anchor i
    put-anchor_at =
        ⊎_elim
        (λ (e : j ≡ s.mid).
        let z = a.short in
        let q = a.middle in
        ap (anchor_at (put_anchor g.anchors s.mid new)) e ∙ at_put g.anchors s.mid new (omega (arith, f.anchors_long)) ∙ sym (put.anchor i ∙ rw (eq-eqb i w.at (is_at e))))
        (λ (ne : j ≡ s.mid → ⊥).
        at_put_other g.anchors s.mid new j ne ∙ f.anchor j l ∙ ap (λ z. anchor_at anchors (sub.first + z)) stood_there ∙ sym (put.anchor i ∙ rw (ne_eqb i w.at (else_at ne))))
        (same j s.mid)

    put-radius_at : entry (set g.radii s.mid radius) j ≡ v.radius i
    put-radius_at =
        ⊎_elim
        (λ (e : j ≡ s.mid).
        let z = a.short in
        let q = a.middle in
        ap (entry (set g.radii s.mid radius)) e ∙ get_or-set_same g.radii s.mid radius nan (omega (arith, f.radii_long)) ∙ sym (put.set-radius i ∙ rw (eq-eqb i w.at (is_at e))))
        (λ (ne : j ≡ s.mid → ⊥).
        get_or-set_other g.radii s.mid j radius nan ne ∙ f.radius j l ∙ ap (λ z. entry radii (sub.first + z)) stood_there ∙ sym (put.set-radius i ∙ rw (ne_eqb i w.at (else_at ne))))
        (same j s.mid)

  pub stretch_put : Stretched v kind sub s (put_anchor g.anchors s.mid new) (set g.radii s.mid radius)
  stretch_put = record {
    size = put.size;
    closed = put.closed;
    chords = put.chords;
    anchor = put-anchor_at;
    radius = put-radius_at;
    kinds = λ j l. put.kinds (unrolled sub.n s.from j);
  }
