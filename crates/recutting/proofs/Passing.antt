-- The places within reach, tested and written index by index over the span in which they are. Assumes nothing.
use mathlib.Core.Path.{◌≡◌, refl, sym, ap, ◌∙◌}
use mathlib.Core.Logic.{⊎_elim}
use mathlib.Core.Bool.{Bool, true, false, not, ◌&&◌, ◌||◌, cond}
use mathlib.Core.List.{List}
use Prim.Native.Nat.{ℕ, ◌+◌, ◌-◌, ◌*◌, ◌/◌, ◌%◌, ◌≤◌, ◌<◌}
use native.Mathlib.Omega.{arith}
use lib.Dec.{leb, ltb}
use Rattle.std.proofs.Common.{Option, Some, None}
use Rattle.std.specs.Option.{MatchOption}
use lib.ListN.{length, get_or}
use lib.Ieee.{Float, nan}
use borrow.Author.Tests.{leb-true, ltb-true, lt-leb}
use Rattle.views.specs.View.{entry}
use Rattle.views.specs.Search.{all}
use Rattle.views.proofs.Bools.{both}
use Rattle.views.proofs.Laws.{order, same, as_tabulate}
use Rattle.views.proofs.Searches.{all_cong, first_cong}
use Rattle.real.specs.Limit.{in_limit}
use Rattle.path.specs.declared.anchor.Anchor.{Anchor}
use Rattle.path.specs.Flat.{anchor_at, put_anchor}
use Rattle.path.specs.Limit.{first_bad}
use Rattle.path.proofs.Places.{at_put, at_put_other}
use Rattle.path.proofs.Limits.{GoodBelow, first_is, none_is}
use Rattle.cut.specs.declared.subpath.Sub.{Sub}
use Rattle.cut.specs.declared.subpath.Window.{Window}
use Rattle.cut.specs.declared.subpath.Indices.{Indices}
use Rattle.cut.specs.View.{View}
use Rattle.cut.specs.Near.{near, span_of}
use Rattle.cut.specs.Places.{is_cut, place_at, place_numbers}
use Rattle.cut.specs.Rows.{flag_of}
use Rattle.cut.specs.Recut.{reached, recut_numbers, recut_flags}
use Rattle.cut.specs.Unrolled.{rolled}
use Rattle.cut.proofs.Steps.{near_self, near-span, before-span, after-span, span_in}
use Rattle.cut.proofs.Stages.{touched, numbers_at_lem, flags_at}
use Rattle.cache.specs.Tests.{twelve_in}
use Rattle.recutting.specs.Near.{reached_in, passes_near, good_near}
use Rattle.recutting.specs.Stretch.{HoldsNumbers, HoldsFlags, places_found}
use Rattle.recutting.proofs.Copies.{place_from, place_number}
use Rattle.recutting.proofs.Limits.{reached-index}

-- ---- tests that agree find the same place
found_same : (p q : ℕ → Bool) (n : ℕ) → ((k : ℕ) → k < n → p k ≡ q k) → first_bad p n ≡ first_bad q n
unfolding first_bad
found_same p q n h = rw (first_cong p q n h)

-- ---- anchors gathered one by one
pub put_more : (f : ℕ → Anchor) (xs : List Float) (j : ℕ) (x : Anchor) → j * 6 + 6 ≤ length xs → ((q : ℕ) → q < j → anchor_at xs q ≡ f q) → x ≡ f j
    → (q : ℕ) → q < j + 1 → anchor_at (put_anchor xs j x) q ≡ f q
put_more f xs j x b h e q l =
    ⊎_elim
    (λ (d : q ≡ j). ap (anchor_at (put_anchor xs j x)) d ∙ at_put xs j x b ∙ e ∙ ap f (sym d))
    (λ (ne : q ≡ j → ⊥). at_put_other xs j x q ne ∙ h q (less ne))
    (same q j)
  where
    less : (q ≡ j → ⊥) → q < j
    less ne = ⊎_elim (λ (g : j ≤ q). absurd (ne (omega arith))) (λ (g : q < j). g) (order j q)

module _ (sub : Sub) (w : Window) where
  abbrev close : ℕ → Bool
  close = near w.reach sub.n sub.closed w.at

  -- the span
  pub span-order : w.at < sub.n → ((span_of w.reach sub.n sub.closed w.at).from ≤ (span_of w.reach sub.n sub.closed w.at).to) × ((span_of w.reach sub.n sub.closed w.at).to ≤ sub.n)
  span-order h =
      let q = near-span w.reach sub.n sub.closed w.at w.at h (near_self w.reach sub.n sub.closed w.at) in
      let a = q.0 in
      let b = q.1 in
      (omega arith, (span_in w.reach sub.n sub.closed w.at (omega arith)).1)

  -- ---- tests
  module _ (t : ℕ → Bool) where
    far_good : (j : ℕ) → j < sub.n → near w.reach sub.n sub.closed w.at j ≡ false → passes_near sub w t (sub.first + j) ≡ true
    unfolding passes_near
    far_good j l e = rw (reached-index sub w j l, e)

    before_first : (k : ℕ) → k < sub.first → passes_near sub w t k ≡ true
    unfolding passes_near reached_in
    before_first k l = rw (lt-leb sub.first k l)

    idle : (a b : ℕ) → b ≤ sub.n → ((j : ℕ) → a ≤ j → j < b → near w.reach sub.n sub.closed w.at j ≡ false)
        → GoodBelow (passes_near sub w t) (sub.first + a) → GoodBelow (passes_near sub w t) (sub.first + b)
    idle a b l h g k q =
        ⊎_elim
        (λ (x : sub.first + a ≤ k). let e : sub.first + (k - sub.first) ≡ k = omega arith in rw e at (far_good (k - sub.first) (omega arith) (h (k - sub.first) (omega arith) (omega arith))))
        (λ (x : k < sub.first + a). g k x)
        (order (sub.first + a) k)

    pub pass_none : w.at < sub.n → GoodBelow (passes_near sub w t) (sub.first + (span_of w.reach sub.n sub.closed w.at).from)
    pass_none h =
        let o = span-order h in
        let a = o.0 in
        let b = o.1 in
        idle 0 (span_of w.reach sub.n sub.closed w.at).from (omega arith)
        (λ j x y. before-span w.reach sub.n sub.closed w.at j (omega arith) y)
        (λ k q. before_first k (omega arith))

    pub pass_end : w.at < sub.n → GoodBelow (passes_near sub w t) (sub.first + (span_of w.reach sub.n sub.closed w.at).to) → GoodBelow (passes_near sub w t) (sub.first + sub.n)
    pass_end h = idle (span_of w.reach sub.n sub.closed w.at).to sub.n (omega arith) (λ j x y. after-span w.reach sub.n sub.closed w.at j y x)

  -- ---- the first place within reach whose index fails a test
  module _ (t : ℕ → Bool) where
    abbrev passes : ℕ → Bool
    passes = passes_near sub w (λ k. t (k - sub.first))

    passes-index : (j : ℕ) → j < sub.n → passes (sub.first + j) ≡ (not (near w.reach sub.n sub.closed w.at j) || t j)
    unfolding passes_near
    passes-index j l = let e : sub.first + j - sub.first ≡ j = omega arith in rw (reached-index sub w j l, e)

    fine : (j : ℕ) → j < sub.n → (near w.reach sub.n sub.closed w.at j ≡ true → t j ≡ true) → passes (sub.first + j) ≡ true
    fine j l h = passes-index j l ∙ go (near w.reach sub.n sub.closed w.at j) refl
      where
        go : (b : Bool) → near w.reach sub.n sub.closed w.at j ≡ b → (not b || t j) ≡ true
        go true e = h e
        go false e = refl

    pass_to : (m : ℕ) → w.at < sub.n → m ≤ sub.n → ((j : ℕ) → (span_of w.reach sub.n sub.closed w.at).from ≤ j → j < m → near w.reach sub.n sub.closed w.at j ≡ true → t j ≡ true)
        → GoodBelow passes (sub.first + m)
    pass_to m h l good k q =
        ⊎_elim
        (λ (x : sub.first + (span_of w.reach sub.n sub.closed w.at).from ≤ k).
        let e : sub.first + (k - sub.first) ≡ k = omega arith in rw e at (fine (k - sub.first) (omega arith) (good (k - sub.first) (omega arith) (omega arith))))
        (λ (x : k < sub.first + (span_of w.reach sub.n sub.closed w.at).from). pass_none (λ k. t (k - sub.first)) h k x)
        (order (sub.first + (span_of w.reach sub.n sub.closed w.at).from) k)

    -- what a search of the span finds
    pub bad_found : (there : Indices) → there ≡ span_of w.reach sub.n sub.closed w.at → w.at < sub.n → (r : Option ℕ)
        → MatchOption r
        ((k : ℕ) → there.from ≤ k → k < there.to → near w.reach sub.n sub.closed w.at k ≡ true → t k ≡ true)
        (λ i. (there.from ≤ i) × (i < there.to) × ((near w.reach sub.n sub.closed w.at i ≡ true) × (t i ≡ false)) × ((k : ℕ) → there.from ≤ k → k < i → near w.reach sub.n sub.closed w.at k ≡ true → t k ≡ true))
        → MatchOption r (None ≡ first_bad passes (sub.first + sub.n)) (λ i. (i < sub.n) × (Some (sub.first + i) ≡ first_bad passes (sub.first + sub.n)))
    bad_found there e h None good =
        let o = span-order h in
        sym ((none_is _ _).1 (pass_end (λ k. t (k - sub.first)) h (pass_to (span_of w.reach sub.n sub.closed w.at).to h o.1 (rw e at good))))
    bad_found there e h (Some i) (low, high, bad, good) =
        let o = span-order h in
        let to = ap (λ z. z.to) e in
        let b : i < sub.n = omega (arith, o.1) in
        (b, sym ((first_is _ _ _).1 (record { place = omega arith; bad = passes-index i b ∙ rw (bad.0, bad.1); below = pass_to i h (omega arith) (rw e at good) })))

  -- ---- a place within reach is an index of the subpath
  pub record At (k : ℕ) : Type 0 where
    pub low : sub.first ≤ k
    pub inside : k - sub.first < sub.n
    pub close : near w.reach sub.n sub.closed w.at (k - sub.first) ≡ true

  pub reached_at : (k : ℕ) → reached_in sub w k ≡ true → At k
  unfolding reached_in
  reached_at k h =
      let a = leb sub.first k in
      let b = ltb k (sub.first + sub.n) in
      let c = near w.reach sub.n sub.closed w.at (k - sub.first) in
      let x = both a (b && c) h in
      let y = both b c x.1 in
      let l = leb-true sub.first k x.0 in
      let u = ltb-true k (sub.first + sub.n) y.0 in
      record { low = l; inside = omega arith; close = y.1 }

  -- ---- what the lists of a stretch are found to hold
  module _ (v : View) (from : ℕ) where
    test-same : (xs : List Float) → HoldsNumbers v sub w from xs → (k : ℕ) → passes_near sub w (λ k. twelve_in xs (rolled sub.n from (k - sub.first))) k ≡ good_near v sub w k
    unfolding passes_near good_near twelve_in
    test-same xs h k = go (reached_in sub w k) refl
      where
        go : (b : Bool) → reached_in sub w k ≡ b
            → (not b || all (λ q. in_limit (entry xs (rolled sub.n from (k - sub.first) * 12 + q))) 12) ≡ (not b || all (λ q. in_limit (entry (place_numbers (place_at v (k - sub.first))) q)) 12)
        go true e = let x = reached_at k e in all_cong _ _ 12 (λ q l. ap in_limit (h.number (k - sub.first) q x.inside x.close l))
        go false e = refl

    pub found_places : (xs : List Float) → HoldsNumbers v sub w from xs
        → first_bad (passes_near sub w (λ k. twelve_in xs (rolled sub.n from (k - sub.first)))) (sub.first + sub.n) ≡ places_found v sub w
    unfolding places_found
    found_places xs h = found_same _ _ (sub.first + sub.n) (λ k l. test-same xs h k)

    -- ---- written
    reached-same : v.n ≡ sub.n → v.closed ≡ sub.closed → (k : ℕ) → reached v sub.first w.reach w.at k ≡ reached_in sub w k
    unfolding reached reached_in
    reached-same n c k = rw (n, c)

    touched_same : (k : ℕ) → touched (near w.reach sub.n sub.closed w.at) sub.first sub.n k ≡ reached_in sub w k
    unfolding touched reached_in
    touched_same k = refl

    pub numbers-written : v.n ≡ sub.n → v.closed ≡ sub.closed → (made xs ys : List Float) → HoldsNumbers v sub w from made → length ys ≡ length xs
        → ((j : ℕ) → entry ys j ≡ numbers_at_lem (near w.reach sub.n sub.closed w.at) sub.first (λ i. place_numbers (place_from made (rolled sub.n from i))) xs sub.n j)
        → ys ≡ recut_numbers v sub.first w.reach w.at xs
    unfolding recut_numbers numbers_at_lem
    numbers-written n c made xs ys h l e = as_tabulate nan ys (length xs) _ l (λ j b. e j ∙ rw (touched_same (j / 12), reached-same n c (j / 12)) (go j (reached_in sub w (j / 12)) refl))
      where
        go : (j : ℕ) (b : Bool) → reached_in sub w (j / 12) ≡ b
            → cond b (entry (place_numbers (place_from made (rolled sub.n from (j / 12 - sub.first)))) (j % 12)) (entry xs j) ≡ cond b (entry (place_numbers (place_at v (j / 12 - sub.first))) (j % 12)) (entry xs j)
        go j true t =
            let x = reached_at (j / 12) t in
            let q : j % 12 < 12 = omega arith in
            place_number made (rolled sub.n from (j / 12 - sub.first)) (j % 12) q ∙ h.number (j / 12 - sub.first) (j % 12) x.inside x.close q
        go j false t = refl

    pub flags_written : v.n ≡ sub.n → v.closed ≡ sub.closed → (marks fs gs : List ℕ) → HoldsFlags v sub w from marks → length gs ≡ length fs
        → ((k : ℕ) → get_or gs k 0 ≡ flags_at (near w.reach sub.n sub.closed w.at) sub.first (λ i. get_or marks (rolled sub.n from i) 0) fs sub.n k)
        → gs ≡ recut_flags v sub.first w.reach w.at fs
    unfolding recut_flags flags_at
    flags_written n c marks fs gs h l e = as_tabulate 0 gs (length fs) _ l (λ k b. e k ∙ rw (touched_same k, reached-same n c k) (go k (reached_in sub w k) refl))
      where
        go : (k : ℕ) (b : Bool) → reached_in sub w k ≡ b
            → cond b (get_or marks (rolled sub.n from (k - sub.first)) 0) (get_or fs k 0) ≡ cond b (flag_of (is_cut v (k - sub.first))) (get_or fs k 0)
        go k true t = let x = reached_at k t in h.flag (k - sub.first) x.inside x.close
        go k false t = refl
