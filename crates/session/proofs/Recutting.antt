-- For the proofs of the code: the lists that an accepted edit leaves are those of `cut::recut`, of a store, and of shifted lists. Assumes nothing.
use mathlib.Core.Path.{◌≡◌, refl, sym, ap, ◌∙◌}
use mathlib.Core.Logic.{⊎_elim, inl, inr}
use mathlib.Core.Bool.{Bool, true, false, ◌&&◌, cond}
use mathlib.Core.List.{List}
use Prim.Native.Nat.{ℕ, ◌+◌, ◌-◌, ◌*◌, ◌/◌, ◌%◌, ◌≤◌, ◌<◌}
use native.Mathlib.Omega.{arith}
use lib.Dec.{leb, ltb, eqb}
use lib.ListN.{length, get_or, set, length-set}
use lib.Seq.{ext_get_or, get_or-set_same, get_or-set_other}
use lib.Ieee.{Float, nan}
use borrow.Author.Tests.{leb-true, ltb-true, eq-eqb, ne_eqb}
use Rattle.views.specs.View.{entry, tabulate, overwrite}
use Rattle.views.proofs.Bools.{and_left, and_right}
use Rattle.views.proofs.Laws.{order, same, length-tabulate, at_tabulate, length-overwrite, at_overwrite, past_overwrite, as_overwrite}
use Rattle.path.specs.declared.anchor.Anchor.{Anchor}
use Rattle.path.specs.Shape.{count_of, total, word_at, start}
use Rattle.path.specs.Flat.{anchor_at, numbers, anchor_numbers, put_anchor}
use Rattle.path.proofs.Shapes.{total_in}
use Rattle.path.proofs.Places.{length-put, put_in, put_out, numbers_at}
use Rattle.cut.specs.View.{View}
use Rattle.cut.specs.Subpath.{view_of}
use Rattle.cut.specs.Near.{near}
use Rattle.cut.specs.Places.{is_cut, place_at, place_numbers}
use Rattle.cut.specs.Rows.{flag_of}
use Rattle.cut.specs.Recut.{reached, recut_numbers, recut_flags}
use Rattle.cut.proofs.Outlines.{place_cut}
use Rattle.cut_calls.specs.PlainCut.{sub_at}
use Rattle.cache.proofs.Reached.{reached_past}
use Rattle.session.specs.Drawing.{view_in}
use Rattle.cache.specs.Cache.{cached_numbers, cached_flags}
use Rattle.session.specs.Edits.{Edit, places_of}
use Rattle.session.specs.Calls.{numbers_after, flags_after}
use Rattle.session.proofs.Splits.{place_in_lem, Like, like_places}

-- ---- what is recut, number by number
module _ (e : Edit) (s first reach at : ℕ) (there : s < length e.made.shapes) (from : start e.made.shapes s ≡ first)
    (recuts : (k : ℕ) → e.recuts k ≡ reached (view_in e.made s) first reach at k) (w : View) (like : Like (view_in e.made s) w) where
  abbrev n : ℕ
  n = total e.made.shapes

  abbrev v : View
  v = view_in e.made s

  v_count : v.n ≡ count_of (word_at e.made.shapes s)
  unfolding view_in view_of sub_at
  v_count = refl

  reached-same : (k : ℕ) → reached w first reach at k ≡ e.recuts k
  unfolding reached
  reached-same k = rw (like.n, like.closed) (sym (recuts k))

  within : (k : ℕ) → e.recuts k ≡ true → (first ≤ k) × (k < first + v.n)
  unfolding reached
  within k h =
      let r = sym (recuts k) ∙ h in
      let a = leb first k in
      let b = ltb k (first + v.n) in
      let c = near reach v.n v.closed at (k - first) in
      (leb-true first k (and_left a (b && c) r), ltb-true k (first + v.n) (and_left b c (and_right a (b && c) r)))

  -- a place that is recut is the one that the view has there
  pub recut_place : (k : ℕ) → e.recuts k ≡ true → place_at w (k - first) ≡ places_of e.made k
  recut_place k h =
      let r = within k h in
      let z = v_count in
      like_places v w like (k - first) (let q = like.n in omega (arith, r.0, r.1))
      ∙ ap (λ x. place_at v (k - x)) (sym from)
      ∙ sym (place_in_lem e.made k s (record { there = there; low = omega (arith, r.0); high = omega (arith, r.1) }))

  past : (k : ℕ) → n ≤ k → e.recuts k ≡ false
  past k h = recuts k ∙ reached_past v first reach at k (omega (arith, total_in e.made.shapes s there, v_count))

  -- `before` is what stood there, shifted where the edit shifts
  module _ (xs before : List Float) (long : n * 12 ≤ length xs) (size : length before ≡ length xs)
      (stood : (j : ℕ) → j < n * 12 → entry before j ≡ entry xs (e.stood (j / 12) * 12 + j % 12)) (rest : (j : ℕ) → n * 12 ≤ j → entry before j ≡ entry xs j) where
    number : (j : ℕ) → j < n * 12 → cond (reached w first reach at (j / 12)) (entry (place_numbers (place_at w (j / 12 - first))) (j % 12)) (entry before j) ≡ numbers_after e xs j
    unfolding numbers_after cached_numbers
    number j l = rw (reached-same (j / 12)) (go (e.recuts (j / 12)) refl)
      where
        go : (t : Bool) → e.recuts (j / 12) ≡ t
            → cond t (entry (place_numbers (place_at w (j / 12 - first))) (j % 12)) (entry before j) ≡ cond t (entry (place_numbers (places_of e.made (j / 12))) (j % 12)) (entry xs (e.stood (j / 12) * 12 + j % 12))
        go true h = ap (λ p. entry (place_numbers p) (j % 12)) (recut_place (j / 12) h)
        go false h = stood j l

    pub recut-numbers : recut_numbers w first reach at before ≡ overwrite (n * 12) (numbers_after e xs) xs
    unfolding recut_numbers
    recut-numbers =
        let g : ℕ → Float = λ j. cond (reached w first reach at (j / 12)) (entry (place_numbers (place_at w (j / 12 - first))) (j % 12)) (entry before j) in
        let q = length-tabulate (length before) g in
        ext_get_or nan (tabulate (length before) g) (overwrite (n * 12) (numbers_after e xs) xs) (q ∙ size ∙ sym (length-overwrite (n * 12) (numbers_after e xs) xs))
        (λ j l. at_tabulate nan (length before) g j (omega arith)
        ∙ ⊎_elim
        (λ (h : n * 12 ≤ j). rw (reached-same (j / 12), past (j / 12) (omega arith)) (rest j h) ∙ sym (past_overwrite nan (n * 12) (numbers_after e xs) xs j h))
        (λ (h : j < n * 12). number j h ∙ sym (at_overwrite nan (n * 12) (numbers_after e xs) xs j h (omega arith)))
        (order (n * 12) j))

  module _ (fs before : List ℕ) (long : n ≤ length fs) (size : length before ≡ length fs)
      (stood : (k : ℕ) → k < n → get_or before k 0 ≡ get_or fs (e.stood k) 0) (rest : (k : ℕ) → n ≤ k → get_or before k 0 ≡ get_or fs k 0) where
    flag : (k : ℕ) → k < n → cond (reached w first reach at k) (flag_of (is_cut w (k - first))) (get_or before k 0) ≡ flags_after e fs k
    unfolding flags_after cached_flags
    flag k l = rw (reached-same k) (go (e.recuts k) refl)
      where
        go : (t : Bool) → e.recuts k ≡ t → cond t (flag_of (is_cut w (k - first))) (get_or before k 0) ≡ cond t (flag_of (places_of e.made k).cut) (get_or fs (e.stood k) 0)
        go true h = ap flag_of (sym (place_cut w (k - first)) ∙ ap (λ p. p.cut) (recut_place k h))
        go false h = stood k l

    pub recut_flags_lem : recut_flags w first reach at before ≡ overwrite n (flags_after e fs) fs
    unfolding recut_flags
    recut_flags_lem =
        let g : ℕ → ℕ = λ k. cond (reached w first reach at k) (flag_of (is_cut w (k - first))) (get_or before k 0) in
        let q = length-tabulate (length before) g in
        ext_get_or 0 (tabulate (length before) g) (overwrite n (flags_after e fs) fs) (q ∙ size ∙ sym (length-overwrite n (flags_after e fs) fs))
        (λ k l. at_tabulate 0 (length before) g k (omega arith)
        ∙ ⊎_elim
        (λ (h : n ≤ k). rw (reached-same k, past k h) (rest k h) ∙ sym (past_overwrite 0 n (flags_after e fs) fs k h))
        (λ (h : k < n). flag k h ∙ sym (at_overwrite 0 n (flags_after e fs) fs k h (omega arith)))
        (order n k))

-- ---- the drawing's lists
moved_here : (xs : List Float) (place : ℕ) (new : Anchor) (j : ℕ) → j / 6 ≡ place → anchor_numbers (λ k. cond (eqb k place) new (anchor_at xs k)) j ≡ entry (numbers new) (j % 6)
unfolding anchor_numbers
moved_here xs place new j e = rw (eq-eqb (j / 6) place e)

moved-elsewhere : (xs : List Float) (place : ℕ) (new : Anchor) (j : ℕ) → (j / 6 ≡ place → ⊥) → anchor_numbers (λ k. cond (eqb k place) new (anchor_at xs k)) j ≡ anchor_numbers (anchor_at xs) j
unfolding anchor_numbers
moved-elsewhere xs place new j ne = rw (ne_eqb (j / 6) place ne)

kept : {A : Type 0} (d : A) (xs : List A) (n : ℕ) (f : ℕ → A) → ((i : ℕ) → i < n → get_or xs i d ≡ f i) → xs ≡ overwrite n f xs
kept d xs n f h = as_overwrite d xs xs n f refl h (λ i l. refl)

-- a moved anchor is one anchor put
pub move_anchors : (xs : List Float) (n place : ℕ) (new : Anchor) → place < n → n * 6 ≤ length xs
    → put_anchor xs place new ≡ overwrite (n * 6) (anchor_numbers (λ k. cond (eqb k place) new (anchor_at xs k))) xs
move_anchors xs n place new l long =
    let f : ℕ → Anchor = λ k. cond (eqb k place) new (anchor_at xs k) in
    ext_get_or nan (put_anchor xs place new) (overwrite (n * 6) (anchor_numbers f) xs) (length-put xs place new ∙ sym (length-overwrite (n * 6) (anchor_numbers f) xs))
    (λ j h. let q = length-put xs place new in
    ⊎_elim
    (λ (m : n * 6 ≤ j). put_out xs place new j (inr (omega arith)) ∙ sym (past_overwrite nan (n * 6) (anchor_numbers f) xs j m))
    (λ (m : j < n * 6). number j ∙ sym (at_overwrite nan (n * 6) (anchor_numbers f) xs j m (omega arith)))
    (order (n * 6) j))
  where
    number : (j : ℕ) → entry (put_anchor xs place new) j ≡ anchor_numbers (λ k. cond (eqb k place) new (anchor_at xs k)) j
    number j =
        ⊎_elim
        (λ (e : j / 6 ≡ place). let z : j ≡ place * 6 + j % 6 = omega arith in
        ap (entry (put_anchor xs place new)) z ∙ put_in xs place new (omega arith) (j % 6) (omega arith) ∙ sym (moved_here xs place new j e))
        (λ (ne : j / 6 ≡ place → ⊥). put_out xs place new j (⊎_elim (λ (g : place * 6 ≤ j). inr (⊎_elim (λ (i : place * 6 + 6 ≤ j). i) (λ (i : j < place * 6 + 6). absurd (ne (omega arith))) (order (place * 6 + 6) j))) (λ (g : j < place * 6). inl g) (order (place * 6) j))
        ∙ sym (numbers_at xs j)
        ∙ sym (moved-elsewhere xs place new j ne))
        (same (j / 6) place)

-- anchors and radii that an edit does not write
pub radius_anchors : (xs : List Float) (n : ℕ) → xs ≡ overwrite (n * 6) (anchor_numbers (anchor_at xs)) xs
radius_anchors xs n = kept nan xs (n * 6) (anchor_numbers (anchor_at xs)) (λ j l. sym (numbers_at xs j))

pub move_radii : (xs : List Float) (n : ℕ) → xs ≡ overwrite n (entry xs) xs
move_radii xs n = kept nan xs n (entry xs) (λ j l. refl)

-- a set radius is one store
pub radius_radii : (xs : List Float) (n place : ℕ) (r : Float) → place < n → n ≤ length xs → set xs place r ≡ overwrite n (λ k. cond (eqb k place) r (entry xs k)) xs
radius_radii xs n place r l long =
    let f : ℕ → Float = λ k. cond (eqb k place) r (entry xs k) in
    ext_get_or nan (set xs place r) (overwrite n f xs) (length-set xs place r ∙ sym (length-overwrite n f xs))
    (λ j h. let q = length-set xs place r in
    ⊎_elim
    (λ (m : n ≤ j). get_or-set_other xs place j r nan (λ e. omega arith) ∙ sym (past_overwrite nan n f xs j m))
    (λ (m : j < n). number j ∙ sym (at_overwrite nan n f xs j m (omega arith)))
    (order n j))
  where
    number : (j : ℕ) → entry (set xs place r) j ≡ cond (eqb j place) r (entry xs j)
    number j =
        ⊎_elim
        (λ (e : j ≡ place). rw (eq-eqb j place e) (ap (entry (set xs place r)) e ∙ get_or-set_same xs place r nan (omega arith)))
        (λ (ne : j ≡ place → ⊥). rw (ne_eqb j place ne) (get_or-set_other xs place j r nan ne))
        (same j place)
