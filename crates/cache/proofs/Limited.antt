-- Every number of an outline is within the limit exactly where every number of its places is. Assumes nothing.
use mathlib.Core.Path.{◌≡◌, refl, sym, ◌∙◌}
use mathlib.Core.Logic.{⊎_elim}
use mathlib.Core.Bool.{Bool, true, false, ◌&&◌, cond, true≢false}
use mathlib.Core.List.{List, [], ◌∷◌, ◌++◌}
use Prim.Native.Nat.{ℕ, zero, suc, ◌+◌, ◌-◌, ◌≤◌, ◌<◌, zero-le, suc-le-suc}
use native.Mathlib.Nat.{le_of_suc-le-suc, not-suc-le-zero, le_refl}
use native.Mathlib.Omega.{arith}
use lib.Arith.{lt_of_le-ne}
use lib.Dec.{ltb, eqb}
use lib.ListN.{length}
use lib.Ieee.{of_bits}
use borrow.Author.Tests.{lt-ltb, ltb-true, eqb-true}
use Rattle.path.specs.Limit.{anchor_good}
use Rattle.views.specs.View.{entry}
use Rattle.views.proofs.Bools.{both}
use Rattle.views.specs.Search.{all}
use Rattle.views.proofs.Laws.{same}
use Rattle.real.specs.Limit.{in_limit}
use Rattle.geom.specs.declared.point.P.{P}
use Rattle.geom.specs.Point.{origin}
use Rattle.path.specs.declared.anchor.Anchor.{Anchor}
use Rattle.path.specs.Anchor.{without_handles}
use Rattle.path.specs.Flat.{numbers, nth}
use Rattle.path.specs.Shape.{count_of, closed_of, total, word_at, start, sub_of}
use Rattle.path.proofs.Shapes.{total_in}
use Rattle.path.proofs.Limits.{GoodBelow}
use Rattle.std.proofs.Common.{Option, Some, None}
use Rattle.corner.specs.declared.cut.Cut.{Cut}
use Rattle.cut.specs.declared.places.Place.{Place}
use Rattle.cut.specs.View.{View}
use Rattle.cut.specs.Places.{cut_at, in_at, out_at, place_at, place_of, place_numbers}
use Rattle.cut.specs.Outline.{joined, anchors_at, held_back, assembled}
use Rattle.assembly.specs.Assembled.{subpath_outline, outline_up_to, outline_of}
use Rattle.call.specs.Tests.{outline_in}
use Rattle.cache.specs.Cache.{place_of_path, cached_in}
use Rattle.cache.proofs.Subpaths.{located}

all_of : (a b : Bool) → a ≡ true → b ≡ true → (a && b) ≡ true
all_of a b e f = rw (e, f)

-- every anchor of a list
unfoldable every : List Anchor → Bool
every [] = true
every (a ∷ ps) = anchor_good a && every ps

every_in : (ps : List Anchor) → every ps ≡ true → GoodBelow (outline_in ps) (length ps)
unfolding every outline_in nth anchor_good
every_in [] e j l = absurd (not-suc-le-zero l)
every_in (a ∷ ps) e zero l = (both (anchor_good a) (every ps) e).0
every_in (a ∷ ps) e (suc j) l = every_in ps (both (anchor_good a) (every ps) e).1 j (le_of_suc-le-suc l)

in_every : (ps : List Anchor) → GoodBelow (outline_in ps) (length ps) → every ps ≡ true
unfolding every outline_in nth anchor_good
in_every [] g = refl
in_every (a ∷ ps) g = all_of (anchor_good a) (every ps) (g zero (suc-le-suc zero-le)) (in_every ps (λ j l. g (suc j) (suc-le-suc l)))

every_append : (ps qs : List Anchor) → every (ps ++ qs) ≡ (every ps && every qs)
unfolding every
every_append [] qs = refl
every_append (a ∷ ps) qs = go (anchor_good a) (every_append ps qs)
  where
    go : (b : Bool) → every (ps ++ qs) ≡ (every ps && every qs) → (b && every (ps ++ qs)) ≡ ((b && every ps) && every qs)
    go true e = e
    go false e = refl

-- ---- places one after the other
every_joined : (g : ℕ → List Anchor) (n : ℕ) → every (joined g n) ≡ true → (i : ℕ) → i < n → every (g i) ≡ true
unfolding joined
every_joined g zero e i l = absurd (not-suc-le-zero l)
every_joined g (suc n) e i l =
    let b = both (every (joined g n)) (every (g n)) (sym (every_append (joined g n) (g n)) ∙ e) in
    ⊎_elim (λ (q : i ≡ n). rw q b.1) (λ ne. every_joined g n b.0 i (lt_of_le-ne (le_of_suc-le-suc l) ne)) (same i n)

joined_every : (g : ℕ → List Anchor) (n : ℕ) → ((i : ℕ) → i < n → every (g i) ≡ true) → every (joined g n) ≡ true
unfolding joined every
joined_every g zero h = refl
joined_every g (suc n) h = every_append (joined g n) (g n) ∙ all_of (every (joined g n)) (every (g n)) (joined_every g n (λ i l. h i (omega arith))) (h n (le_refl (suc n)))

-- ---- what is handed out of a place: its start, and its end where it is cut
unfoldable handed : Place → Bool
handed p = anchor_good p.start && cond p.cut (anchor_good p.end) true

-- b says that the place is cut, d that its start is held back
out_of : (b d : Bool) (x y : Anchor) → every (cond b (cond d (y ∷ []) (x ∷ y ∷ [])) (x ∷ [])) ≡ true → (b ≡ true → d ≡ true → anchor_good x ≡ true) → (anchor_good x && cond b (anchor_good y) true) ≡ true
unfolding every
out_of false d x y e h = all_of (anchor_good x) true (both (anchor_good x) true e).0 refl
out_of true true x y e h = all_of (anchor_good x) (anchor_good y) (h refl refl) (both (anchor_good y) true e).0
out_of true false x y e h =
    let b = both (anchor_good x) (anchor_good y && true) e in
    all_of (anchor_good x) (anchor_good y) b.0 (both (anchor_good y) true b.1).0

into : (b d : Bool) (x y : Anchor) → (anchor_good x && cond b (anchor_good y) true) ≡ true → every (cond b (cond d (y ∷ []) (x ∷ y ∷ [])) (x ∷ [])) ≡ true
unfolding every
into false d x y e = all_of (anchor_good x) true (both (anchor_good x) true e).0 refl
into true true x y e = all_of (anchor_good y) true (both (anchor_good x) (anchor_good y) e).1 refl
into true false x y e =
    let b = both (anchor_good x) (anchor_good y) e in
    all_of (anchor_good x) (anchor_good y && true) b.0 (all_of (anchor_good y) true b.1 refl)

module _ (n : ℕ) (c : Bool) (f : ℕ → Place) where
  -- the start that is held back
  held_in : every (held_back n c f) ≡ true → (i : ℕ) → i < n → (f i).cut ≡ true → (c && eqb i 0) ≡ true → anchor_good (f i).start ≡ true
  unfolding held_back every
  held_in e i l cut d =
      let b = both c (eqb i 0) d in
      let z : i ≡ 0 = eqb-true i 0 b.1 in
      let cut0 : (f 0).cut ≡ true = rw z at cut in
      rw z (both (anchor_good (f 0).start) true (rw (b.0, lt-ltb 0 n (omega arith), cut0) at e)).0

  in_held : ((i : ℕ) → i < n → handed (f i) ≡ true) → every (held_back n c f) ≡ true
  unfolding held_back every handed
  in_held h = go (c && (ltb 0 n && (f 0).cut)) refl
    where
      go : (b : Bool) → (c && (ltb 0 n && (f 0).cut)) ≡ b → every (cond b ((f 0).start ∷ []) []) ≡ true
      go true e =
          let l = (both (ltb 0 n) (f 0).cut (both c (ltb 0 n && (f 0).cut) e).1).0 in
          all_of (anchor_good (f 0).start) true (both (anchor_good (f 0).start) (cond (f 0).cut (anchor_good (f 0).end) true) (h 0 (ltb-true 0 n l))).0 refl
      go false e = refl

  assembled-handed : every (assembled n c f) ≡ true → (i : ℕ) → i < n → handed (f i) ≡ true
  unfolding assembled handed anchors_at
  assembled-handed e i l =
      let b = both (every (joined (anchors_at c f) n)) (every (held_back n c f)) (sym (every_append (joined (anchors_at c f) n) (held_back n c f)) ∙ e) in
      out_of (f i).cut (c && eqb i 0) (f i).start (f i).end (every_joined (anchors_at c f) n b.0 i l) (held_in b.1 i l)

  handed-assembled : ((i : ℕ) → i < n → handed (f i) ≡ true) → every (assembled n c f) ≡ true
  unfolding assembled handed anchors_at
  handed-assembled h =
      every_append (joined (anchors_at c f) n) (held_back n c f)
      ∙ all_of (every (joined (anchors_at c f) n)) (every (held_back n c f)) (joined_every (anchors_at c f) n (λ i l. into (f i).cut (c && eqb i 0) (f i).start (f i).end (h i l))) (in_held h)

-- ---- a path
module _ (shapes : List ℕ) (f : ℕ → Place) where
  up_to_handed : (m : ℕ) → every (outline_up_to shapes f m) ≡ true → (s i : ℕ) → s < m → i < count_of (word_at shapes s) → handed (f (start shapes s + i)) ≡ true
  unfolding outline_up_to subpath_outline
  up_to_handed zero e s i l h = absurd (not-suc-le-zero l)
  up_to_handed (suc m) e s i l h =
      let b = both (every (outline_up_to shapes f m)) (every (subpath_outline shapes f m)) (sym (every_append (outline_up_to shapes f m) (subpath_outline shapes f m)) ∙ e) in
      ⊎_elim
      (λ (q : s ≡ m). rw q (assembled-handed (count_of (word_at shapes m)) (closed_of (word_at shapes m)) (λ j. f (start shapes m + j)) b.1 i (rw q at h)))
      (λ ne. up_to_handed m b.0 s i (lt_of_le-ne (le_of_suc-le-suc l) ne) h)
      (same s m)

  handed-up_to : (m : ℕ) → m ≤ length shapes → ((k : ℕ) → k < total shapes → handed (f k) ≡ true) → every (outline_up_to shapes f m) ≡ true
  unfolding outline_up_to subpath_outline every
  handed-up_to zero l h = refl
  handed-up_to (suc m) l h =
      every_append (outline_up_to shapes f m) (subpath_outline shapes f m)
      ∙ all_of (every (outline_up_to shapes f m)) (every (subpath_outline shapes f m)) (handed-up_to m (omega arith) h)
      (handed-assembled (count_of (word_at shapes m)) (closed_of (word_at shapes m)) (λ j. f (start shapes m + j)) (λ i w. h (start shapes m + i) (omega (arith, total_in shapes m l))))

  outline-handed : GoodBelow (outline_in (outline_of shapes f)) (length (outline_of shapes f)) → (k : ℕ) → k < total shapes → handed (f k) ≡ true
  unfolding outline_of
  outline-handed g k l =
      let w = located shapes k l in
      let s = sub_of shapes k in
      let e : start shapes s + (k - start shapes s) ≡ k = omega (arith, w.from) in
      rw e at (up_to_handed (length shapes) (in_every _ g) s (k - start shapes s) w.subpath (omega (arith, w.from, w.below)))

  handed-outline : ((k : ℕ) → k < total shapes → handed (f k) ≡ true) → GoodBelow (outline_in (outline_of shapes f)) (length (outline_of shapes f))
  unfolding outline_of
  handed-outline h = every_in _ (handed-up_to (length shapes) (le_refl (length shapes)) h)

-- ---- twelve numbers: those of the start and those of the end, which are zeros where it is not cut
six : (a b c d e f r : Bool) → (a && (b && (c && (d && (e && (f && r)))))) ≡ ((a && (b && (c && (d && (e && (f && true)))))) && r)
six true true true true true true r = refl
six true true true true true false r = refl
six true true true true false f r = refl
six true true true false e f r = refl
six true true false d e f r = refl
six true false c d e f r = refl
six false b c d e f r = refl

twelve : (p : Place) → all (λ i. in_limit (entry (place_numbers p) i)) 12 ≡ (anchor_good p.start && anchor_good p.end)
unfolding anchor_good place_numbers numbers all
twelve p =
    let a = p.start in
    six (in_limit a.p.x) (in_limit a.p.y) (in_limit a.h_in.x) (in_limit a.h_in.y) (in_limit a.h_out.x) (in_limit a.h_out.y) (anchor_good p.end)

zeros : anchor_good (without_handles origin) ≡ true
unfolding anchor_good all numbers in_limit of_bits
zeros = refl

uncut_good : (a : Anchor) (c : Option Cut) (p q : P) → (place_of a c p q).cut ≡ false → anchor_good (place_of a c p q).end ≡ true
unfolding place_of
uncut_good a (Some c) p q e = absurd (true≢false e)
uncut_good a None p q e = zeros

module _ (shapes : List ℕ) (view : ℕ → View) (k : ℕ) where
  abbrev at : Place
  at = place_of_path shapes view k

  cached_handed : cached_in (place_of_path shapes view) k ≡ true → handed at ≡ true
  unfolding handed cached_in
  cached_handed e =
      let b = both (anchor_good at.start) (anchor_good at.end) (sym (twelve at) ∙ e) in
      all_of (anchor_good at.start) (cond at.cut (anchor_good at.end) true) b.0 (go at.cut b.1)
    where
      go : (d : Bool) → anchor_good at.end ≡ true → cond d (anchor_good at.end) true ≡ true
      go true h = h
      go false h = refl

  -- an end that is not handed out is of zeros
  end_good : at.cut ≡ false → anchor_good at.end ≡ true
  unfolding place_of_path place_at
  end_good e =
      let s = sub_of shapes k in
      let v = view s in
      let i = k - start shapes s in
      uncut_good (v.anchor i) (cut_at v i) (in_at v i) (out_at v i) e

  handed_cached : handed at ≡ true → cached_in (place_of_path shapes view) k ≡ true
  unfolding handed cached_in
  handed_cached e =
      let b = both (anchor_good at.start) (cond at.cut (anchor_good at.end) true) e in
      twelve at ∙ all_of (anchor_good at.start) (anchor_good at.end) b.0 (go at.cut refl b.1)
    where
      go : (d : Bool) → at.cut ≡ d → cond d (anchor_good at.end) true ≡ true → anchor_good at.end ≡ true
      go true q h = h
      go false q h = end_good q

-- ---- the outline of the cut's places
module _ (shapes : List ℕ) (view : ℕ → View) where
  pub outline_cached : GoodBelow (outline_in (outline_of shapes (place_of_path shapes view))) (length (outline_of shapes (place_of_path shapes view)))
      → GoodBelow (cached_in (place_of_path shapes view)) (total shapes)
  outline_cached g k l = handed_cached shapes view k (outline-handed shapes (place_of_path shapes view) g k l)

  pub cached_outline : GoodBelow (cached_in (place_of_path shapes view)) (total shapes)
      → GoodBelow (outline_in (outline_of shapes (place_of_path shapes view))) (length (outline_of shapes (place_of_path shapes view)))
  cached_outline g = handed-outline shapes (place_of_path shapes view) (λ k l. cached_handed shapes view k (g k l))
