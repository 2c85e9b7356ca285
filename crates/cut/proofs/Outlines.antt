-- The outline: how many anchors it has, that it turns on the places alone, and what a subpath keeps where nothing is cut. Assumes nothing.
use mathlib.Core.Path.{◌≡◌, refl, sym, ap, ap₂, ◌∙◌, fun_ext}
use mathlib.Core.Bool.{Bool, true, false, ◌&&◌, cond}
use mathlib.Core.List.{List, [], ◌∷◌, ◌++◌, append-nil}
use Prim.Native.Nat.{ℕ, zero, suc, ◌+◌, ◌<◌, zero-le, suc-le-suc}
use native.Mathlib.Nat.{le_refl, lt_trans}
use native.Mathlib.Numerals.{add-one}
use native.Mathlib.Omega.{arith}
use lib.Dec.{ltb, eqb-suc-zero}
use lib.Ieee.{lt, of_bits}
use lib.ListN.{length, length-append}
use borrow.Author.Tests.{lt-ltb, le-ltb}
use Rattle.views.specs.Search.{count}
use Rattle.views.proofs.Bools.{and_false}
use Rattle.views.specs.View.{tabulate}
use Rattle.views.proofs.Laws.{tabulate_more}
use Rattle.views.proofs.Searches.{count_more, count_same}
use Rattle.geom.specs.declared.point.P.{P}
use Rattle.path.specs.declared.anchor.Anchor.{Anchor}
use Rattle.std.proofs.Common.{Option, Some, None, option_map, is_some}
use Rattle.corner.specs.declared.corner.Corner.{Corner}
use Rattle.corner.specs.declared.cut.Cut.{Cut}
use Rattle.corner.specs.Cut.{cut}
use Rattle.cut.specs.declared.places.Place.{Place}
use Rattle.cut.specs.View.{View, arrives, leaves}
use Rattle.path.specs.Shape.{prev, next}
use Rattle.cut.specs.Places.{corner_at, fitted_at, is_cut, cut_at, trimmed_at, in_at, out_at, place_of, place_at}
use Rattle.path.specs.Anchor.{without_handles}
use Rattle.geom.specs.Point.{origin}
use Rattle.cut.specs.Outline.{joined, anchors_at, held_back, assembled, cut_corners}
use Rattle.cut.proofs.Steps.{next-prev, prev-lt, next-lt}

-- ---- the number of anchors

one_more : (g : ℕ → List Anchor) (n : ℕ) → length (joined g (suc n)) ≡ length (joined g n) + length (g n)
unfolding joined
one_more g n = length-append (joined g n) (g n)

-- a cut place has two anchors, of which anchor 0 of a closed subpath leaves one for the end
size_cut : (c : Bool) (f : ℕ → Place) (n : ℕ) → (f (suc n)).cut ≡ true → length (anchors_at c f (suc n)) ≡ 2
unfolding anchors_at
size_cut c f n e = rw (e, eqb-suc-zero n, and_false c)

size_uncut : (c : Bool) (f : ℕ → Place) (n : ℕ) → (f n).cut ≡ false → length (anchors_at c f n) ≡ 1
unfolding anchors_at
size_uncut c f n e = rw e

size_first : (c : Bool) (f : ℕ → Place) → (f 0).cut ≡ true → length (anchors_at c f 0) + length (held_back 1 c f) ≡ 2
unfolding anchors_at held_back
size_first c f e = rw e (go c)
  where
    go : (c : Bool) → length (cond (c && true) ((f 0).end ∷ []) ((f 0).start ∷ (f 0).end ∷ [])) + length (cond {A = List Anchor} (c && true) ((f 0).start ∷ []) []) ≡ 2
    go true = refl
    go false = refl

held_back_uncut : (c : Bool) (f : ℕ → Place) (n : ℕ) → (f 0).cut ≡ false → length (held_back n c f) ≡ 0
unfolding held_back
held_back_uncut c f n e = rw e (go (ltb 0 n))
  where
    go : (b : Bool) → length (cond {A = List Anchor} (c && (b && false)) ((f 0).start ∷ []) []) ≡ 0
    go b = rw (and_false b, and_false c)

held_back-none : (c : Bool) (f : ℕ → Place) → length (held_back 0 c f) ≡ 0
unfolding held_back
held_back-none c f = rw (and_false c)

held_back-same : (c : Bool) (f : ℕ → Place) (n : ℕ) → held_back (suc (suc n)) c f ≡ held_back (suc n) c f
unfolding held_back
held_back-same c f n = rw (lt-ltb 0 (suc (suc n)) (omega arith), lt-ltb 0 (suc n) (omega arith))

count_none : (p : ℕ → Bool) → count p 0 ≡ 0
unfolding count
count_none p = refl

empty : (g : ℕ → List Anchor) → length (joined g 0) ≡ 0
unfolding joined
empty g = refl

-- one place more, by whether it is cut
grown : (c : Bool) (f : ℕ → Place) (n : ℕ) (b : Bool) → (f n).cut ≡ b
    → length (joined (anchors_at c f) n) + length (held_back n c f) ≡ n + count (λ i. (f i).cut) n
    → length (joined (anchors_at c f) (suc n)) + length (held_back (suc n) c f) ≡ suc n + count (λ i. (f i).cut) (suc n)
grown c f zero true e h = omega (arith, one_more (anchors_at c f) 0, empty (anchors_at c f), size_first c f e, count_more (λ i. (f i).cut) 0 e, count_none (λ i. (f i).cut))
grown c f zero false e h = omega (arith, one_more (anchors_at c f) 0, empty (anchors_at c f), size_uncut c f 0 e, held_back_uncut c f 1 e, count_same (λ i. (f i).cut) 0 e, count_none (λ i. (f i).cut))
grown c f (suc n) true e h = omega (arith, one_more (anchors_at c f) (suc n), size_cut c f n e, ap length (held_back-same c f n), count_more (λ i. (f i).cut) (suc n) e ∙ ap (count (λ i. (f i).cut)) (add-one (suc n)))
grown c f (suc n) false e h = omega (arith, one_more (anchors_at c f) (suc n), size_uncut c f (suc n) e, ap length (held_back-same c f n), count_same (λ i. (f i).cut) (suc n) e ∙ ap (count (λ i. (f i).cut)) (add-one (suc n)))

total : (c : Bool) (f : ℕ → Place) (n : ℕ) → length (joined (anchors_at c f) n) + length (held_back n c f) ≡ n + count (λ i. (f i).cut) n
total c f zero = omega (arith, empty (anchors_at c f), held_back-none c f, count_none (λ i. (f i).cut))
total c f (suc n) = grown c f n (f n).cut refl (total c f n)

pub assembled-length : (n : ℕ) (c : Bool) (f : ℕ → Place) → length (assembled n c f) ≡ n + count (λ i. (f i).cut) n
unfolding assembled
assembled-length n c f = length-append (joined (anchors_at c f) n) (held_back n c f) ∙ total c f n

-- a cut is made where the fitted radius is above 1e-9
pub none-fits : (v : View) (i : ℕ) → corner_at v i ≡ None → is_cut v i ≡ false
unfolding is_cut fitted_at lt of_bits
none-fits v i e = rw e

pub cut_not : (v : View) (i : ℕ) → is_cut v i ≡ false → cut_at v i ≡ None
unfolding cut_at
cut_not v i e = rw e refl

pub cut_none : (v : View) (i : ℕ) → corner_at v i ≡ None → cut_at v i ≡ None
cut_none v i e = cut_not v i (none-fits v i e)

pub cut_some : (v : View) (i : ℕ) (c : Corner) → corner_at v i ≡ Some c → is_cut v i ≡ true → cut_at v i ≡ Some (cut v.chords c (fitted_at v i) (v.kind i))
unfolding cut_at
cut_some v i c e h = rw (h, e) refl

pub cut_made : (v : View) (i : ℕ) → is_some (cut_at v i) ≡ is_cut v i
unfolding cut_at
cut_made v i = go (is_cut v i) (corner_at v i) refl refl
  where
    go : (b : Bool) (c : Option Corner) → is_cut v i ≡ b → corner_at v i ≡ c → is_some (cond b (option_map (λ k. cut v.chords k (fitted_at v i) (v.kind i)) c) None) ≡ b
    go true (Some c) h e = refl
    go true None h e = sym (none-fits v i e) ∙ h
    go false (Some c) h e = refl
    go false None h e = refl

place_some : (a : Anchor) (c : Option Cut) (p q : P) → (place_of a c p q).cut ≡ is_some c
unfolding place_of
place_some a (Some c) p q = refl
place_some a None p q = refl

pub place_cut : (v : View) (i : ℕ) → (place_at v i).cut ≡ is_cut v i
unfolding place_at
place_cut v i = place_some (v.anchor i) (cut_at v i) (in_at v i) (out_at v i) ∙ cut_made v i

-- n anchors, and one for each index whose fitted radius is above 1e-9
pub cut-length : (v : View) → length (cut_corners v) ≡ v.n + count (is_cut v) v.n
unfolding cut_corners
cut-length v = assembled-length v.n v.closed (place_at v) ∙ ap (λ (p : ℕ → Bool). v.n + count p v.n) (fun_ext (place_cut v))

-- ---- the outline turns on the places alone
joined_same : (g h : ℕ → List Anchor) (n : ℕ) → ((i : ℕ) → i < n → g i ≡ h i) → joined g n ≡ joined h n
unfolding joined
joined_same g h zero e = refl
joined_same g h (suc n) e = rw (joined_same g h n (λ i l. e i (lt_trans l (le_refl (suc n)))), e n (le_refl (suc n)))

pub assembled-same : (n : ℕ) (c : Bool) (f g : ℕ → Place) → ((i : ℕ) → i < n → f i ≡ g i) → assembled n c f ≡ assembled n c g
unfolding assembled anchors_at held_back
assembled-same n c f g e = ap₂ ◌++◌ (joined_same (anchors_at c f) (anchors_at c g) n each) (last n e)
  where
    each : (i : ℕ) → i < n → anchors_at c f i ≡ anchors_at c g i
    each i l = rw (e i l)

    last : (n : ℕ) → ((i : ℕ) → i < n → f i ≡ g i) → held_back n c f ≡ held_back n c g
    last zero e = rw (and_false c)
    last (suc n) e = rw (e 0 (suc-le-suc zero-le))

-- ---- what is kept
pub side_kept : (v : View) (j : ℕ) → is_cut v j ≡ false → is_cut v (next v.n j) ≡ false → trimmed_at v j ≡ record { out = (v.anchor j).h_out; into = (v.anchor (next v.n j)).h_in }
unfolding trimmed_at
side_kept v j e h = rw (e, h, and_false (leaves v j))

-- an anchor that is not cut, between two that are not
pub place_kept : (v : View) (i : ℕ) → i < v.n → is_cut v i ≡ false → is_cut v (prev v.n i) ≡ false → is_cut v (next v.n i) ≡ false
    → place_at v i ≡ record { cut = false; start = v.anchor i; end = (without_handles origin) }
unfolding place_at place_of cut_at in_at out_at
place_kept v i l e f g =
    let b : is_cut v (next v.n (prev v.n i)) ≡ false = rw (next-prev v.n i l) e in
    rw (e, side_kept v (prev v.n i) f b, side_kept v i e g, next-prev v.n i l) (λ k. record {
      cut = false;
      start = record { p = (v.anchor i).p; h_in = ends (arrives v i) (v.anchor i).h_in k; h_out = ends (leaves v i) (v.anchor i).h_out k };
      end = (without_handles origin);
    })
  where
    ends : (b : Bool) (p : P) → cond b p p ≡ p
    ends true p = refl
    ends false p = refl

-- an open end's outer handle, whatever is cut
pub first_kept : (v : View) → v.closed ≡ false → in_at v 0 ≡ (v.anchor 0).h_in
unfolding in_at arrives
first_kept v e = rw e

pub last_kept : (v : View) (i : ℕ) → v.closed ≡ false → v.n ≡ i + 1 → out_at v i ≡ (v.anchor i).h_out
unfolding out_at leaves
last_kept v i e h = rw (e, h, le-ltb (i + 1) (i + 1) (le_refl (i + 1)))

-- ---- an open end is never cut
not-cut : (v : View) (i : ℕ) → (arrives v i && leaves v i) ≡ false → is_cut v i ≡ false
unfolding is_cut fitted_at corner_at lt of_bits
not-cut v i e = rw e

pub first_uncut : (v : View) → v.closed ≡ false → is_cut v 0 ≡ false
unfolding arrives
first_uncut v e = not-cut v 0 (rw e)

pub last_uncut : (v : View) (i : ℕ) → v.closed ≡ false → v.n ≡ i + 1 → is_cut v i ≡ false
unfolding leaves
last_uncut v i e h =
    let l : leaves v i ≡ false = rw (e, h, le-ltb (i + 1) (i + 1) (le_refl (i + 1))) in
    not-cut v i (rw l (and_false (arrives v i)))

-- ---- with no cut every bit stays
one_each : (f : ℕ → Anchor) (n : ℕ) → joined (λ i. f i ∷ []) n ≡ tabulate n f
unfolding joined tabulate
one_each f zero = refl
one_each f (suc n) = rw (one_each f n) (sym (tabulate_more n f))

pub uncut_kept : (v : View) → ((i : ℕ) → i < v.n → is_cut v i ≡ false) → cut_corners v ≡ tabulate v.n v.anchor
unfolding cut_corners assembled held_back anchors_at
uncut_kept v h =
    assembled-same v.n v.closed (place_at v) (λ i. record { cut = false; start = v.anchor i; end = without_handles origin }) kept
    ∙ rw (and_false (ltb 0 v.n), and_false v.closed) (append-nil (joined (λ i. v.anchor i ∷ []) v.n) ∙ one_each v.anchor v.n)
  where
    kept : (i : ℕ) → i < v.n → place_at v i ≡ record { cut = false; start = v.anchor i; end = without_handles origin }
    kept i l = place_kept v i l (h i l) (h (prev v.n i) (prev-lt v.n i l)) (h (next v.n i) (next-lt v.n i l))
