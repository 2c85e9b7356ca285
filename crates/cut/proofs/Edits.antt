-- The three edits of a kept outline, from locality: recutting what is near and keeping the rest gives every place of the new view. Assumes nothing.
use mathlib.Core.Path.{◌≡◌, refl, sym, ap, ◌∙◌}
use mathlib.Core.Logic.{⊎_elim}
use mathlib.Core.Bool.{Bool, true, false, ◌&&◌, ◌||◌, cond}
use Prim.Native.Nat.{ℕ, ◌+◌, ◌-◌, ◌≤◌, ◌<◌}
use native.Mathlib.Omega.{arith}
use lib.Dec.{leb}
use Rattle.views.specs.Search.{count}
use Rattle.views.proofs.Laws.{order}
use Rattle.cut.specs.declared.places.Place.{Place}
use Rattle.cut.specs.View.{View}
use Rattle.cut.specs.Places.{place_at}
use Rattle.cut.specs.Near.{gap, near, near_count, old}
use Rattle.views.proofs.Bools.{not_both}
use Rattle.cut.proofs.Locality.{locality, Inserted, split_locality}
use Rattle.cut.proofs.Shifts.{old_low, old_high}

pub near_sym : (k n : ℕ) (c : Bool) (i j : ℕ) → near k n c i j ≡ near k n c j i
unfolding near gap
near_sym k n c i j =
    let e : i - j + (j - i) ≡ j - i + (i - j) = omega arith in
    ap (λ (d : ℕ). leb d k || c && leb n (d + k)) e

-- ---- w is v with another anchor at a
pub record Moved (v w : View) (a : ℕ) : Type 0 where
  pub n : w.n ≡ v.n
  pub closed : w.closed ≡ v.closed
  pub chords : w.chords ≡ v.chords
  pub anchors : (j : ℕ) → j < w.n → (j ≡ a → ⊥) → w.anchor j ≡ v.anchor j
  pub radii : (j : ℕ) → j < w.n → w.radius j ≡ v.radius j
  pub kinds : (j : ℕ) → j < w.n → w.kind j ≡ v.kind j

-- ---- w is v with another radius at a
pub record Resized (v w : View) (a : ℕ) : Type 0 where
  pub n : w.n ≡ v.n
  pub closed : w.closed ≡ v.closed
  pub chords : w.chords ≡ v.chords
  pub anchors : (j : ℕ) → j < w.n → w.anchor j ≡ v.anchor j
  pub radii : (j : ℕ) → j < w.n → (j ≡ a → ⊥) → w.radius j ≡ v.radius j
  pub kinds : (j : ℕ) → j < w.n → w.kind j ≡ v.kind j

-- an index near one that a is not near is not a
other : (k n : ℕ) (c : Bool) (a i j : ℕ) → near k n c a i ≡ false → near k n c i j ≡ true → j ≡ a → ⊥
other k n c a i j e h q = not_both (near k n c a i) e (near_sym k n c a i ∙ ap (near k n c i) (sym q) ∙ h)

pub move_locality : (v w : View) (a : ℕ) → Moved v w a → (i : ℕ) → i < w.n → near 3 w.n w.closed a i ≡ false → place_at w i ≡ place_at v i
move_locality v w a t i h e = locality v w i h (record {
  n = t.n;
  closed = t.closed;
  chords = t.chords;
  anchors = λ j l g. t.anchors j l (other 3 w.n w.closed a i j e g);
  radii = λ j l g. t.radii j l;
  kind = t.kinds i h;
})

pub radius_locality : (v w : View) (a : ℕ) → Resized v w a → (i : ℕ) → i < w.n → near 2 w.n w.closed a i ≡ false → place_at w i ≡ place_at v i
radius_locality v w a t i h e = locality v w i h (record {
  n = t.n;
  closed = t.closed;
  chords = t.chords;
  anchors = λ j l g. t.anchors j l;
  radii = λ j l g. t.radii j l (other 2 w.n w.closed a i j e g);
  kind = t.kinds i h;
})

-- ---- the step of demand 3: where the places f were those of v, recut near a and kept elsewhere, they are those of w
kept_or-cut : (b : Bool) (x y z : Place) → (b ≡ false → z ≡ y) → x ≡ y → cond b x z ≡ y
kept_or-cut true x y z h e = e
kept_or-cut false x y z h e = h refl

pub move_recut : (v w : View) (a : ℕ) → Moved v w a → (f : ℕ → Place) → ((i : ℕ) → i < v.n → f i ≡ place_at v i)
    → (i : ℕ) → i < w.n → cond (near 3 w.n w.closed a i) (place_at w i) (f i) ≡ place_at w i
move_recut v w a t f h i l =
    let m : i < v.n = let q = t.n in omega arith in
    kept_or-cut (near 3 w.n w.closed a i) (place_at w i) (place_at w i) (f i) (λ e. h i m ∙ sym (move_locality v w a t i l e)) refl

pub radius-recut : (v w : View) (a : ℕ) → Resized v w a → (f : ℕ → Place) → ((i : ℕ) → i < v.n → f i ≡ place_at v i)
    → (i : ℕ) → i < w.n → cond (near 2 w.n w.closed a i) (place_at w i) (f i) ≡ place_at w i
radius-recut v w a t f h i l =
    let m : i < v.n = let q = t.n in omega arith in
    kept_or-cut (near 2 w.n w.closed a i) (place_at w i) (place_at w i) (f i) (λ e. h i m ∙ sym (radius_locality v w a t i l e)) refl

pub split-recut : (v w : View) (a : ℕ) → Inserted v w a → (f : ℕ → Place) → ((i : ℕ) → i < v.n → f i ≡ place_at v i)
    → (i : ℕ) → i < w.n → cond (near 4 w.n w.closed (a + 1) i) (place_at w i) (f (old a i)) ≡ place_at w i
split-recut v w a t f h i l =
    kept_or-cut (near 4 w.n w.closed (a + 1) i) (place_at w i) (place_at w i) (f (old a i)) (λ e. h (old a i) small ∙ sym (split_locality v w a t i l e)) refl
  where
    small : old a i < v.n
    small = ⊎_elim (λ (m : i ≤ a). rw (old_low a i m) (let p = t.from in omega arith)) (λ (m : a < i). rw (old_high a i m) (let q = t.n in omega arith)) (order i a)

-- ---- document 01's sample pieces: closed 8, move 7, radius 5; closed 5, move 5; open 10, move of anchor 0, 4; open 10 split at segment 0, 6
closed_8_move : near_count 3 8 true 0 ≡ 7
unfolding near_count near gap count
closed_8_move = refl

closed_8_radius : near_count 2 8 true 5 ≡ 5
unfolding near_count near gap count
closed_8_radius = refl

closed_5_move : near_count 3 5 true 1 ≡ 5
unfolding near_count near gap count
closed_5_move = refl

open_10_move : near_count 3 10 false 0 ≡ 4
unfolding near_count near gap count
open_10_move = refl

open_10_split : near_count 4 11 false 1 ≡ 6
unfolding near_count near gap count
open_10_split = refl
