-- The third pass, index by index: what the lists of places hold once the indices below m are done. Assumes nothing.
use mathlib.Core.Path.{◌≡◌, ap, ◌∙◌}
use mathlib.Core.Logic.{◌⊎◌, ⊎_elim}
use mathlib.Core.Bool.{Bool, true, false, ◌&&◌, cond}
use mathlib.Core.List.{List}
use Prim.Native.Nat.{ℕ, suc, ◌+◌, ◌-◌, ◌*◌, ◌/◌, ◌%◌, ◌≤◌, ◌<◌}
use native.Mathlib.Omega.{arith}
use lib.Dec.{leb, ltb}
use lib.ListN.{length, get_or, set}
use lib.Seq.{sets}
use lib.Ieee.{Float, nan}
use borrow.Author.Tests.{le-leb, lt-leb, lt-ltb, le-ltb}
use Rattle.views.specs.View.{entry}
use Rattle.views.proofs.Laws.{order, same, at_set}
use Rattle.views.proofs.Runs.{at_sets}
use Rattle.path.specs.Flat.{numbers, put_anchor}
use Rattle.path.proofs.Places.{put_run}
use Rattle.cut.specs.declared.places.Place.{Place}
use Rattle.cut.specs.Places.{place_numbers}
use Rattle.cut.specs.Recut.{put_place}

-- ---- a place put is a run of twelve stores
module _ (xs : List Float) (k : ℕ) (q : Place) where
  pub put_place_run : put_place xs k q ≡ sets xs (k * 12) (place_numbers q)
  unfolding place_numbers numbers
  put_place_run =
      let a : 2 * k * 6 ≡ k * 12 = omega arith in
      let b : (2 * k + 1) * 6 ≡ suc (suc (suc (suc (suc (suc (k * 12)))))) = omega arith in
      put_run (put_anchor xs (2 * k) q.start) (2 * k + 1) q.end
      ∙ ap (λ l. sets l ((2 * k + 1) * 6) (numbers q.end)) (put_run xs (2 * k) q.start)
      ∙ rw (a, b)

-- ---- place k is that of an index below m that passes
unfoldable pub touched : (ℕ → Bool) → ℕ → ℕ → ℕ → Bool
touched p first m k = leb first k && (ltb k (first + m) && p (k - first))

module _ (p : ℕ → Bool) (first : ℕ) where
  touched_none : (k : ℕ) → touched p first 0 k ≡ false
  unfolding touched
  touched_none k =
      ⊎_elim
      (λ (l : first ≤ k). rw (le-leb first k l, le-ltb k (first + 0) (omega arith)))
      (λ (l : k < first). rw (lt-leb first k l))
      (order first k)

  touched_away : (m k : ℕ) → (k ≡ first + m → ⊥) → touched p first m k ≡ touched p first (m + 1) k
  unfolding touched
  touched_away m k ne =
      ⊎_elim
      (λ (l : first + m + 1 ≤ k). rw (le-ltb k (first + m) (omega arith), le-ltb k (first + (m + 1)) (omega arith)))
      (λ (l : k < first + m + 1). rw (lt-ltb k (first + m) (omega arith), lt-ltb k (first + (m + 1)) (omega arith)))
      (order (first + m + 1) k)

  pub touched_here : (m k : ℕ) → m < k → touched p first k (first + m) ≡ p m
  unfolding touched
  touched_here m k l =
      let e : first + m - first ≡ m = omega arith in
      rw (le-leb first (first + m) (omega arith), lt-ltb (first + m) (first + k) (omega arith), e)

  touched_skip : (m k : ℕ) → p m ≡ false → touched p first m k ≡ touched p first (m + 1) k
  unfolding touched
  touched_skip m k f =
      ⊎_elim
      (λ (e : k ≡ first + m). rw (e, touched_here m (m + 1) (omega arith), f, le-leb first (first + m) (omega arith), le-ltb (first + m) (first + m) (omega arith)))
      (λ ne. touched_away m k ne)
      (same k (first + m))

  -- indices that do not pass change nothing
  pub touched_idle : (a b k : ℕ) → a ≤ b → ((j : ℕ) → a ≤ j → j < b → p j ≡ false) → touched p first a k ≡ touched p first b k
  unfolding touched
  touched_idle a b k l h =
      ⊎_elim
      (λ (f : first ≤ k).
      ⊎_elim
      (λ (u : first + b ≤ k). rw (le-ltb k (first + a) (omega arith), le-ltb k (first + b) u))
      (λ (u : k < first + b).
      ⊎_elim
      (λ (v : first + a ≤ k). rw (le-ltb k (first + a) v, lt-ltb k (first + b) u, h (k - first) (omega arith) (omega arith)))
      (λ (v : k < first + a). rw (lt-ltb k (first + a) v, lt-ltb k (first + b) u))
      (order (first + a) k))
      (order (first + b) k))
      (λ (f : k < first). rw (lt-leb first k f))
      (order first k)

-- ---- numbers, twelve a place
unfoldable pub numbers_at_lem : (ℕ → Bool) → ℕ → (ℕ → List Float) → List Float → ℕ → ℕ → Float
numbers_at_lem p first f xs m j = cond (touched p first m (j / 12)) (entry (f (j / 12 - first)) (j % 12)) (entry xs j)

module _ (p : ℕ → Bool) (first : ℕ) (f : ℕ → List Float) (xs : List Float) where
  pub numbers-none : (j : ℕ) → entry xs j ≡ numbers_at_lem p first f xs 0 j
  unfolding numbers_at_lem
  numbers-none j = rw (touched_none p first (j / 12))

  pub numbers_idle : (ys : List Float) (a b : ℕ) → a ≤ b → ((j : ℕ) → a ≤ j → j < b → p j ≡ false) → ((j : ℕ) → entry ys j ≡ numbers_at_lem p first f xs a j) → (j : ℕ) → entry ys j ≡ numbers_at_lem p first f xs b j
  unfolding numbers_at_lem
  numbers_idle ys a b l q h j = h j ∙ rw (touched_idle p first a b (j / 12) l q)

  pub numbers_skip : (ys : List Float) (m : ℕ) → p m ≡ false → ((j : ℕ) → entry ys j ≡ numbers_at_lem p first f xs m j) → (j : ℕ) → entry ys j ≡ numbers_at_lem p first f xs (m + 1) j
  unfolding numbers_at_lem
  numbers_skip ys m e h j = h j ∙ rw (touched_skip p first m (j / 12) e)

  pub numbers-put : (ys : List Float) (m : ℕ) (q : Place) → p m ≡ true → (first + m) * 12 + 12 ≤ length ys → place_numbers q ≡ f m
      → ((j : ℕ) → entry ys j ≡ numbers_at_lem p first f xs m j) → (j : ℕ) → entry (put_place ys (first + m) q) j ≡ numbers_at_lem p first f xs (m + 1) j
  unfolding numbers_at_lem place_numbers numbers
  numbers-put ys m q e b w h j =
      ap (λ l. entry l j) (put_place_run ys (first + m) q)
      ∙ at_sets nan ys (place_numbers q) ((first + m) * 12) (numbers_at_lem p first f xs (m + 1)) b within off j
    where
      within : (i : ℕ) → i < 12 → entry (place_numbers q) i ≡ numbers_at_lem p first f xs (m + 1) ((first + m) * 12 + i)
      within i l =
          let d : ((first + m) * 12 + i) / 12 ≡ first + m = omega arith in
          let r : ((first + m) * 12 + i) % 12 ≡ i = omega arith in
          let z : first + m - first ≡ m = omega arith in
          ap (λ l. entry l i) w ∙ rw (d, r, z, touched_here p first m (m + 1) (omega arith), e)

      off : (i : ℕ) → (i < (first + m) * 12) ⊎ ((first + m) * 12 + 12 ≤ i) → entry ys i ≡ numbers_at_lem p first f xs (m + 1) i
      off i o = h i ∙ rw (touched_away p first m (i / 12) (λ g. ⊎_elim (λ l. omega arith) (λ l. omega arith) o))

-- ---- flags, one a place
unfoldable pub flags_at : (ℕ → Bool) → ℕ → (ℕ → ℕ) → List ℕ → ℕ → ℕ → ℕ
flags_at p first f fs m k = cond (touched p first m k) (f (k - first)) (get_or fs k 0)

module _ (p : ℕ → Bool) (first : ℕ) (f : ℕ → ℕ) (fs : List ℕ) where
  pub flags_none : (k : ℕ) → get_or fs k 0 ≡ flags_at p first f fs 0 k
  unfolding flags_at
  flags_none k = rw (touched_none p first k)

  pub flags_idle : (gs : List ℕ) (a b : ℕ) → a ≤ b → ((j : ℕ) → a ≤ j → j < b → p j ≡ false) → ((k : ℕ) → get_or gs k 0 ≡ flags_at p first f fs a k) → (k : ℕ) → get_or gs k 0 ≡ flags_at p first f fs b k
  unfolding flags_at
  flags_idle gs a b l q h k = h k ∙ rw (touched_idle p first a b k l q)

  pub flags_skip : (gs : List ℕ) (m : ℕ) → p m ≡ false → ((k : ℕ) → get_or gs k 0 ≡ flags_at p first f fs m k) → (k : ℕ) → get_or gs k 0 ≡ flags_at p first f fs (m + 1) k
  unfolding flags_at
  flags_skip gs m e h k = h k ∙ rw (touched_skip p first m k e)

  pub flags_put : (gs : List ℕ) (m x : ℕ) → p m ≡ true → first + m < length gs → x ≡ f m
      → ((k : ℕ) → get_or gs k 0 ≡ flags_at p first f fs m k) → (k : ℕ) → get_or (set gs (first + m) x) k 0 ≡ flags_at p first f fs (m + 1) k
  unfolding flags_at
  flags_put gs m x e b w h =
      let z : first + m - first ≡ m = omega arith in
      at_set 0 gs (first + m) x (flags_at p first f fs (m + 1)) b
      (rw (touched_here p first m (m + 1) (omega arith), e, z, w))
      (λ k ne. h k ∙ rw (touched_away p first m k ne))
