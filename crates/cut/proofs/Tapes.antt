-- A tape gives out the places of its knots' fresh cache, in order and for good: each turns on the window of seven around it, and all but the last three stay whatever is fed afterwards. Assumes nothing.
use mathlib.Core.Path.{◌≡◌, refl, sym, ap, ap₂, ◌∙◌}
use mathlib.Core.Logic.{◌⊎◌, inl, inr, ⊎_elim}
use mathlib.Core.List.{List, [], ◌∷◌, ◌++◌, append-nil, append_assoc}
use Prim.Native.Nat.{ℕ, suc, ◌+◌, ◌-◌, ◌≤◌, ◌<◌}
use native.Mathlib.Omega.{arith}
use lib.ListN.{length, take, drop, length-append, length-take, length-drop, get_or-append}
use lib.Seq.{get_or-take, get_or-drop, drop-drop, drop-append-le}
use borrow.Author.Tests.{lt-ltb, le-ltb}
use Rattle.views.specs.View.{tabulate}
use Rattle.views.proofs.Laws.{order, tabulate_cong, tabulate_more, take-tabulate, drop-tabulate, tabulate_parts}
use Rattle.cut.specs.Places.{place_at}
use Rattle.cut.specs.declared.places.Place.{Place}
use Rattle.cut.specs.Tape.{Knot, knot_at, tape_view, tape_places, window, tape_lag, tape_held, held, given, rest, held_after, given_after}
use Rattle.cut.specs.Unrolled.{unrolled}
use Rattle.cut.proofs.Unrolled.{Deep, unrolled_in, unrolled_place}

-- index i of the last three of n, among the last seven
last_index : (n c i : ℕ) → c ≡ n - (n - tape_held) → c - tape_lag + i ≡ n - tape_lag + i - (n - tape_held)
last_index n c i e =
    ⊎_elim
    (λ (g : tape_held ≤ n). let z : c ≡ tape_held = omega arith in omega arith)
    (λ (g : n < tape_held). let z : n - tape_held ≡ 0 = omega arith in let y : c ≡ n = omega arith in rw (z, y) (omega arith))
    (order tape_held n)

module _ (chords : ℕ) where
  -- ---- knots of a tape that stand in a row are a stretch of it that does not go round
  part_place : (xs rs : List Knot) (lo i : ℕ) → lo + length rs ≤ length xs → ((j : ℕ) → j < length rs → knot_at rs j ≡ knot_at xs (lo + j))
      → Deep (tape_view chords xs) (tape_view chords rs) lo i → place_at (tape_view chords rs) i ≡ place_at (tape_view chords xs) (lo + i)
  unfolding tape_view
  part_place xs rs lo i h e d =
      let l = d.inside in
      unrolled_place (tape_view chords xs) (tape_view chords rs) lo
      (record {
        inside = omega arith;
        few = omega arith;
        straight = refl;
        within = λ o. h;
        chords = refl;
        anchors = λ j b. ap (λ k. k.anchor) (knot j b);
        radii = λ j b. ap (λ k. k.radius) (knot j b);
        kinds = λ j b. ap (λ k. k.kind) (knot j b);
      })
      i d
      ∙ ap (place_at (tape_view chords xs)) (unrolled_in (length xs) lo i (omega arith))
    where
      knot : (j : ℕ) → j < length rs → knot_at rs j ≡ knot_at xs (unrolled (length xs) lo j)
      knot j b = e j b ∙ ap (knot_at xs) (sym (unrolled_in (length xs) lo j (omega arith)))

  -- ---- a place, by the knots held and with those that are fed after them: three held on each side, or all that there are
  pub held_place : (xs ys : List Knot) (lo i : ℕ) → lo ≤ i → i < length xs → (lo + 3 ≤ i) ⊎ (lo ≡ 0) → (i + 3 < length xs) ⊎ (ys ≡ [])
      → place_at (tape_view chords (drop lo xs)) (i - lo) ≡ place_at (tape_view chords (xs ++ ys)) i
  unfolding tape_view knot_at
  held_place xs ys lo i l h low high =
      let n = length-drop lo xs in
      let m = length-append xs ys in
      part_place (xs ++ ys) (drop lo xs) lo (i - lo) (omega arith) (λ j b. get_or-drop lo xs j _ ∙ sym (get_or-append xs ys _ (lo + j) (omega arith)))
      (record {
        inside = omega arith;
        low = ⊎_elim (λ (a : lo + 3 ≤ i). inl (omega arith)) (λ (a : lo ≡ 0). inr (refl, a)) low;
        high = ⊎_elim (λ (a : i + 3 < length xs). inl (omega arith)) (λ (a : ys ≡ []). let z : length ys ≡ 0 = ap length a in inr (refl, omega arith)) high;
      })
      ∙ ap (place_at (tape_view chords (xs ++ ys))) (omega arith)

  -- ---- all but the last three places stay
  stays : (xs ys : List Knot) (i : ℕ) → i < length xs - tape_lag → place_at (tape_view chords xs) i ≡ place_at (tape_view chords (xs ++ ys)) i
  stays xs ys i l = ap (place_at (tape_view chords xs)) (omega arith) ∙ held_place xs ys 0 i (omega arith) (omega arith) (inr refl) (inl (omega arith))

  pub tape_prefix : (xs ys : List Knot) → take (length xs - tape_lag) (tape_places chords (xs ++ ys)) ≡ take (length xs - tape_lag) (tape_places chords xs)
  unfolding tape_places
  tape_prefix xs ys =
      let m = length xs - tape_lag in
      take-tabulate m (length (xs ++ ys)) _ (simp length-append (omega arith))
      ∙ tabulate_cong m _ _ (λ i l. sym (stays xs ys i l))
      ∙ sym (take-tabulate m (length xs) _ (omega arith))

  -- ---- a place turns on its window alone
  pub tape_window : (xs : List Knot) (i : ℕ) → i < length xs → place_at (tape_view chords (window xs i)) (i - (i - 3)) ≡ place_at (tape_view chords xs) i
  unfolding tape_view knot_at window
  tape_window xs i h =
      let lo = i - 3 in
      let n = length-take (i + 4 - lo) (drop lo xs) in
      let m = length-drop lo xs in
      part_place xs (window xs i) lo (i - lo) (omega arith) (λ j b. get_or-take (i + 4 - lo) (drop lo xs) j _ (omega arith) ∙ get_or-drop lo xs j _)
      (record {
        inside = omega arith;
        low = ⊎_elim (λ (a : 3 ≤ i). inl (omega arith)) (λ (a : i < 3). inr (refl, omega arith)) (order 3 i);
        high = ⊎_elim (λ (a : length xs ≤ i + 3). inr (refl, omega arith)) (λ (a : i + 3 < length xs). inl (omega arith)) (order (length xs) (i + 3));
      })
      ∙ ap (place_at (tape_view chords xs)) (omega arith)

  -- ---- one knot more
  held_more : (xs : List Knot) (x : Knot) → held (held xs ++ x ∷ []) ≡ held (xs ++ x ∷ [])
  unfolding held
  held_more xs x =
      let n = length xs in
      let y : drop (n - tape_held) xs ++ x ∷ [] ≡ drop (n - tape_held) (xs ++ x ∷ []) = sym (drop-append-le (n - tape_held) xs (x ∷ []) (omega arith)) in
      let a = length-append xs (x ∷ []) in
      let b = length-drop (n - tape_held) (xs ++ x ∷ []) in
      let e : n - tape_held + (length (drop (n - tape_held) (xs ++ x ∷ [])) - tape_held) ≡ length (xs ++ x ∷ []) - tape_held = omega arith in
      ap (λ l. drop (length l - tape_held) l) y
      ∙ drop-drop (length (drop (n - tape_held) (xs ++ x ∷ [])) - tape_held) (n - tape_held) (xs ++ x ∷ [])
      ∙ ap (λ m. drop m (xs ++ x ∷ [])) e

  -- the places given out once xs is fed: all but the last three
  abbrev sure : List Knot → List Place
  sure xs = tabulate (length xs - tape_lag) (place_at (tape_view chords xs))

  sure_more : (xs : List Knot) (x : Knot) → sure xs ++ given chords (held (xs ++ x ∷ [])) ≡ sure (xs ++ x ∷ [])
  unfolding given held tabulate
  sure_more xs x = ⊎_elim many few (order tape_lag (length xs))
    where
      ys : List Knot
      ys = xs ++ x ∷ []

      size : length ys ≡ length xs + 1
      size = length-append xs (x ∷ [])

      kept : length (drop (length ys - tape_held) ys) ≡ length ys - (length ys - tape_held)
      kept = length-drop (length ys - tape_held) ys

      few : length xs < tape_lag → sure xs ++ given chords (held (xs ++ x ∷ [])) ≡ sure (xs ++ x ∷ [])
      few l =
          let a = size in
          let b = kept in
          let e : length ys - tape_lag ≡ 0 = omega arith in
          let f : length xs - tape_lag ≡ 0 = omega arith in
          rw (lt-ltb (length (drop (length ys - tape_held) ys)) (tape_lag + 1) (omega arith), e, f)

      many : tape_lag ≤ length xs → sure xs ++ given chords (held (xs ++ x ∷ [])) ≡ sure (xs ++ x ∷ [])
      many l =
          let a = size in
          let b = kept in
          let k = length xs - tape_lag in
          let e : length ys - tape_lag ≡ suc k = omega arith in
          let i : length (drop (length ys - tape_held) ys) - (tape_lag + 1) ≡ k - (length ys - tape_held) = omega arith in
          let low : (length ys - tape_held + 3 ≤ k) ⊎ (length ys - tape_held ≡ 0) = ⊎_elim (λ (g : 6 ≤ length xs). inl (omega arith)) (λ (g : length xs < 6). inr (omega arith)) (order 6 (length xs)) in
          rw (le-ltb (length (drop (length ys - tape_held) ys)) (tape_lag + 1) (omega arith), e, i)
          (ap₂ (λ u v. u ++ v ∷ []) (tabulate_cong k _ _ (λ i h. stays xs (x ∷ []) i h))
          (held_place ys [] (length ys - tape_held) k (omega arith) (omega arith) low (inl (omega arith)) ∙ ap (λ z. place_at (tape_view chords z) k) (append-nil ys))
          ∙ sym (tabulate_more k (place_at (tape_view chords ys))))

  -- ---- any number of knots more
  pub held-fed : (zs xs : List Knot) → held_after (held xs) zs ≡ held (xs ++ zs)
  unfolding held_after
  held-fed [] xs = ap held (sym (append-nil xs))
  held-fed (x ∷ zs) xs = ap (λ v. held_after v zs) (held_more xs x) ∙ held-fed zs (xs ++ x ∷ []) ∙ ap held (append_assoc xs (x ∷ []) zs)

  given-fed : (zs xs : List Knot) → sure xs ++ given_after chords (held xs) zs ≡ sure (xs ++ zs)
  unfolding given_after
  given-fed [] xs = append-nil (sure xs) ∙ ap sure (sym (append-nil xs))
  given-fed (x ∷ zs) xs =
      ap (λ v. sure xs ++ (given chords v ++ given_after chords v zs)) (held_more xs x)
      ∙ sym (append_assoc (sure xs) (given chords (held (xs ++ x ∷ []))) (given_after chords (held (xs ++ x ∷ [])) zs))
      ∙ ap (λ z. z ++ given_after chords (held (xs ++ x ∷ [])) zs) (sure_more xs x)
      ∙ given-fed zs (xs ++ x ∷ [])
      ∙ ap sure (append_assoc xs (x ∷ []) zs)

  -- ---- and the last three
  rest-is : (xs : List Knot) → rest chords (held xs) ≡ tabulate (length xs - (length xs - tape_lag)) (λ i. place_at (tape_view chords xs) (length xs - tape_lag + i))
  unfolding rest held tape_places
  rest-is xs =
      let n = length xs in
      let w = drop (n - tape_held) xs in
      let b = length-drop (n - tape_held) xs in
      let e : length w - (length w - tape_lag) ≡ n - (n - tape_lag) = omega arith in
      let low : (i : ℕ) → (n - tape_held + 3 ≤ n - tape_lag + i) ⊎ (n - tape_held ≡ 0) = λ i. ⊎_elim (λ (g : tape_held ≤ n). inl (omega arith)) (λ (g : n < tape_held). inr (omega arith)) (order tape_held n) in
      drop-tabulate (length w - tape_lag) (length w) (place_at (tape_view chords w))
      ∙ ap (λ m. tabulate m (λ i. place_at (tape_view chords w) (length w - tape_lag + i))) e
      ∙ tabulate_cong (n - (n - tape_lag)) _ _
      (λ i h. ap (place_at (tape_view chords w)) (last_index n (length w) i b)
      ∙ held_place xs [] (n - tape_held) (n - tape_lag + i) (omega arith) (omega arith) (low i) (inr refl)
      ∙ ap (λ z. place_at (tape_view chords z) (n - tape_lag + i)) (append-nil xs))

  -- ---- THE TAPE: fed to an empty one, a list's places come out in order, before the finish a first part of them, with it all
  held_none : held [] ≡ []
  unfolding held
  held_none = refl

  pub tape_part : (xs : List Knot) → given_after chords [] xs ≡ take (length xs - tape_lag) (tape_places chords xs)
  unfolding tape_places tabulate
  tape_part xs = ap (λ w. given_after chords w xs) (sym held_none) ∙ given-fed xs [] ∙ sym (take-tabulate (length xs - tape_lag) (length xs) _ (omega arith))

  pub tape_whole : (xs : List Knot) → given_after chords [] xs ++ rest chords (held_after [] xs) ≡ tape_places chords xs
  unfolding tape_places
  tape_whole xs =
      let n = length xs in
      let f = place_at (tape_view chords xs) in
      ap₂ ◌++◌ (tape_part xs ∙ take-tabulate (n - tape_lag) n f (omega arith)) (ap (rest chords) (ap (λ w. held_after w xs) (sym held_none) ∙ held-fed xs []) ∙ rest-is xs)
      ∙ tabulate_parts (n - tape_lag) n f (omega arith)
