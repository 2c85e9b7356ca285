-- How long a line can be: at most 2k + 1 places lie within k steps, each of at most three digits. Assumes nothing.
use mathlib.Core.Path.{◌≡◌, refl, sym, ◌∙◌}
use mathlib.Core.Logic.{◌⊎◌, inl, inr, ⊎_elim}
use mathlib.Core.Bool.{Bool, true, false, ◌&&◌, ◌||◌, cond, true≢false}
use mathlib.Core.List.{List, [], ◌∷◌}
use Prim.Native.Nat.{ℕ, zero, suc, ◌+◌, ◌-◌, ◌*◌, ◌≤◌, ◌<◌, zero-le}
use native.Mathlib.Nat.{le_refl, le_trans, add-le-add}
use native.Mathlib.Numerals.{add-one}
use native.Mathlib.Omega.{arith}
use lib.Dec.{leb, eqb, lit<, lit≤}
use lib.ListN.{length, length-append}
use borrow.Author.Tests.{leb-true}
use Rattle.views.proofs.Laws.{order}
use Rattle.cut.specs.declared.subpath.Sub.{Sub}
use Rattle.cut.specs.declared.subpath.Window.{Window}
use Rattle.cut.specs.Near.{gap, near}
use Rattle.decimal.specs.Text.{whole_text}
use Rattle.decimal.proofs.Digits.{whole_room}
use Rattle.printing.specs.Refused.{refused_text}
use Rattle.printing.specs.Printed.{fitted}
use Rattle.printing.proofs.Rooms.{refused-room}
use Rattle.recutting.specs.Near.{reached_in}
use Rattle.call_lines.specs.Lines.{passing, window_of, recut_places, listed, recut_text, Sound}
use Rattle.call_lines.proofs.Places.{passing-none, passing-same, passing_more, reached_at, reached-before, listed-append}

-- ---- at most 2k + 1 of n indices are within k steps of index i
-- an index that is: not round the end, or round it one way or the other
near_cases : (k n : ℕ) (closed : Bool) (i j : ℕ) → near k n closed i j ≡ true → ((i ≤ j + k) × (j ≤ i + k)) ⊎ ((j + n ≤ i + k) ⊎ (i + n ≤ j + k))
unfolding near gap
near_cases k n closed i j h = go (leb (i - j + (j - i)) k) refl (leb n (i - j + (j - i) + k)) refl closed h
  where
    go : (a : Bool) → leb (i - j + (j - i)) k ≡ a → (b : Bool) → leb n (i - j + (j - i) + k) ≡ b → (c : Bool) → (a || c && b) ≡ true → ((i ≤ j + k) × (j ≤ i + k)) ⊎ ((j + n ≤ i + k) ⊎ (i + n ≤ j + k))
    go true e b f c q = let l = leb-true (i - j + (j - i)) k e in inl (omega arith, omega arith)
    go false e true f c q = let l = leb-true n (i - j + (j - i) + k) f in inr (⊎_elim (λ o. inr (omega arith)) (λ o. inl (omega arith)) (order i j))
    go false e false f true q = absurd (true≢false (sym q))
    go false e false f false q = absurd (true≢false (sym q))

-- how many of the first j indices are from a on and below b
abbrev between : ℕ → ℕ → ℕ → ℕ
between a b j = j - a - (j - b)

between_on : (a b j : ℕ) → between a b j ≤ between a b (j + 1)
between_on a b j = omega arith

between_in : (a b j : ℕ) → a ≤ j → j < b → between a b j + 1 ≤ between a b (j + 1)
between_in a b j l h = omega arith

-- how many of the first j indices are so, in each of the three ways
abbrev spread : ℕ → ℕ → ℕ → ℕ → ℕ
spread k n i j = between (i - k) (i + k + 1) j + between 0 (i + k + 1 - n) j + between (i + n - k) n j

spread_on : (k n i j : ℕ) → spread k n i j ≤ spread k n i (j + 1)
spread_on k n i j = add-le-add (add-le-add (between_on (i - k) (i + k + 1) j) (between_on 0 (i + k + 1 - n) j)) (between_on (i + n - k) n j)

low : (i j k : ℕ) → i ≤ j + k → i - k ≤ j
low i j k h = omega arith

high : (i j k n : ℕ) → j + n ≤ i + k → j < i + k + 1 - n
high i j k n h = omega arith

spread_near : (k n : ℕ) (closed : Bool) (i j : ℕ) → j < n → near k n closed i j ≡ true → spread k n i j + 1 ≤ spread k n i (j + 1)
spread_near k n closed i j l h = ⊎_elim (λ o. here o.0 o.1) (λ r. ⊎_elim below above r) (near_cases k n closed i j h)
  where
    sum_1 : (x y z u v w : ℕ) → x + 1 ≤ u → y ≤ v → z ≤ w → x + y + z + 1 ≤ u + v + w
    sum_1 x y z u v w p q r = omega arith

    sum_2 : (x y z u v w : ℕ) → x ≤ u → y + 1 ≤ v → z ≤ w → x + y + z + 1 ≤ u + v + w
    sum_2 x y z u v w p q r = omega arith

    sum_3 : (x y z u v w : ℕ) → x ≤ u → y ≤ v → z + 1 ≤ w → x + y + z + 1 ≤ u + v + w
    sum_3 x y z u v w p q r = omega arith

    here : i ≤ j + k → j ≤ i + k → spread k n i j + 1 ≤ spread k n i (j + 1)
    here a b = sum_1 _ _ _ _ _ _ (between_in (i - k) (i + k + 1) j (low i j k a) (lt-of-le-add b)) (between_on 0 (i + k + 1 - n) j) (between_on (i + n - k) n j)
      where
        lt-of-le-add : j ≤ i + k → j < i + k + 1
        lt-of-le-add q = omega arith

    below : j + n ≤ i + k → spread k n i j + 1 ≤ spread k n i (j + 1)
    below a = sum_2 _ _ _ _ _ _ (between_on (i - k) (i + k + 1) j) (between_in 0 (i + k + 1 - n) j zero-le (high i j k n a)) (between_on (i + n - k) n j)

    above : i + n ≤ j + k → spread k n i j + 1 ≤ spread k n i (j + 1)
    above a = sum_3 _ _ _ _ _ _ (between_on (i - k) (i + k + 1) j) (between_on 0 (i + k + 1 - n) j) (between_in (i + n - k) n j (low (i + n) j k a) l)

up_to_end : (a b j : ℕ) → between a b j ≤ b - a
up_to_end a b j = omega arith

up_to_now : (a b j : ℕ) → between a b j ≤ j - a
up_to_now a b j = omega arith

inside : (k n i : ℕ) → i + k + 1 ≤ n → i + k + 1 - (i - k) + (i + k + 1 - n - 0) + (n - (i + n - k)) ≤ 2 * k + 1
inside k n i h = omega arith

round-end : (k n i : ℕ) → i < n → n < i + k + 1 → n - (i - k) + (i + k + 1 - n - 0) + (n - (i + n - k)) ≤ 2 * k + 1
round-end k n i l h = omega arith

spread_all : (k n i : ℕ) → i < n → spread k n i n ≤ 2 * k + 1
spread_all k n i h =
    let b = up_to_end 0 (i + k + 1 - n) n in
    let c = up_to_end (i + n - k) n n in
    ⊎_elim
    (λ l. le_trans (add-le-add (add-le-add (up_to_end (i - k) (i + k + 1) n) b) c) (inside k n i l))
    (λ l. le_trans (add-le-add (add-le-add (up_to_now (i - k) (i + k + 1) n) b) c) (round-end k n i h l))
    (order (i + k + 1) n)

-- ---- so few places are recut
module _ (sub : Sub) (w : Window) where
  abbrev p : ℕ → Bool
  p = reached_in sub w

  few_to : (j : ℕ) → j ≤ sub.n → length (passing p (sub.first + j)) ≤ spread w.reach sub.n w.at j
  few_to zero h =
      let e : sub.first + 0 ≡ sub.first = omega arith in
      rw (e, passing-none p sub.first (reached-before sub w)) (omega arith)
  few_to (suc j) h = go (near w.reach sub.n sub.closed w.at j) refl (few_to j (omega arith))
    where
      x : sub.first + suc j ≡ suc (sub.first + j)
      x = omega arith

      go : (t : Bool) → near w.reach sub.n sub.closed w.at j ≡ t → length (passing p (sub.first + j)) ≤ spread w.reach sub.n w.at j
          → length (passing p (sub.first + suc j)) ≤ spread w.reach sub.n w.at (suc j)
      go true e l =
          let k = sub.first + j in
          rw (x, passing_more p k (reached_at sub w j h ∙ e), length-append (passing p k) (k ∷ []), ← add-one j)
          (le_trans (add-le-add l (le_refl 1)) (spread_near w.reach sub.n sub.closed w.at j h e))
      go false e l = let k = sub.first + j in rw (x, passing-same p k (reached_at sub w j h ∙ e), ← add-one j) (le_trans l (spread_on w.reach sub.n w.at j))

  pub few_recut : w.at < sub.n → length (recut_places sub w) ≤ 2 * w.reach + 1
  unfolding recut_places
  few_recut h = le_trans (few_to sub.n (le_refl sub.n)) (spread_all w.reach sub.n w.at h)

-- ---- a place takes at most three digits and a blank
listed-room : (p : ℕ → Bool) (n : ℕ) → n ≤ 1000 → length (listed (passing p n)) ≤ length (passing p n) * 4
unfolding passing listed
listed-room p zero h = omega arith
listed-room p (suc n) h = go (p n) refl (listed-room p n (omega arith))
  where
    go : (t : Bool) → p n ≡ t → length (listed (passing p n)) ≤ length (passing p n) * 4 → length (listed (passing p (suc n))) ≤ length (passing p (suc n)) * 4
    go true e l =
        rw (passing_more p n e, listed-append (passing p n) (n ∷ []), length-append (listed (passing p n)) (listed (n ∷ [])), length-append (passing p n) (n ∷ []))
        (omega (arith, l, length-append (whole_text n) [], whole_room 2 n (omega arith)))
    go false e l = rw (passing-same p n e) l

places-room : (sub : Sub) (w : Window) → Sound sub w → length (listed (recut_places sub w)) ≤ length (recut_places sub w) * 4
unfolding recut_places
places-room sub w s = listed-room (reached_in sub w) (sub.first + sub.n) (omega (arith, s.few))

pub recut-room : (sub : Sub) (w : Window) → Sound sub w → w.reach ≤ 4 → length (recut_text (recut_places sub w)) ≤ 41
unfolding recut_text
recut-room sub w s r = omega (arith, few_recut sub w s.index, places-room sub w s)

pub window-reach : (which index : ℕ) → (window_of which index).reach ≤ 4
unfolding window_of
window-reach which index = go (eqb which 0) (eqb which 1)
  where
    go : (a b : Bool) → (cond {A = Window} a (record { at = index; reach = 3 }) (cond b (record { at = index; reach = 2 }) (record { at = index + 1; reach = 4 }))).reach ≤ 4
    go true b = omega arith
    go false true = omega arith
    go false false = omega arith

pub fitted-room : (text : List ℕ) → length (fitted text) ≤ 65536
unfolding fitted
fitted-room text = go (leb (length text) 65536) refl
  where
    go : (t : Bool) → leb (length text) 65536 ≡ t → length (cond t text (refused_text 8 0)) ≤ 65536
    go true e = leb-true (length text) 65536 e
    go false e = le_trans (refused-room 8 0 (lit< tt) (lit< tt)) (lit≤ tt)
