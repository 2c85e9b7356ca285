-- Anchors put one after the other: in front of a list they are `listed`. Assumes nothing.
use mathlib.Core.Path.{◌≡◌, refl, sym, ap, ◌∙◌}
use mathlib.Core.Logic.{◌⊎◌, inl, inr, ⊎_elim}
use mathlib.Core.List.{List, [], ◌∷◌, ◌++◌}
use Prim.Native.Nat.{ℕ, zero, suc, ◌+◌, ◌*◌, ◌/◌, ◌%◌, ◌≤◌, ◌<◌}
use native.Mathlib.Nat.{add-zero, not-suc-le-zero}
use native.Mathlib.Omega.{arith}
use lib.Dec.{lit<}
use lib.ListN.{length}
use lib.Ieee.{Float, nan}
use Rattle.views.specs.View.{entry}
use Rattle.views.proofs.Laws.{as_overwrite}
use Rattle.path.specs.declared.anchor.Anchor.{Anchor}
use Rattle.path.specs.Flat.{anchor_at, numbers, anchor_numbers, put_anchor, put_all, nth, listed}
use Rattle.path.proofs.Places.{length-put, put_out, put_in}

length-put-all : (ps : List Anchor) (xs : List Float) (k : ℕ) → length (put_all xs k ps) ≡ length xs
unfolding put_all
length-put-all [] xs k = refl
length-put-all (p ∷ ps) xs k = length-put-all ps (put_anchor xs k p) (k + 1) ∙ length-put xs k p

-- more anchors go on where these end
pub put-append : (ps qs : List Anchor) (xs : List Float) (k : ℕ) → put_all xs k (ps ++ qs) ≡ put_all (put_all xs k ps) (k + length ps) qs
unfolding put_all
put-append [] qs xs k = rw add-zero
put-append (p ∷ ps) qs xs k =
    let e : k + 1 + length ps ≡ k + suc (length ps) = omega arith in
    put-append ps qs (put_anchor xs k p) (k + 1) ∙ ap (λ (n : ℕ). put_all (put_all (put_anchor xs k p) (k + 1) ps) n qs) e

pub put_next : (xs ys zs : List Float) (k n : ℕ) (ps qs : List Anchor) → n ≡ k + length ps → ys ≡ put_all xs k ps → zs ≡ put_all ys n qs → zs ≡ put_all xs k (ps ++ qs)
put_next xs ys zs k n ps qs e f g = rw (put-append ps qs xs k, ← e, ← f) g

-- ---- number by number

put_past : (ps : List Anchor) (xs : List Float) (k j : ℕ) → (j < k * 6) ⊎ ((k + length ps) * 6 ≤ j) → entry (put_all xs k ps) j ≡ entry xs j
unfolding put_all
put_past [] xs k j o = refl
put_past (p ∷ ps) xs k j o =
    put_past ps (put_anchor xs k p) (k + 1) j (⊎_elim (λ h. inl (omega arith)) (λ h. inr (omega arith)) o)
    ∙ put_out xs k p j (⊎_elim (λ h. inl h) (λ h. inr (omega arith)) o)

put-within : (ps : List Anchor) (xs : List Float) (k i r : ℕ) → (k + length ps) * 6 ≤ length xs → i < length ps → r < 6
    → entry (put_all xs k ps) ((k + i) * 6 + r) ≡ entry (numbers (nth ps i)) r
unfolding put_all nth
put-within [] xs k i r room l m = absurd (not-suc-le-zero l)
put-within (p ∷ ps) xs k zero r room l m =
    let e : (k + 0) * 6 + r ≡ k * 6 + r = omega arith in
    put_past ps (put_anchor xs k p) (k + 1) ((k + 0) * 6 + r) (inl (omega arith)) ∙ ap (entry (put_anchor xs k p)) e ∙ put_in xs k p (omega arith) r m
put-within (p ∷ ps) xs k (suc i) r room l m =
    let e : (k + suc i) * 6 + r ≡ (k + 1 + i) * 6 + r = omega arith in
    ap (entry (put_all xs k (p ∷ ps))) e ∙ put-within ps (put_anchor xs k p) (k + 1) i r (omega (arith, length-put xs k p)) (omega arith) m

-- from the front, where there is room
pub put-listed : (ps : List Anchor) (xs : List Float) → length ps * 6 ≤ length xs → put_all xs 0 ps ≡ listed ps xs
unfolding listed anchor_numbers
put-listed ps xs room = as_overwrite nan (put_all xs 0 ps) xs _ _ (length-put-all ps xs 0) below (λ j l. put_past ps xs 0 j (inr (omega arith)))
  where
    below : (j : ℕ) → j < length ps * 6 → entry (put_all xs 0 ps) j ≡ anchor_numbers (nth ps) j
    below j l =
        let e : j ≡ (0 + j / 6) * 6 + j % 6 = omega arith in
        ap (entry (put_all xs 0 ps)) e ∙ put-within ps xs 0 (j / 6) (j % 6) (omega arith) (omega arith) (omega arith)

-- and an anchor of them reads back
pub listed_at : (ps : List Anchor) (xs : List Float) (k : ℕ) → length ps * 6 ≤ length xs → k < length ps → anchor_at (listed ps xs) k ≡ nth ps k
unfolding numbers
listed_at ps xs k room l =
    ap (λ z. anchor_at z k) (sym (put-listed ps xs room))
    ∙ rw (rw add-zero at (number 0 (lit< tt)), number 1 (lit< tt), number 2 (lit< tt), number 3 (lit< tt), number 4 (lit< tt), number 5 (lit< tt))
  where
    number : (r : ℕ) → r < 6 → entry (put_all xs 0 ps) (k * 6 + r) ≡ entry (numbers (nth ps k)) r
    number r m =
        let e : k * 6 + r ≡ (0 + k) * 6 + r = omega arith in
        ap (entry (put_all xs 0 ps)) e ∙ put-within ps xs 0 k r (omega arith) l m
