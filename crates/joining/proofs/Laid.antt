-- Anchors put one after the other: a list that was copied, one anchor more, and the three parts of a join. Assumes nothing.
use mathlib.Core.Path.{◌≡◌, sym, ap, ◌∙◌}
use mathlib.Core.List.{List, [], ◌∷◌, ◌++◌}
use Prim.Native.Nat.{ℕ, ◌+◌, ◌*◌, ◌/◌, ◌%◌, ◌≤◌, ◌<◌}
use native.Mathlib.Numerals.{add-one}
use native.Mathlib.Omega.{arith}
use lib.ListN.{length, length-append}
use lib.Ieee.{Float}
use Rattle.views.specs.View.{entry, tabulate, overwrite}
use Rattle.views.proofs.Laws.{length-tabulate, at_tabulate, tabulate_more, overwrite_cong}
use Rattle.path.specs.declared.anchor.Anchor.{Anchor}
use Rattle.path.specs.Flat.{anchor_at, numbers, anchor_numbers, put_anchor, put_all, nth, listed}
use Rattle.path.proofs.Places.{numbers_at}
use Rattle.path.proofs.Puts.{put_next, put-listed}

-- one anchor more of a table
pub put_table : (xs ys zs : List Float) (from k : ℕ) (f : ℕ → Anchor) (a : Anchor)
    → ys ≡ put_all xs from (tabulate k f) → a ≡ f k → zs ≡ put_anchor ys (from + k) a → zs ≡ put_all xs from (tabulate (k + 1) f)
unfolding put_all
put_table xs ys zs from k f a e g h =
    put_next xs ys zs from (from + k) (tabulate k f) (a ∷ []) (ap (λ i. from + i) (sym (length-tabulate k f))) e h
    ∙ ap (λ l. put_all xs from l) (ap (λ b. tabulate k f ++ (b ∷ [])) g ∙ sym (tabulate_more k f) ∙ ap (λ i. tabulate i f) (sym (add-one k)))

module _ (from : List Float) (n : ℕ) where
  copied_number : (j : ℕ) → j < n * 6 → entry from j ≡ anchor_numbers (nth (tabulate n (anchor_at from))) j
  unfolding anchor_numbers nth
  copied_number j l =
      let h : j / 6 < n = omega arith in
      sym (numbers_at from j) ∙ ap (λ a. entry (numbers a) (j % 6)) (sym (at_tabulate _ n (anchor_at from) (j / 6) h))

  -- the first n anchors of a list, copied number by number
  pub copied : (xs : List Float) → n * 6 ≤ length xs → overwrite (n * 6) (entry from) xs ≡ put_all xs 0 (tabulate n (anchor_at from))
  unfolding listed
  copied xs room =
      overwrite_cong (n * 6) (entry from) (anchor_numbers (nth (tabulate n (anchor_at from)))) xs copied_number
      ∙ ap (λ i. overwrite (i * 6) (anchor_numbers (nth (tabulate n (anchor_at from)))) xs) (sym (length-tabulate n (anchor_at from)))
      ∙ sym (put-listed (tabulate n (anchor_at from)) xs (rw (length-tabulate n (anchor_at from)) room))

-- a list copied, an anchor, and others after it
pub put-joined-is : (drawn to u v w : List Float) (before : ℕ) (joint : Anchor) (rest : List Anchor) → (before + 1 + length rest) * 6 ≤ length to
    → u ≡ overwrite (before * 6) (entry drawn) to → v ≡ put_anchor u before joint → w ≡ put_all v (before + 1) rest
    → w ≡ listed (tabulate before (anchor_at drawn) ++ (joint ∷ rest)) to
unfolding put_all
put-joined-is drawn to u v w before joint rest room e f g =
    let n = length-tabulate before (anchor_at drawn) in
    let l = length-append (tabulate before (anchor_at drawn)) (joint ∷ rest) in
    put_next to u w 0 before (tabulate before (anchor_at drawn)) (joint ∷ rest) (omega arith) (e ∙ copied drawn before to (omega arith)) (g ∙ ap (λ z. put_all z (before + 1) rest) f)
    ∙ put-listed (tabulate before (anchor_at drawn) ++ (joint ∷ rest)) to (omega arith)
