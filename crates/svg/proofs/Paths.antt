-- A path's commands by the ways of the code, and that its text reads back. Assumes nothing.
use mathlib.Core.Path.{◌≡◌, refl, sym, ap, ◌∙◌}
use mathlib.Core.Bool.{Bool, true, false, cond}
use mathlib.Core.List.{List, [], ◌∷◌, ◌++◌, append_assoc, append-nil}
use Prim.Native.Nat.{ℕ, zero, suc, ◌+◌, ◌-◌, ◌<◌}
use native.Mathlib.Nat.{add_assoc, add-zero, zero-add}
use native.Mathlib.Numerals.{add-one}
use native.Mathlib.Omega.{arith}
use borrow.Author.Tests.{eq-eqb, ne_eqb}
use lib.ListN.{length, take}
use lib.Seq.{take-suc}
use lib.IntN.{ℤ}
use Rattle.views.proofs.Bools.{or_true}
use Rattle.path.specs.declared.anchor.Anchor.{Anchor}
use Rattle.path.specs.Shape.{count_of, closed_of, total, word_at, start}
use Rattle.svg_grammar.specs.Grammar.{Command, close, begins}
use Rattle.svg_grammar.specs.ReadsAs.{ReadsAs}
use Rattle.svg.specs.Path.{move_to, is_straight, bent, drawn, segments, closing, subpath, commands_from, commands_of, text_of}
use Rattle.svg_grammar.proofs.Parses.{reads_back}

module _ (f : ℕ → Anchor) where
  -- ---- a subpath
  pub segments_none : (k : ℕ) → segments f k 0 ≡ []
  unfolding segments
  segments_none k = refl

  pub segments_more : (k m : ℕ) → segments f k (m + 1) ≡ segments f k m ++ drawn (f (k + m)) (f (k + m + 1)) ∷ []
  unfolding segments
  segments_more k m = rw (add-one m)

  pub closing_single : (k m : ℕ) → m ≡ 0 → closing f k m ≡ close ∷ []
  unfolding closing
  closing_single k m e = rw (eq-eqb m 0 e)

  pub closing_straight : (k m : ℕ) → is_straight (f (k + m)) (f k) ≡ true → closing f k m ≡ close ∷ []
  unfolding closing
  closing_straight k m e = rw (e, or_true)

  pub closing_bent : (k m : ℕ) → (m ≡ 0 → ⊥) → is_straight (f (k + m)) (f k) ≡ false → closing f k m ≡ (bent (f (k + m)) (f k) ∷ []) ++ close ∷ []
  unfolding closing
  closing_bent k m n e = rw (ne_eqb m 0 n, e)

  pub subpath-none : (k n : ℕ) (c : Bool) → n ≡ 0 → subpath f k n c ≡ []
  unfolding subpath
  subpath-none k zero c e = refl
  subpath-none k (suc n) c e = absurd (omega arith)

  pub subpath_some : (k n : ℕ) (c : Bool) → (n ≡ 0 → ⊥) → subpath f k n c ≡ (move_to (f k).p ∷ []) ++ (segments f k (n - 1) ++ cond c (closing f k (n - 1)) [])
  unfolding subpath
  subpath_some k zero c n = absurd (n refl)
  subpath_some k (suc m) c n = let e : suc m - 1 ≡ m = omega arith in rw e

  -- ---- one subpath more
  pub from-none : commands_from f 0 [] ≡ []
  unfolding commands_from
  from-none = refl

  from-append : (k : ℕ) (ws vs : List ℕ) → commands_from f k (ws ++ vs) ≡ commands_from f k ws ++ commands_from f (k + total ws) vs
  unfolding commands_from
  from-append k [] vs = ap (λ z. commands_from f z vs) (sym (add-zero k))
  from-append k (w ∷ ws) vs =
      ap (λ t. subpath f k (count_of w) (closed_of w) ++ t)
      (from-append (k + count_of w) ws vs ∙ ap (λ z. commands_from f (k + count_of w) ws ++ commands_from f z vs) (add_assoc k (count_of w) (total ws)))
      ∙ sym (append_assoc (subpath f k (count_of w) (closed_of w)) (commands_from f (k + count_of w) ws) (commands_from f (k + (count_of w + total ws)) vs))

  from_one : (k w : ℕ) → commands_from f k (w ∷ []) ≡ subpath f k (count_of w) (closed_of w)
  unfolding commands_from
  from_one k w = append-nil (subpath f k (count_of w) (closed_of w))

  pub from_next : (ws : List ℕ) (s : ℕ) → s < length ws
      → commands_from f 0 (take (s + 1) ws) ≡ commands_from f 0 (take s ws) ++ subpath f (start ws s) (count_of (word_at ws s)) (closed_of (word_at ws s))
  from_next ws s h =
      ap (λ z. commands_from f 0 (take z ws)) (add-one s)
      ∙ ap (commands_from f 0) (take-suc ws s 0 h)
      ∙ from-append 0 (take s ws) (word_at ws s ∷ [])
      ∙ ap (λ t. commands_from f 0 (take s ws) ++ t) (ap (λ z. commands_from f z (word_at ws s ∷ [])) (zero-add (start ws s)) ∙ from_one (start ws s) (word_at ws s))

  -- ---- path data begins with a moveto
  subpath-begins : (k n : ℕ) (c : Bool) (ds : List (Command ℤ)) → begins ds ≡ true → begins (subpath f k n c ++ ds) ≡ true
  unfolding subpath begins move_to
  subpath-begins k zero c ds h = h
  subpath-begins k (suc m) c ds h = refl

  path_begins : (k : ℕ) (ws : List ℕ) → begins (commands_from f k ws) ≡ true
  unfolding commands_from begins
  path_begins k [] = refl
  path_begins k (w ∷ ws) = subpath-begins k (count_of w) (closed_of w) (commands_from f (k + count_of w) ws) (path_begins (k + count_of w) ws)

-- ---- the text of a path is path data, and reads as the path's commands
pub text_reads : (shapes : List ℕ) (f : ℕ → Anchor) → ReadsAs (text_of shapes f) (commands_of shapes f)
unfolding text_of commands_of
text_reads shapes f = reads_back (commands_from f 0 shapes) (path_begins f 0 shapes)
