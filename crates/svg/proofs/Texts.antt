-- The text of a path turns on the anchors that its words count, and on nothing past them. Assumes nothing.
use mathlib.Core.Path.{◌≡◌, refl, ap, ap₂, ◌∙◌}
use mathlib.Core.Bool.{Bool}
use mathlib.Core.List.{List, [], ◌∷◌, ◌++◌}
use Prim.Native.Nat.{ℕ, zero, suc, ◌+◌, ◌<◌}
use native.Mathlib.Omega.{arith}
use Rattle.path.specs.declared.anchor.Anchor.{Anchor}
use Rattle.path.specs.Shape.{count_of, closed_of, total}
use Rattle.svg.specs.Path.{segments, closing, subpath, commands_from, commands_of, text_of}

module _ (f g : ℕ → Anchor) where
  segments_same : (k m : ℕ) → ((j : ℕ) → j < suc m → f (k + j) ≡ g (k + j)) → segments f k m ≡ segments g k m
  unfolding segments
  segments_same k zero h = refl
  segments_same k (suc m) h =
      let x : f (k + m + 1) ≡ g (k + m + 1) = ap f (omega arith) ∙ h (suc m) (omega arith) ∙ ap g (omega arith) in
      rw (segments_same k m (λ j l. h j (omega arith)), h m (omega arith), x)

  subpath-same : (k n : ℕ) (c : Bool) → ((j : ℕ) → j < n → f (k + j) ≡ g (k + j)) → subpath f k n c ≡ subpath g k n c
  unfolding subpath closing
  subpath-same k zero c h = refl
  subpath-same k (suc m) c h =
      let x : f k ≡ g k = ap f (omega arith) ∙ h 0 (omega arith) ∙ ap g (omega arith) in
      rw (segments_same k m h, h m (omega arith), x)

  commands-same : (k : ℕ) (ws : List ℕ) → ((j : ℕ) → j < total ws → f (k + j) ≡ g (k + j)) → commands_from f k ws ≡ commands_from g k ws
  unfolding commands_from
  commands-same k [] h = refl
  commands-same k (w ∷ ws) h =
      ap₂ ◌++◌
      (subpath-same k (count_of w) (closed_of w) (λ j l. h j (omega arith)))
      (commands-same (k + count_of w) ws (λ j l. ap f (omega arith) ∙ h (count_of w + j) (omega arith) ∙ ap g (omega arith)))

  pub text_same : (ws : List ℕ) → ((k : ℕ) → k < total ws → f k ≡ g k) → text_of ws f ≡ text_of ws g
  unfolding text_of commands_of
  text_same ws h = rw (commands-same 0 ws (λ j l. ap f (omega arith) ∙ h j l ∙ ap g (omega arith)))
