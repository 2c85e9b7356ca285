-- A path's commands and their text, after 000's `to_svg_d`, for anchors given as a function of the index. Assumes nothing.
use Prim.Native.Nat.{ℕ, zero, suc, ◌+◌}
use Rattle.std.specs.Prelude.{Bool, ◌||◌, eqb, ℤ}
use Rattle.std.proofs.Math.Bool.{cond}
use mathlib.Core.List.{List, [], ◌∷◌, ◌++◌}
use Rattle.geom.specs.declared.point.P.{P}
use Rattle.cubic.specs.Sample.{straight}
use Rattle.path.specs.declared.anchor.Anchor.{Anchor}
use Rattle.path.specs.Anchor.{segment}
use Rattle.path.specs.Shape.{count_of, closed_of}
use Rattle.decimal.specs.Rounding.{in_thousandths}
use Rattle.svg_grammar.specs.Grammar.{Command, move, line, curve, close}
use Rattle.svg_grammar.specs.Text.{commands_text}

-- ---- commands to points
unfoldable pub move_to : P → Command ℤ
move_to p = move (in_thousandths p.x) (in_thousandths p.y)

unfoldable pub line_to : P → Command ℤ
line_to p = line (in_thousandths p.x) (in_thousandths p.y)

unfoldable pub curve_to : P → P → P → Command ℤ
curve_to a b p = curve (in_thousandths a.x) (in_thousandths a.y) (in_thousandths b.x) (in_thousandths b.y) (in_thousandths p.x) (in_thousandths p.y)

-- ---- a segment from anchor a to anchor b: a line where both handles stand on their anchors
unfoldable pub is_straight : Anchor → Anchor → Bool
is_straight a b = straight (segment a b)

unfoldable pub bent : Anchor → Anchor → Command ℤ
unfolding curve_to
bent a b = curve_to a.h_out b.h_in b.p

unfoldable pub drawn : Anchor → Anchor → Command ℤ
unfolding is_straight line_to bent
drawn a b = cond (is_straight a b) (line_to b.p) (bent a b)

-- ---- a subpath of n anchors, the first of which is f k
module _ (f : ℕ → Anchor) where
  -- m segments, each to the next anchor
  unfoldable pub segments : ℕ → ℕ → List (Command ℤ)
  unfolding drawn
  segments k zero = []
  segments k (suc m) = segments k m ++ drawn (f (k + m)) (f (k + m + 1)) ∷ []

  -- A closed subpath's end, m anchors after k: a curve back where there is one, and Z, which draws a straight segment itself
  unfoldable pub closing : ℕ → ℕ → List (Command ℤ)
  unfolding is_straight bent
  closing k m = cond (eqb m 0 || is_straight (f (k + m)) (f k)) [] (bent (f (k + m)) (f k) ∷ []) ++ close ∷ []

  unfoldable pub subpath : ℕ → ℕ → Bool → List (Command ℤ)
  unfolding move_to segments closing
  subpath k zero closed = []
  subpath k (suc m) closed = move_to (f k).p ∷ segments k m ++ cond closed (closing k m) []

  -- ---- a path: the subpaths of the shape words, from anchor k on
  unfoldable pub commands_from : ℕ → List ℕ → List (Command ℤ)
  unfolding subpath
  commands_from k [] = []
  commands_from k (w ∷ ws) = subpath k (count_of w) (closed_of w) ++ commands_from (k + count_of w) ws

unfoldable pub commands_of : List ℕ → (ℕ → Anchor) → List (Command ℤ)
unfolding commands_from
commands_of shapes f = commands_from f 0 shapes

unfoldable pub text_of : List ℕ → (ℕ → Anchor) → List ℕ
unfolding commands_of commands_text
text_of shapes f = commands_text (commands_of shapes f)
