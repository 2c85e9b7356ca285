-- Anchors of shapes put one after the other, how many each shape has, and which rectangle it is. Assumes nothing.
use mathlib.Core.Path.{◌≡◌, refl}
use mathlib.Core.Bool.{true, false}
use mathlib.Core.List.{List, [], ◌∷◌}
use Prim.Native.Nat.{ℕ, ◌+◌}
use native.Mathlib.Omega.{arith}
use lib.ListN.{length}
use lib.Ieee.{Float, lt}
use Rattle.geom.specs.declared.point.P.{P}
use Rattle.cubic.specs.Cubic.{CEPS}
use Rattle.path.specs.declared.anchor.Anchor.{Anchor}
use Rattle.path.specs.Flat.{put_anchor, put_all}
use Rattle.path.proofs.Puts.{put_next}
use Rattle.shape.specs.Outlines.{four, least, greatest, fitted_radius, sharp, upper_right, lower_left, rounded, rect_between, rect_anchors, ellipse_around, line_anchors}

-- ---- four anchors
pub put-four-is : (u v w x y : List Float) (k : ℕ) (a b c d : Anchor) → v ≡ put_anchor u k a → w ≡ put_anchor v (k + 1) b → x ≡ put_anchor w (k + 2) c → y ≡ put_anchor x (k + 3) d
    → y ≡ put_all u k (four a b c d)
unfolding put_all
put-four-is u v w x y k a b c d e f g h =
    put_next u x y k (k + 3) (a ∷ b ∷ c ∷ []) (d ∷ []) (omega arith)
    (put_next u w x k (k + 2) (a ∷ b ∷ []) (c ∷ []) (omega arith) (put_next u v w k (k + 1) (a ∷ []) (b ∷ []) (omega arith) e f) g)
    h

-- ---- how many
pub sharp-count : (lo hi : P) → length (sharp lo hi) ≡ 4
unfolding sharp
sharp-count lo hi = refl

pub upper_right_count : (lo hi : P) (r k : Float) → 4 ≡ 0 + length (upper_right lo hi r k)
unfolding upper_right
upper_right_count lo hi r k = refl

pub rounded-count : (lo hi : P) (r : Float) → length (rounded lo hi r) ≡ 8
unfolding rounded upper_right lower_left
rounded-count lo hi r = refl

pub ellipse-count : (c : P) (rx ry : Float) → length (ellipse_around c rx ry) ≡ 4
unfolding ellipse_around
ellipse-count c rx ry = refl

pub line-count : (a b : P) → length (line_anchors a b) ≡ 2
unfolding line_anchors
line-count a b = refl

-- ---- which rectangle
module _ (a b lo hi : P) (r f : Float) (e : lo ≡ least a b) (g : hi ≡ greatest a b) (h : f ≡ fitted_radius lo hi r) where
  pub rect-sharp : lt f CEPS ≡ true → rect_anchors a b r ≡ sharp lo hi
  unfolding rect_anchors rect_between
  rect-sharp t = rw (← e, ← g, ← h, t)

  pub rect-rounded : lt f CEPS ≡ false → rect_anchors a b r ≡ rounded lo hi f
  unfolding rect_anchors rect_between
  rect-rounded t = rw (← e, ← g, ← h, t)
