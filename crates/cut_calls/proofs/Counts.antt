-- How many anchors the plain cut has: those of the drawing, and one more for each index whose fitted radius exceeds 1e-9. Assumes nothing.
use mathlib.Core.Path.{◌≡◌, refl}
use mathlib.Core.List.{List}
use Prim.Native.Nat.{ℕ, zero, suc, ◌+◌, ◌≤◌}
use native.Mathlib.Nat.{le_refl}
use native.Mathlib.Numerals.{add-one}
use native.Mathlib.Omega.{arith}
use lib.ListN.{length, length-append}
use lib.Ieee.{Float}
use Rattle.views.specs.Search.{count}
use Rattle.path.specs.Shape.{total, start}
use Rattle.path.proofs.Shapes.{total-next, total-end}
use Rattle.corner.specs.declared.kind.CornerKind.{CornerKind}
use Rattle.cut.specs.View.{View}
use Rattle.cut.specs.Places.{is_cut}
use Rattle.cut.specs.Outline.{cut_corners}
use Rattle.cut.proofs.Outlines.{cut-length}
use Rattle.cut_calls.specs.PlainCut.{view_at, cut_up_to}
use Rattle.cut_calls.proofs.Laying.{size_at}

-- f 0 + f 1 + .. + f (m - 1)
unfoldable pub sum : (ℕ → ℕ) → ℕ → ℕ
sum f zero = 0
sum f (suc m) = sum f m + f m

-- any views
pub cut_anchors : (view : ℕ → View) (m : ℕ) → length (cut_up_to view m) ≡ sum (λ s. (view s).n + count (is_cut (view s)) (view s).n) m
unfolding cut_up_to sum
cut_anchors view zero = refl
cut_anchors view (suc m) = omega (arith, length-append (cut_up_to view m) (cut_corners (view m)), cut-length (view m), cut_anchors view m)

-- a drawing's
module _ (shapes : List ℕ) (anchors radii : List Float) (kind : CornerKind) where
  abbrev view : ℕ → View
  view = view_at shapes anchors radii kind

  up_to : (m : ℕ) → m ≤ length shapes → length (cut_up_to view m) ≡ start shapes m + sum (λ s. count (is_cut (view s)) (view s).n) m
  unfolding cut_up_to sum
  up_to zero l = refl
  up_to (suc m) l =
      let e : start shapes (suc m) ≡ start shapes m + (view m).n = rw (← add-one m, size_at shapes anchors radii kind m) (total-next shapes m l) in
      omega (arith, length-append (cut_up_to view m) (cut_corners (view m)), cut-length (view m), up_to m (omega arith))

  pub drawing_anchors : length (cut_up_to (view_at shapes anchors radii kind) (length shapes))
      ≡ total shapes + sum (λ s. count (is_cut (view_at shapes anchors radii kind s)) (view_at shapes anchors radii kind s).n) (length shapes)
  drawing_anchors = rw (total-end shapes (length shapes) (le_refl (length shapes))) at (up_to (length shapes) (le_refl (length shapes)))
