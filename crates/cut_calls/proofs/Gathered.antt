-- Where every place of the cut is laid, the outline of the places is the plain cut, and so are its shape words. Assumes nothing.
use mathlib.Core.Path.{◌≡◌, refl, ap, ap₂, ◌∙◌}
use mathlib.Core.Bool.{Bool, true, false}
use mathlib.Core.List.{List, ◌++◌}
use Prim.Native.Nat.{ℕ, zero, suc, ◌+◌, ◌*◌, ◌≤◌, ◌<◌}
use native.Mathlib.Nat.{add-zero, le_refl}
use native.Mathlib.Omega.{arith}
use lib.Dec.{leb, lit<}
use lib.ListN.{length}
use lib.Ieee.{Float}
use Rattle.views.specs.View.{entry}
use Rattle.path.specs.Flat.{anchor_at, numbers}
use Rattle.path.specs.Shape.{start}
use Rattle.corner.specs.declared.kind.CornerKind.{CornerKind}
use Rattle.cut.specs.declared.places.Place.{Place}
use Rattle.cut.specs.View.{View}
use Rattle.cut.specs.Subpath.{view_of}
use Rattle.cut.specs.Places.{is_cut, place_at, place_numbers}
use Rattle.cut.specs.Rows.{flag_of}
use Rattle.cut.specs.Outline.{cut_corners}
use Rattle.cut.proofs.Outlines.{assembled-same, place_cut}
use Rattle.assembly.specs.Assembled.{place_read, subpath_outline, outline_up_to, outline_of, outline_shapes}
use Rattle.cut_calls.specs.PlainCut.{sub_at, view_at, cut_up_to, cut_shape, Laid}
use Rattle.cut_calls.specs.Made.{made_verdict, made_answer, made_shapes, made_anchors}
use Rattle.cut_calls.proofs.Handed.{list_same}

-- ---- twelve numbers and a flag are a place
module _ (xs : List Float) (k : ℕ) (p : Place) (held : (q : ℕ) → q < 12 → entry xs (k * 12 + q) ≡ entry (place_numbers p) q) where
  read-start : anchor_at xs (2 * k) ≡ p.start
  unfolding place_numbers numbers
  read-start = rw (rw add-zero at (at 0 (lit< tt)), at 1 (lit< tt), at 2 (lit< tt), at 3 (lit< tt), at 4 (lit< tt), at 5 (lit< tt))
    where
      at : (q : ℕ) → q < 12 → entry xs (2 * k * 6 + q) ≡ entry (place_numbers p) q
      at q l = ap (entry xs) (omega arith) ∙ held q l

  read-end : anchor_at xs (2 * k + 1) ≡ p.end
  unfolding place_numbers numbers
  read-end =
      rw (rw add-zero at (at 0 (lit< tt)), at 1 (lit< tt), at 2 (lit< tt), at 3 (lit< tt), at 4 (lit< tt), at 5 (lit< tt))
    where
      at : (q : ℕ) → q < 6 → entry xs ((2 * k + 1) * 6 + q) ≡ entry (place_numbers p) (6 + q)
      at q l = ap (entry xs) (omega arith) ∙ held (6 + q) (omega arith)

read_flag : (b : Bool) → leb 2147483648 (flag_of b) ≡ b
read_flag true = refl
read_flag false = refl

module _ (shapes : List ℕ) (anchors radii : List Float) (kind : CornerKind) (numbers : List Float) (flags : List ℕ)
    (laid : Laid shapes (view_at shapes anchors radii kind) numbers flags) where
  abbrev view : ℕ → View
  view = view_at shapes anchors radii kind

  place_laid : (s i : ℕ) → s < length shapes → i < (view s).n → place_read numbers flags (start shapes s + i) ≡ place_at (view s) i
  unfolding place_read
  place_laid s i l h =
      let k = start shapes s + i in
      let p = place_at (view s) i in
      rw (
        read-start numbers k p (λ q w. laid.number s i q l h w),
        read-end numbers k p (λ q w. laid.number s i q l h w),
        laid.flag s i l h,
        read_flag (is_cut (view s) i),
        ← place_cut (view s) i,
      )

  -- ---- subpath by subpath
  subpath-laid : (s : ℕ) → s < length shapes → subpath_outline shapes (place_read numbers flags) s ≡ cut_corners (view s)
  unfolding subpath_outline cut_corners view_at view_of sub_at
  subpath-laid s l = assembled-same (view s).n (view s).closed (λ i. place_read numbers flags (start shapes s + i)) (place_at (view s)) (λ i h. place_laid s i l h)

  up_to_laid : (m : ℕ) → m ≤ length shapes → outline_up_to shapes (place_read numbers flags) m ≡ cut_up_to view m
  unfolding outline_up_to cut_up_to
  up_to_laid zero l = refl
  up_to_laid (suc m) l = ap₂ ◌++◌ (up_to_laid m (omega arith)) (subpath-laid m l)

  pub outline-laid : outline_of shapes (place_read numbers flags) ≡ cut_up_to (view_at shapes anchors radii kind) (length shapes)
  unfolding outline_of
  outline-laid = up_to_laid (length shapes) (le_refl (length shapes))

  pub word-laid : (s : ℕ) → s < length shapes → outline_shapes shapes (place_read numbers flags) s ≡ cut_shape (view_at shapes anchors radii kind) s
  unfolding outline_shapes cut_shape view_at view_of sub_at
  word-laid s l = rw (subpath-laid s l)

  -- ---- so what is handed over is the plain cut's
  module _ (to_shapes : List ℕ) (to : List Float) where
    pub answer-laid : made_answer (length shapes) (outline_of shapes (place_read numbers flags)) to_shapes to
        ≡ made_answer (length shapes) (cut_up_to (view_at shapes anchors radii kind) (length shapes)) to_shapes to
    answer-laid = rw outline-laid

    pub anchors_laid : made_anchors (length shapes) (outline_of shapes (place_read numbers flags)) to_shapes to
        ≡ made_anchors (length shapes) (cut_up_to (view_at shapes anchors radii kind) (length shapes)) to_shapes to
    anchors_laid = rw outline-laid

    pub shapes_laid : made_shapes (length shapes) (outline_of shapes (place_read numbers flags)) (outline_shapes shapes (place_read numbers flags)) to_shapes to
        ≡ made_shapes (length shapes) (cut_up_to (view_at shapes anchors radii kind) (length shapes)) (cut_shape (view_at shapes anchors radii kind)) to_shapes to
    unfolding made_shapes
    shapes_laid = rw outline-laid (list_same (made_verdict (length shapes) (cut_up_to view (length shapes)) to_shapes to) (length shapes) _ _ to_shapes word-laid)
