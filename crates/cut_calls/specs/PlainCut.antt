-- The plain cut of a drawing in flat lists: each subpath's `cut_corners`, one after the other. Assumes nothing.
use Rattle.std.specs.Prelude.{ℕ, zero, suc, ◌+◌, ◌*◌, ◌<◌, ◌≡◌, List, [], ◌++◌, length, get_or, Float}
use Rattle.views.specs.View.{entry}
use Rattle.path.specs.declared.anchor.Anchor.{Anchor}
use Rattle.path.specs.Flat.{anchor_at}
use Rattle.path.specs.Shape.{count_of, closed_of, word_at, word_of, start}
use Rattle.corner.specs.declared.kind.CornerKind.{CornerKind}
use Rattle.cut.specs.declared.subpath.Sub.{Sub}
use Rattle.cut.specs.View.{View}
use Rattle.cut.specs.Subpath.{view_of}
use Rattle.cut.specs.Places.{is_cut, place_at, place_numbers}
use Rattle.cut.specs.Outline.{cut_corners}
use Rattle.cut.specs.Rows.{flag_of}

-- subpath s of a path
unfoldable pub sub_at : List ℕ → ℕ → Sub
sub_at shapes s = record { first = start shapes s; n = count_of (word_at shapes s); closed = closed_of (word_at shapes s) }

-- its view, in a drawing of one kind, with 128 chords
unfoldable pub view_at : List ℕ → List Float → List Float → CornerKind → ℕ → View
view_at shapes anchors radii kind s = view_of (anchor_at anchors) (entry radii) (λ k. kind) 128 (sub_at shapes s)

-- the outlines of the first m subpaths
unfoldable pub cut_up_to : (ℕ → View) → ℕ → List Anchor
cut_up_to view zero = []
cut_up_to view (suc m) = cut_up_to view m ++ cut_corners (view m)

-- the shape word of subpath s, cut
unfoldable pub cut_shape : (ℕ → View) → ℕ → ℕ
cut_shape view s = word_of (length (cut_corners (view s))) (view s).closed

-- lists that hold every place of the cut of each of the first m subpaths: twelve numbers and a flag (document 01, 'Kept outline')
pub record LaidUpTo (shapes : List ℕ) (view : ℕ → View) (m : ℕ) (numbers : List Float) (flags : List ℕ) : Type 0 where
  pub number : (s i q : ℕ) → s < m → i < (view s).n → q < 12 → entry numbers ((start shapes s + i) * 12 + q) ≡ entry (place_numbers (place_at (view s) i)) q
  pub flag : (s i : ℕ) → s < m → i < (view s).n → get_or flags (start shapes s + i) 0 ≡ flag_of (is_cut (view s) i)

-- of each subpath
abbrev pub Laid : List ℕ → (ℕ → View) → List Float → List ℕ → Type 0
Laid shapes view numbers flags = LaidUpTo shapes view (length shapes) numbers flags
