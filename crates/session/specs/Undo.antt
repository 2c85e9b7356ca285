-- Undo (request 9/14): what is kept of an edit, and the edit that takes it back. Assumes nothing.
use Rattle.std.specs.Prelude.{ℕ, ◌+◌, ◌-◌, ◌≤◌, ◌≡◌, Bool, true, ◌&&◌, ◌||◌, cond, List, [], ◌∷◌, ◌++◌, ltb, eqb, length, set, Float}
use Rattle.geom.specs.declared.point.P.{P}
use Rattle.geom.specs.Point.{point_in}
use Rattle.path.specs.declared.anchor.Anchor.{Anchor}
use Rattle.path.specs.Shape.{count_of, closed_of, total, word_at, start, is_segment, next}
use Rattle.cut.specs.Near.{shifted}
use Rattle.cut.specs.Recut.{reached}
use Rattle.session.specs.Drawing.{Drawing, view_in}
use Rattle.session.specs.Edits.{Call, move, set_radius, split, Edit, edit_of, segment_start, segment_end}

-- subpath, anchor and the six numbers that it had; subpath, anchor and the radius that it had; subpath, the segment's start, the handle out that this had and the handle in that its end had
pub data Entry : Type 0 where
  stood_at : ℕ → ℕ → Anchor → Entry
  had_radius : ℕ → ℕ → Float → Entry
  was_whole : ℕ → ℕ → P → P → Entry

-- what a call on d overwrites
unfoldable pub entry_of : Drawing → Call → Entry
entry_of d (move s i new) = stood_at s i (d.anchor (start d.shapes s + i))
entry_of d (set_radius s i r) = had_radius s i (d.radius (start d.shapes s + i))
entry_of d (split s a t) = was_whole s a (d.anchor (segment_start d.shapes s a)).h_out (d.anchor (segment_end d.shapes s a)).h_in

-- ---- the anchor after a gone, later ones shifted down one
unfoldable pub merged_shapes : List ℕ → ℕ → List ℕ
merged_shapes shapes s = set shapes s (word_at shapes s - 1)

-- the segment's ends, at places a and b once it is whole, with the handles o and h
unfoldable pub merged_anchors : (ℕ → Anchor) → ℕ → ℕ → P → P → ℕ → Anchor
merged_anchors f a b o h k =
    let x = f (shifted a k) in
    record { p = x.p; h_in = cond (eqb k b) h x.h_in; h_out = cond (eqb k a) o x.h_out }

unfoldable pub merged_at : Drawing → ℕ → ℕ → P → P → Drawing
merged_at d s a o h =
    let shapes = merged_shapes d.shapes s in
    let from = segment_start shapes s a in
    record {
      shapes = shapes;
      kind = d.kind;
      anchor = merged_anchors d.anchor from (segment_end shapes s a) o h;
      radius = λ k. d.radius (shifted from k);
    }

-- subpath s has an anchor after its anchor a, and without it a segment that starts at a
unfoldable pub has_merge : List ℕ → ℕ → ℕ → Bool
has_merge shapes s a = ltb s (length shapes) && is_segment (count_of (word_at shapes s) - 1) (closed_of (word_at shapes s)) a

-- the edit that takes an entry back: the places of the edit that it reverses, and for a split those within three steps of either of the two that become neighbours again
unfoldable pub reverse_of : Drawing → Entry → Edit
reverse_of d (stood_at s i a) = edit_of d (move s i a)
reverse_of d (had_radius s i r) = edit_of d (set_radius s i r)
reverse_of d (was_whole s a o h) =
    let made = merged_at d s a o h in
    let first = start made.shapes s in
    let from = segment_start made.shapes s a in
    record {
      loose = point_in o && point_in h;
      known = has_merge d.shapes s a;
      made = made;
      writes = λ k. eqb k from || eqb k (segment_end made.shapes s a);
      recuts = λ k. reached (view_in made s) first 3 a k || reached (view_in made s) first 3 (next (count_of (word_at made.shapes s)) a) k;
      stood = shifted from;
    }

-- ---- a list of calls, oldest first: the drawing that they make, and what is kept of them, newest first
unfoldable pub made_by : Drawing → List Call → Drawing
made_by d [] = d
made_by d (c ∷ cs) = made_by (edit_of d c).made cs

unfoldable pub entries_of : Drawing → List Call → List Entry
entries_of d [] = []
entries_of d (c ∷ cs) = entries_of (edit_of d c).made cs ++ entry_of d c ∷ []

-- entries taken back one after the other
unfoldable pub taken_back : Drawing → List Entry → Drawing
taken_back d [] = d
taken_back d (x ∷ xs) = taken_back (reverse_of d x).made xs

-- every call points to what is there, in a drawing of at most 512 anchors, as an accepted one does
abbrev pub AllThere : Drawing → List Call → Type 0
AllThere d [] = Unit
AllThere d (c ∷ cs) = ((total d.shapes ≤ 512) × ((edit_of d c).known ≡ true)) × AllThere (edit_of d c).made cs
