-- The three edits: what each makes of a drawing, which anchors it writes, which places it recuts (document 01, 'Kept outline'). Assumes nothing.
use Rattle.std.specs.Prelude.{ℕ, ◌+◌, Bool, false, ◌||◌, cond, List, eqb, Float}
use Rattle.real.specs.Operators.{0f}
use Rattle.real.specs.Limit.{in_limit}
use Rattle.path.specs.declared.anchor.Anchor.{Anchor}
use Rattle.path.specs.Limit.{anchor_good}
use Rattle.path.specs.Shape.{count_of, word_at, start, has_anchor, next}
use Rattle.cut.specs.declared.places.Place.{Place}
use Rattle.cut.specs.Near.{old}
use Rattle.cut.specs.Recut.{reached}
use Rattle.session.specs.Drawing.{Drawing, view_in}
use Rattle.cache.specs.Cache.{place_of_path}
use Rattle.edit.specs.Split.{shifted, split_anchors, split_shapes, has_segment}

-- subpath, anchor and its six new numbers; subpath, anchor and its new radius; subpath, the segment's start and t
pub data Call : Type 0 where
  move : ℕ → ℕ → Anchor → Call
  set_radius : ℕ → ℕ → Float → Call
  split : ℕ → ℕ → Float → Call

-- an edit of a drawing; places are numbered as after it
pub record Edit : Type 0 where
  -- the call's own numbers are within the limit
  pub loose : Bool
  -- its subpath, anchor or segment is there
  pub known : Bool
  -- the drawing that it makes
  pub made : Drawing
  -- whether it writes the anchor at a place
  pub writes : ℕ → Bool
  -- whether it recuts a place
  pub recuts : ℕ → Bool
  -- where a place stood before
  pub stood : ℕ → ℕ

-- ---- the drawings made
unfoldable pub moved : Drawing → ℕ → Anchor → Drawing
moved d place new = record { shapes = d.shapes; kind = d.kind; anchor = λ k. cond (eqb k place) new (d.anchor k); radius = d.radius }

unfoldable pub resized : Drawing → ℕ → Float → Drawing
resized d place r = record { shapes = d.shapes; kind = d.kind; anchor = d.anchor; radius = λ k. cond (eqb k place) r (d.radius k) }

-- the places at which the segment from anchor a of subpath s starts and ends
unfoldable pub segment_start : List ℕ → ℕ → ℕ → ℕ
segment_start shapes s a = start shapes s + a

unfoldable pub segment_end : List ℕ → ℕ → ℕ → ℕ
segment_end shapes s a = start shapes s + next (count_of (word_at shapes s)) a

-- radius 0 at the place after a, later ones shifted up one
unfoldable pub split_radii : (ℕ → Float) → ℕ → ℕ → Float
split_radii r a k = cond (eqb k (a + 1)) 0f (r (old a k))

unfoldable pub split_at : Drawing → ℕ → ℕ → Float → Drawing
split_at d s a t =
    let from = segment_start d.shapes s a in
    record {
      shapes = split_shapes d.shapes s;
      kind = d.kind;
      anchor = split_anchors d.anchor from (segment_end d.shapes s a) t;
      radius = split_radii d.radius from;
    }

-- ---- the edits: places within 3 steps of a moved anchor, 2 of one whose radius is set, 4 of a new one, in the subpath as the edit leaves it
unfoldable pub edit_of : Drawing → Call → Edit
edit_of d (move s i new) =
    let first = start d.shapes s in
    let made = moved d (first + i) new in
    record {
      loose = anchor_good new;
      known = has_anchor d.shapes s i;
      made = made;
      writes = λ k. eqb k (first + i);
      recuts = reached (view_in made s) first 3 i;
      stood = λ k. k;
    }
edit_of d (set_radius s i r) =
    let first = start d.shapes s in
    let made = resized d (first + i) r in
    record {
      loose = in_limit r;
      known = has_anchor d.shapes s i;
      made = made;
      writes = λ k. false;
      recuts = reached (view_in made s) first 2 i;
      stood = λ k. k;
    }
edit_of d (split s a t) =
    let from = segment_start d.shapes s a in
    let made = split_at d s a t in
    record {
      loose = in_limit t;
      known = has_segment d.shapes s a;
      made = made;
      writes = λ k. eqb k from || (eqb k (from + 1) || eqb k (shifted from (segment_end d.shapes s a)));
      recuts = reached (view_in made s) (start d.shapes s) 4 (a + 1);
      stood = old from;
    }

-- what the cut leaves at each place of a drawing
unfoldable pub places_of : Drawing → ℕ → Place
places_of d = place_of_path d.shapes (view_in d)
