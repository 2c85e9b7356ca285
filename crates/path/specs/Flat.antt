-- Anchors in a flat list: the six numbers of place k stand at 6k .. 6k + 5, p, h_in, h_out, x before y. Assumes nothing.
use Rattle.std.specs.Prelude.{ℕ, ◌+◌, ◌*◌, ◌/◌, ◌%◌, List, [], ◌∷◌, length, get_or, set, Float}
use Rattle.std.specs.Float.{nan}
use Rattle.views.specs.View.{entry, overwrite}
use Rattle.geom.specs.declared.point.P.{P}
use Rattle.geom.specs.Point.{point}
use Rattle.path.specs.declared.anchor.Anchor.{Anchor}
use Rattle.path.specs.Anchor.{without_handles, segment}
use Rattle.path.specs.Shape.{next}

-- the anchor at place k
abbrev pub anchor_at : List Float → ℕ → Anchor
anchor_at xs k =
    record {
      p = point (entry xs (k * 6)) (entry xs (k * 6 + 1));
      h_in = point (entry xs (k * 6 + 2)) (entry xs (k * 6 + 3));
      h_out = point (entry xs (k * 6 + 4)) (entry xs (k * 6 + 5));
    }

-- the curve from anchor a of the n of a subpath, the first of which is at place k, to the next
unfoldable pub curve_of : List Float → ℕ → ℕ → ℕ → List P
curve_of anchors k n a = segment (anchor_at anchors (k + a)) (anchor_at anchors (k + next n a))

-- the six numbers of an anchor
unfoldable pub numbers : Anchor → List Float
numbers a = a.p.x ∷ a.p.y ∷ a.h_in.x ∷ a.h_in.y ∷ a.h_out.x ∷ a.h_out.y ∷ []

-- number j of the anchors f 0, f 1, ..
unfoldable pub anchor_numbers : (ℕ → Anchor) → ℕ → Float
anchor_numbers f j = entry (numbers (f (j / 6))) (j % 6)

-- xs with the anchor at place k put to a
abbrev pub put_anchor : List Float → ℕ → Anchor → List Float
put_anchor xs k a =
    set (set (set (set (set (set xs (k * 6) a.p.x) (k * 6 + 1) a.p.y) (k * 6 + 2) a.h_in.x) (k * 6 + 3) a.h_in.y) (k * 6 + 4) a.h_out.x) (k * 6 + 5) a.h_out.y

-- xs with these anchors put one after the other, from place k on
unfoldable pub put_all : List Float → ℕ → List Anchor → List Float
put_all xs k [] = xs
put_all xs k (p ∷ ps) = put_all (put_anchor xs k p) (k + 1) ps

-- anchor k of a list of anchors, and one of nan past the end
unfoldable pub nth : List Anchor → ℕ → Anchor
nth ps k = get_or ps k (without_handles (point nan nan))

-- xs with these anchors in front, the rest as it was
unfoldable pub listed : List Anchor → List Float → List Float
listed ps xs = overwrite (length ps * 6) (anchor_numbers (nth ps)) xs
