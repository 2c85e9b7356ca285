-- What the calls on caches answer, and what they leave in the lists lent to them (document 01, 'Kept outline'). Assumes nothing.
use Rattle.std.specs.Prelude.{ℕ, ◌*◌, false, ◌&&◌, List, length, Float, Option, Some, None, Result}
use Rattle.refusal.specs.declared.Refusal.{Refusal}
use Rattle.refusal.specs.Order.{passes, holds, Verdict, verdict, tests}
use Rattle.geom.specs.Point.{origin}
use Rattle.path.specs.declared.anchor.Anchor.{Anchor}
use Rattle.path.specs.Anchor.{without_handles}
use Rattle.path.specs.Shape.{total}
use Rattle.cut.specs.declared.places.Place.{Place}
use Rattle.assembly.specs.Assembled.{place_read, outline_of, outline_shapes}
use Rattle.call.specs.declared.answers.Outline.{Outline}
use Rattle.call.specs.Tests.{places, drawing_fits, drawing_limit, outline_limit, room_for}
use Rattle.call.specs.Answers.{outline_answer, list_left, anchors_left}
use Rattle.corner.specs.declared.kind.CornerKind.{CornerKind}
use Rattle.corner.specs.Kinds.{kind_of, is_known}
use Rattle.cut_calls.specs.PlainCut.{view_at}
use Rattle.cache.specs.Cache.{place_of_path, cached_numbers, cached_flags, cached_in}
use Rattle.cache.specs.Tests.{cache_fits}

-- ---- `build`

-- the places of the drawing's cut, where the kind is known
unfoldable pub cut_places : List ℕ → List Float → List Float → Option CornerKind → ℕ → Place
cut_places shapes anchors radii (Some k) = place_of_path shapes (view_at shapes anchors radii k)
cut_places shapes anchors radii None = λ i. record { cut = false; start = without_handles origin; end = without_handles origin }

unfoldable pub build_verdict : List ℕ → List Float → List Float → ℕ → List Float → List ℕ → Verdict
build_verdict shapes anchors radii kind numbers flags =
    let k = kind_of kind in
    verdict
    (tests
    (holds (cache_fits shapes numbers flags && drawing_fits shapes anchors radii) 0)
    (drawing_limit shapes anchors radii (is_known k))
    passes
    passes
    (places (cached_in (cut_places shapes anchors radii k)) (total shapes) passes)
    passes)

-- how many subpaths and places
unfoldable pub build_answer : List ℕ → List Float → List Float → ℕ → List Float → List ℕ → Result Outline Refusal
build_answer shapes anchors radii kind numbers flags = outline_answer (build_verdict shapes anchors radii kind numbers flags) (length shapes) (total shapes)

unfoldable pub build_numbers : List ℕ → List Float → List Float → ℕ → List Float → List ℕ → List Float
build_numbers shapes anchors radii kind numbers flags =
    list_left (build_verdict shapes anchors radii kind numbers flags) (total shapes * 12) (cached_numbers (cut_places shapes anchors radii (kind_of kind))) numbers

unfoldable pub build_flags : List ℕ → List Float → List Float → ℕ → List Float → List ℕ → List ℕ
build_flags shapes anchors radii kind numbers flags =
    list_left (build_verdict shapes anchors radii kind numbers flags) (total shapes) (cached_flags (cut_places shapes anchors radii (kind_of kind))) flags

-- ---- `assemble`

-- the outline of the places that the lists hold
unfoldable pub held_outline : List ℕ → List Float → List ℕ → List Anchor
held_outline shapes numbers flags = outline_of shapes (place_read numbers flags)

unfoldable pub assemble_verdict : List ℕ → List Float → List ℕ → List ℕ → List Float → Verdict
assemble_verdict shapes numbers flags to_shapes to =
    let ps = held_outline shapes numbers flags in
    verdict
    (tests
    (holds (cache_fits shapes numbers flags) 0)
    passes
    passes
    passes
    (outline_limit ps)
    (holds (room_for (length shapes) (length ps) to_shapes to) 0))

unfoldable pub assemble_answer : List ℕ → List Float → List ℕ → List ℕ → List Float → Result Outline Refusal
assemble_answer shapes numbers flags to_shapes to =
    outline_answer (assemble_verdict shapes numbers flags to_shapes to) (length shapes) (length (held_outline shapes numbers flags))

unfoldable pub assemble_shapes : List ℕ → List Float → List ℕ → List ℕ → List Float → List ℕ
assemble_shapes shapes numbers flags to_shapes to =
    list_left (assemble_verdict shapes numbers flags to_shapes to) (length shapes) (outline_shapes shapes (place_read numbers flags)) to_shapes

unfoldable pub assemble_anchors : List ℕ → List Float → List ℕ → List ℕ → List Float → List Float
assemble_anchors shapes numbers flags to_shapes to =
    anchors_left (assemble_verdict shapes numbers flags to_shapes to) (held_outline shapes numbers flags) to
