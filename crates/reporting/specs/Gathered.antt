-- The text of the outline that a cache holds, and what `put_outline` asks of the cache. Assumes nothing.
use Rattle.std.specs.Prelude.{ℕ, ◌≤◌, ◌≡◌, List, length, take, Float}
use Rattle.refusal.specs.Order.{accepted}
use Rattle.path.specs.Flat.{anchor_at, nth}
use Rattle.path.specs.Shape.{total}
use Rattle.call.proofs.Openings.{PathOpens}
use Rattle.assembly.specs.Assembled.{place_read, outline_words}
use Rattle.svg.specs.Path.{text_of}
use Rattle.cache.specs.Calls.{held_outline, assemble_verdict, assemble_shapes, assemble_anchors}

unfoldable pub held_text : List ℕ → List Float → List ℕ → List ℕ
held_text shapes numbers flags = text_of (outline_words shapes (place_read numbers flags)) (nth (held_outline shapes numbers flags))

-- `assemble` leaves in two lists a path that `to_svg_d` takes, of this text
pub record GathersIn (shapes : List ℕ) (numbers : List Float) (flags to_shapes : List ℕ) (to : List Float) : Type 0 where
  pub accepts : assemble_verdict shapes numbers flags to_shapes to ≡ accepted
  pub opens : PathOpens 1024 (take (length shapes) (assemble_shapes shapes numbers flags to_shapes to)) (assemble_anchors shapes numbers flags to_shapes to)
      (total (take (length shapes) (assemble_shapes shapes numbers flags to_shapes to)))
  pub text : text_of (take (length shapes) (assemble_shapes shapes numbers flags to_shapes to)) (anchor_at (assemble_anchors shapes numbers flags to_shapes to))
      ≡ held_text shapes numbers flags

-- in any two that are long enough
pub record Gathers (shapes : List ℕ) (numbers : List Float) (flags : List ℕ) : Type 0 where
  pub words : length shapes ≤ 32
  pub gathers : (to_shapes : List ℕ) (to : List Float) → 32 ≤ length to_shapes → 6144 ≤ length to → GathersIn shapes numbers flags to_shapes to
