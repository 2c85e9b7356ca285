-- The first tests of a call on a drawing and its cache: 7 over the five lists, then 5. Assumes nothing.
use Rattle.std.proofs.Common.{Result}
use Rattle.std.specs.Prelude.{ℕ, Bool, true, ◌&&◌, List, Float}
use Rattle.refusal.specs.declared.Refusal.{Refusal}
use Rattle.refusal.specs.declared.Reason.TheVariants.{Arguments, Lists}
use Rattle.refusal.specs.Order.{holds, judge, accepted, answering}
use Rattle.path.specs.Shape.{total}
use Rattle.call.specs.Tests.{drawing_limit}
use Rattle.corner.specs.Kinds.{kind_of, is_known}
use Rattle.session.specs.Drawing.{Lent, corner_kind}
use Rattle.session.specs.Calls.{lists_fit}
use Rattle.cached.specs.declared.opening.Ready.{Ready}

-- the five lists that a cached edit is lent
abbrev pub lent : List ℕ → List Float → List Float → List Float → List ℕ → Lent
lent shapes anchors radii numbers flags = record { shapes = shapes; anchors = anchors; radii = radii; numbers = numbers; flags = flags }

-- 7, then 5 without loose arguments: how many anchors, or the refusal
unfoldable pub opened_cached : Lent → Result ℕ Refusal
opened_cached l = answering (judge (holds (lists_fit l) 0) Lists (judge (drawing_limit l.shapes l.anchors l.radii true) Arguments accepted)) (total l.shapes)

-- 7, then 5 with the kind and the edit's own numbers: how many anchors and the kind, or the refusal
unfoldable pub ready_of : Lent → ℕ → Bool → Result Ready Refusal
ready_of l kind loose =
    answering (judge (holds (lists_fit l) 0) Lists (judge (drawing_limit l.shapes l.anchors l.radii (is_known (kind_of kind) && loose)) Arguments accepted))
    (record { anchors = total l.shapes; kind = corner_kind (kind_of kind) })
