-- The cuts say whether one stands at an end.
use mathlib.Core.Path.{◌≡◌, refl, sym, ◌∙◌}
use mathlib.Core.Bool.{true, false, ◌||◌}
use lib.ListN.{get_or}
use Rattle.std.proofs.Common.{None, is_some}
use Rattle.path.specs.Flat.{anchor_at}
use Rattle.path.specs.Shape.{next}
use Rattle.cut.specs.Subpath.{view_of}
use Rattle.views.proofs.Bools.{or_left, or_right}
use Rattle.places.proofs.Ends.{trimmed_cut, trimmed_kept}
use Rattle.places.proofs.places.trimmed_at.Goals as goal
use Rattle.places.proofs.places.trimmed_at.Goals.{then-is_some-via-then-is_some, then-is_some-via-else-is_some+then-is_some-2}

pub returns-then-is_some : goal.returns-then-is_some
unfolding view_of
returns-then-is_some c radius kind h =
    let a = c.args in
    let f = is_some (get_or a.cuts.now a.j None) in
    let g = is_some (get_or a.cuts.now c.after-k.result None) in
    let either : (f || g) ≡ true =
    elim c.then-is_some.branch [
      | then-is_some-via-then-is_some w ↦ or_left f g (sym c.is_some.ensures ∙ w.if-is_some.true)
      | then-is_some-via-else-is_some+then-is_some-2 w ↦ or_right f g (sym w.is_some-else-is_some.ensures ∙ w.if-is_some-2.true)
    ] in
    rw (c.trim_segment.ensures, c.anchor-b.ensures, c.anchor-a.ensures, c.after-k.ensures.index)
    (trimmed_cut (view_of (anchor_at a.anchors.now) radius kind 128 a.sub) a.j a.cuts.now h (rw c.after-k.ensures.index at either))

pub returns : goal.returns
unfolding view_of
returns c radius kind h =
    let a = c.args in
    let neither : (is_some (get_or a.cuts.now a.j None) || is_some (get_or a.cuts.now (next a.sub.n a.j) None)) ≡ false =
    rw (← c.after-k.ensures.index, ← c.is_some.ensures, c.if-is_some.false, ← c.is_some-else-is_some.ensures, c.if-is_some-2.false) refl in
    rw (c.anchor-b.ensures, c.anchor-a.ensures, c.after-k.ensures.index)
    (trimmed_kept (view_of (anchor_at a.anchors.now) radius kind 128 a.sub) a.j a.cuts.now h neither)
