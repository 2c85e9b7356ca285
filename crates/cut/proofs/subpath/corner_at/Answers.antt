-- Each answer rewrites with the test that led to it.
use mathlib.Core.Path.{refl}
use Rattle.corner.proofs.Measures.{nothing}
use Rattle.cut.specs.View.{arrives, leaves}
use Rattle.cut.specs.Places.{corner_at}
use Rattle.cut.specs.Subpath.{view_of}
use Rattle.cut.proofs.subpath.corner_at.Goals as goal

pub returns-then-not-is_inner : goal.returns-then-not-is_inner
unfolding corner_at arrives leaves view_of
returns-then-not-is_inner c radius kind = nothing 128 _ _ refl (rw (← c.is_inner.ensures, c.if-not-is_inner.true) refl)

pub returns : goal.returns
unfolding corner_at arrives leaves view_of
returns c radius kind =
    rw (
      ← c.is_inner.ensures,
      c.if-not-is_inner.false,
      ← c.after.ensures.index,
      ← c.anchor-next.ensures,
      ← c.before-2.ensures.index,
      ← c.anchor-prev.ensures,
      ← c.anchor.ensures,
    )
    c.of.ensures
