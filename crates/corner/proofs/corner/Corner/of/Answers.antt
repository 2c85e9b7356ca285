-- Each way out rewrites with the tests that led to it.
use mathlib.Core.Path.{refl}
use Rattle.corner.specs.Corner.{between, corner_of}
use Rattle.corner.proofs.Measures.{nothing}
use Rattle.corner.proofs.corner.Corner.of.Goals as goal

pub returns-then-is_smooth : goal.returns-then-is_smooth
unfolding corner_of
returns-then-is_smooth c = nothing 128 _ _ refl (rw (← c.is_smooth.ensures, c.if-is_smooth.true) refl)

pub returns-in_err-hu : goal.returns-in_err-hu
unfolding corner_of between
returns-in_err-hu c =
    nothing 128 _ _ c.from_residual.ensures
    (rw (← c.is_smooth.ensures, c.if-is_smooth.false, ← c.of-side_u.ensures, ← c.direction.ensures, c.in_err-hu.was) refl)

pub returns-in_err-hv : goal.returns-in_err-hv
unfolding corner_of between
returns-in_err-hv c =
    nothing 128 _ _ c.from_residual-in_err-hv.ensures
    (rw (
      ← c.is_smooth.ensures,
      c.if-is_smooth.false,
      ← c.of-side_u.ensures,
      ← c.of-side_v.ensures,
      ← c.direction.ensures,
      c.in_ok-hu.was,
      ← c.direction-2.ensures,
      c.in_err-hv.was,
    ) refl)

pub returns : goal.returns
unfolding corner_of between
returns c =
    rw (
      ← c.is_smooth.ensures,
      c.if-is_smooth.false,
      ← c.of-side_u.ensures,
      ← c.of-side_v.ensures,
      ← c.direction.ensures,
      c.in_ok-hu.was,
      ← c.direction-2.ensures,
      c.in_ok-hv.was,
    ) c.meet.ensures
