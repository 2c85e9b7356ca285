-- `cached::opening::open_cached`: with a cache that is long enough, the drawing's tests are left.
use Rattle.std.specs.Option.{is_some}
use Rattle.std.proofs.Common.{sym, ap, ◌∙◌}
use Rattle.cached.specs.Opening.{lent}
use Rattle.cached.proofs.Openings.{cached_wrong, cached_drawing}
use Rattle.cached.proofs.opening.open_cached.Goals as goal

pub returns-then-is_none : goal.returns-then-is_none
returns-then-is_none c =
    let a = c.args in
    rw c.at.ensures (cached_wrong (lent a.shapes.now a.anchors.now a.radii.now a.numbers.now a.flags.now) (ap is_some (sym c.size_test.ensures) ∙ c.if-is_none.ensures))

pub returns : goal.returns
returns c =
    let a = c.args in
    c.open_drawing.ensures ∙ cached_drawing (lent a.shapes.now a.anchors.now a.radii.now a.numbers.now a.flags.now) (ap is_some (sym c.size_test.ensures) ∙ c.if-is_none.ensures)
