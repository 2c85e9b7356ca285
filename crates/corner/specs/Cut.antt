-- A corner's cut, after 000's `Corner::cut`. Assumes nothing.
use Rattle.std.specs.Prelude.{ℕ, Bool, ◌&&◌, cond, Float}
use Rattle.std.specs.Float.Ieee.{lt, neg}
use Rattle.real.specs.Operators.{◌⊖◌, ◌⊗◌, ◌⊘◌, 1f, 3f}
use Rattle.real.specs.StandIns.{abs}
use Rattle.real.specs.Finite.{is_finite}
use Rattle.geom.specs.Point.{plus, minus, times, dot, cross, dist}
use Rattle.cubic.specs.Cubic.{CEPS}
use Rattle.side.specs.declared.side.At.{At}
use Rattle.corner.specs.declared.corner.Corner.{Corner}
use Rattle.corner.specs.declared.cut.Lengths.{Lengths}
use Rattle.corner.specs.declared.cut.Handles.{Handles}
use Rattle.corner.specs.declared.cut.Cut.{Cut}
use Rattle.corner.specs.declared.kind.CornerKind.{CornerKind}
use Rattle.corner.specs.declared.kind.CornerKind.TheVariants.{Round, Inverted, Chamfer}
use Rattle.side.specs.Side.{is_straight_side, at_length}
use Rattle.arc.specs.Arc.{square_to, arc_handle}
use Rattle.corner.specs.Corner.{1e-6, setback}

-- two tangents cross, ahead of both points: x and y along them, where the directions' cross product is cr
unfoldable pub cross_ahead : Float → Float → Float → Bool
cross_ahead cr x y = lt 1e-6 (abs cr) && lt CEPS x && lt CEPS y && is_finite x && is_finite y

-- between two points met in directions, one of the sides curved: each handle is the share that an arc takes of its tangent
-- up to where the tangents cross; a third of the chord where they do not
unfoldable pub tangent_handles : At → At → Lengths
tangent_handles a b =
    let cosine = dot a.dir b.dir in
    let cr = cross a.dir b.dir in
    let w = minus a.p b.p in
    let x = cross w b.dir ⊘ cr in
    let y = cross w a.dir ⊘ cr in
    let share = arc_handle (neg cosine) ⊗ (1f ⊖ cosine) ⊘ abs cr in
    let third = dist a.p b.p ⊘ 3f in
    cond (cross_ahead cr x y)
    (record { hu = x ⊗ share; hv = y ⊗ share })
    (record { hu = third; hv = third })

unfoldable pub straight_sides : Corner → Bool
straight_sides c = is_straight_side c.side_u.c && is_straight_side c.side_v.c

-- `round_handles`: the lengths of a round cut's handles
unfoldable pub round_handles : Corner → Float → At → At → Lengths
round_handles c radius a b =
    let h = radius ⊗ arc_handle (neg (dot a.dir b.dir)) in
    cond (straight_sides c) (record { hu = h; hv = h }) (tangent_handles a b)

-- the handles of a round cut, out of its start a and into its end b
unfoldable pub rounded : Corner → Float → At → At → Handles
rounded c radius a b =
    let h = round_handles c radius a b in
    record { h_out = minus a.p (times a.dir h.hu); h_in = minus b.p (times b.dir h.hv) }

-- those of an inverted cut, s along the sides
unfoldable pub inverted : Float → At → At → Handles
inverted s a b =
    let h = s ⊗ arc_handle (dot a.dir b.dir) in
    record { h_out = plus a.p (times (square_to a.dir b.dir) h); h_in = plus b.p (times (square_to b.dir a.dir) h) }

-- and those of each kind
unfoldable pub handles : CornerKind → Corner → Float → Float → At → At → Handles
handles Round c radius s a b = rounded c radius a b
handles Inverted c radius s a b = inverted s a b
handles Chamfer c radius s a b = record { h_out = a.p; h_in = b.p }

-- `Corner::cut`
unfoldable pub cut : ℕ → Corner → Float → CornerKind → Cut
cut chords c radius kind =
    let s = setback c radius in
    let a = at_length chords c.side_u s c.u in
    let b = at_length chords c.side_v s c.v in
    let h = handles kind c radius s a b in
    record { tu = a.t; tv = b.t; start = a.p; h_out = h.h_out; h_in = h.h_in; end = b.p }
