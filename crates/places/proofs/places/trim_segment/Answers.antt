-- Each way out rewrites with the tests that led to it.
use Rattle.std.proofs.Common.{rules, ◌≡◌, refl}
use mathlib.Core.Bool.{false, ◌&&◌}
use Rattle.std.specs.Option.{option_map_or}
use Rattle.real.specs.Operators.{◌⊖◌, 0f, 1f}
use Rattle.geom.specs.Point.{same}
use Rattle.cut.specs.Places.{trim}
use Rattle.places.proofs.places.trim_segment.Goals as goal
use Rattle.places.proofs.places.trim_segment.Goals.{else-eq-via-then-eq+else-eq-2, else-eq-via-else-eq}

pub returns-then-eq-2 : goal.returns-then-eq-2
unfolding trim same
returns-then-eq-2 c =
    let out : c.map_or.result ≡ option_map_or (λ k. k.end) c.args.c c.args.a.p = search rules in
    let into : c.map_or-then-eq-2.result ≡ option_map_or (λ k. k.start) c.args.d c.args.b.p = search rules in
    rw (← c.eq.ensures, c.if-eq.true, ← c.eq-then-eq.ensures, c.if-eq-2.true, out, into) refl

pub returns : goal.returns
unfolding trim same
returns c =
    let a = c.args.a in
    let b = c.args.b in
    let from : c.map_or-from.result ≡ option_map_or (λ k. k.tv) c.args.c 0f = search rules in
    let to : c.map_or-to.result ≡ option_map_or (λ k. 1f ⊖ k.tu) c.args.d 1f = search rules in
    let curved : (same a.h_out a.p && same b.h_in b.p) ≡ false =
    elim c.else-eq.branch [
      | else-eq-via-then-eq+else-eq-2 w ↦ rw (← c.eq.ensures, w.if-eq.true, ← w.eq-then-eq.ensures, w.if-eq-2.false) refl
      | else-eq-via-else-eq w ↦ rw (← c.eq.ensures, w.if-eq.false) refl
    ] in
    rw (curved, c.subsegment-left.ensures, c.max.ensures, c.cubic.ensures, to, from) refl
