-- One place more; then what was held back, where there is room for it.
use Rattle.std.proofs.Common.{◌≡◌, ◌+◌, append-nil, length, refl, arith}
use mathlib.Core.Path.{ap, ◌∙◌}
use lib.ListN.{length-append}
use Rattle.path.specs.Flat.{put_all}
use Rattle.path.proofs.Puts.{put_next}
use Rattle.cut.specs.Outline.{joined, anchors_at, held_back, assembled}
use Rattle.assembly.specs.Assembled.{places_from}
use Rattle.assembly.proofs.Outlined.{subpath_most, held_is, joined-next}
use Rattle.assembly.proofs.outline.assemble_subpath.Goals as goal

pub loop-i-init : goal.loop-i-init
unfolding joined put_all
loop-i-init c = record { room = omega arith; next = omega arith; anchors = refl }

pub loop-i-preserved : goal.loop-i-preserved
loop-i-preserved c =
    let a = c.args in
    let l = c.loop-i in
    let p = c.put_anchors-next.ensures in
    let g = anchors_at a.sub.closed (places_from a.numbers.now a.flags.now a.sub.first) in
    let e = joined-next g l.i in
    let n = ap length e ∙ length-append (joined g l.i) (g l.i) in
    record {
      room = omega (arith, p.next, n, subpath_most (l.i + 1) a.sub.closed (places_from a.numbers.now a.flags.now a.sub.first));
      next = omega (arith, p.next, n);
      anchors = rw e (put_next a.to.now l.to _ a.at l.next (joined g l.i) (g l.i) l.invariant.next l.invariant.anchors p.anchors);
    }

-- all places are done, and the start of anchor 0 was held back
pub put_anchor-requires : goal.put_anchor-requires
put_anchor-requires c =
    let a = c.args in
    let e : c.loop-i.i ≡ a.sub.n = omega arith in
    let h = rw c.if-is_held_back.true at (held_is a.numbers.now a.flags.now a.sub c.is_held_back.result c.is_held_back.ensures) in
    omega (
      arith,
      rw e at c.loop-i.invariant.next,
      ap length h,
      subpath_most a.sub.n a.sub.closed (places_from a.numbers.now a.flags.now a.sub.first),
    )

pub returns-then-is_held_back : goal.returns-then-is_held_back
unfolding assembled put_all
returns-then-is_held_back c =
    let a = c.args in
    let l = c.loop-i in
    let f = places_from a.numbers.now a.flags.now a.sub.first in
    let ps = joined (anchors_at a.sub.closed f) a.sub.n in
    let e : l.i ≡ a.sub.n = omega arith in
    let next = rw e at l.invariant.next in
    let h = rw c.if-is_held_back.true at (held_is a.numbers.now a.flags.now a.sub c.is_held_back.result c.is_held_back.ensures) in
    record {
      next = omega (arith, next, ap length h, length-append ps (held_back a.sub.n a.sub.closed f));
      anchors =
          put_next a.to.now l.to _ a.at l.next ps (held_back a.sub.n a.sub.closed f) next (rw e at l.invariant.anchors)
          (c.put_anchor.ensures ∙ rw (h, c.anchor_at.ensures));
    }

pub returns : goal.returns
unfolding assembled
returns c =
    let a = c.args in
    let l = c.loop-i in
    let e : l.i ≡ a.sub.n = omega arith in
    let h = rw c.if-is_held_back.false at (held_is a.numbers.now a.flags.now a.sub c.is_held_back.result c.is_held_back.ensures) in
    rw (h, append-nil) record { next = rw e at l.invariant.next; anchors = rw e at l.invariant.anchors }
