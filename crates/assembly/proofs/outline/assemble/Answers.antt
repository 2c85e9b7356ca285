-- One subpath more.
use Rattle.std.proofs.Common.{◌≡◌, ◌-◌, length, refl, arith}
use mathlib.Core.Path.{ap, ◌∙◌}
use native.Mathlib.Nat.{le_refl}
use lib.ListN.{length-append}
use borrow.Author.Count.{below_none}
use Rattle.views.proofs.Laws.{fill_more, keep_more, as_overwrite}
use Rattle.path.specs.Flat.{put_all}
use Rattle.path.proofs.Puts.{put_next, put-listed}
use Rattle.path.proofs.Shapes.{total-next, total_in, total-end}
use Rattle.assembly.specs.Assembled.{place_read, places_from, subpath_outline, outline_up_to, outline_of, outline_shapes}
use Rattle.assembly.proofs.Outlined.{assembled_most, subpath_is, outline-next, outline_most}
use Rattle.assembly.proofs.outline.assemble.Goals as goal

pub loop-s-init : goal.loop-s-init
unfolding outline_up_to put_all
loop-s-init c = record { first = refl; words = below_none _; rest = λ j h. refl; count = refl; anchors = refl }

pub assemble_subpath-next-requires : goal.assemble_subpath-next-requires
assemble_subpath-next-requires c =
    let ws = c.args.shapes.now in
    let l = c.loop-s in
    let n = c.count_of.ensures in
    let t = total_in ws l.s (omega arith) in
    record {
      n_bound = omega (arith, l.invariant.first, n, t);
      n_bound_2 = omega (arith, l.invariant.first, l.invariant.count, n, t, outline_most ws (place_read c.args.numbers.now c.args.flags.now) l.s (omega arith));
    }

pub word-requires : goal.word-requires
word-requires c =
    let l = c.loop-s in
    omega (
      arith,
      c.assemble_subpath-next.ensures.next,
      assembled_most c.count_of.result c.closed_of.result (places_from c.args.numbers.now c.args.flags.now l.first),
      total_in c.args.shapes.now l.s (omega arith),
      c.count_of.ensures,
    )

pub overflow_add-first : goal.overflow_add-first
overflow_add-first c =
    let l = c.loop-s in
    record { fits = omega (arith, l.invariant.first, c.count_of.ensures, total_in c.args.shapes.now l.s (omega arith)) }

pub loop-s-preserved : goal.loop-s-preserved
unfolding outline_shapes
loop-s-preserved c =
    let a = c.args in
    let ws = a.shapes.now in
    let f = place_read a.numbers.now a.flags.now in
    let l = c.loop-s in
    let i = l.invariant in
    let ps = outline_up_to ws f l.s in
    let qs = subpath_outline ws f l.s in
    let is = subpath_is ws a.numbers.now a.flags.now l.s (record { first = l.first; n = c.count_of.result; closed = c.closed_of.result }) i.first c.count_of.ensures c.closed_of.ensures in
    let next = rw is at c.assemble_subpath-next.ensures.next in
    let e = outline-next ws f l.s in
    let d : c.assemble_subpath-next.result - l.at ≡ length qs = omega arith in
    let word : c.word.result ≡ outline_shapes ws f l.s = c.word.ensures ∙ rw (d, c.closed_of.ensures) in
    record {
      first = omega (arith, i.first, c.count_of.ensures, total-next ws l.s (omega arith));
      words = fill_more 0 l.to_shapes l.s c.word.result (outline_shapes ws f) (omega arith) i.words word;
      rest = keep_more 0 l.to_shapes l.s c.word.result a.to_shapes.now i.rest;
      count = omega (arith, next, ap length e ∙ length-append ps qs);
      anchors = rw e (put_next a.to.now l.to _ 0 l.at ps qs (omega arith) i.anchors (rw is at c.assemble_subpath-next.ensures.anchors));
    }

pub returns : goal.returns
unfolding outline_of
returns c =
    let a = c.args in
    let f = place_read a.numbers.now a.flags.now in
    let l = c.loop-s in
    let i = l.invariant in
    let n = length a.shapes.now in
    let e : l.s ≡ n = omega arith in
    record {
      count = rw e at i.count;
      shapes = as_overwrite 0 l.to_shapes a.to_shapes.now n (outline_shapes a.shapes.now f) (omega arith) (λ j h. i.words j (omega arith)) (λ j h. i.rest j (omega arith));
      anchors =
          (rw e at i.anchors)
          ∙ put-listed (outline_up_to a.shapes.now f n) a.to.now (omega (arith, outline_most a.shapes.now f n (le_refl n), total-end a.shapes.now n (le_refl n)));
    }
