-- A subpath's places are places of the path, and its cut is laid beside those before it.
use Rattle.std.proofs.Common.{◌≡◌, length}
use mathlib.Core.Path.{refl}
use native.Mathlib.Nat.{not-suc-le-zero}
use native.Mathlib.Omega.{arith}
use Rattle.path.proofs.Shapes.{total-next, total_in}
use Rattle.cut_calls.proofs.Laying.{sub_of_lem, laid_more}
use Rattle.cut_calls.proofs.drawing.lay_drawing.Goals as goal

pub loop-word-init : goal.loop-word-init
loop-word-init c = (refl, record { number = λ s i q l. absurd (not-suc-le-zero l); flag = λ s i l. absurd (not-suc-le-zero l) })

pub recut-requires-clause-fits : goal.recut-requires-clause-fits
recut-requires-clause-fits c =
    let f = total_in c.args.shapes.now c.loop-word.word-index c.loop-word-test.true in
    let first = c.loop-word.invariant.0 in
    let n = c.count_of-n.ensures in
    let p = c.requires.shapes_len_bound in
    (record { small = omega arith; long = omega arith }, record { index = omega arith; few = omega arith }, omega arith)

pub recut-requires-clause-n_in_bounds : goal.recut-requires-clause-n_in_bounds
recut-requires-clause-n_in_bounds c =
    let f = total_in c.args.shapes.now c.loop-word.word-index c.loop-word-test.true in
    let first = c.loop-word.invariant.0 in
    let n = c.count_of-n.ensures in
    let p = c.requires.shapes_in_bounds in
    let rows = c.loop-word.auto.rows in
    let cuts = c.loop-word.auto.cuts in
    (omega arith, omega arith)

pub recut-requires-clause-n_in_bounds_2 : goal.recut-requires-clause-n_in_bounds_2
recut-requires-clause-n_in_bounds_2 c =
    let f = total_in c.args.shapes.now c.loop-word.word-index c.loop-word-test.true in
    let first = c.loop-word.invariant.0 in
    let n = c.count_of-n.ensures in
    let p = c.requires.shapes_in_bounds_2 in
    let numbers = c.loop-word.auto.numbers in
    let flags = c.loop-word.auto.flags in
    (omega arith, omega arith)

pub overflow_add-first : goal.overflow_add-first
overflow_add-first c =
    let f = total_in c.args.shapes.now c.loop-word.word-index c.loop-word-test.true in
    let first = c.loop-word.invariant.0 in
    let n = c.count_of-n.ensures in
    let p = c.requires.shapes_len_bound in
    omega arith

pub loop-word-preserved : goal.loop-word-preserved
loop-word-preserved c =
    let s = c.loop-word.word-index in
    let l = c.loop-word-test.true in
    let f = total_in c.args.shapes.now s l in
    let i = c.loop-word.invariant in
    let n = c.count_of-n.ensures in
    let next = total-next c.args.shapes.now s l in
    let p = c.requires.shapes_in_bounds_2 in
    let numbers = c.loop-word.auto.numbers in
    let flags = c.loop-word.auto.flags in
    let sub = sub_of_lem c.args.shapes.now s _ _ _ i.0 n c.closed_of.ensures in
    (omega arith, laid_more _ _ _ _ s l _ _ _ _ _ sub (omega arith) (omega arith) i.1 c.recut.ensures.numbers c.recut.ensures.flags)

pub returns-clause-laid : goal.returns-clause-laid
returns-clause-laid c =
    let e : c.loop-word.word-index ≡ length c.args.shapes.now = omega arith in
    rw e at c.loop-word.invariant.1
