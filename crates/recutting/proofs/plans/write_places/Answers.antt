-- `recutting::plans::write_places`: each place within reach is one of the stretch, and is put beside those before it.
use Rattle.std.proofs.Common.{◌≡◌, ◌≤◌, ◌<◌, false, get_or, ℕ, sym, ap, ◌∙◌}
use native.Mathlib.Omega.{arith}
use Rattle.views.specs.View.{entry}
use Rattle.cut.specs.Near.{near, span_of}
use Rattle.cut.specs.Places.{place_numbers}
use Rattle.cut.specs.Unrolled.{rolled}
use Rattle.cut.proofs.Steps.{before-span, after-span}
use Rattle.cut.proofs.Stages.{numbers-none, numbers_idle, numbers_skip, numbers-put, flags_none, flags_idle, flags_skip, flags_put}
use Rattle.recutting.proofs.Copies.{place_from}
use Rattle.recutting.proofs.Passing.{span-order, numbers-written, flags_written}
use Rattle.recutting.proofs.plans.write_places.Goals as goal

pub loop-i-init : goal.loop-i-init
loop-i-init c =
    let a = c.args in
    let e = c.span-there.ensures in
    let o = span-order a.sub a.w c.requires.n_bound.0.index in
    let x = o.0 in
    let y = o.1 in
    let far : (j : ℕ) → 0 ≤ j → j < (span_of a.w.reach a.sub.n a.sub.closed a.w.at).from → near a.w.reach a.sub.n a.sub.closed a.w.at j ≡ false = λ j g h. before-span a.w.reach a.sub.n a.sub.closed a.w.at j (omega arith) h in
    let u = numbers_idle _ _ (λ i. place_numbers (place_from a.made.now (rolled a.sub.n a.from i))) a.numbers.now a.numbers.now 0 (span_of a.w.reach a.sub.n a.sub.closed a.w.at).from (omega arith) far (numbers-none _ _ _ _) in
    let v = flags_idle _ _ (λ i. get_or a.marks.now (rolled a.sub.n a.from i) 0) a.flags.now a.flags.now 0 (span_of a.w.reach a.sub.n a.sub.closed a.w.at).from (omega arith) far (flags_none _ _ _ _) in
    record { under = rw e x; inside = rw e y; to = ap (λ z. z.to) e; number = rw e u; flag = rw e v }

pub loop-i-preserved-then-not-near : goal.loop-i-preserved-then-not-near
loop-i-preserved-then-not-near c =
    let l = c.loop-i in
    let i = l.invariant in
    let e = sym c.near.ensures ∙ c.if-not-near.true in
    record { under = omega arith; inside = i.inside; to = i.to; number = numbers_skip _ _ _ _ l.numbers l.i e i.number; flag = flags_skip _ _ _ _ l.flags l.i e i.flag }

pub put_place-requires : goal.put_place-requires
put_place-requires c =
    let n = c.requires.n_bound in
    let q = c.requires.n_in_bounds in
    let i = c.loop-i.invariant in
    let m = c.requires.by_index c.loop-i.i (omega (arith, i.inside)) (sym c.near.ensures ∙ c.if-not-near.false) in
    let r = c.rolled-j.ensures in
    (omega arith, omega (arith, i.inside), omega arith, omega (arith, i.inside, q.0))

pub bounds-marks-j : goal.bounds-marks-j
bounds-marks-j c =
    let i = c.loop-i.invariant in
    let m = c.requires.by_index c.loop-i.i (omega (arith, i.inside)) (sym c.near.ensures ∙ c.if-not-near.false) in
    let r = c.rolled-j.ensures in
    omega arith

pub loop-i-preserved : goal.loop-i-preserved
loop-i-preserved c =
    let g = c.put_place in
    let l = c.loop-i in
    let i = l.invariant in
    let a = c.args in
    let q = c.requires.n_in_bounds in
    let e = sym c.near.ensures ∙ c.if-not-near.false in
    let r = c.rolled-j.ensures in
    record {
      under = omega arith;
      inside = i.inside;
      to = i.to;
      number = λ j.
          ap (λ z. entry z j) g.ensures
          ∙ numbers-put _ _ (λ i. place_numbers (place_from a.made.now (rolled a.sub.n a.from i))) _ l.numbers l.i (place_from a.made.now c.rolled-j.result) e (omega (arith, i.inside, q.0)) (ap (λ z. place_numbers (place_from a.made.now z)) r) i.number j;
      flag = flags_put _ _ (λ i. get_or a.marks.now (rolled a.sub.n a.from i) 0) _ l.flags l.i (get_or a.marks.now c.rolled-j.result 0) e (omega (arith, i.inside, q.1)) (ap (λ z. get_or a.marks.now z 0) r) i.flag;
    }

pub returns : goal.returns
returns c =
    let l = c.loop-i in
    let i = l.invariant in
    let a = c.args in
    let to = (span_of a.w.reach a.sub.n a.sub.closed a.w.at).to in
    let e : l.i ≡ to = omega (arith, i.to) in
    let t : to ≤ a.sub.n = omega (arith, i.inside, i.to) in
    let far : (j : ℕ) → to ≤ j → j < a.sub.n → near a.w.reach a.sub.n a.sub.closed a.w.at j ≡ false = λ j g h. after-span a.w.reach a.sub.n a.sub.closed a.w.at j h g in
    record {
      numbers = λ v h. numbers-written a.sub a.w v a.from h.0 h.1 a.made.now a.numbers.now l.numbers h.2 l.auto.numbers (numbers_idle _ _ _ a.numbers.now l.numbers to a.sub.n t far (rw e at i.number));
      flags = λ v h. flags_written a.sub a.w v a.from h.0 h.1 a.marks.now a.flags.now l.flags h.2 l.auto.flags (flags_idle _ _ _ a.flags.now l.flags to a.sub.n t far (rw e at i.flag));
    }
