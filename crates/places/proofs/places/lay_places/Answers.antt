-- One index more: where it is near its place is put, else the lists stay as they are; those outside the span are not near.
use mathlib.Core.Path.{◌≡◌, refl, ap, ◌∙◌}
use mathlib.Core.Bool.{true, false}
use Prim.Native.Nat.{ℕ, ◌+◌, ◌-◌, ◌≤◌, ◌<◌}
use native.Mathlib.Omega.{arith}
use lib.ListN.{length, length-set}
use lib.Ieee.{nan}
use Rattle.std.proofs.Common.{is_some}
use Rattle.views.specs.View.{entry}
use Rattle.views.specs.Search.{count}
use Rattle.views.proofs.Laws.{as_tabulate}
use Rattle.views.proofs.Searches.{count_more, count_same, count_idle}
use Rattle.path.specs.Flat.{anchor_at}
use Rattle.cut.specs.Subpath.{view_of}
use Rattle.cut.specs.Near.{near, near_count}
use Rattle.cut.specs.Places.{is_cut, place_at, place_numbers}
use Rattle.cut.specs.Rows.{flag_of}
use Rattle.cut.specs.Recut.{reached, recut_numbers, recut_flags}
use Rattle.cut.proofs.Outlines.{cut_made}
use Rattle.cut.proofs.Steps.{before-span, after-span, span_in}
use Rattle.cut.proofs.Stages.{touched, numbers_at_lem, numbers-none, numbers_idle, numbers_skip, numbers-put, flags_at, flags_none, flags_idle, flags_skip, flags_put}
use Rattle.places.proofs.Ends.{cut_here}
use Rattle.places.proofs.places.lay_places.Goals as goal

pub loop-i-init : goal.loop-i-init
unfolding count
loop-i-init c =
    let p = c.requires in
    let a = c.args in
    let e = c.span-there.ensures in
    let q = span_in a.w.reach a.sub.n a.sub.closed a.w.at p.fits.1.index in
    let near_it = near a.w.reach a.sub.n a.sub.closed a.w.at in
    let from = c.span-there.result.from in
    let z : from ≤ a.sub.n = rw e q.0 in
    let zero_more : 0 + from ≡ from = omega arith in
    let b : (j : ℕ) → 0 ≤ j → j < from → near a.w.reach a.sub.n a.sub.closed a.w.at j ≡ false =
    λ j o l. let h : j < a.sub.n = omega arith in before-span a.w.reach a.sub.n a.sub.closed a.w.at j h (rw (← e) l) in record {
      inside = z;
      end_inside = rw e q.1;
      numbers_kept = refl;
      flags_kept = refl;
      counted = count_idle near_it 0 from (λ j o l. b j o (omega arith)) ∙ ap (count near_it) zero_more;
      few = omega arith;
      number = λ radius kind h. numbers_idle _ _ _ _ a.numbers.now 0 from (omega arith) b (numbers-none _ _ _ _);
      flag = λ radius kind h. flags_idle _ _ _ _ a.flags.now 0 from (omega arith) b (flags_none _ _ _ _);
    }

pub loop-i-preserved-then-not-near : goal.loop-i-preserved-then-not-near
loop-i-preserved-then-not-near c =
    let l = c.loop-i in
    let i = l.invariant in
    let a = c.args in
    let p = near a.w.reach a.sub.n a.sub.closed a.w.at in
    let e : p l.i ≡ false = rw (← c.near.ensures) c.if-not-near.true in record {
      inside = omega arith;
      end_inside = i.end_inside;
      numbers_kept = i.numbers_kept;
      flags_kept = i.flags_kept;
      counted = i.counted ∙ count_same p l.i e;
      few = omega arith;
      number = λ radius kind h. numbers_skip _ _ _ _ l.numbers l.i e (i.number radius kind h);
      flag = λ radius kind h. flags_skip _ _ _ _ l.flags l.i e (i.flag radius kind h);
    }

pub loop-i-preserved : goal.loop-i-preserved
unfolding view_of
loop-i-preserved c =
    let l = c.loop-i in
    let i = l.invariant in
    let a = c.args in
    let r = c.requires in
    let p = near a.w.reach a.sub.n a.sub.closed a.w.at in
    let e : p l.i ≡ true = rw (← c.near.ensures) c.if-not-near.false in
    let index : l.i < a.sub.n = omega arith in record {
      inside = omega arith;
      end_inside = i.end_inside;
      numbers_kept = c.put_place.auto.numbers ∙ i.numbers_kept;
      flags_kept = simp length-set i.flags_kept;
      counted = ap (λ z. z + 1) i.counted ∙ count_more p l.i e;
      few = omega arith;
      number = λ radius kind h j.
          ap (λ z. entry z j) c.put_place.ensures
          ∙ numbers-put _ _ _ _ l.numbers l.i c.place_at.result e (omega arith) (rw (c.place_at.ensures radius kind h e)) (i.number radius kind h) j;
      flag = λ radius kind h.
          let v = view_of (anchor_at a.anchors.now) radius kind 128 a.sub in
          let made = ap is_some (cut_here v a.w.reach a.w.at a.cuts.now r.fits.1.index l.i index e h) ∙ cut_made v l.i in
          flags_put _ _ _ _ l.flags l.i c.flag_of.result e (omega arith)
          (c.flag_of.ensures ∙ ap flag_of (c.is_some.ensures ∙ made))
          (i.flag radius kind h);
    }

-- no index left is near
none_left : (c : goal.After-loop-i) → let a = c.args in (j : ℕ) → c.loop-i.i ≤ j → j < a.sub.n → near a.w.reach a.sub.n a.sub.closed a.w.at j ≡ false
none_left c j o h =
    let a = c.args in
    let m : c.span-there.result.to ≤ j = omega arith in
    after-span a.w.reach a.sub.n a.sub.closed a.w.at j h (rw (← c.span-there.ensures) m)

pub returns-clause-count : goal.returns-clause-count
unfolding near_count
returns-clause-count c =
    let i = c.loop-i.i in
    let n = c.args.sub.n in
    let p = near c.args.w.reach n c.args.sub.closed c.args.w.at in
    let d : i + (n - i) ≡ n = omega arith in
    c.loop-i.invariant.counted ∙ count_idle p i (n - i) (λ j o h. none_left c j o (omega arith)) ∙ ap (count p) d

pub returns-clause-numbers : goal.returns-clause-numbers
unfolding recut_numbers reached touched numbers_at_lem view_of
returns-clause-numbers c radius kind h =
    let l = c.loop-i in
    let a = c.args in
    let v = view_of (anchor_at a.anchors.now) radius kind 128 a.sub in
    let p = near a.w.reach a.sub.n a.sub.closed a.w.at in
    as_tabulate nan l.numbers (length a.numbers.now) _ l.invariant.numbers_kept (λ j q. numbers_idle p a.sub.first (λ k. place_numbers (place_at v k)) a.numbers.now l.numbers l.i a.sub.n l.invariant.inside (none_left c) (l.invariant.number radius kind h) j)

pub returns-clause-flags : goal.returns-clause-flags
unfolding recut_flags reached touched flags_at view_of
returns-clause-flags c radius kind h =
    let l = c.loop-i in
    let a = c.args in
    let v = view_of (anchor_at a.anchors.now) radius kind 128 a.sub in
    let p = near a.w.reach a.sub.n a.sub.closed a.w.at in
    as_tabulate 0 l.flags (length a.flags.now) _ l.invariant.flags_kept (λ j q. flags_idle p a.sub.first (λ k. flag_of (is_cut v k)) a.flags.now l.flags l.i a.sub.n l.invariant.inside (none_left c) (l.invariant.flag radius kind h) j)
