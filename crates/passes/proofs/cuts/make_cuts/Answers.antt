-- The indices before the span are not near, and each that is near gets its cut.
use Rattle.std.proofs.Common.{None, ◌+◌, ◌<◌, ◌≤◌}
use mathlib.Core.Path.{sym, ◌∙◌}
use native.Mathlib.Omega.{arith}
use lib.Seq.{get_or-set_same, get_or-set_other}
use borrow.Author.Count.{below_more}
use Rattle.views.proofs.Bools.{not_both}
use Rattle.cut.specs.Subpath.{view_of}
use Rattle.cut.proofs.Steps.{near-span, before-span, span_in}
use Rattle.passes.proofs.FoundCorners.{held_beside}
use Rattle.passes.proofs.cuts.make_cuts.Goals as goal

pub loop-i-init : goal.loop-i-init
loop-i-init c =
    let a = c.args in
    let e = c.span-there.ensures in
    let q = span_in (a.w.reach + 1) a.sub.n a.sub.closed a.w.at c.requires.fits.1.index in (
      rw e q.1,
      λ j l f. let first : c.span-there.result.from ≤ a.sub.n = rw e q.0 in let h : j < a.sub.n = omega arith in
          absurd (not_both _ (before-span (a.w.reach + 1) a.sub.n a.sub.closed a.w.at j h (rw (← e) l)) f),
    )

pub near-requires : goal.near-requires
near-requires c =
    let w = c.requires.fits.1 in
    let few = w.few in
    let index = w.index in
    let small = c.requires.fits.0.small in
    let end = c.loop-i.invariant.0 in
    (omega arith, omega arith, omega arith)

pub loop-i-preserved-then-not-near : goal.loop-i-preserved-then-not-near
loop-i-preserved-then-not-near c =
    let i = c.loop-i.invariant in
    (i.0, below_more _ _ i.1 (λ f. absurd (not_both _ (sym c.near.ensures ∙ c.if-not-near.true) f)))

pub cut_at-requires-clause-rows : goal.cut_at-requires-clause-rows
unfolding view_of
cut_at-requires-clause-rows c =
    let a = c.args in
    let end = c.loop-i.invariant.0 in
    held_beside _ a.w.reach a.w.at a.rows.now c.requires.fits.1.index c.loop-i.i (omega arith) (sym c.near.ensures ∙ c.if-not-near.false) c.requires.holds_rows

pub loop-i-preserved : goal.loop-i-preserved
loop-i-preserved c =
    let l = c.loop-i in
    let i = l.invariant in (
      i.0,
      below_more _ _
          (λ j h k. get_or-set_other l.cuts l.i j _ None (λ s. omega arith) ∙ i.1 j h k)
          (λ k. get_or-set_same l.cuts l.i _ None (omega arith) ∙ c.cut_at.ensures),
    )

pub returns-clause-cuts : goal.returns-clause-cuts
unfolding view_of
returns-clause-cuts c =
    let a = c.args in
    record {
      made = λ j h f.
          c.loop-i.invariant.1 j
          (let q : j < c.span-there.result.to = rw c.span-there.ensures (near-span (a.w.reach + 1) a.sub.n a.sub.closed a.w.at j h f).1 in omega arith) f;
    }
