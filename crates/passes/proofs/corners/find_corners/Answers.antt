-- The indices before the span are not near, and each that is near gets its row.
use Rattle.std.proofs.Common.{ℕ, None, ◌+◌, ◌<◌, ◌≤◌}
use mathlib.Core.Path.{sym, subst, ◌∙◌}
use native.Mathlib.Omega.{arith}
use lib.Seq.{get_or-set_same, get_or-set_other}
use borrow.Author.Count.{below_more}
use Rattle.views.proofs.Bools.{not_both}
use Rattle.views.specs.View.{entry}
use Rattle.path.specs.Flat.{anchor_at}
use Rattle.corner.specs.declared.kind.CornerKind.{CornerKind}
use Rattle.cut.specs.View.{View}
use Rattle.cut.specs.Subpath.{view_of}
use Rattle.cut.specs.Rows.{RowHeld}
use Rattle.cut.proofs.Steps.{near-span, before-span, span_in}
use Rattle.passes.proofs.corners.find_corners.Goals as goal

pub loop-i-init : goal.loop-i-init
loop-i-init c =
    let a = c.args in
    let e = c.span-there.ensures in
    let inside = c.requires.1.index in
    let q = span_in (a.w.reach + 2) a.sub.n a.sub.closed a.w.at inside in (
      rw e q.1,
      λ kind j l f. let first : c.span-there.result.from ≤ a.sub.n = rw e q.0 in let h : j < a.sub.n = omega arith in
          absurd (not_both _ (before-span (a.w.reach + 2) a.sub.n a.sub.closed a.w.at j h (rw (← e) l)) f),
    )

pub near-requires : goal.near-requires
near-requires c =
    let w = c.requires.1 in
    let few = w.few in
    let index = w.index in
    let small = c.requires.0.small in
    let end = c.loop-i.invariant.0 in
    (omega arith, omega arith, omega arith)

pub loop-i-preserved-then-not-near : goal.loop-i-preserved-then-not-near
loop-i-preserved-then-not-near c =
    let i = c.loop-i.invariant in
    (i.0, λ kind. below_more _ _ (i.1 kind) (λ f. absurd (not_both _ (sym c.near.ensures ∙ c.if-not-near.true) f)))

pub loop-i-preserved : goal.loop-i-preserved
unfolding view_of
loop-i-preserved c =
    let i = c.loop-i.invariant in
    let l = c.loop-i in
    let v : (ℕ → CornerKind) → View = λ kind. view_of (anchor_at c.args.anchors.now) (entry c.args.radii.now) kind 128 c.args.sub in (
      i.0,
      λ kind. below_more _ _
          (λ j h k. subst (RowHeld (v kind) j) (sym (get_or-set_other l.rows l.i j _ None (λ s. omega arith))) (i.1 kind j h k))
          (λ k. subst (RowHeld (v kind) l.i) (sym (get_or-set_same l.rows l.i _ None (omega arith))) (c.row_at.ensures kind)),
    )

pub returns-clause-rows : goal.returns-clause-rows
unfolding view_of
returns-clause-rows c kind =
    let a = c.args in
    record {
      row = λ j h f.
          c.loop-i.invariant.1 kind j
          (let q : j < c.span-there.result.to = rw c.span-there.ensures (near-span (a.w.reach + 2) a.sub.n a.sub.closed a.w.at j h f).1 in omega arith) f;
    }
