-- One root more; the loop writes no number before it is read.
use Rattle.std.proofs.Common.{ℕ, ◌+◌, ◌≡◌}
use mathlib.Core.Path.{refl, ap, ap₂, sym, ◌∙◌}
use native.Mathlib.Nat.{le_refl}
use native.Mathlib.Numerals.{add-one}
use native.Mathlib.Omega.{arith}
use lib.ListN.{length-set}
use lib.Seq.{get_or-set_other}
use lib.Ieee.{Float, nan}
use borrow.Author.Count.{below_none}
use Rattle.views.proofs.Laws.{fill_more, keep_more, as_tabulate}
use Rattle.root.specs.Root.{root_of}
use Rattle.real.specs.Operators.{◌⊕◌}
use Rattle.real.specs.Sums.{running}
use Rattle.side.proofs.table.add_roots.Goals as goal

one_more : (f : ℕ → Float) (k : ℕ) → running f (k + 1) ≡ running f k ⊕ f k
unfolding running
one_more f k = ap (running f) (add-one k)

pub loop-k-init : goal.loop-k-init
unfolding running
loop-k-init c = record {
  sum = refl;
  before = fill_more nan c.args.table.now 0 _ (running _) (omega arith) (below_none _) refl;
  after = λ i l. get_or-set_other c.args.table.now 0 i _ nan (λ e. omega arith);
}

pub loop-k-preserved : goal.loop-k-preserved
loop-k-preserved c =
    let l = c.loop-k in
    let i = l.invariant in
    let next = ap₂ ◌⊕◌ i.sum (c.root-sum.ensures ∙ ap root_of (i.after (l.k + 1) (le_refl (l.k + 1)))) ∙ sym (one_more _ l.k) in
    record {
      sum = next;
      before = fill_more nan l.table (l.k + 1) _ (running _) (omega (arith, length-set {A = Float})) i.before next;
      after = keep_more nan l.table (l.k + 1) _ c.args.table.now i.after;
    }

pub returns : goal.returns
returns c =
    let i = c.loop-k.invariant in
    as_tabulate nan _ 129 _ (omega (arith, length-set {A = Float})) (λ j h. i.before j (omega arith))
