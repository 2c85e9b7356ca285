-- `edit::splitting::split_between` meets its contract: one law for each answer.
use Rattle.std.proofs.Common.{◌≡◌, ℕ, ◌+◌, ◌<◌, arith, List, Option}
use lib.Ieee.{Float}
use Rattle.path.specs.declared.anchor.Anchor.{Anchor}
use Rattle.edit.specs.declared.splitting.Halved.{Halved}
use mathlib.Core.Path.{◌∙◌, sym}
use lib.ListN.{length-set}
use Rattle.path.specs.Flat.{anchor_at}
use Rattle.path.specs.Shape.{word_at}
use Rattle.path.specs.Limit.{first_bad}
use Rattle.edit.specs.Split.{halves, shifted, puts_within, split_shapes}
use Rattle.edit.proofs.Splits.{ends_apart}
use Rattle.edit.proofs.Outcomes.{between-refused, between_bad, between-short, between_accepted}
use Rattle.edit.proofs.splitting.split_between.Goals as goal

pub first_out-requires : goal.first_out-requires
first_out-requires c =
    let s = ends_apart c.args.n c.args.a c.args.b c.requires.1.to c.requires.1.apart in
    let e = c.shifted.ensures in
    (omega arith, rw e s.start, rw e s.middle)

-- the first place that breaks the limit
told : (xs : List Float) (n a b : ℕ) (t : Float) (u v : Anchor) (h : Halved) (j : ℕ) (r : Option ℕ) → b < n → (a ≡ b → ⊥) → a < n
    → u ≡ anchor_at xs a → v ≡ anchor_at xs b → h ≡ halves u v t → j ≡ shifted a b → ((m : ℕ) → a + 1 < m → j < m → r ≡ first_bad (puts_within h a j) m)
    → r ≡ first_bad (puts_within (halves (anchor_at xs a) (anchor_at xs b) t) a (shifted a b)) (n + 1)
told xs n a b t u v h j r l p la eu ev eh ej f =
    let s = (ends_apart n a b l p).place in
    rw (← eu, ← ev, ← eh, ← ej) (f (n + 1) (omega arith) (omega arith))

pub returns-in-Some : goal.returns-in-Some
returns-in-Some c =
    let a = c.args in
    let q = c.requires in
    let f = told a.anchors.now a.n a.a a.b a.t _ _ _ _ _ q.1.to q.1.apart q.1.from c.anchor_at.ensures c.anchor_at-2.ensures c.halves-h.ensures c.shifted.ensures c.first_out.ensures in
    let h = between-refused a.shapes.now a.anchors.now a.n a.s a.a a.b a.t _ (between_bad a.shapes.now a.anchors.now a.n a.s a.a a.b a.t q.1.from q.3 _ (sym f ∙ c.in-Some.is)) in
    record { answer = rw c.at.ensures h.0; shapes = h.1; anchors = h.2 }

pub returns-then-anchors-n : goal.returns-then-anchors-n
returns-then-anchors-n c =
    let a = c.args in
    let q = c.requires in
    let f = told a.anchors.now a.n a.a a.b a.t _ _ _ _ _ q.1.to q.1.apart q.1.from c.anchor_at.ensures c.anchor_at-2.ensures c.halves-h.ensures c.shifted.ensures c.first_out.ensures in
    let h = between-refused a.shapes.now a.anchors.now a.n a.s a.a a.b a.t _ (between-short a.shapes.now a.anchors.now a.n a.s a.a a.b a.t q.1.from q.3 (sym f ∙ c.in_default.is) (omega (arith, c.if-anchors-n.true))) in
    record { answer = rw c.at-then-anchors-n.ensures h.0; shapes = h.1; anchors = h.2 }

pub returns : goal.returns
unfolding split_shapes
returns c =
    let a = c.args in
    let q = c.requires in
    let f = told a.anchors.now a.n a.a a.b a.t _ _ _ _ _ q.1.to q.1.apart q.1.from c.anchor_at.ensures c.anchor_at-2.ensures c.halves-h.ensures c.shifted.ensures c.first_out.ensures in
    let h = between_accepted a.shapes.now a.anchors.now a.n a.s a.a a.b a.t q.1.from q.3 (sym f ∙ c.in_default.is) q.1.apart q.1.to (omega (arith, c.if-anchors-n.false)) in
    let e = c.count_up.ensures in
    record {
      answer = rw (e, length-set a.shapes.now a.s (word_at a.shapes.now a.s + 1)) h.0;
      shapes = e ∙ h.1;
      anchors = c.put_halves.ensures ∙ rw (c.halves-h.ensures, c.anchor_at-2.ensures, c.anchor_at.ensures) h.2;
    }
