-- `removal::marking::marks` meets its contract: one pair more at each turn.
use Rattle.std.proofs.Common.{◌≡◌, ◌+◌, ◌*◌, ◌<◌, arith, length, get_or, refl}
use mathlib.Core.Path.{sym, ap, ◌∙◌}
use lib.ListN.{length-set}
use borrow.Author.Count.{below_none, below_more}
use Rattle.std.proofs.lemmas.List.{length_push, length-drop}
use Rattle.std.specs.Slice.Iter.{chunks_exact_rest, chunks_exact_size}
use Rattle.views.proofs.Laws.{at_overwrite}
use Rattle.views.proofs.Searches.{all_true, all_false}
use Rattle.path.specs.Shape.{count_of, word_at, start}
use Rattle.path.proofs.Shapes.{has_says, total_in}
use Rattle.removal.specs.Deleted.{pairs, points_in}
use Rattle.removal.proofs.References.{pair_next, no_marks, marked-none, marked_more}
use Rattle.removal.proofs.marking.marks.Goals as goal

pub loop-pair-init : goal.loop-pair-init
loop-pair-init c =
    let same = c.into_iter-pair-iterator.ensures.into_iter_gives in
    let made = c.chunks_exact-pair-items.ensures in
    (ap chunks_exact_size same ∙ made.size, ap chunks_exact_rest same ∙ made.rest, omega arith, refl, below_none _, marked-none c.args.shapes.now c.args.which.now _ (no_marks 512))

pub returns-then-not-has_anchor : goal.returns-then-not-has_anchor
unfolding points_in
returns-then-not-has_anchor c =
    let l = c.loop-pair in
    let m = c.in-Some.ensures.steps in
    let p = pair_next c.args.which.now (length l.yielded) c.in-Some.pair.now _ l.invariant.2 (sym l.invariant.1 ∙ m.1.0) (m.1.1 ∙ l.invariant.0) in
    let none = sym c.has_anchor.ensures ∙ c.if-not-has_anchor.true in
    all_false _ _ (length l.yielded) (omega (arith, p.1)) (rw (p.2, p.3) at none)

pub bounds-starts-s : goal.bounds-starts-s
bounds-starts-s c =
    let h = has_says c.args.shapes.now _ _ (sym c.has_anchor.ensures ∙ c.if-not-has_anchor.false) in
    omega (arith, h.0, c.requires.0)

-- the pair at hand points to an anchor, whose place is one of the path's
place : (c : goal.Else-not-has_anchor) → let s = get_or c.in-Some.pair.now 0 0 in let k = get_or c.in-Some.pair.now 1 0 in let shapes = c.args.shapes.now in
    (s < length shapes) × (k < count_of (word_at shapes s)) × (get_or c.fill_starts.new.starts s 0 + k ≡ start shapes s + k) × (start shapes s + k < length c.loop-pair.gone)
place c =
    let s = get_or c.in-Some.pair.now 0 0 in
    let k = get_or c.in-Some.pair.now 1 0 in
    let shapes = c.args.shapes.now in
    let h = has_says shapes s k (sym c.has_anchor.ensures ∙ c.if-not-has_anchor.false) in
    let few : s < 32 = omega (arith, h.0, c.requires.0) in (
      h.0,
      h.1,
      ap (λ z. get_or z s 0 + k) c.fill_starts.ensures ∙ ap (λ z. z + k) (at_overwrite 0 _ _ _ s h.0 few),
      omega (arith, h.1, total_in shapes s h.0, c.requires.1, c.loop-pair.invariant.3),
    )

pub overflow_add-gone : goal.overflow_add-gone
overflow_add-gone c =
    let p = place c in
    record { fits = omega (arith, p.1, p.2, total_in c.args.shapes.now _ p.0, c.requires.1) }

pub bounds-gone-starts : goal.bounds-gone-starts
bounds-gone-starts c = let p = place c in omega (arith, p.2, p.3)

pub loop-pair-preserved : goal.loop-pair-preserved
unfolding points_in
loop-pair-preserved c =
    let a = c.args in
    let l = c.loop-pair in
    let m = c.in-Some.ensures.steps in
    let n = length_push l.yielded c.in-Some.pair in
    let p = pair_next a.which.now (length l.yielded) c.in-Some.pair.now _ l.invariant.2 (sym l.invariant.1 ∙ m.1.0) (m.1.1 ∙ l.invariant.0) in
    let h = place c in
    let one = sym c.has_anchor.ensures ∙ c.if-not-has_anchor.false in
    rw n (
      m.0 ∙ l.invariant.0,
      p.0,
      p.1,
      simp length-set l.invariant.3,
      below_more _ _ l.invariant.4 (rw (p.2, p.3) at one),
      marked_more a.shapes.now a.which.now l.gone (length l.yielded) _ _ (sym p.2) (sym p.3) h.0 h.1 _ h.2 (omega (arith, h.2, h.3)) l.invariant.5,
    )

pub returns : goal.returns
returns c =
    let l = c.loop-pair in
    let which = c.args.which.now in
    let m = c.in-None.ensures.steps in
    let e : length l.yielded ≡ pairs which = omega (arith, m.1.0, l.invariant.0, l.invariant.2, ap length l.invariant.1, length-drop (length l.yielded * 2) which) in
    (l.invariant.3, all_true _ _ (λ j h. l.invariant.4 j (omega arith)), rw e at l.invariant.5)
