-- `recutting::stretches::stretch_of`: the whole subpath, or a part of it that ends three anchors from the window or at an end.
use Rattle.std.proofs.Common.{◌≡◌, ℕ, ◌+◌, ◌-◌, ◌≤◌, ◌<◌, false, refl}
use mathlib.Core.Logic.{◌⊎◌, inl, inr, ⊎_elim}
use native.Mathlib.Omega.{arith}
use borrow.Author.Tests.{lt-ltb, le-ltb}
use Rattle.views.proofs.Laws.{order}
use Rattle.views.proofs.Bools.{not_both}
use Rattle.cut.specs.declared.subpath.Indices.{Indices}
use Rattle.cut.specs.Near.{span_of, around}
use Rattle.cut.specs.Unrolled.{rolled}
use Rattle.cut.proofs.Unrolled.{index_back}
use Rattle.recutting.proofs.stretches.stretch_of.Goals as goal

-- ---- closed: k steps back from i, round the end of n anchors
back-round : (n k i r : ℕ) → r ≡ rolled n k i → k < n → i < n → (r < n) × ((r + k ≡ i) ⊎ (r + k ≡ i + n))
back-round n k i r e l h =
    let x = index_back n k i l h in
    let y = x.1 in
    (omega arith, ⊎_elim (λ (q : k + rolled n k i ≡ i). inl (omega arith)) (λ (q : k + rolled n k i ≡ i + n). inr (omega arith)) x.0.is)

pub returns-then-sub : goal.returns-then-sub
returns-then-sub c =
    let a = c.args in
    let x = back-round _ _ _ _ c.rolled.ensures (omega arith) (omega arith) in
    record {
      inside = x.0;
      few = omega arith;
      short = omega arith;
      middle = omega arith;
      is = inr (record {
        straight = refl;
        within = λ o. absurd (not_both a.sub.closed o c.if-sub.true);
        middle = x.1;
        mid_in = omega arith;
        low = inl (omega arith);
        high = inl (omega arith);
      });
    }

-- ---- open: from i up to k steps on each side, or to an end of the n anchors
record Row (k n i : ℕ) (there : Indices) : Type 0 where
  pub from : there.from ≡ i - k
  pub past : i < there.to
  pub inside : there.to ≤ n
  pub to : (there.to ≡ i + k + 1) ⊎ ((there.to ≡ n) × (there.to ≤ i + k))

row : (k n i : ℕ) → i < n → (there : Indices) → there ≡ span_of k n false i → Row k n i there
unfolding span_of around
row k n i l there e =
    rw e
    (⊎_elim
    (λ (h : n ≤ i + k). rw (le-ltb (i + k) n h) (record { from = refl; past = l; inside = omega arith; to = inr (refl, h) }))
    (λ (h : i + k < n). rw (lt-ltb (i + k) n h) (record { from = refl; past = omega arith; inside = omega arith; to = inl refl }))
    (order n (i + k)))

pub overflow_sub-result : goal.overflow_sub-result
overflow_sub-result c =
    let a = c.args in
    let r = row (a.w.reach + 3) a.sub.n a.w.at c.requires.0 c.span-from.result c.span-from.ensures in
    omega (arith, r.from, r.past)

pub overflow_sub-result-2 : goal.overflow_sub-result-2
overflow_sub-result-2 c =
    let a = c.args in
    let r = row (a.w.reach + 3) a.sub.n a.w.at c.requires.0 c.span-from.result c.span-from.ensures in
    omega (arith, r.from)

pub returns : goal.returns
returns c =
    let a = c.args in
    let o : a.sub.closed ≡ false = c.if-sub.false in
    let r = row (a.w.reach + 3) a.sub.n a.w.at c.requires.0 c.span-from.result c.span-from.ensures in
    let f = r.from in
    let p = r.past in
    let n = r.inside in
    let short : c.span-from.result.to ≤ a.w.at + (a.w.reach + 3) + 1 = ⊎_elim (λ h. omega arith) (λ h. let z = h.1 in omega arith) r.to in
    record {
      inside = omega arith;
      few = omega arith;
      short = omega arith;
      middle = omega arith;
      is = inr (record {
        straight = refl;
        within = λ z. omega arith;
        middle = inl (omega arith);
        mid_in = omega arith;
        low = ⊎_elim (λ (h : a.w.reach + 3 ≤ a.w.at). inl (omega arith)) (λ (h : a.w.at < a.w.reach + 3). inr (o, omega arith)) (order (a.w.reach + 3) a.w.at);
        high = ⊎_elim (λ h. inl (omega arith)) (λ h. let z = h.0 in inr (o, omega arith)) r.to;
      });
    }
