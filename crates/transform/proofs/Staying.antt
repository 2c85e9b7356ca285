-- What the tests of a reach say: the anchors are in limit, what the map makes of them is too, and so refusals 7, 5 and 9 do not come. Assumes nothing.
use mathlib.Core.Path.{◌≡◌, sym, ap, ◌∙◌}
use mathlib.Core.Bool.{true, false, true≢false}
use mathlib.Core.List.{List}
use Prim.Native.Nat.{ℕ, zero, suc, ◌+◌, ◌*◌, ◌/◌, ◌%◌, ◌≤◌, ◌<◌}
use native.Mathlib.Omega.{arith}
use lib.IntN.{ℤ}
use lib.ListN.{length}
use lib.Ieee.{Float, nan, inf, fin, binary64, neg, le}
use Rattle.std.proofs.Common.{Ok}
use Rattle.views.specs.View.{entry, tabulate}
use Rattle.views.specs.Search.{all}
use Rattle.views.proofs.Bools.{both}
use Rattle.views.proofs.Laws.{length-tabulate, at_tabulate}
use Rattle.views.proofs.Searches.{all_true, all_says}
use Rattle.real.specs.Operators.{◌⊕◌, ◌⊗◌}
use Rattle.real.specs.StandIns.{abs}
use Rattle.real.specs.Limit.{in_limit}
use Rattle.real.proofs.Magnitudes.{Under, under, mul_under, add_under, finite_sum, finite_product, limit_finite, limit_under, abs_under}
use Rattle.real.proofs.Orders.{at_most}
use Rattle.refusal.specs.Order.{passes}
use Rattle.path.specs.declared.anchor.Anchor.{Anchor}
use Rattle.path.specs.Shape.{total}
use Rattle.path.specs.Flat.{anchor_at, numbers, anchor_numbers, nth}
use Rattle.path.specs.Limit.{within_limit, anchor_good}
use Rattle.path.proofs.Shapes.{Fits}
use Rattle.path.proofs.Limits.{anchors_in}
use Rattle.path.proofs.Places.{anchor-number}
use Rattle.call.specs.Tests.{opened_path, outline_in, outline_limit}
use Rattle.call.proofs.Openings.{places_pass, path_good}
use Rattle.transform.specs.Mapped.{mapped, mapped_at, mapped_path}

-- the two tests of a bound whose sign is clear
signs : (n : ℕ) (d : ℤ) → fin true n d ≡ fin false n d → true ≡ false
signs n d e = cc

within_under : (b x : Float) → b ≡ abs b → in_limit b ≡ true → within_limit b x ≡ true → Under x b
unfolding within_limit in_limit abs neg le
within_under nan x c l h = absurd (true≢false (sym l))
within_under (inf s) x c l h = absurd (true≢false (sym l))
within_under (fin true n d) x c l h = absurd (true≢false (signs n d c))
within_under (fin false n d) nan c l h = absurd (true≢false (sym h))
within_under (fin false n d) (inf true) c l h = absurd (true≢false (sym h))
within_under (fin false n d) (inf false) c l h = absurd (true≢false (sym h))
within_under (fin false n d) (fin false m e) c l h = under false m e n d (at_most false false _ _ (both (le (fin true n d) (fin false m e)) _ h).1)
within_under (fin false n d) (fin true m e) c l h = under true m e n d (at_most true true _ _ (both (le (fin true n d) (fin true m e)) _ h).0)

-- a row of the map: what `keeps` tests bounds what it makes
abbrev Keeps : Float → Float → Float → Float → Type 0
Keeps r a c e = in_limit (abs a ⊗ r ⊕ abs c ⊗ r ⊕ abs e) ≡ true

row_in : (r a c e x y : Float) → Keeps r a c e → Under x r → Under y r → in_limit (a ⊗ x ⊕ c ⊗ y ⊕ e) ≡ true
row_in r a c e x y h X Y =
    let t = limit_finite (abs a ⊗ r ⊕ abs c ⊗ r ⊕ abs e) h in
    let s = finite_sum binary64 (abs a ⊗ r ⊕ abs c ⊗ r) (abs e) t in
    let p = finite_sum binary64 (abs a ⊗ r) (abs c ⊗ r) s.0 in
    let A = mul_under binary64 (abs_under a (finite_product binary64 (abs a) r p.0)) X p.0 in
    let C = mul_under binary64 (abs_under c (finite_product binary64 (abs c) r p.1)) Y p.1 in
    limit_under (add_under binary64 (add_under binary64 A C s.0) (abs_under e s.1) t) h

module _ (m : List Float) (r : Float) (X : Keeps r (entry m 0) (entry m 2) (entry m 4)) (Y : Keeps r (entry m 1) (entry m 3) (entry m 5)) where
  mapped_in : (a : Anchor) → Under a.p.x r → Under a.p.y r → Under a.h_in.x r → Under a.h_in.y r → Under a.h_out.x r → Under a.h_out.y r
      → (i : ℕ) → i < 6 → in_limit (entry (numbers (mapped m a)) i) ≡ true
  unfolding numbers mapped
  mapped_in a px py ix iy ox oy zero h = row_in r _ _ _ _ _ X px py
  mapped_in a px py ix iy ox oy (suc zero) h = row_in r _ _ _ _ _ Y px py
  mapped_in a px py ix iy ox oy (suc (suc zero)) h = row_in r _ _ _ _ _ X ix iy
  mapped_in a px py ix iy ox oy (suc (suc (suc zero))) h = row_in r _ _ _ _ _ Y ix iy
  mapped_in a px py ix iy ox oy (suc (suc (suc (suc zero)))) h = row_in r _ _ _ _ _ X ox oy
  mapped_in a px py ix iy ox oy (suc (suc (suc (suc (suc zero))))) h = row_in r _ _ _ _ _ Y ox oy
  mapped_in a px py ix iy ox oy (suc (suc (suc (suc (suc (suc i)))))) h = absurd (omega arith)

  module _ (anchors : List Float) (n : ℕ) (clear : r ≡ abs r) (l : in_limit r ≡ true) (w : all (λ i. within_limit r (entry anchors i)) (n * 6) ≡ true) where
    number_under : (i : ℕ) → i < n * 6 → Under (entry anchors i) r
    number_under i h = within_under r (entry anchors i) clear l (all_says _ (n * 6) w i h)

    pub given_in : all (λ i. in_limit (entry anchors i)) (n * 6) ≡ true
    given_in = all_true _ (n * 6) (λ i h. limit_under (number_under i h) l)

    anchor_in_lem : (k : ℕ) → k < n → (i : ℕ) → i < 6 → in_limit (entry (numbers (mapped_at m anchors k)) i) ≡ true
    unfolding mapped_at
    anchor_in_lem k h =
        mapped_in (anchor_at anchors k) (number_under (k * 6) (omega arith)) (number_under (k * 6 + 1) (omega arith)) (number_under (k * 6 + 2) (omega arith))
        (number_under (k * 6 + 3) (omega arith)) (number_under (k * 6 + 4) (omega arith)) (number_under (k * 6 + 5) (omega arith))

    pub made_in : all (λ i. in_limit (anchor_numbers (mapped_at m anchors) i)) (n * 6) ≡ true
    unfolding anchor_numbers
    made_in = all_true _ (n * 6) (λ i h. anchor_in_lem (i / 6) (omega arith) (i % 6) (omega arith))

-- ---- the tests of a call
module _ (shapes : List ℕ) (anchors m : List Float) (n : ℕ) (f : Fits shapes 512 n) where
  pub opens : n * 6 ≤ length anchors → all (λ i. in_limit (entry anchors i)) (n * 6) ≡ true → opened_path 512 shapes anchors ≡ Ok (total shapes)
  opens h g =
      let e = f.count in
      sym (path_good 512 shapes anchors n f h (λ k l. anchors_in anchors n g k (omega arith))) ∙ ap Ok e

  pub result_passes : all (λ i. in_limit (anchor_numbers (mapped_at m anchors) i)) (n * 6) ≡ true → outline_limit (mapped_path m shapes anchors) ≡ passes
  unfolding outline_limit mapped_path outline_in anchor_good nth
  result_passes g = places_pass (outline_in (tabulate (total shapes) (mapped_at m anchors))) _ passes good
    where
      good : (k : ℕ) → k < length (tabulate (total shapes) (mapped_at m anchors)) → outline_in (tabulate (total shapes) (mapped_at m anchors)) k ≡ true
      good k l =
          let c = f.count in
          let t = length-tabulate (total shapes) (mapped_at m anchors) in
          let b : k < total shapes = omega arith in
          all_true _ 6 (λ i h.
          ap (λ a. in_limit (entry (numbers a) i)) (at_tabulate _ (total shapes) (mapped_at m anchors) k b)
          ∙ ap in_limit (sym (anchor-number (mapped_at m anchors) k i h))
          ∙ all_says _ (n * 6) g (k * 6 + i) (omega arith))
