-- Document 01 on `hit_anchor`, as a theorem on its answer: an accepted call answers nothing exactly when no anchor is within tol (equal counts), else the nearest, the first on ties.
-- Assumes nothing.
use mathlib.Core.Path.{◌≡◌, refl, sym, ◌∙◌}
use mathlib.Core.Logic.{◌↔◌}
use mathlib.Core.Bool.{false}
use mathlib.Core.List.{List}
use Prim.Native.Nat.{ℕ, ◌+◌, ◌<◌}
use native.Mathlib.Omega.{arith}
use lib.ListN.{length}
use lib.Ieee.{Float, le}
use Rattle.geom.specs.declared.point.P.{P}
use Rattle.std.proofs.Common.{Result, Ok, Option, Some, None}
use Rattle.std.specs.Option.{option_map}
use Rattle.refusal.specs.declared.Refusal.{Refusal}
use Rattle.refusal.specs.Order.{accepted}
use Rattle.refusal.proofs.Verdicts.{answers_ok}
use Rattle.path.specs.declared.shape.AnchorRef.{AnchorRef}
use Rattle.path.specs.Shape.{count_of, word_at, total, start}
use Rattle.hit.specs.Located.{located}
use Rattle.hit.specs.Calls.{hit_verdict, anchor_distance, nearest_anchor, hit_anchor_answer}
use Rattle.real.proofs.Orders.{le-number}
use Rattle.hit.proofs.Subpaths.{located_in}
use Rattle.hit.proofs.Theorems.{NearestWithin, nothing_is, nearest-is}

module _ (shapes : List ℕ) (anchors : List Float) (q : P) (tol : Float) (passed : hit_verdict shapes anchors q tol ≡ accepted) where
  -- what is answered by what was found
  answered : hit_anchor_answer shapes anchors q tol ≡ Ok (option_map (located shapes) (nearest_anchor anchors q tol (total shapes)))
  unfolding hit_anchor_answer
  answered = sym (answers_ok _ passed)

  apart : (r : AnchorRef) → ◌≡◌ {A = Result (Option AnchorRef) Refusal} (Ok (Some r)) (Ok None) → ⊥
  apart r e = let z : ◌≡◌ {A = ℕ} 0 1 = cc in omega arith

  same_ref : (r o : AnchorRef) → ◌≡◌ {A = Result (Option AnchorRef) Refusal} (Ok (Some r)) (Ok (Some o)) → r ≡ o
  same_ref r o e = cc

  -- no anchor is within tol
  pub nothing_exactly : (hit_anchor_answer shapes anchors q tol ≡ Ok None) ↔ ((k : ℕ) → k < total shapes → le (anchor_distance anchors q k) tol ≡ false)
  unfolding nearest_anchor
  nothing_exactly = (λ e. is.0 (to (nearest_anchor anchors q tol (total shapes)) refl (sym answered ∙ e)), λ h. answered ∙ rw (is.1 h))
    where
      is : (nearest_anchor anchors q tol (total shapes) ≡ None) ↔ ((k : ℕ) → k < total shapes → le (anchor_distance anchors q k) tol ≡ false)
      is = nothing_is _ _ (λ i w. le-number _ tol w) (total shapes)

      to : (f : Option ℕ) → nearest_anchor anchors q tol (total shapes) ≡ f → ◌≡◌ {A = Result (Option AnchorRef) Refusal} (Ok (option_map (located shapes) f)) (Ok None) → nearest_anchor anchors q tol (total shapes) ≡ None
      to None e h = e
      to (Some k) e h = absurd (apart _ h)

  -- the nearest of those within tol, the first on ties
  pub nearest_first : (r : AnchorRef) → hit_anchor_answer shapes anchors q tol ≡ Ok (Some r)
      → (r.subpath < length shapes) × (r.anchor < count_of (word_at shapes r.subpath)) × NearestWithin (λ k. le (anchor_distance anchors q k) tol) (anchor_distance anchors q) (total shapes) (start shapes r.subpath + r.anchor)
  unfolding nearest_anchor
  nearest_first r h = go (nearest_anchor anchors q tol (total shapes)) refl (sym answered ∙ h)
    where
      go : (f : Option ℕ) → nearest_anchor anchors q tol (total shapes) ≡ f → ◌≡◌ {A = Result (Option AnchorRef) Refusal} (Ok (option_map (located shapes) f)) (Ok (Some r))
          → (r.subpath < length shapes) × (r.anchor < count_of (word_at shapes r.subpath)) × NearestWithin (λ k. le (anchor_distance anchors q k) tol) (anchor_distance anchors q) (total shapes) (start shapes r.subpath + r.anchor)
      go None e g = absurd (apart r (sym g))
      go (Some k) e g =
          let n = nearest-is _ _ (λ i w. le-number _ tol w) (total shapes) k e in
          let p = located_in shapes k r n.place (sym (same_ref _ _ g)) in
          (p.subpath, p.index, rw (sym p.place) at n)
