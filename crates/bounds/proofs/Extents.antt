-- What `bounds` answers by what its tests found. Assumes nothing.
use mathlib.Core.Path.{◌≡◌, refl, sym, ◌∙◌}
use mathlib.Core.Bool.{true, false, ◌||◌}
use mathlib.Core.List.{List}
use Prim.Native.Nat.{ℕ}
use lib.Dec.{eqb}
use lib.Ieee.{Float}
use borrow.Author.Tests.{eq-eqb, ne_eqb}
use Rattle.geom.specs.declared.bounds.Bounds.{Bounds}
use Rattle.std.proofs.Common.{Ok, Err, Some, None}
use Rattle.refusal.specs.declared.Refusal.{Refusal}
use Rattle.refusal.specs.declared.Reason.TheVariants.{Made}
use Rattle.refusal.specs.Reasons.{refusal_at}
use Rattle.refusal.specs.Order.{holds, judge, accepted, refused, answering}
use Rattle.refusal.proofs.Verdicts.{holds_true, holds_false, in_order, by_result, by_none, answers_err}
use Rattle.path.specs.Shape.{total}
use Rattle.call.specs.Tests.{opened_path}
use Rattle.call.proofs.Openings.{PathOpens, path_refused}
use Rattle.bounds.specs.Points.{box_of}
use Rattle.bounds.specs.Calls.{box_in, bounds_verdict, bounds_answer}

module _ (shapes : List ℕ) (anchors : List Float) where
  path_fails : (why : Refusal) → opened_path 1024 shapes anchors ≡ Err why → bounds_verdict shapes anchors ≡ refused why
  unfolding bounds_verdict judge
  path_fails why e = in_order _ _ _ _ _ _ ∙ path_refused 1024 shapes anchors why e true (judge (holds (eqb (total shapes) 0 || box_in (box_of shapes anchors)) 0) Made accepted)

  pub bounds-refused : (why : Refusal) → opened_path 1024 shapes anchors ≡ Err why → Err why ≡ bounds_answer shapes anchors
  unfolding bounds_answer
  bounds-refused why e = answers_err _ (path_fails why e)

  module _ (n : ℕ) (o : PathOpens 1024 shapes anchors n) where
    no_box : n ≡ 0 → bounds_verdict shapes anchors ≡ accepted
    unfolding bounds_verdict
    no_box e = by_none _ _ _ _ _ _ o.lists_pass (o.places_good true ∙ holds_true (total shapes) refl) refl refl (holds_true 0 (rw (eq-eqb (total shapes) 0 (sym o.count ∙ e)))) refl

    pub bounds-empty : n ≡ 0 → Ok None ≡ bounds_answer shapes anchors
    unfolding bounds_answer answering
    bounds-empty e = rw (no_box e, eq-eqb (total shapes) 0 (sym o.count ∙ e))

    module _ (some : (n ≡ 0 → ⊥)) (b : Bounds) (b-is : b ≡ box_of shapes anchors) where
      counted : (total shapes ≡ 0 → ⊥)
      counted e = some (o.count ∙ e)

      out : box_in b ≡ false → bounds_verdict shapes anchors ≡ refused (refusal_at Made 0)
      unfolding bounds_verdict
      out e = by_result _ _ _ _ _ _ o.lists_pass (o.places_good true ∙ holds_true (total shapes) refl) refl refl 0 (holds_false 0 (rw (ne_eqb (total shapes) 0 counted, ← b-is, e)))

      fine : box_in b ≡ true → bounds_verdict shapes anchors ≡ accepted
      unfolding bounds_verdict
      fine e = by_none _ _ _ _ _ _ o.lists_pass (o.places_good true ∙ holds_true (total shapes) refl) refl refl (holds_true 0 (rw (ne_eqb (total shapes) 0 counted, ← b-is, e))) refl

      pub bounds_out : box_in b ≡ false → Err (refusal_at Made 0) ≡ bounds_answer shapes anchors
      unfolding bounds_answer answering
      bounds_out e = rw (out e)

      pub bounds_box : box_in b ≡ true → Ok (Some b) ≡ bounds_answer shapes anchors
      unfolding bounds_answer answering
      bounds_box e = rw (fine e, ne_eqb (total shapes) 0 counted, ← b-is)
