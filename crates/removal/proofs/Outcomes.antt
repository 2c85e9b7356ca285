-- What `delete` comes to: one law for each of its answers. Assumes nothing.
use mathlib.Core.Path.{◌≡◌, refl, ◌∙◌}
use mathlib.Core.Bool.{Bool, true, false}
use mathlib.Core.List.{List}
use Prim.Native.Nat.{ℕ, ◌%◌}
use lib.ListN.{length}
use lib.Ieee.{Float}
use borrow.Author.Tests.{eq-eqb, ne_eqb}
use Rattle.std.proofs.Common.{Ok, Err}
use Rattle.views.specs.View.{overwrite}
use Rattle.views.specs.Search.{all}
use Rattle.refusal.specs.Reasons.{refusal_at}
use Rattle.refusal.specs.declared.Refusal.{Refusal}
use Rattle.refusal.specs.declared.Reason.TheVariants.{Reference, Lists}
use Rattle.refusal.specs.Order.{accepted, refused}
use Rattle.refusal.proofs.Verdicts.{holds_true, holds_false, in_order, by_lists, by_reference, by_none}
use Rattle.path.specs.Flat.{listed}
use Rattle.path.specs.Shape.{total, word_at}
use Rattle.call.specs.Tests.{opened_path}
use Rattle.call.proofs.Openings.{PathOpens, path_refused}
use Rattle.call.proofs.Handings.{outline-refused, outline_accepted, list_kept, list_written, anchors_kept, anchors_written}
use Rattle.removal.specs.Deleted.{whole_pairs, pairs, points_in, keeps, kept_words, kept_anchors, deleted_words, deleted_anchors, delete_verdict, delete_answer, delete_shapes_left, delete_anchors_left}
use Rattle.removal.specs.Marks.{kept_in, Marked}
use Rattle.removal.proofs.Moved.{kept_same}

pub whole : (which : List ℕ) → length which % 2 ≡ 0 → whole_pairs which ≡ true
unfolding whole_pairs
whole which e = eq-eqb (length which % 2) 0 e

module _ (shapes : List ℕ) (anchors : List Float) (which : List ℕ) where
  pub delete-refused : (why : Refusal) → delete_verdict shapes anchors which ≡ refused why
      → (Err why ≡ delete_answer shapes anchors which) × (shapes ≡ delete_shapes_left shapes anchors which) × (anchors ≡ delete_anchors_left shapes anchors which)
  unfolding delete_answer delete_shapes_left delete_anchors_left
  delete-refused why e = (outline-refused _ _ e, list_kept _ _ _ e, anchors_kept _ _ e)

  pub not-whole : (length which % 2 ≡ 0 → ⊥) → delete_verdict shapes anchors which ≡ refused (refusal_at Lists 0)
  unfolding delete_verdict whole_pairs
  not-whole ne = by_lists _ _ _ _ _ _ 0 (rw (ne_eqb (length which % 2) 0 ne) (holds_false 0 refl))

  module _ (w : whole_pairs which ≡ true) where
    pub not_opened : (why : Refusal) → opened_path 512 shapes anchors ≡ Err why → delete_verdict shapes anchors which ≡ refused why
    unfolding delete_verdict
    not_opened why e = in_order _ _ _ _ _ _ ∙ rw w (path_refused 512 shapes anchors why e true _)

    module _ (n : ℕ) (o : PathOpens 512 shapes anchors n) where
      pub unknown : all (points_in shapes which) (pairs which) ≡ false → delete_verdict shapes anchors which ≡ refused (refusal_at Reference 0)
      unfolding delete_verdict
      unknown e = by_reference _ _ _ _ _ _ (rw w o.lists_pass) (o.places_good true ∙ holds_true (total shapes) refl) 0 (holds_false 0 e)

      known : all (points_in shapes which) (pairs which) ≡ true → delete_verdict shapes anchors which ≡ accepted
      unfolding delete_verdict
      known e = by_none _ _ _ _ _ _ (rw w o.lists_pass) (o.places_good true ∙ holds_true (total shapes) refl) (holds_true 0 e) refl refl refl

      pub delete_accepted : all (points_in shapes which) (pairs which) ≡ true → (gone : List Bool) → Marked shapes which (pairs which) gone →
          let ws = kept_words shapes anchors (kept_in shapes gone) in
          let ps = kept_anchors shapes anchors (kept_in shapes gone) in
          (Ok (record { subpaths = length ws; anchors = length ps }) ≡ delete_answer shapes anchors which)
          × (overwrite (length ws) (word_at ws) shapes ≡ delete_shapes_left shapes anchors which)
          × (listed ps anchors ≡ delete_anchors_left shapes anchors which)
      unfolding delete_answer delete_shapes_left delete_anchors_left deleted_words deleted_anchors keeps
      delete_accepted e gone marked =
          let v = known e in
          let k = kept_same shapes anchors (kept_in shapes gone) (keeps which) marked in
          rw (k.0, k.1) (outline_accepted _ _ v, list_written _ _ _ v, anchors_written _ _ v)
