-- What an edit in place comes to: one law for each way to end. Assumes nothing.
use mathlib.Core.Path.{◌≡◌, refl, ◌∙◌}
use mathlib.Core.Bool.{Bool, true, false}
use mathlib.Core.List.{List}
use Prim.Native.Nat.{ℕ}
use lib.Ieee.{Float}
use Rattle.std.proofs.Common.{Ok, Err}
use Rattle.call.specs.Answers.{outline_answer}
use Rattle.refusal.specs.Reasons.{refusal_at}
use Rattle.refusal.specs.declared.Refusal.{Refusal}
use Rattle.refusal.specs.declared.Reason.TheVariants.{Arguments, Reference}
use Rattle.refusal.specs.Order.{judge, Verdict, accepted, refused, answering}
use Rattle.refusal.proofs.Verdicts.{holds_true, holds_false, in_order, by_arguments, by_reference}
use Rattle.path.specs.declared.anchor.Anchor.{Anchor}
use Rattle.path.specs.Shape.{total}
use Rattle.call.specs.Tests.{opened_path}
use Rattle.call.proofs.Openings.{PathOpens, path_refused}
use Rattle.bend.specs.Edits.{edit_verdict, last_verdict}

module _ (shapes : List ℕ) (anchors : List Float) (loose known : Bool) (after : List Anchor) where
  pub path_fails : (why : Refusal) → opened_path 512 shapes anchors ≡ Err why → edit_verdict shapes anchors loose known after ≡ refused why
  unfolding edit_verdict
  path_fails why e = in_order _ _ _ _ _ _ ∙ path_refused 512 shapes anchors why e loose _

  module _ (n : ℕ) (o : PathOpens 512 shapes anchors n) where
    pub loose_fails : loose ≡ false → edit_verdict shapes anchors loose known after ≡ refused (refusal_at Arguments n)
    unfolding edit_verdict
    loose_fails e = rw o.count (by_arguments _ _ _ _ _ _ o.lists_pass (total shapes) (o.places_good loose ∙ holds_false (total shapes) e))

    module _ (l : loose ≡ true) where
      pub unknown : known ≡ false → edit_verdict shapes anchors loose known after ≡ refused (refusal_at Reference 0)
      unfolding edit_verdict
      unknown e = by_reference _ _ _ _ _ _ o.lists_pass (o.places_good loose ∙ holds_true (total shapes) l) 0 (holds_false 0 e)

      pub edit-rest : known ≡ true → edit_verdict shapes anchors loose known after ≡ last_verdict after
      unfolding edit_verdict last_verdict judge
      edit-rest e = in_order _ _ _ _ _ _ ∙ rw (o.lists_pass, o.places_good loose, holds_true (total shapes) l, holds_true 0 e)

-- ---- a call answers by the verdict that it is handed, whatever is answered beside it
pub as_refused : {A : Type 0} (x : A) (v : Verdict) (m count : ℕ) (why : Refusal) → answering v x ≡ Err why → Err why ≡ outline_answer v m count
unfolding answering outline_answer
as_refused x accepted m count why e = cc
as_refused x (refused y) m count why e = let f : y ≡ why = cc in rw f

pub as_accepted : {A : Type 0} (x : A) (v : Verdict) (m count : ℕ) (y : A) → answering v x ≡ Ok y → Ok (record { subpaths = m; anchors = count }) ≡ outline_answer v m count
unfolding answering outline_answer
as_accepted x accepted m count y e = refl
as_accepted x (refused z) m count y e = cc
