-- A path that was made in place: what its last two tests come to, and a list that was written whole. Assumes nothing.
use mathlib.Core.Path.{◌≡◌, refl, ap}
use mathlib.Core.List.{List, [], ◌∷◌}
use Prim.Native.Nat.{ℕ, ◌*◌, ◌≤◌, ◌<◌}
use native.Mathlib.Nat.{le_refl}
use native.Mathlib.Omega.{arith}
use lib.ListN.{length, get_or}
use lib.Ieee.{Float}
use Rattle.views.specs.View.{overwrite}
use Rattle.refusal.specs.Reasons.{refusal_at}
use Rattle.refusal.specs.declared.Reason.TheVariants.{Output, Made}
use Rattle.refusal.specs.Order.{passes, holds, judge, accepted, refused}
use Rattle.path.specs.declared.anchor.Anchor.{Anchor}
use Rattle.path.proofs.Limits.{GoodBelow, Least}
use Rattle.call.specs.Tests.{outline_in, outline_limit}
use Rattle.call.proofs.Openings.{places_fail, places_pass}
use Rattle.call.proofs.Handings.{room, few_numbers}
use Rattle.edit.specs.Split.{made_verdict}

module _ (made : List Anchor) (shapes : List ℕ) (anchors : List Float) where
  pub made_bad : (k : ℕ) → Least (outline_in made) (length made) k → made_verdict made shapes anchors ≡ refused (refusal_at Made k)
  unfolding made_verdict outline_limit judge
  made_bad k l = rw (places_fail (outline_in made) (length made) passes k l)

  module _ (good : GoodBelow (outline_in made) (length made)) where
    pub made-short : length anchors < length made * 6 → made_verdict made shapes anchors ≡ refused (refusal_at Output 0)
    unfolding made_verdict outline_limit judge holds
    made-short h = rw (places_pass (outline_in made) (length made) passes good, few_numbers (length shapes) (length made) shapes anchors h)

    pub made-fits : length made * 6 ≤ length anchors → made_verdict made shapes anchors ≡ accepted
    unfolding made_verdict outline_limit judge holds
    made-fits h = rw (places_pass (outline_in made) (length made) passes good, room (length shapes) (length made) shapes anchors (le_refl (length shapes)) h)

-- a list of the same length, read entry by entry
pub overwrite-all : {A : Type 0} (d : A) (ys xs : List A) → length ys ≡ length xs → ys ≡ overwrite (length xs) (λ i. get_or ys i d) xs
unfolding overwrite
overwrite-all d [] [] e = refl
overwrite-all d [] (x ∷ xs) e = absurd (omega arith)
overwrite-all d (y ∷ ys) [] e = absurd (omega arith)
overwrite-all d (y ∷ ys) (x ∷ xs) e = ap (λ l. y ∷ l) (overwrite-all d ys xs (omega arith))
