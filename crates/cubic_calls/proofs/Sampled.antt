-- How many points `sample` can give, and the list in front of which they stand. Assumes nothing.
use mathlib.Core.Path.{◌≡◌, ap, ◌∙◌}
use lib.ListN.{length, take}
use lib.Ieee.{Float, nan}
use Rattle.views.specs.View.{entry, overwrite}
use Rattle.views.specs.Search.{all}
use Rattle.views.proofs.Searches.{all_cong, all_taken}
use Rattle.views.proofs.Laws.{length-overwrite, at_overwrite, overwrite_cong}
use Rattle.real.specs.Limit.{in_limit}
use mathlib.Core.Bool.{Bool, true, false, cond}
use mathlib.Core.List.{List}
use Prim.Native.Nat.{ℕ, ◌+◌, ◌*◌, ◌≤◌, ◌<◌}
use native.Mathlib.Omega.{arith}
use lib.Dec.{ltb}
use Rattle.geom.specs.declared.point.P.{P}
use Rattle.cubic.specs.Sample.{straight, steps, sample_count}

-- room for 257 points is room for all
pub few_points : (c : List P) (n : ℕ) → n ≤ 256 → 2 * sample_count c n ≤ 514
unfolding sample_count steps
few_points c n h = go (straight c) (ltb n 1)
  where
    go : (a b : Bool) → 2 * (cond a 1 (cond b 1 n) + 1) ≤ 514
    go true b = omega arith
    go false true = omega arith
    go false false = omega arith

-- a list that has k numbers in front is tested, and copied, as those are
module _ (k : ℕ) (f : ℕ → Float) (xs : List Float) (room : k ≤ length xs) where
  numbers : (j : ℕ) → j < k → entry (overwrite k f xs) j ≡ f j
  numbers j h = at_overwrite nan k f xs j h (omega arith)

  pub front_tested : all (λ j. in_limit (entry (take k (overwrite k f xs)) j)) (length (take k (overwrite k f xs))) ≡ all (λ j. in_limit (f j)) k
  front_tested = all_taken nan in_limit (overwrite k f xs) k (rw (length-overwrite k f xs) room) ∙ all_cong _ _ k (λ j h. ap in_limit (numbers j h))

  pub front_copied : (to : List Float) → overwrite k (entry (overwrite k f xs)) to ≡ overwrite k f to
  front_copied to = overwrite_cong k _ f to numbers
