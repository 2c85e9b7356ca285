-- `join`, after 000: the anchors of a path being drawn run on into a subpath, the last of them landing on the target's end. Assumes nothing.
use Rattle.std.specs.Prelude.{ℕ, zero, suc, ◌+◌, ◌-◌, ◌*◌, ◌≤◌, Bool, true, false, List, ◌∷◌, ◌++◌, length, Float}
use Rattle.views.specs.View.{tabulate}
use Rattle.geom.specs.Point.{plus, minus}
use Rattle.path.specs.declared.anchor.Anchor.{Anchor}
use Rattle.path.specs.Flat.{anchor_at}
use Rattle.edit.specs.Reversed.{reversed_anchors}

-- a list holds n anchors: no more than a path may have, six numbers for each
pub record HoldsAnchors (xs : List Float) (n : ℕ) : Type 0 where
  pub few : n ≤ 512
  pub long : n * 6 ≤ length xs

-- 000's `t`: anchor k of the target's n, as they are, or reversed
unfoldable pub target_at : List Float → ℕ → Bool → ℕ → Anchor
target_at target n true k = anchor_at target k
target_at target n false k = reversed_anchors (anchor_at target) 0 n k

-- `t.anchors[1..]`
unfoldable pub target_rest : List Float → ℕ → Bool → List Anchor
target_rest target n at_start = tabulate (n - 1) (λ k. target_at target n at_start (k + 1))

-- an anchor with the handle in that another arrives with
unfoldable pub landed : Anchor → Anchor → Anchor
landed last a = record { p = a.p; h_in = plus last.h_in (minus a.p last.p); h_out = a.h_out }

-- the joint: the target's first anchor, on which the last of the drawn ones lands, if there is any
unfoldable pub joint_of : List Float → ℕ → Anchor → Anchor
joint_of drawn zero first = first
joint_of drawn (suc last) first = landed (anchor_at drawn last) first

-- `join`: of the drawn anchors all but the last, the joint, and the rest of the target
unfoldable pub joined_anchors : List Float → ℕ → List Float → ℕ → Bool → List Anchor
joined_anchors drawn count target n at_start =
    tabulate (count - 1) (anchor_at drawn) ++ (joint_of drawn count (target_at target n at_start 0) ∷ target_rest target n at_start)
