-- What the functions hand to each other on the way: an edit of one anchor, and the plan that an edit makes of lists that are only read. Assumes nothing.
use Rattle.std.proofs.Common.{Ok, Result}
use Rattle.std.specs.Prelude.{ℕ, ◌+◌, ◌*◌, ◌≤◌, ◌<◌, ◌≡◌, Bool, length, Float, MatchResult}
use Rattle.real.specs.Limit.{in_limit}
use Rattle.refusal.specs.declared.Refusal.{Refusal}
use Rattle.refusal.specs.Order.{accepted, refused}
use Rattle.path.specs.declared.anchor.Anchor.{Anchor}
use Rattle.path.specs.declared.shape.AnchorRef.{AnchorRef}
use Rattle.path.specs.Limit.{anchor_good}
use Rattle.path.specs.Shape.{count_of, total, word_at, start}
use Rattle.cut_calls.specs.PlainCut.{sub_at}
use Rattle.recutting.specs.declared.plans.Plan.{Plan}
use Rattle.recutting.specs.Stretch.{Accepts}
use Rattle.session.specs.Drawing.{Lent, drawn, view_in}
use Rattle.session.specs.Edits.{Call, move, set_radius, edit_of}
use Rattle.session.specs.Calls.{edit_verdict, call_answer}
use Rattle.cached.specs.declared.planning.AnchorEdit.{AnchorEdit}
use Rattle.cached.specs.declared.planning.AnchorEdit.TheVariants.{Move, Radius}

-- ---- an edit of one anchor: its own numbers, how far the cut turns on it, what then stands there, and the call that it is
unfoldable pub numbers_in : AnchorEdit → Bool
numbers_in (Move new) = anchor_good new
numbers_in (Radius r) = in_limit r

unfoldable pub reach_of : AnchorEdit → ℕ
reach_of (Move new) = 3
reach_of (Radius r) = 2

unfoldable pub anchor_then : AnchorEdit → Anchor → Anchor
anchor_then (Move new) old = new
anchor_then (Radius r) old = old

unfoldable pub radius_then : AnchorEdit → Float → Float
radius_then (Move new) old = old
radius_then (Radius r) old = r

unfoldable pub anchor_call : AnchorRef → AnchorEdit → Call
anchor_call at (Move new) = move at.subpath at.anchor new
anchor_call at (Radius r) = set_radius at.subpath at.anchor r

-- ---- plans
-- subpath s stands in every list
pub record Stands (l : Lent) (s : ℕ) : Type 0 where
  pub there : s < length l.shapes
  pub words : length l.shapes ≤ 32
  pub few : total l.shapes ≤ 512
  pub path : start l.shapes s + count_of (word_at l.shapes s) ≤ total l.shapes
  pub anchors : total l.shapes * 6 ≤ length l.anchors
  pub radii : total l.shapes ≤ length l.radii
  pub numbers : total l.shapes * 12 ≤ length l.numbers
  pub flags : total l.shapes ≤ length l.flags

-- a plan p of an edit that is accepted: what it answers, and the places that it recuts
pub record Allowed (l : Lent) (kind : ℕ) (c : Call) (s at reach : ℕ) (p : Plan) : Type 0 where
  pub verdict : edit_verdict l kind (edit_of (drawn l kind) c) ≡ accepted
  pub answer : Ok (record { recut = p.count; anchors = p.total }) ≡ call_answer l kind c
  pub stands : Stands l s
  pub index : at < (sub_at (edit_of (drawn l kind) c).made.shapes s).n
  pub places : Accepts (view_in (edit_of (drawn l kind) c).made s) (sub_at (edit_of (drawn l kind) c).made.shapes s) (record { at = at; reach = reach }) p

-- a plan, or the refusal
abbrev pub Planned : Lent → ℕ → Call → ℕ → ℕ → ℕ → Result Plan Refusal → Type 0
Planned l kind c s at reach r = MatchResult r (Allowed l kind c s at reach) (λ why. edit_verdict l kind (edit_of (drawn l kind) c) ≡ refused why)
