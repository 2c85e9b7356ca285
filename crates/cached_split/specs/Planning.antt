-- The plan of a split: what it rests on, and what it comes to. Assumes nothing.
use Rattle.std.proofs.Common.{Result}
use Rattle.std.specs.Prelude.{ℕ, ◌+◌, ◌<◌, ◌≡◌, true, List, Float, MatchResult}
use Rattle.views.specs.View.{entry}
use Rattle.real.specs.Operators.{0f}
use Rattle.refusal.specs.declared.Refusal.{Refusal}
use Rattle.refusal.specs.Order.{refused}
use Rattle.path.specs.Flat.{anchor_at}
use Rattle.path.specs.Shape.{total, next}
use Rattle.corner.specs.declared.kind.CornerKind.{CornerKind}
use Rattle.cut.specs.declared.subpath.Sub.{Sub}
use Rattle.cut.specs.View.{View}
use Rattle.cut.specs.Near.{old}
use Rattle.edit.specs.declared.splitting.Halved.{Halved}
use Rattle.edit.specs.Split.{has_segment}
use Rattle.recutting.specs.declared.plans.Plan.{Plan}
use Rattle.session.specs.Drawing.{Lent, drawn}
use Rattle.session.specs.Edits.{split, edit_of}
use Rattle.session.specs.Calls.{edit_verdict}
use Rattle.session.specs.Model.{lengths_of, long_for}
use Rattle.cached.specs.Planning.{Allowed}

-- v is a subpath of the path in the lists with an anchor put in after index a: the three of a segment split stand at a and the next two
pub record Halving (v : View) (kind : CornerKind) (sub : Sub) (a : ℕ) (h : Halved) (anchors radii : List Float) : Type 0 where
  pub size : v.n ≡ sub.n + 1
  pub closed : v.closed ≡ sub.closed
  pub chords : v.chords ≡ 128
  pub left : v.anchor a ≡ h.left
  pub middle : v.anchor (a + 1) ≡ h.middle
  pub right : v.anchor (next (sub.n + 1) (a + 1)) ≡ h.right
  pub stood : (k : ℕ) → k < sub.n + 1 → (k ≡ a → ⊥) → (k ≡ a + 1 → ⊥) → (k ≡ next (sub.n + 1) (a + 1) → ⊥) → v.anchor k ≡ anchor_at anchors (sub.first + old a k)
  pub zero : v.radius (a + 1) ≡ 0f
  pub kept : (k : ℕ) → k < sub.n + 1 → (k ≡ a + 1 → ⊥) → v.radius k ≡ entry radii (sub.first + old a k)
  pub kinds : (k : ℕ) → kind ≡ v.kind k

-- a plan of a split: the segment is there, with room for one anchor more
pub record Granted (l : Lent) (kind s a : ℕ) (t : Float) (p : Plan) : Type 0 where
  pub allowed : Allowed l kind (split s a t) s (a + 1) 4 p
  pub segment : has_segment l.shapes s a ≡ true
  pub count : p.total ≡ total l.shapes + 1
  pub few : total l.shapes < 512
  pub room : long_for (lengths_of l) (total l.shapes + 1) ≡ true

-- a plan, or the refusal
abbrev pub SplitPlanned : Lent → ℕ → ℕ → ℕ → Float → Result Plan Refusal → Type 0
SplitPlanned l kind s a t r = MatchResult r (Granted l kind s a t) (λ why. edit_verdict l kind (edit_of (drawn l kind) (split s a t)) ≡ refused why)
