-- What the hit calls answer by what their tests found. Assumes nothing.
use mathlib.Core.Path.{◌≡◌, refl, sym, ◌∙◌}
use mathlib.Core.Bool.{Bool, true, false, ◌&&◌, true≢false}
use mathlib.Core.List.{List}
use Prim.Native.Nat.{ℕ, ◌+◌, ◌<◌}
use native.Mathlib.Numerals.{add-one}
use lib.Ieee.{Float, le}
use Rattle.real.specs.Limit.{in_limit}
use Rattle.geom.specs.declared.point.P.{P}
use Rattle.geom.specs.Point.{minus}
use Rattle.std.proofs.Common.{Result, Ok, Err, Some, None}
use Rattle.refusal.specs.declared.Refusal.{Refusal}
use Rattle.refusal.specs.declared.Reason.TheVariants.{Arguments}
use Rattle.refusal.specs.Reasons.{refusal_at}
use Rattle.refusal.specs.Order.{judge, accepted, refused, answering}
use Rattle.refusal.proofs.Verdicts.{holds_true, holds_false, refusing, in_order, by_arguments, by_none, answers_err, ok_says}
use Rattle.path.specs.Shape.{total}
use Rattle.path.specs.Flat.{anchor_at}
use Rattle.call.specs.Tests.{opened_path}
use Rattle.call.proofs.Openings.{PathOpens, path_opens, path_refused}
use Rattle.hit.specs.declared.best.Best.{Best}
use Rattle.hit.specs.Located.{located}
use Rattle.hit.specs.Best.{taken}
use Rattle.hit.specs.Calls.{query_in, hit_verdict, anchor_distance, nearest_anchor, hit_anchor_answer}
use Rattle.real.proofs.Orders.{le-number}
use Rattle.hit.proofs.Theorems.{nearest-is}
use Rattle.hit.proofs.Walked.{Stands, stands_more}

module _ (shapes : List ℕ) (anchors : List Float) (q : P) (tol : Float) where
  -- ---- the tests
  pub path_fails : (why : Refusal) → opened_path 512 shapes anchors ≡ Err why → hit_verdict shapes anchors q tol ≡ refused why
  unfolding hit_verdict judge
  path_fails why e = in_order _ _ _ _ _ _ ∙ path_refused 512 shapes anchors why e (query_in q tol) accepted

  module _ (n : ℕ) (o : PathOpens 512 shapes anchors n) where
    pub query_fails : query_in q tol ≡ false → hit_verdict shapes anchors q tol ≡ refused (refusal_at Arguments n)
    unfolding hit_verdict
    query_fails e = rw o.count (by_arguments _ _ _ _ _ _ o.lists_pass (total shapes) (o.places_good _ ∙ holds_false (total shapes) e))

    pub all_pass : query_in q tol ≡ true → hit_verdict shapes anchors q tol ≡ accepted
    unfolding hit_verdict
    all_pass e = by_none _ _ _ _ _ _ o.lists_pass (o.places_good _ ∙ holds_true (total shapes) e) refl refl refl refl

  -- ---- what a call rests on that opened
  pub record HitOpens (n : ℕ) : Type 0 where
    pub passed : hit_verdict shapes anchors q tol ≡ accepted
    pub path : PathOpens 512 shapes anchors n
    pub query : query_in q tol ≡ true

  pub hit_opens : (n : ℕ) → answering (hit_verdict shapes anchors q tol) (total shapes) ≡ Ok n → HitOpens n
  hit_opens n h = go (opened_path 512 shapes anchors) refl
    where
      said : (hit_verdict shapes anchors q tol ≡ accepted) × (total shapes ≡ n)
      said = ok_says _ _ n h

      asked : (m : ℕ) → PathOpens 512 shapes anchors m → (b : Bool) → query_in q tol ≡ b → HitOpens n
      asked m o false e = absurd (refusing _ (sym (query_fails m o e) ∙ said.0))
      asked m o true e = record { passed = said.0; path = rw (o.count ∙ said.1) at o; query = e }

      go : (a : Result ℕ Refusal) → opened_path 512 shapes anchors ≡ a → HitOpens n
      go (Err why) e = absurd (refusing _ (sym (path_fails why e) ∙ said.0))
      go (Ok m) e = asked m (path_opens 512 shapes anchors m e) (query_in q tol) refl

pub tolerance_in : (q : P) (tol : Float) → query_in q tol ≡ true → in_limit tol ≡ true
unfolding query_in
tolerance_in q tol = go (in_limit q.x) (in_limit q.y)
  where
    go : (x y : Bool) → (x && (y && in_limit tol)) ≡ true → in_limit tol ≡ true
    go true true e = e
    go true false e = absurd (true≢false (sym e))
    go false y e = absurd (true≢false (sym e))

-- ---- one more anchor
pub anchor_more : (anchors : List Float) (q : P) (tol : Float) (k : ℕ) (b r : Best) (v : P)
    → Stands (λ j. le (anchor_distance anchors q j) tol) (anchor_distance anchors q) k b → v ≡ minus (anchor_at anchors k).p q → r ≡ taken tol b k v
    → Stands (λ j. le (anchor_distance anchors q j) tol) (anchor_distance anchors q) (k + 1) r
unfolding anchor_distance
anchor_more anchors q tol k b r v s e t = rw (t, e, add-one k) (stands_more _ _ k b s tol (minus (anchor_at anchors k).p q) refl refl)

-- what is found is an anchor of the path
pub found_below_lem : (anchors : List Float) (q : P) (tol : Float) (n k : ℕ) → nearest_anchor anchors q tol n ≡ Some k → k < n
unfolding nearest_anchor
found_below_lem anchors q tol n k e = (nearest-is _ _ (λ i w. le-number _ tol w) n k e).place

-- ---- `hit_anchor` by what was found
module _ (shapes : List ℕ) (anchors : List Float) (q : P) (tol : Float) where
  pub anchor-refused : (why : Refusal) → hit_verdict shapes anchors q tol ≡ refused why → Err why ≡ hit_anchor_answer shapes anchors q tol
  unfolding hit_anchor_answer
  anchor-refused why e = answers_err _ e

  module _ (n : ℕ) (o : HitOpens shapes anchors q tol n) where
    pub anchor_missed : nearest_anchor anchors q tol n ≡ None → Ok None ≡ hit_anchor_answer shapes anchors q tol
    unfolding hit_anchor_answer answering
    anchor_missed e = rw (o.passed, ← o.path.count, e)

    pub anchor_found : (k : ℕ) → nearest_anchor anchors q tol n ≡ Some k → Ok (Some (located shapes k)) ≡ hit_anchor_answer shapes anchors q tol
    unfolding hit_anchor_answer answering
    anchor_found k e = rw (o.passed, ← o.path.count, e)
