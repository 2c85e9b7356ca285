-- What may be rested on where a call is accepted, or refused 9: it passed the tests before. Assumes nothing.
use mathlib.Core.Path.{◌≡◌, refl, sym, ap, ◌∙◌}
use mathlib.Core.Logic.{⊎_elim}
use mathlib.Core.Bool.{Bool, true, true≢false}
use mathlib.Core.List.{List}
use Prim.Native.Nat.{ℕ}
use lib.Ieee.{Float}
use Rattle.views.proofs.Bools.{both}
use Rattle.refusal.specs.Reasons.{refusal_at}
use Rattle.refusal.specs.declared.Reason.TheVariants.{Arguments, Lists, Output, Made}
use Rattle.refusal.specs.declared.Reason.{Reason}
use Rattle.refusal.specs.declared.Refusal.{Refusal}
use Rattle.refusal.specs.Order.{Test, passes, fails, holds, judge, Verdict, accepted, refused, verdict, tests}
use Rattle.refusal.proofs.Verdicts.{in_order, failing, refusing, holds_says, accepted_says}
use Rattle.path.specs.Shape.{total}
use Rattle.path.specs.Limit.{place_in}
use Rattle.path.proofs.Limits.{GoodBelow, search_to}
use Rattle.corner.specs.declared.kind.CornerKind.{CornerKind}
use Rattle.call.specs.Tests.{drawing_fits, drawing_limit, opened_drawing}
use Rattle.call.proofs.Openings.{places_fail, places_pass, open_all, DrawingOpens, drawing_opens}
use Rattle.std.proofs.Common.{Option, Some, None, Ok}
use Rattle.corner.specs.Kinds.{kind_of, is_known}
use Rattle.cut_corners.specs.Calls.{cut_verdict}
use Rattle.cache.specs.Tests.{cache_fits}
use Rattle.cache.specs.Calls.{build_verdict}

-- ---- tests
-- where 9 is refused, those before it pass, and none after it refuses 9
other : (r : Reason) (p k : ℕ) → (r ≡ Made → ⊥) → refused (refusal_at r p) ≡ refused (refusal_at Made k) → ⊥
other r p k ne e = let same : refusal_at r p ≡ refusal_at Made k = cc in ne (ap (λ (z : Refusal). z.reason) same)

past : (t : Test) (r : Reason) (later : Verdict) (k : ℕ) → (r ≡ Made → ⊥) → judge t r later ≡ refused (refusal_at Made k) → (t ≡ passes) × (later ≡ refused (refusal_at Made k))
unfolding judge
past passes r later k ne e = (refl, e)
past (fails p) r later k ne e = absurd (other r p k ne e)

nine_says : (l a r c m o : Test) (k : ℕ) → verdict (tests l a r c m o) ≡ refused (refusal_at Made k) → (l ≡ passes) × (a ≡ passes)
nine_says l a r c m o k e =
    let p7 = past l Lists _ k (λ h. cc) (sym (in_order l a r c m o) ∙ e) in
    let p5 = past a Arguments _ k (λ h. cc) p7.1 in
    (p7.0, p5.0)

pub room-not_nine : (o : Test) (k : ℕ) → judge o Output accepted ≡ refused (refusal_at Made k) → ⊥
room-not_nine o k e = refusing _ (sym (past o Output accepted k (λ h. cc) e).1)

-- ---- a drawing whose lists and numbers pass opens
module _ (shapes : List ℕ) (anchors radii : List Float) where
  limit_says : (loose : Bool) → drawing_limit shapes anchors radii loose ≡ passes → GoodBelow (place_in anchors radii) (total shapes) × (loose ≡ true)
  unfolding drawing_limit
  limit_says loose e =
      ⊎_elim
      (λ g. (g, holds_says loose (total shapes) (sym (places_pass (place_in anchors radii) (total shapes) (holds loose (total shapes)) g) ∙ e)))
      (λ kl. absurd (failing kl.0 (sym (places_fail (place_in anchors radii) (total shapes) (holds loose (total shapes)) kl.0 kl.1) ∙ e)))
      (search_to (place_in anchors radii) (total shapes))

  opened : drawing_fits shapes anchors radii ≡ true → GoodBelow (place_in anchors radii) (total shapes) → Ok (total shapes) ≡ opened_drawing shapes anchors radii
  unfolding opened_drawing drawing_limit
  opened fit g = open_all _ _ _ fit g

  pub opens_by : (loose : Bool) → drawing_fits shapes anchors radii ≡ true → drawing_limit shapes anchors radii loose ≡ passes
      → DrawingOpens shapes anchors radii (total shapes) × (loose ≡ true)
  opens_by loose fit e = let g = limit_says loose e in (drawing_opens shapes anchors radii (total shapes) (sym (opened fit g.0)), g.1)

pub known_says : (k : Option CornerKind) → is_known k ≡ true → (c : CornerKind) × (k ≡ Some c)
unfolding is_known
known_says (Some c) e = (c, refl)
known_says None e = absurd (true≢false (sym e))

-- ---- a drawing of a known kind
pub record Drawn (shapes : List ℕ) (anchors radii : List Float) (kind : ℕ) : Type 0 where
  pub opens : DrawingOpens shapes anchors radii (total shapes)
  pub way : CornerKind
  pub known : kind_of kind ≡ Some way

drawn_by : (shapes : List ℕ) (anchors radii : List Float) (kind : ℕ) → drawing_fits shapes anchors radii ≡ true → drawing_limit shapes anchors radii (is_known (kind_of kind)) ≡ passes
    → Drawn shapes anchors radii kind
drawn_by shapes anchors radii kind fit e =
    let o = opens_by shapes anchors radii _ fit e in
    let k = known_says (kind_of kind) o.1 in
    record { opens = o.0; way = k.0; known = k.1 }

module _ (shapes : List ℕ) (anchors radii : List Float) (kind : ℕ) where
  pub build_says : (numbers : List Float) (flags : List ℕ) → build_verdict shapes anchors radii kind numbers flags ≡ accepted
      → (cache_fits shapes numbers flags ≡ true) × Drawn shapes anchors radii kind
  unfolding build_verdict
  build_says numbers flags e =
      let t = accepted_says _ _ _ _ _ _ e in
      let f = both (cache_fits shapes numbers flags) (drawing_fits shapes anchors radii) (holds_says _ 0 t.lists) in
      (f.0, drawn_by shapes anchors radii kind f.1 t.arguments)

  pub build_nine_says : (numbers : List Float) (flags : List ℕ) (k : ℕ) → build_verdict shapes anchors radii kind numbers flags ≡ refused (refusal_at Made k) → Drawn shapes anchors radii kind
  unfolding build_verdict
  build_nine_says numbers flags k e =
      let t = nine_says _ _ _ _ _ _ k e in
      drawn_by shapes anchors radii kind (both (cache_fits shapes numbers flags) (drawing_fits shapes anchors radii) (holds_says _ 0 t.0)).1 t.1

  pub cut_nine_says : (to_shapes : List ℕ) (to : List Float) (k : ℕ) → cut_verdict shapes anchors radii kind to_shapes to ≡ refused (refusal_at Made k) → Drawn shapes anchors radii kind
  unfolding cut_verdict
  cut_nine_says to_shapes to k e =
      let t = nine_says _ _ _ _ _ _ k e in
      drawn_by shapes anchors radii kind (holds_says _ 0 t.0) t.1
