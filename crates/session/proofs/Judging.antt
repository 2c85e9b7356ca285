-- Verdicts: tests that agree give one verdict, and what places that pass say. Assumes nothing.
use mathlib.Core.Path.{◌≡◌, refl, sym, ◌∙◌}
use mathlib.Core.Bool.{Bool}
use Prim.Native.Nat.{ℕ, ◌<◌}
use Rattle.views.proofs.Searches.{first_cong}
use Rattle.refusal.specs.declared.Reason.TheVariants.{Arguments, Reference, Lists, Output, Made, Capacity}
use Rattle.refusal.specs.declared.Reason.{Reason}
use Rattle.refusal.specs.Order.{Test, passes, fails, judge, first_failing, Verdict, verdict, tests}
use Rattle.refusal.proofs.Verdicts.{failing}
use Rattle.path.proofs.Limits.{GoodBelow, search_to}
use Rattle.call.specs.Tests.{places}
use Rattle.call.proofs.Openings.{places_fail, places_pass}
use mathlib.Core.Logic.{⊎_elim}

-- by place: all pass, and then what is tested after them
module _ (good : ℕ → Bool) (n : ℕ) (after : Test) (h : places good n after ≡ passes) where
  pub places-say : GoodBelow good n
  places-say = ⊎_elim (λ g. g) (λ kl. absurd (failing kl.0 (sym (places_fail good n after kl.0 kl.1) ∙ h))) (search_to good n)

  pub places_then : after ≡ passes
  places_then = sym (places_pass good n after places-say) ∙ h

pub places_same : (p q : ℕ → Bool) (n : ℕ) (a b : Test) → ((k : ℕ) → k < n → p k ≡ q k) → a ≡ b → places p n a ≡ places q n b
unfolding places
places_same p q n a b h e = rw (first_cong p q n h, e)

-- ---- six tests
judge-same : (t u : Test) (c : Reason) (v w : Verdict) → t ≡ u → (t ≡ passes → v ≡ w) → judge t c v ≡ judge u c w
unfolding judge
judge-same passes u c v w e h = rw (← e) (h refl)
judge-same (fails k) u c v w e h = rw (← e)

-- a later test may lean on the earlier ones
pub verdict-same : (l a r c m o l' a' r' c' m' o' : Test) → l ≡ l' → (l ≡ passes → a ≡ a') → r ≡ r' → c ≡ c'
    → (l ≡ passes → a ≡ passes → r ≡ passes → m ≡ m') → o ≡ o' → verdict (tests l a r c m o) ≡ verdict (tests l' a' r' c' m' o')
unfolding verdict first_failing tests
verdict-same l a r c m o l' a' r' c' m' o' el ea er ec em eo =
    judge-same l l' Lists _ _ el
    (λ p. judge-same a a' Arguments _ _ (ea p)
    (λ q. judge-same r r' Reference _ _ er
    (λ s. judge-same c c' Capacity _ _ ec
    (λ t. judge-same m m' Made _ _ (em p q s)
    (λ u. judge-same o o' Output _ _ eo (λ v. refl))))))
