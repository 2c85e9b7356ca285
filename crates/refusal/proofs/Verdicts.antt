-- What six tests come to: the first that fails refuses with its reason, and where none refuses each passes; what is then answered. Assumes nothing.
use mathlib.Core.Path.{◌≡◌, refl, sym}
use mathlib.Core.Bool.{Bool, true, false}
use Prim.Native.Nat.{ℕ}
use native.Mathlib.Omega.{arith}
use Rattle.std.proofs.Common.{Ok, Err}
use Rattle.refusal.specs.declared.Reason.{Reason}
use Rattle.refusal.specs.declared.Reason.TheVariants.{Arguments, Reference, Lists, Output, Made, Capacity}
use Rattle.refusal.specs.declared.Refusal.{Refusal}
use Rattle.refusal.specs.Reasons.{refusal_at}
use Rattle.refusal.specs.Order.{Test, passes, fails, holds, judge, first_failing, Verdict, accepted, refused, verdict, tests, answering}

pub holds_true : {b : Bool} (place : ℕ) → b ≡ true → holds b place ≡ passes
unfolding holds
holds_true place e = rw e

pub holds_false : {b : Bool} (place : ℕ) → b ≡ false → holds b place ≡ fails place
unfolding holds
holds_false place e = rw e

-- ---- a test that passes
pub failing : (k : ℕ) → fails k ≡ passes → ⊥
failing k e = let z : ◌≡◌ {A = ℕ} 0 1 = cc in omega arith

pub refusing : (why : Refusal) → refused why ≡ accepted → ⊥
refusing why e = let z : ◌≡◌ {A = ℕ} 0 1 = cc in omega arith

pub holds_says : (b : Bool) (place : ℕ) → holds b place ≡ passes → b ≡ true
unfolding holds
holds_says true place e = refl
holds_says false place e = absurd (failing place e)

judge_says : (t : Test) (reason : Reason) (later : Verdict) → judge t reason later ≡ accepted → (t ≡ passes) × (later ≡ accepted)
unfolding judge
judge_says passes reason later e = (refl, e)
judge_says (fails k) reason later e = absurd (refusing _ e)

-- ---- six tests
module _ (l a r c m o : Test) where
  -- the tests in their order
  pub in_order : verdict (tests l a r c m o) ≡ judge l Lists (judge a Arguments (judge r Reference (judge c Capacity (judge m Made (judge o Output accepted)))))
  unfolding verdict first_failing tests
  in_order = refl

  -- one law for each way to end
  pub by_lists : (k : ℕ) → l ≡ fails k → verdict (tests l a r c m o) ≡ refused (refusal_at Lists k)
  unfolding verdict first_failing tests judge
  by_lists k e = rw e

  module _ (p7 : l ≡ passes) where
    pub by_arguments : (k : ℕ) → a ≡ fails k → verdict (tests l a r c m o) ≡ refused (refusal_at Arguments k)
    unfolding verdict first_failing tests judge
    by_arguments k e = rw (p7, e)

    module _ (p5 : a ≡ passes) where
      pub by_reference : (k : ℕ) → r ≡ fails k → verdict (tests l a r c m o) ≡ refused (refusal_at Reference k)
      unfolding verdict first_failing tests judge
      by_reference k e = rw (p7, p5, e)

      module _ (p6 : r ≡ passes) where
        pub by_capacity : (k : ℕ) → c ≡ fails k → verdict (tests l a r c m o) ≡ refused (refusal_at Capacity k)
        unfolding verdict first_failing tests judge
        by_capacity k e = rw (p7, p5, p6, e)

        module _ (p10 : c ≡ passes) where
          pub by_result : (k : ℕ) → m ≡ fails k → verdict (tests l a r c m o) ≡ refused (refusal_at Made k)
          unfolding verdict first_failing tests judge
          by_result k e = rw (p7, p5, p6, p10, e)

          module _ (p9 : m ≡ passes) where
            pub by_output : (k : ℕ) → o ≡ fails k → verdict (tests l a r c m o) ≡ refused (refusal_at Output k)
            unfolding verdict first_failing tests judge
            by_output k e = rw (p7, p5, p6, p10, p9, e)

            pub by_none : o ≡ passes → verdict (tests l a r c m o) ≡ accepted
            unfolding verdict first_failing tests judge
            by_none e = rw (p7, p5, p6, p10, p9, e)

-- none refuses
pub record AllPass (l a r c m o : Test) : Type 0 where
  pub lists : l ≡ passes
  pub arguments : a ≡ passes
  pub reference : r ≡ passes
  pub capacity : c ≡ passes
  pub result : m ≡ passes
  pub output : o ≡ passes

pub accepted_says : (l a r c m o : Test) → verdict (tests l a r c m o) ≡ accepted → AllPass l a r c m o
unfolding verdict first_failing tests
accepted_says l a r c m o e =
    let p = judge_says l Lists _ e in
    let q = judge_says a Arguments _ p.1 in
    let s = judge_says r Reference _ q.1 in
    let t = judge_says c Capacity _ s.1 in
    let u = judge_says m Made _ t.1 in
    let v = judge_says o Output _ u.1 in
    record { lists = p.0; arguments = q.0; reference = s.0; capacity = t.0; result = u.0; output = v.0 }

-- ---- what is answered
module _ {A : Type 0} {v : Verdict} where
  pub answers_ok : (x : A) → v ≡ accepted → Ok x ≡ answering v x
  unfolding answering
  answers_ok x e = rw e

  pub answers_err : (x : A) {why : Refusal} → v ≡ refused why → Err why ≡ answering v x
  unfolding answering
  answers_err x e = rw e

-- and back: which answer is which verdict
apart : {A : Type 0} {x : A} {why : Refusal} → Err why ≡ Ok x → ⊥
apart e = let z : ◌≡◌ {A = ℕ} 0 1 = cc in omega arith

pub ok_says : {A : Type 0} (v : Verdict) (x y : A) → answering v x ≡ Ok y → (v ≡ accepted) × (x ≡ y)
unfolding answering
ok_says accepted x y e = (refl, cc)
ok_says (refused why) x y e = absurd (apart e)

pub err_says : {A : Type 0} (v : Verdict) (x : A) (why : Refusal) → answering v x ≡ Err why → v ≡ refused why
unfolding answering
err_says accepted x why e = absurd (apart (sym e))
err_says (refused d) x why e = cc
