-- The decimal digits: what bounds the recursion does not matter, and so `whole_text` is known by its last digit. Assumes nothing.
use mathlib.Core.Path.{◌≡◌, refl, sym, ap, ◌∙◌, subst}
use mathlib.Core.Bool.{Bool, true, false, cond}
use mathlib.Core.Logic.{⊎_elim}
use mathlib.Core.List.{List, [], ◌∷◌, ◌++◌, append_assoc}
use Prim.Native.Nat.{ℕ, zero, suc, ◌+◌, ◌/◌, ◌%◌, ◌^◌, ◌≤◌, ◌<◌, zero-le, suc-le-suc}
use native.Mathlib.Nat.{pow-suc, le_refl}
use native.Mathlib.Omega.{arith}
use borrow.Author.Tests.{lt-ltb, le-ltb, eq-eqb, ne_eqb}
use lib.Dec.{ltb}
use lib.ListN.{length, drop, length-append}
use lib.Seq.{drop-append_seam}
use lib.IntN.{pos, neg_ℤ}
use lib.Ieee.{Float, size}
use lib.Ieee.Digits.{size-lt}
use Rattle.decimal.specs.Rounding.{thousandths_of, sign_of, signed, in_thousandths}
use Rattle.decimal.specs.Text.{digits, whole_text, fraction_text, size_text, thousandths_text, float_text}
use Rattle.views.proofs.Laws.{order}

half : (n k : ℕ) → n < 2 ^ suc k → n / 10 < 2 ^ k
half n k h = omega (arith, pow-suc 2 k)

pub digits_same : (k j n : ℕ) → n < 2 ^ k → n < 2 ^ j → digits (suc k) n ≡ digits (suc j) n
unfolding digits
digits_same zero zero n h g = refl
digits_same zero (suc j) n h g = let l : n < 10 = omega arith in rw (lt-ltb n 10 l)
digits_same (suc k) zero n h g = let l : n < 10 = omega arith in rw (lt-ltb n 10 l)
digits_same (suc k) (suc j) n h g =
    ap (λ l. cond (ltb n 10) ((48 + n) ∷ []) (l ++ ((48 + n % 10) ∷ []))) (digits_same k j (n / 10) (half n k h) (half n j g))

pub whole-small : (n : ℕ) → n < 10 → whole_text n ≡ (48 + n) ∷ []
unfolding whole_text digits
whole-small n h = rw (lt-ltb n 10 h)

pub whole_more : (n : ℕ) → 10 ≤ n → whole_text n ≡ whole_text (n / 10) ++ ((48 + n % 10) ∷ [])
unfolding whole_text digits
whole_more n h = rw (le-ltb n 10 h) (go (size n) (size-lt n))
  where
    go : (z : ℕ) → n < 2 ^ z → digits z (n / 10) ++ ((48 + n % 10) ∷ []) ≡ digits (suc (size (n / 10))) (n / 10) ++ ((48 + n % 10) ∷ [])
    go zero l = let a : n < 1 = l in absurd (omega arith)
    go (suc k) l = ap (λ d. d ++ ((48 + n % 10) ∷ [])) (digits_same k (size (n / 10)) (n / 10) (half n k l) (size-lt (n / 10)))

pub length_more : (n : ℕ) → 10 ≤ n → length (whole_text n) ≡ length (whole_text (n / 10)) + 1
length_more n h = ap length (whole_more n h) ∙ length-append (whole_text (n / 10)) ((48 + n % 10) ∷ [])

-- n below 10 ^ k takes at most k digits
pub whole_room : (k n : ℕ) → n < 10 ^ suc k → length (whole_text n) ≤ suc k
whole_room zero n h = rw (whole-small n h) (le_refl 1)
whole_room (suc k) n h =
    ⊎_elim
    (λ l. rw (length_more n l) (let r : length (whole_text (n / 10)) ≤ suc k = whole_room k (n / 10) (omega (arith, pow-suc 10 (suc k))) in omega arith))
    (λ l. rw (whole-small n l) (suc-le-suc zero-le))
    (order 10 n)

-- ---- the digits from the last one on: whole_text m stands before the digits d of t, j digits are before its last one
pub record LastDigit (t : List ℕ) (m j : ℕ) : Type 0 where
  pub digit : drop j t ≡ (48 + m % 10) ∷ drop (suc j) t
  pub rest : 0 < j → whole_text (m / 10) ++ drop j t ≡ t

last_digit : (a d : List ℕ) (m j : ℕ) → whole_text m ≡ a ++ (48 + m % 10) ∷ [] → length a ≡ j → (0 < j → whole_text (m / 10) ≡ a) → LastDigit (whole_text m ++ d) m j
last_digit a d m j e l r =
    let t : whole_text m ++ d ≡ a ++ (48 + m % 10) ∷ d = rw (e, append_assoc) in
    let x : drop j (whole_text m ++ d) ≡ (48 + m % 10) ∷ d = rw (t, ← l) (drop-append_seam a ((48 + m % 10) ∷ d)) in
    let z : length (whole_text m) ≡ suc j = omega (arith, ap length e, length-append a ((48 + m % 10) ∷ []), l) in
    let y : drop (suc j) (whole_text m ++ d) ≡ d = rw (← z) (drop-append_seam (whole_text m) d) in
    record { digit = rw (x, y); rest = λ h. rw (x, r h) (sym t) }

pub last_of : (t d : List ℕ) (m j : ℕ) → whole_text m ++ d ≡ t → length d + suc j ≡ length t → LastDigit t m j
last_of t d m j e l =
    let n : length (whole_text m) ≡ suc j = omega (arith, ap length e, length-append (whole_text m) d) in
    subst (λ u. LastDigit u m j) e
    (⊎_elim
    (λ h. last_digit (whole_text (m / 10)) d m j (whole_more m h) (omega (arith, length_more m h)) (λ k. refl))
    (λ h.
    let v : m % 10 ≡ m = omega arith in
    let o : length (whole_text m) ≡ 1 = rw (whole-small m h) in
    last_digit [] d m j (rw (whole-small m h, v)) (omega arith) (λ k. absurd (omega arith)))
    (order 10 m))

-- ---- the decimals, by what is left of them
pub none_left : (f : ℕ) → f ≡ 0 → fraction_text f ≡ []
unfolding fraction_text
none_left f e = rw (eq-eqb f 0 e)

pub one_left : (f : ℕ) → (f ≡ 0 → ⊥) → f % 100 ≡ 0 → fraction_text f ≡ 46 ∷ (48 + f / 100) ∷ []
unfolding fraction_text
one_left f n e = rw (ne_eqb f 0 n, eq-eqb (f % 100) 0 e)

pub two_left : (f : ℕ) → (f ≡ 0 → ⊥) → (f % 100 ≡ 0 → ⊥) → f % 10 ≡ 0 → fraction_text f ≡ 46 ∷ (48 + f / 100) ∷ (48 + f / 10 % 10) ∷ []
unfolding fraction_text
two_left f n o e = rw (ne_eqb f 0 n, ne_eqb (f % 100) 0 o, eq-eqb (f % 10) 0 e)

pub three_left : (f : ℕ) → (f ≡ 0 → ⊥) → (f % 100 ≡ 0 → ⊥) → (f % 10 ≡ 0 → ⊥) → fraction_text f ≡ 46 ∷ (48 + f / 100) ∷ (48 + f / 10 % 10) ∷ (48 + f % 10) ∷ []
unfolding fraction_text
three_left f n o e = rw (ne_eqb f 0 n, ne_eqb (f % 100) 0 o, ne_eqb (f % 10) 0 e)

-- ---- a number's text, by its sign
pub text-zero : (x : Float) → thousandths_of x ≡ 0 → float_text x ≡ size_text (thousandths_of x)
unfolding float_text in_thousandths thousandths_text
text-zero x e = go (thousandths_of x) (sign_of x) e
  where
    go : (t : ℕ) (s : Bool) → t ≡ 0 → thousandths_text (signed s t) ≡ size_text t
    go zero true e = refl
    go zero false e = refl
    go (suc t) s e = absurd (omega arith)

pub text_positive : (x : Float) → sign_of x ≡ false → float_text x ≡ size_text (thousandths_of x)
unfolding float_text in_thousandths thousandths_text
text_positive x e = rw e

pub text-negative : (x : Float) → (thousandths_of x ≡ 0 → ⊥) → sign_of x ≡ true → float_text x ≡ (45 ∷ []) ++ size_text (thousandths_of x)
unfolding float_text in_thousandths thousandths_text
text-negative x n e = rw e (go (thousandths_of x) n)
  where
    go : (t : ℕ) → (t ≡ 0 → ⊥) → thousandths_text (neg_ℤ (pos t)) ≡ 45 ∷ size_text t
    go zero n = absurd (n refl)
    go (suc t) n = refl
