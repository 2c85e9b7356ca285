-- The text of a number of thousandths is a decimal numeral of that value. Assumes nothing.
use mathlib.Core.Path.{◌≡◌, refl, sym, ap, ◌∙◌}
use mathlib.Core.Logic.{⊎_elim}
use mathlib.Core.Bool.{true}
use mathlib.Core.List.{List, [], ◌∷◌, ◌++◌}
use Prim.Native.Nat.{ℕ, zero, suc, ◌+◌, ◌*◌, ◌/◌, ◌%◌, ◌^◌, ◌≤◌, ◌<◌}
use native.Mathlib.Nat.{pow-suc}
use native.Mathlib.Omega.{arith}
use lib.ListN.{length}
use lib.IntN.{ℤ, pos, negsuc}
use lib.Ieee.{size}
use lib.Ieee.Digits.{size-lt}
use Rattle.views.proofs.Laws.{order, same}
use Rattle.decimal.specs.Rounding.{signed}
use Rattle.decimal.specs.Text.{whole_text, fraction_text, size_text, thousandths_text}
use Rattle.decimal.specs.Value.{Same, thousandths}
use Rattle.decimal.specs.Numeral.{Sign, bare, minus, Numeral, Digits, none, more, Proper, digits_text, point_text, numeral_text, digits_after, numeral_value}
use Rattle.decimal.proofs.Digits.{whole-small, whole_more, none_left, one_left, two_left, three_left}

-- ---- one digit more, at the end
digits_last : {ds : List ℕ} (d : ℕ) → d < 10 → Digits ds → Digits (ds ++ d ∷ [])
digits_last d h none = more h none
digits_last d h (more l r) = more l (digits_last d h r)

text_last : (ds : List ℕ) (d : ℕ) → digits_text (ds ++ d ∷ []) ≡ digits_text ds ++ (48 + d) ∷ []
text_last [] d = refl
text_last (e ∷ ds) d = ap (λ t. (48 + e) ∷ t) (text_last ds d)

after_last : (n : ℕ) (ds : List ℕ) (d : ℕ) → digits_after n (ds ++ d ∷ []) ≡ digits_after n ds * 10 + d
after_last n [] d = refl
after_last n (e ∷ ds) d = after_last (n * 10 + e) ds d

-- ---- a whole number
record Whole (n : ℕ) : Type 0 where
  first : ℕ
  rest : List ℕ
  small : first < 10
  digits : Digits rest
  text : (48 + first) ∷ digits_text rest ≡ whole_text n
  value : digits_after first rest ≡ n

whole_one : (n : ℕ) → n < 10 → Whole n
whole_one n h = record { first = n; rest = []; small = h; digits = none; text = sym (whole-small n h); value = refl }

whole-next : (n : ℕ) → 10 ≤ n → Whole (n / 10) → Whole n
whole-next n h w = record {
  first = w.first;
  rest = w.rest ++ (n % 10) ∷ [];
  small = w.small;
  digits = digits_last (n % 10) (omega arith) w.digits;
  text = ap (λ t. (48 + w.first) ∷ t) (text_last w.rest (n % 10)) ∙ ap (λ t. t ++ (48 + n % 10) ∷ []) w.text ∙ sym (whole_more n h);
  value = after_last w.first w.rest (n % 10) ∙ (let e = w.value in omega arith);
}

whole_by : (k n : ℕ) → n < 2 ^ k → Whole n
whole_by zero n h = whole_one n (omega arith)
whole_by (suc k) n h = go (whole_by k (n / 10) (omega (arith, pow-suc 2 k)))
  where
    go : Whole (n / 10) → Whole n
    go w = ⊎_elim (λ l. whole-next n l w) (λ l. whole_one n l) (order 10 n)

-- ---- decimals
record Fraction (f : ℕ) : Type 0 where
  digits : List ℕ
  proper : Digits digits
  text : point_text digits ≡ fraction_text f
  value : (n : ℕ) → digits_after n digits * 1000 ≡ (n * 1000 + f) * 10 ^ length digits

fraction : (f : ℕ) → f < 1000 → Fraction f
fraction f F =
    let A : f / 100 < 10 = omega arith in
    let B : f / 10 % 10 < 10 = omega arith in
    let G : f % 10 < 10 = omega arith in
    ⊎_elim
    (λ z. record { digits = []; proper = none; text = sym (none_left f z); value = λ n. omega arith })
    (λ nz. ⊎_elim
    (λ z. record { digits = f / 100 ∷ []; proper = more A none; text = sym (one_left f nz z); value = λ n. omega arith })
    (λ nh. ⊎_elim
    (λ z. record { digits = f / 100 ∷ f / 10 % 10 ∷ []; proper = more A (more B none); text = sym (two_left f nz nh z); value = λ n. omega arith })
    (λ nt. record { digits = f / 100 ∷ f / 10 % 10 ∷ f % 10 ∷ []; proper = more A (more B (more G none)); text = sym (three_left f nz nh nt); value = λ n. omega arith })
    (same (f % 10) 0))
    (same (f % 100) 0))
    (same f 0)

-- ---- the number
pub record Written (z : ℤ) : Type 0 where
  pub numeral : Numeral
  pub proper : Proper numeral
  pub text : numeral_text numeral ≡ thousandths_text z
  pub value : Same (numeral_value numeral) (thousandths z)

abbrev numeral-of : Sign → {n g : ℕ} → Whole n → Fraction g → Numeral
numeral-of s w f = record { sign = s; first = w.first; rest = w.rest; decimals = f.digits }

size_text_lem : (t : ℕ) (w : Whole (t / 1000)) (f : Fraction (t % 1000)) → (48 + w.first) ∷ (digits_text w.rest ++ point_text f.digits) ≡ size_text t
unfolding size_text
size_text_lem t w f = ap (λ l. l ++ point_text f.digits) w.text ∙ ap (λ l. whole_text (t / 1000) ++ l) f.text

size_value : (t : ℕ) (w : Whole (t / 1000)) (f : Fraction (t % 1000))
    → digits_after (digits_after w.first w.rest) f.digits * 10 ^ 0 * 10 ^ 3 ≡ t * 10 ^ 0 * 10 ^ length f.digits
size_value t w f =
    let e : digits_after w.first w.rest ≡ t / 1000 = w.value in
    let v : digits_after (digits_after w.first w.rest) f.digits * 1000 ≡ (digits_after w.first w.rest * 1000 + t % 1000) * 10 ^ length f.digits = f.value (digits_after w.first w.rest) in
    let g : digits_after w.first w.rest * 1000 + t % 1000 ≡ t = omega arith in
    let u : digits_after (digits_after w.first w.rest) f.digits * 1000 ≡ t * 10 ^ length f.digits = v ∙ ap (λ k. k * 10 ^ length f.digits) g in
    omega arith

pub written : (z : ℤ) → Written z
unfolding thousandths_text
written (pos t) =
    let w = whole_by (size (t / 1000)) (t / 1000) (size-lt (t / 1000)) in
    let f = fraction (t % 1000) (omega arith) in
    record {
      numeral = numeral-of bare w f;
      proper = record { first = w.small; rest = w.digits; decimals = f.proper };
      text = size_text_lem t w f;
      value = ap pos (size_value t w f);
    }
written (negsuc t) =
    let w = whole_by (size (suc t / 1000)) (suc t / 1000) (size-lt (suc t / 1000)) in
    let f = fraction (suc t % 1000) (omega arith) in
    record {
      numeral = numeral-of minus w f;
      proper = record { first = w.small; rest = w.digits; decimals = f.proper };
      text = ap (λ l. 45 ∷ l) (size_text_lem (suc t) w f);
      value = ap (signed true) (size_value (suc t) w f);
    }
