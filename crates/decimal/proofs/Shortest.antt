-- No decimal numeral of the value has fewer bytes than the text that is written, and "-0" is never written. Assumes nothing.
use mathlib.Core.Path.{◌≡◌, refl, sym, ap, ◌∙◌, subst}
use mathlib.Core.Logic.{⊎_elim}
use mathlib.Core.Bool.{Bool, true, false}
use mathlib.Core.List.{List, [], ◌∷◌, ◌++◌}
use Prim.Native.Nat.{ℕ, zero, suc, ◌+◌, ◌*◌, ◌/◌, ◌%◌, ◌^◌, ◌≤◌, ◌<◌}
use native.Mathlib.Nat.{pow-suc, mul-le-mul_left, mul-le-mul_right, le_of_mul-le-mul_right, mul-add-mod_self_right, mul-mod_left}
use native.Mathlib.Omega.{arith}
use lib.ListN.{length, length-append}
use lib.IntN.{ℤ, pos, negsuc, nat_abs}
use Rattle.views.proofs.Laws.{order, same}
use Rattle.decimal.specs.Rounding.{signed}
use Rattle.decimal.specs.Text.{whole_text, fraction_text, size_text, thousandths_text}
use Rattle.decimal.specs.Value.{Same, thousandths}
use Rattle.decimal.specs.Numeral.{Sign, bare, plus, minus, Numeral, Digits, none, more, Proper, sign_text, digits_text, point_text, numeral_text, digits_after, is_minus, numeral_value}
use Rattle.decimal.proofs.Digits.{whole_room, none_left, one_left, two_left}
use Rattle.decimal.proofs.Room.{fraction_room}
use Rattle.decimal.proofs.Numerals.{written}

-- ---- digits and their number
pub ten_pos : (k : ℕ) → 0 < 10 ^ k
ten_pos zero = omega arith
ten_pos (suc k) = let h : 0 < 10 ^ k = ten_pos k in omega (arith, pow-suc 10 k)

low_step : (n d p v : ℕ) → (n * 10 + d) * p ≤ v → n * (p * 10) ≤ v
low_step n d p v h = omega arith

high_step : (n d p v : ℕ) → d < 10 → v < (n * 10 + d + 1) * p → v < (n + 1) * (p * 10)
high_step n d p v h l = let m : suc d * p ≤ 10 * p = mul-le-mul_right p h in omega arith

after_low : (n : ℕ) {ds : List ℕ} → Digits ds → n * 10 ^ length ds ≤ digits_after n ds
after_low n none = omega arith
after_low n (more {d = d} {ds = ds} h r) =
    subst (λ k. n * k ≤ digits_after (n * 10 + d) ds) (sym (pow-suc 10 (length ds))) (low_step n d (10 ^ length ds) (digits_after (n * 10 + d) ds) (after_low (n * 10 + d) r))

after_high : (n : ℕ) {ds : List ℕ} → Digits ds → digits_after n ds < (n + 1) * 10 ^ length ds
after_high n none = omega arith
after_high n (more {d = d} {ds = ds} h r) =
    subst (λ k. digits_after (n * 10 + d) ds < (n + 1) * k) (sym (pow-suc 10 (length ds))) (high_step n d (10 ^ length ds) (digits_after (n * 10 + d) ds) h (after_high (n * 10 + d) r))

digits-length : (ds : List ℕ) → length (digits_text ds) ≡ length ds
digits-length [] = refl
digits-length (d ∷ ds) = ap suc (digits-length ds)

-- ---- the decimals that t thousandths need, by how many the numeral has
hundreds : (n f q : ℕ) → n * 100 ≡ q * 1000 + f → f % 100 ≡ 0
hundreds n f q e =
    let g : q * 10 * 100 + f ≡ n * 100 = omega arith in
    sym (mul-add-mod_self_right (q * 10) 100 f) ∙ ap (λ k. k % 100) g ∙ mul-mod_left n 100

tens : (n f q : ℕ) → n * 10 ≡ q * 1000 + f → f % 10 ≡ 0
tens n f q e =
    let g : q * 100 * 10 + f ≡ n * 10 = omega arith in
    sym (mul-add-mod_self_right (q * 100) 10 f) ∙ ap (λ k. k % 10) g ∙ mul-mod_left n 10

few : (f n t : ℕ) (ds : List ℕ) → f ≡ t % 1000 → n * 1000 ≡ t * 10 ^ length ds → length (fraction_text f) ≤ length (point_text ds)
few f n t [] F e = rw (none_left f (omega arith)) (omega arith)
few f n t (a ∷ []) F e =
    let h : f % 100 ≡ 0 = hundreds n f (t / 1000) (omega arith) in
    ⊎_elim (λ z. rw (none_left f z) (omega arith)) (λ z. rw (one_left f z h) (omega arith)) (same f 0)
few f n t (a ∷ b ∷ []) F e =
    let h : f % 10 ≡ 0 = tens n f (t / 1000) (omega arith) in
    ⊎_elim (λ z. rw (none_left f z) (omega arith))
    (λ z. ⊎_elim (λ y. rw (one_left f z y) (omega arith)) (λ y. rw (two_left f z y h) (omega arith)) (same (f % 100) 0))
    (same f 0)
few f n t (a ∷ b ∷ c ∷ ds) F e = omega (arith, fraction_room f)

-- the whole part is the numeral's own
quotient : (a n t p : ℕ) → 0 < p → a * p ≤ n → n < (a + 1) * p → n * 1000 ≡ t * p → t / 1000 ≡ a
quotient a n t p P l h e =
    let u : a * 1000 ≤ t = le_of_mul-le-mul_right {k = p} (omega arith) P in
    let v : t < a * 1000 + 1000 = ⊎_elim (λ g. absurd (let w : (a * 1000 + 1000) * p ≤ t * p = mul-le-mul_right p g in omega arith)) (λ g. g) (order (a * 1000 + 1000) t) in
    omega arith

module _ (w : Numeral) (p : Proper w) (t : ℕ) (e : digits_after (digits_after w.first w.rest) w.decimals * 10 ^ 0 * 10 ^ 3 ≡ t * 10 ^ 0 * 10 ^ length w.decimals) where
  shorter : length (size_text t) ≤ length ((48 + w.first) ∷ (digits_text w.rest ++ point_text w.decimals))
  unfolding size_text
  shorter =
      let whole = digits_after w.first w.rest in
      let n = digits_after whole w.decimals in
      let d : n * 1000 ≡ t * 10 ^ length w.decimals = omega arith in
      let q : t / 1000 ≡ whole = quotient whole n t (10 ^ length w.decimals) (ten_pos (length w.decimals)) (after_low whole p.decimals) (after_high whole p.decimals) d in
      let b : whole < (w.first + 1) * 10 ^ length w.rest = after_high w.first p.rest in
      let m : suc w.first * 10 ^ length w.rest ≤ 10 * 10 ^ length w.rest = mul-le-mul_right (10 ^ length w.rest) p.first in
      let s : length (whole_text whole) ≤ suc (length w.rest) = whole_room (length w.rest) whole (omega (arith, pow-suc 10 (length w.rest))) in
      let r : length (whole_text (t / 1000)) ≤ suc (length w.rest) = subst (λ k. length (whole_text k) ≤ suc (length w.rest)) (sym q) s in
      let f : length (fraction_text (t % 1000)) ≤ length (point_text w.decimals) = few (t % 1000) n t w.decimals refl d in
      omega (arith, length-append (whole_text (t / 1000)) (fraction_text (t % 1000)), length-append (digits_text w.rest) (point_text w.decimals), digits-length w.rest)

-- ---- signs
magnitude : (s : Bool) (n : ℕ) → nat_abs (signed s n) ≡ n
magnitude true zero = refl
magnitude true (suc n) = refl
magnitude false n = refl

same_size : (s r : Bool) (a b : ℕ) → signed s a ≡ signed r b → a ≡ b
same_size s r a b e = sym (magnitude s a) ∙ ap nat_abs e ∙ magnitude r b

same_sign : (s : Bool) (a b : ℕ) → 0 < b → signed s a ≡ signed true b → s ≡ true
same_sign true a b h e = refl
same_sign false a zero h e = absurd (omega arith)
same_sign false a (suc b) h e = absurd (let z : ◌≡◌ {A = ℕ} 0 1 = cc in omega arith)

minus_only : (s : Sign) → is_minus s ≡ true → length (sign_text s) ≡ 1
minus_only bare e = absurd (let z : ◌≡◌ {A = ℕ} 0 1 = cc in omega arith)
minus_only plus e = absurd (let z : ◌≡◌ {A = ℕ} 0 1 = cc in omega arith)
minus_only minus e = refl

some_size : (t k : ℕ) → 0 < suc t * 10 ^ 0 * 10 ^ k
some_size t k = let h : suc t * 1 ≤ suc t * 10 ^ k = mul-le-mul_left (suc t) (ten_pos k) in omega arith

-- ---- the theorem
pub shortest : (z : ℤ) (w : Numeral) → Proper w → Same (numeral_value w) (thousandths z) → length (thousandths_text z) ≤ length (numeral_text w)
unfolding thousandths_text
shortest (pos t) w p e =
    omega (arith, shorter w p t (same_size (is_minus w.sign) false _ _ e), length-append (sign_text w.sign) ((48 + w.first) ∷ (digits_text w.rest ++ point_text w.decimals)))
shortest (negsuc t) w p e =
    let n = digits_after (digits_after w.first w.rest) w.decimals in
    let b = suc t * 10 ^ 0 * 10 ^ length w.decimals in
    omega (
      arith,
      shorter w p (suc t) (same_size (is_minus w.sign) true (n * 10 ^ 0 * 10 ^ 3) b e),
      minus_only w.sign (same_sign (is_minus w.sign) (n * 10 ^ 0 * 10 ^ 3) b (some_size t (length w.decimals)) e),
      length-append (sign_text w.sign) ((48 + w.first) ∷ (digits_text w.rest ++ point_text w.decimals)),
    )

-- ---- "-0" is no number's text
differ : {a b : ℕ} {cs bs : List ℕ} → (a ≡ b → ⊥) → ◌≡◌ {A = List ℕ} (a ∷ cs) (b ∷ bs) → ⊥
differ {a} {b} n e = n (let z : a ≡ b = cc in z)

only : (a : ℕ) (cs bs : List ℕ) → ◌≡◌ {A = List ℕ} ((48 + a) ∷ (digits_text cs ++ point_text bs)) (48 ∷ []) → digits_after (digits_after a cs) bs ≡ 0
only a [] [] e = let z : 48 + a ≡ 48 = cc in omega arith
only a [] (b ∷ bs) e = let z : ◌≡◌ {A = ℕ} 0 1 = cc in omega arith
only a (b ∷ cs) bs e = let z : ◌≡◌ {A = ℕ} 0 1 = cc in omega arith

zero-numeral : (w : Numeral) → numeral_text w ≡ 45 ∷ 48 ∷ [] → digits_after (digits_after w.first w.rest) w.decimals ≡ 0
zero-numeral w e = go w.sign e
  where
    go : (s : Sign) → sign_text s ++ ((48 + w.first) ∷ (digits_text w.rest ++ point_text w.decimals)) ≡ 45 ∷ 48 ∷ [] → digits_after (digits_after w.first w.rest) w.decimals ≡ 0
    go bare e = absurd (differ (λ f. omega arith) e)
    go plus e = absurd (differ (λ f. omega arith) e)
    go minus e = only w.first w.rest w.decimals (let z : ◌≡◌ {A = List ℕ} ((48 + w.first) ∷ (digits_text w.rest ++ point_text w.decimals)) (48 ∷ []) = cc in z)

not-zero : (w : Numeral) (t : ℕ) → digits_after (digits_after w.first w.rest) w.decimals * 10 ^ 0 * 10 ^ 3 ≡ suc t * 10 ^ 0 * 10 ^ length w.decimals → numeral_text w ≡ 45 ∷ 48 ∷ [] → ⊥
not-zero w t v e = omega (arith, some_size t (length w.decimals), zero-numeral w e)

pub never_minus-zero : (z : ℤ) → thousandths_text z ≡ 45 ∷ 48 ∷ [] → ⊥
unfolding thousandths_text size_text
never_minus-zero (pos zero) e = differ (λ f. omega arith) e
never_minus-zero (pos (suc t)) e =
    let w = written (pos (suc t)) in
    not-zero w.numeral t (same_size (is_minus w.numeral.sign) false _ _ w.value) (w.text ∙ e)
never_minus-zero (negsuc t) e =
    let w = written (negsuc t) in
    not-zero w.numeral t (same_size (is_minus w.numeral.sign) true _ _ w.value) (w.text ∙ e)
