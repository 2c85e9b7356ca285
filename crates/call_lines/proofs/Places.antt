-- The places that pass a test, and their text, one place more at a time. Assumes nothing.
use mathlib.Core.Path.{◌≡◌, refl, sym, ap, ◌∙◌}
use mathlib.Core.Bool.{Bool, true, false}
use mathlib.Core.List.{List, [], ◌∷◌, ◌++◌, append-nil, append_assoc}
use Prim.Native.Nat.{ℕ, zero, suc, ◌+◌, ◌-◌, ◌<◌}
use native.Mathlib.Nat.{le_refl}
use native.Mathlib.Omega.{arith}
use borrow.Author.Tests.{le-leb, lt-leb, lt-ltb}
use Rattle.cut.specs.declared.subpath.Sub.{Sub}
use Rattle.cut.specs.declared.subpath.Window.{Window}
use Rattle.cut.specs.Near.{near}
use Rattle.decimal.specs.Text.{whole_text}
use Rattle.recutting.specs.Near.{reached_in}
use Rattle.call_lines.specs.Lines.{passing, listed, recut_text}

-- ---- the places that pass
pub passing-none : (p : ℕ → Bool) (n : ℕ) → ((k : ℕ) → k < n → p k ≡ false) → passing p n ≡ []
unfolding passing
passing-none p zero h = refl
passing-none p (suc n) h = rw (passing-none p n (λ k l. h k (omega arith)), h n (le_refl (suc n)))

pub passing-same : (p : ℕ → Bool) (n : ℕ) → p n ≡ false → passing p (suc n) ≡ passing p n
unfolding passing
passing-same p n e = rw e (append-nil (passing p n))

pub passing_more : (p : ℕ → Bool) (n : ℕ) → p n ≡ true → passing p (suc n) ≡ passing p n ++ n ∷ []
unfolding passing
passing_more p n e = rw e

pub listed-append : (a b : List ℕ) → listed (a ++ b) ≡ listed a ++ listed b
unfolding listed
listed-append [] b = refl
listed-append (k ∷ a) b = ap (λ l. (32 ∷ whole_text k) ++ l) (listed-append a b) ∙ sym (append_assoc (32 ∷ whole_text k) (listed a) (listed b))

abbrev recut_word : List ℕ
recut_word = 114 ∷ 101 ∷ 99 ∷ 117 ∷ 116 ∷ []

-- ---- of a subpath, before index j
module _ (sub : Sub) (w : Window) where
  abbrev p : ℕ → Bool
  p = reached_in sub w

  abbrev near_to : ℕ → Bool
  near_to = near w.reach sub.n sub.closed w.at

  pub reached_at : (j : ℕ) → j < sub.n → reached_in sub w (sub.first + j) ≡ near_to j
  unfolding reached_in
  reached_at j l =
      let e : sub.first + j - sub.first ≡ j = omega arith in
      rw (le-leb sub.first (sub.first + j) (omega arith), lt-ltb (sub.first + j) (sub.first + sub.n) (omega arith), e)

  pub reached-before : (k : ℕ) → k < sub.first → reached_in sub w k ≡ false
  unfolding reached_in
  reached-before k l = rw (lt-leb sub.first k l)

  pub recut-none : recut_text (passing p (sub.first + 0)) ≡ recut_text []
  recut-none = let e : sub.first + 0 ≡ sub.first = omega arith in rw (e, passing-none p sub.first reached-before)

  pub recut_skip : (j : ℕ) → j < sub.n → near_to j ≡ false → recut_text (passing p (sub.first + (j + 1))) ≡ recut_text (passing p (sub.first + j))
  recut_skip j l e =
      let x : sub.first + (j + 1) ≡ suc (sub.first + j) = omega arith in
      rw x (ap recut_text (passing-same p (sub.first + j) (reached_at j l ∙ e)))

  pub recut-put : (j : ℕ) → j < sub.n → near_to j ≡ true
      → recut_text (passing p (sub.first + (j + 1))) ≡ (recut_text (passing p (sub.first + j)) ++ 32 ∷ []) ++ whole_text (sub.first + j)
  unfolding recut_text listed
  recut-put j l e =
      let k = sub.first + j in
      let x : sub.first + (j + 1) ≡ suc k = omega arith in
      let more : listed (passing p (suc k)) ≡ listed (passing p k) ++ (32 ∷ whole_text k) =
      ap listed (passing_more p k (reached_at j l ∙ e)) ∙ listed-append (passing p k) (k ∷ []) ∙ ap (λ t. listed (passing p k) ++ t) (append-nil (32 ∷ whole_text k)) in
      rw x (ap (λ t. recut_word ++ t) (more ∙ sym (append_assoc (listed (passing p k)) (32 ∷ []) (whole_text k))))
