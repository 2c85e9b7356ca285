-- A number's text takes at most 11 bytes. Assumes nothing.
use mathlib.Core.Path.{◌≡◌}
use mathlib.Core.Bool.{Bool, true, false, cond}
use mathlib.Core.List.{[], ◌∷◌}
use Prim.Native.Nat.{ℕ, zero, suc, ◌+◌, ◌/◌, ◌%◌, ◌≤◌, suc-le-suc}
use native.Mathlib.Nat.{le_trans}
use native.Mathlib.Omega.{arith}
use lib.Dec.{eqb, lit≤}
use lib.ListN.{length, length-append}
use lib.Ieee.{Float}
use Rattle.real.specs.Limit.{in_limit}
use Rattle.decimal.specs.Rounding.{thousandths_of, sign_of, signed, in_thousandths}
use Rattle.decimal.specs.Text.{whole_text, fraction_text, size_text, thousandths_text, float_text}
use Rattle.decimal.proofs.Values.{limit_thousandths}
use Rattle.decimal.proofs.Digits.{whole_room}

pub fraction_room : (f : ℕ) → length (fraction_text f) ≤ 4
unfolding fraction_text
fraction_room f = go (eqb f 0) (eqb (f % 100) 0) (eqb (f % 10) 0)
  where
    go : (a b c : Bool) → length (cond a [] (cond b (46 ∷ (48 + f / 100) ∷ []) (cond c (46 ∷ (48 + f / 100) ∷ (48 + f / 10 % 10) ∷ []) (46 ∷ (48 + f / 100) ∷ (48 + f / 10 % 10) ∷ (48 + f % 10) ∷ [])))) ≤ 4
    go true b c = lit≤ tt
    go false true c = lit≤ tt
    go false false true = lit≤ tt
    go false false false = lit≤ tt

size_room : (t : ℕ) → t ≤ 131072000 → length (size_text t) ≤ 10
unfolding size_text
size_room t h =
    let w : length (whole_text (t / 1000)) ≤ 6 = whole_room 5 (t / 1000) (omega arith) in
    omega (arith, length-append (whole_text (t / 1000)) (fraction_text (t % 1000)), fraction_room (t % 1000))

pub float-room : (x : Float) → in_limit x ≡ true → length (float_text x) ≤ 11
unfolding float_text in_thousandths thousandths_text
float-room x l = go (thousandths_of x) (sign_of x) (limit_thousandths x l)
  where
    go : (t : ℕ) (s : Bool) → t ≤ 131072000 → length (thousandths_text (signed s t)) ≤ 11
    go t false h = le_trans (size_room t h) (lit≤ tt)
    go zero true h = le_trans (size_room 0 h) (lit≤ tt)
    go (suc t) true h = suc-le-suc (size_room (suc t) h)
