-- How long the text of a refusal can be. Assumes nothing.
use mathlib.Core.List.{[], ◌∷◌, ◌++◌}
use Prim.Native.Nat.{ℕ, ◌^◌, ◌≤◌, ◌<◌}
use native.Mathlib.Omega.{arith}
use lib.ListN.{length, length-append}
use Rattle.decimal.specs.Text.{whole_text}
use Rattle.decimal.proofs.Digits.{whole_room}
use Rattle.refusal.specs.declared.Reason.{Reason}
use Rattle.refusal.specs.declared.Reason.TheVariants.{Unended, Misplaced, Empty, Full, Arguments, Reference, Lists, Output, Made, Capacity}
use Rattle.refusal.specs.declared.Refusal.{Refusal}
use Rattle.refusal.specs.Reasons.{number_of}
use Rattle.printing.specs.Refused.{refused_text}

pub refused-room : (n place : ℕ) → n < 2 ^ 32 → place < 2 ^ 64 → length (refused_text n place) ≤ 39
unfolding refused_text
refused-room n place h l =
    let a : length (whole_text n) ≤ 10 = whole_room 9 n (omega arith) in
    let b : length (whole_text place) ≤ 20 = whole_room 19 place (omega arith) in
    omega (arith, length-append (whole_text n ++ 32 ∷ []) (whole_text place), length-append (whole_text n) (32 ∷ []))

-- of a refusal, by its number
few_number : (r : Reason) → number_of r < 2 ^ 32
few_number Unended = omega arith
few_number Misplaced = omega arith
few_number Empty = omega arith
few_number Full = omega arith
few_number Arguments = omega arith
few_number Reference = omega arith
few_number Lists = omega arith
few_number Output = omega arith
few_number Made = omega arith
few_number Capacity = omega arith

pub refusal_room : (why : Refusal) → why.place < 2 ^ 64 → length (refused_text (number_of why.reason) why.place) ≤ 39
refusal_room why l = refused-room (number_of why.reason) why.place (few_number why.reason) l
