-- The numbers of document 01's refusals, and a refusal as a record. Assumes nothing.
use Rattle.std.specs.Prelude.{ℕ}
use Rattle.refusal.specs.declared.Reason.{Reason}
use Rattle.refusal.specs.declared.Reason.TheVariants.{Unended, Misplaced, Empty, Full, Arguments, Reference, Lists, Output, Made, Capacity}
use Rattle.refusal.specs.declared.Refusal.{Refusal}

-- document 01's number of a refusal
abbrev pub number_of : Reason → ℕ
number_of Unended = 1
number_of Misplaced = 2
number_of Empty = 3
number_of Full = 4
number_of Arguments = 5
number_of Reference = 6
number_of Lists = 7
number_of Output = 8
number_of Made = 9
number_of Capacity = 10

abbrev pub refusal_at : Reason → ℕ → Refusal
refusal_at r k = record { reason = r; place = k }
