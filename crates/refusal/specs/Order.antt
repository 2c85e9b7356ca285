-- Document 01's refusals of the calls on outlines, the one order in which every call tests for them, and what it then answers. Assumes nothing.
use Rattle.std.specs.Prelude.{ℕ, Bool, cond, List, [], ◌∷◌, Result, Ok, Err}
use Rattle.refusal.specs.declared.Reason.{Reason}
use Rattle.refusal.specs.declared.Reason.TheVariants.{Arguments, Reference, Lists, Output, Made, Capacity}
use Rattle.refusal.specs.declared.Refusal.{Refusal}
use Rattle.refusal.specs.Reasons.{refusal_at}

-- document 01: 'Order: 7, 5, 6, 10, 9, 8'
abbrev pub order : List Reason
order = Lists ∷ Arguments ∷ Reference ∷ Capacity ∷ Made ∷ Output ∷ []

-- a test passes, or fails at a place
pub data Test : Type 0 where
  passes : Test
  fails : ℕ → Test

-- a call is accepted or refused
pub data Verdict : Type 0 where
  accepted : Verdict
  refused : Refusal → Verdict

-- a test by a Bool, whose failure is reported at a place
unfoldable pub holds : Bool → ℕ → Test
holds b place = cond b passes (fails place)

unfoldable pub judge : Test → Reason → Verdict → Verdict
judge passes reason later = later
judge (fails place) reason later = refused (refusal_at reason place)

-- the first reason whose test fails refuses
unfoldable pub first_failing : List Reason → (Reason → Test) → Verdict
first_failing [] test = accepted
first_failing (r ∷ rs) test = judge (test r) r (first_failing rs test)

-- what a call's tests come to
unfoldable pub verdict : (Reason → Test) → Verdict
verdict test = first_failing order test

-- six tests, one for each reason of the order: the lists' lengths, the numbers that are given, what a reference points to, the anchors of
-- the result, its numbers, the room for it; the other reasons are a job's
unfoldable pub tests : Test → Test → Test → Test → Test → Test → Reason → Test
tests l a r c m o Lists = l
tests l a r c m o Arguments = a
tests l a r c m o Reference = r
tests l a r c m o Capacity = c
tests l a r c m o Made = m
tests l a r c m o Output = o
tests l a r c m o _ = passes

-- what a call answers that gives x where it is accepted
unfoldable pub answering : {A : Type 0} → Verdict → A → Result A Refusal
answering accepted x = Ok x
answering (refused why) x = Err why
