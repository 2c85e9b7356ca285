-- The reading of a job's words, one by one: a refusal and its place, or the job. Assumes nothing.
use Rattle.std.specs.Prelude.{ℕ, suc, cond, List, [], ◌∷◌, eqb, Option, Some, None, Result, Ok, Err}
use Rattle.refusal.specs.declared.Reason.{Reason}
use Rattle.refusal.specs.declared.Reason.TheVariants.{Unended}
use Rattle.refusal.specs.declared.Refusal.{Refusal}
use Rattle.refusal.specs.Reasons.{refusal_at}
use Rattle.job.specs.declared.order.Seen.{Seen}
use Rattle.job.specs.Words.{Word, word_list}
use Rattle.job.specs.Kinds.{kind_of}
use Rattle.job.specs.Grammar.{Job}
use Rattle.job.specs.Order.{last_of, refusal_of, advance, start}
use Rattle.job.specs.Content.{job_of}

-- a refusal at word i
abbrev pub placed : {A : Type 0} → ℕ → Result A Reason → Result A Refusal
placed i (Ok a) = Ok a
placed i (Err r) = Err (refusal_at r i)

-- one of word i ends the reading
unfoldable pub settle : Option Reason → ℕ → Result Seen Refusal → Result Seen Refusal
settle None i later = later
settle (Some r) i later = Err (refusal_at r i)

-- from word i on, after what was seen; without an end word 1 is refused at the word count
unfoldable pub scan_from : Seen → ℕ → List Word → Result Seen Refusal
unfolding settle refusal_of advance kind_of
scan_from s i [] = cond (eqb (last_of s) 15) (Ok s) (Err (refusal_at Unended i))
scan_from s i (w ∷ ws) = settle (refusal_of s w.kind w.payload) i (scan_from (advance s (kind_of w.kind) w.payload) (suc i) ws)

unfoldable pub scanned : List ℕ → Result Seen Refusal
unfolding scan_from
scanned ws = scan_from start 0 (word_list ws)

-- the job in place of what was seen
unfoldable pub reading_of : Result Seen Refusal → Job → Result Job Refusal
reading_of (Err e) j = Err e
reading_of (Ok s) j = Ok j

unfoldable pub reading : List ℕ → Result Job Refusal
unfolding scanned job_of reading_of
reading ws = reading_of (scanned ws) (job_of (word_list ws))
