-- The list of calls at the start of the input (docs/EDITS.md): a count, then nine words a call, three of its code and six of its values. Assumes nothing.
use Rattle.std.specs.Prelude.{ℕ, ◌+◌, ◌*◌, ◌/◌, ◌%◌, Bool, ◌&&◌, cond, List, leb, length, Float, Ok, Err, Result}
use Rattle.views.specs.View.{tabulate, overwrite}
use Rattle.job.specs.Words.{word_at}
use Rattle.call_list.specs.Number.{number_of}
use Rattle.refusal.specs.Reasons.{refusal_at}
use Rattle.refusal.specs.declared.Refusal.{Refusal}
use Rattle.refusal.specs.declared.Reason.TheVariants.{Unended}

-- how many calls: word 0
unfoldable pub count_in : List ℕ → ℕ
count_in bytes = word_at bytes 0

-- at most 256, and all their words are there
unfoldable pub list_fits : List ℕ → Bool
list_fits bytes = leb (count_in bytes) 256 && leb (4 + count_in bytes * 36) (length bytes)

-- entry k of the codes, three a call: which (0 move, 1 set radius, 2 split), subpath, index
unfoldable pub code_at : List ℕ → ℕ → ℕ
code_at bytes k = word_at bytes (1 + k / 3 * 9 + k % 3)

-- entry k of the values, six a call
unfoldable pub value_at : List ℕ → ℕ → Float
value_at bytes k = number_of (word_at bytes (4 + k / 6 * 9 + k % 6))

-- ---- the answer, and the lists afterwards: a refusal leaves every bit. Its place is how many whole words there are
unfoldable pub calls_answer : List ℕ → Result ℕ Refusal
calls_answer bytes = cond (list_fits bytes) (Ok (count_in bytes)) (Err (refusal_at Unended (length bytes / 4)))

unfoldable pub codes_left : List ℕ → List ℕ → List ℕ
codes_left bytes codes = cond (list_fits bytes) (overwrite (count_in bytes * 3) (code_at bytes) codes) codes

unfoldable pub values_left : List ℕ → List Float → List Float
values_left bytes values = cond (list_fits bytes) (overwrite (count_in bytes * 6) (value_at bytes) values) values

-- ---- what a list holds
unfoldable pub codes_in : List ℕ → List ℕ
codes_in bytes = tabulate (count_in bytes * 3) (code_at bytes)

unfoldable pub values_in : List ℕ → List Float
values_in bytes = tabulate (count_in bytes * 6) (value_at bytes)
