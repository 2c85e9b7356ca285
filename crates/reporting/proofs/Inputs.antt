-- What is printed for an input, by what its list of calls is read as. Assumes nothing.
use mathlib.Core.Path.{◌≡◌}
use mathlib.Core.List.{List}
use Prim.Native.Nat.{ℕ, ◌+◌, ◌-◌, ◌*◌}
use native.Mathlib.Omega.{arith}
use lib.ListN.{length, take, drop, length-drop}
use lib.Seq.{take_all}
use Rattle.std.proofs.Common.{Ok, Err}
use Rattle.refusal.specs.declared.Refusal.{Refusal}
use Rattle.replay.specs.Encoding.{calls_of, calls_known}
use Rattle.call_list.specs.Input.{calls_answer, codes_in, values_in}
use Rattle.reporting.specs.Report.{refusing, job_report, calls_report, reported}

-- the rest of a list, as it is lent
pub rest : (n : ℕ) (l : List ℕ) → take (length l - n) (drop n l) ≡ drop n l
rest n l = take_all (length l - n) (drop n l) (omega (arith, length-drop n l))

-- ---- what is printed
pub report-refused : (bytes : List ℕ) (why : Refusal) → calls_answer bytes ≡ Err why → refusing why ≡ reported bytes
unfolding reported calls_report
report-refused bytes why e = rw e

pub report_calls : (bytes : List ℕ) (m : ℕ) → calls_answer bytes ≡ Ok m
    → job_report (calls_known (codes_in bytes)) (calls_of (codes_in bytes) (values_in bytes)) (drop (4 + m * 36) bytes) ≡ reported bytes
unfolding reported calls_report
report_calls bytes m e = rw e
