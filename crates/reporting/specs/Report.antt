-- What `edits` prints (docs/EDITS.md): a line for each call, then the text of the drawing as the calls leave it; or one refusal. Of the cache nothing is said:
-- all follows from the job and the calls. Assumes nothing.
use Rattle.std.specs.Prelude.{ℕ, ◌+◌, ◌*◌, ◌≤◌, Bool, cond, List, [], ◌∷◌, ◌++◌, leb, length, drop, Float, Result, Ok, Err}
use Rattle.views.specs.View.{entry}
use Rattle.refusal.specs.declared.Refusal.{Refusal}
use Rattle.refusal.specs.declared.Reason.TheVariants.{Unended, Arguments, Made}
use Rattle.refusal.specs.Reasons.{number_of, refusal_at}
use Rattle.refusal.specs.Order.{Test, passes, fails}
use Rattle.path.specs.Shape.{total}
use Rattle.path.specs.Flat.{anchor_at}
use Rattle.call.specs.Tests.{places}
use Rattle.cache.specs.Cache.{cached_in}
use Rattle.job.specs.Grammar.{Job}
use Rattle.job.specs.Content.{shape_words, job_numbers, job_radii}
use Rattle.job_calls.specs.Call.{file_read}
use Rattle.replay.specs.Encoding.{calls_of, calls_known}
use Rattle.session.specs.declared.answers.Edited.{Edited}
use Rattle.session.specs.Drawing.{Drawing}
use Rattle.session.specs.Edits.{Call, Edit, edit_of, places_of}
use Rattle.session.specs.Model.{Lengths, Fed, model_answer, model_next, model_after}
use Rattle.session.specs.Outline.{plain_text}
use Rattle.printing.specs.Refused.{refused_text}
use Rattle.printing.specs.Printed.{fitted}
use Rattle.call_list.specs.Input.{calls_answer, codes_in, values_in}
use Rattle.call_lines.specs.Lines.{passing, recut_text}
use Rattle.reporting.specs.declared.reports.Reported.{Reported}

-- the calls' lines, and the last line less its newline
pub record Report : Type 0 where
  pub lines : List ℕ
  pub text : List ℕ

-- how many bytes of each stand in the lists that they are put in: 256 lines of 42 bytes at most
pub record Fitting (r : Reported) : Type 0 where
  pub lines : r.lines ≤ 10752
  pub text : r.text ≤ 65536

abbrev pub report_of : List ℕ → List ℕ → Report
report_of lines text = record { lines = lines; text = text }

abbrev pub refusing : Refusal → Report
refusing why = report_of [] (refused_text (number_of why.reason) why.place)

-- ---- the line of a call: its refusal, or the places that its edit recuts, of all that there then are
unfoldable pub edited_text : Result Edited Refusal → Edit → List ℕ
edited_text (Err why) e = refused_text (number_of why.reason) why.place
edited_text (Ok x) e = recut_text (passing e.recuts x.anchors)

unfoldable pub edited_line : Result Edited Refusal → Edit → List ℕ
edited_line a e = edited_text a e ++ 10 ∷ []

-- ---- calls, from a drawing on
unfoldable pub model_lines : Drawing → List Fed → List ℕ
model_lines m [] = []
model_lines m (f ∷ fs) = edited_line (model_answer m f.lengths f.call) (edit_of m f.call) ++ model_lines (model_next m f.lengths f.call) fs

-- on lists with room for 512 anchors
abbrev pub roomy : Lengths
roomy = record { anchors = 3072; radii = 512; numbers = 6144; flags = 512 }

unfoldable pub fed_all : Lengths → List Call → List Fed
fed_all n [] = []
fed_all n (c ∷ cs) = record { call = c; lengths = n } ∷ fed_all n cs

-- unless the drawing's own cut breaks the limit
unfoldable pub ran_report : Test → Drawing → List Fed → Report
ran_report passes d fs = report_of (model_lines d fs) (fitted (plain_text (model_after d fs)))
ran_report (fails k) d fs = refusing (refusal_at Made k)

-- or a call is none of the three
unfoldable pub drawing_report : Bool → List Call → Drawing → Report
drawing_report known calls d =
    cond known (ran_report (places (cached_in (places_of d)) (total d.shapes) passes) d (fed_all roomy calls)) (refusing (refusal_at Arguments (total d.shapes)))

-- ---- on a job
abbrev pub drawing : List ℕ → List Float → List Float → ℕ → Drawing
drawing shapes anchors radii kind = record { shapes = shapes; kind = kind; anchor = anchor_at anchors; radius = entry radii }

abbrev pub job_drawing : Job → Drawing
job_drawing j = drawing (shape_words j) (job_numbers j) (job_radii j) j.kind

unfoldable pub read_report : Bool → List Call → Result Job Refusal → Report
read_report known calls (Err why) = refusing why
read_report known calls (Ok j) = drawing_report known calls (job_drawing j)

-- a job file of at most 32,768 bytes
unfoldable pub job_report : Bool → List Call → List ℕ → Report
job_report known calls bytes = cond (leb (length bytes) 32768) (read_report known calls (file_read bytes)) (refusing (refusal_at Unended 8192))

-- ---- on an input: the calls, then the job
unfoldable pub calls_report : Result ℕ Refusal → List ℕ → Report
calls_report (Err why) bytes = refusing why
calls_report (Ok m) bytes = job_report (calls_known (codes_in bytes)) (calls_of (codes_in bytes) (values_in bytes)) (drop (4 + m * 36) bytes)

unfoldable pub reported : List ℕ → Report
reported bytes = calls_report (calls_answer bytes) bytes
