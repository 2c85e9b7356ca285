-- What `patch` prints for a job, less the newline (document 01, 'Job file and program'). Assumes nothing.
use Rattle.std.specs.Prelude.{ℕ, cond, List, leb, length, Float, Result, Ok, Err}
use Rattle.views.specs.View.{tabulate}
use Rattle.refusal.specs.declared.Refusal.{Refusal}
use Rattle.refusal.specs.Reasons.{number_of}
use Rattle.refusal.specs.Order.{Test, passes, fails}
use Rattle.path.specs.Shape.{total}
use Rattle.path.specs.Flat.{nth}
use Rattle.call.specs.Tests.{places}
use Rattle.svg.specs.Path.{text_of}
use Rattle.corner.specs.Kinds.{kind_of}
use Rattle.cut_corners.specs.Calls.{cut_outline, cut_words}
use Rattle.cache.specs.Cache.{cached_in}
use Rattle.cache.specs.Calls.{cut_places}
use Rattle.job.specs.Grammar.{Job}
use Rattle.job.specs.Content.{shape_words, job_numbers, job_radii}
use Rattle.job_calls.specs.Call.{file_read}
use Rattle.printing.specs.Refused.{refused_text}

-- a text that is longer than the buffer is refused
unfoldable pub fitted : List ℕ → List ℕ
fitted text = cond (leb (length text) 65536) text (refused_text 8 0)

-- a text, unless a place of the cache breaks the limit
unfoldable pub unless_bad : Test → List ℕ → List ℕ
unless_bad passes text = text
unless_bad (fails k) text = refused_text 9 k

-- of a drawing: the text of its plain cut
unfoldable pub cut_text : List ℕ → List Float → List Float → ℕ → List ℕ
cut_text shapes anchors radii kind = let k = kind_of kind in text_of (tabulate (length shapes) (cut_words shapes anchors radii k)) (nth (cut_outline shapes anchors radii k))

unfoldable pub drawing_text : List ℕ → List Float → List Float → ℕ → List ℕ
drawing_text shapes anchors radii kind =
    unless_bad (places (cached_in (cut_places shapes anchors radii (kind_of kind))) (total shapes) passes) (fitted (cut_text shapes anchors radii kind))

-- of what is read of a file
unfoldable pub read_text : Result Job Refusal → List ℕ
read_text (Err e) = refused_text (number_of e.reason) e.place
read_text (Ok j) = drawing_text (shape_words j) (job_numbers j) (job_radii j) j.kind

-- of a job file of at most 32,768 bytes
unfoldable pub printed : List ℕ → List ℕ
printed bytes = cond (leb (length bytes) 32768) (read_text (file_read bytes)) (refused_text 1 8192)
