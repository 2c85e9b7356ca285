-- What `read` answers, and what it leaves in the lists lent to it (document 01, 'Job file and program'). Assumes nothing.
use Rattle.std.specs.Prelude.{ℕ, ◌*◌, ◌/◌, ◌%◌, Bool, ◌&&◌, cond, List, leb, eqb, length, get_or, Float, Result, Ok, Err}
use Rattle.views.specs.View.{entry, overwrite}
use Rattle.refusal.specs.declared.Reason.TheVariants.{Unended, Output}
use Rattle.refusal.specs.declared.Refusal.{Refusal}
use Rattle.refusal.specs.Reasons.{refusal_at}
use Rattle.job_calls.specs.declared.result.Read.{Read}
use Rattle.job.specs.declared.order.Seen.{Seen}
use Rattle.job.specs.Words.{words_of}
use Rattle.job.specs.Grammar.{Job}
use Rattle.job.specs.Content.{shape_words, job_anchors, job_numbers, job_radii}
use Rattle.job.specs.Reading.{reading}

-- a file of whole words is read; else refusal 1, at the number of whole words
unfoldable pub file_read : List ℕ → Result Job Refusal
unfolding words_of reading
file_read bytes = cond (eqb (length bytes % 4) 0) (reading (words_of bytes)) (Err (refusal_at Unended (length bytes / 4)))

-- lists of these lengths have room for so many subpaths and anchors
unfoldable pub room_for : ℕ → ℕ → ℕ → ℕ → ℕ → Bool
room_for m n shapes anchors radii = leb m shapes && (leb (n * 6) anchors && leb n radii)

-- a job for which the lent lists have no room is refused 8
unfoldable pub roomed : Result Job Refusal → ℕ → ℕ → ℕ → Result Job Refusal
unfolding room_for
roomed (Err e) shapes anchors radii = Err e
roomed (Ok j) shapes anchors radii =
    cond (room_for (length j.subpaths) (length (job_anchors j)) shapes anchors radii) (Ok j) (Err (refusal_at Output 0))

unfoldable pub outcome : List ℕ → List ℕ → List Float → List Float → Result Job Refusal
unfolding file_read roomed
outcome bytes shapes anchors radii = roomed (file_read bytes) (length shapes) (length anchors) (length radii)

-- ---- the answer, and the lists afterwards: a refusal leaves every bit
unfoldable pub answer_of : Result Job Refusal → Result Read Refusal
answer_of (Err e) = Err e
answer_of (Ok j) = Ok (record { kind = j.kind; subpaths = length j.subpaths; anchors = length (job_anchors j) })

unfoldable pub shapes_left : Result Job Refusal → List ℕ → List ℕ
shapes_left (Err e) xs = xs
shapes_left (Ok j) xs = overwrite (length j.subpaths) (λ i. get_or (shape_words j) i 0) xs

unfoldable pub anchors_left : Result Job Refusal → List Float → List Float
anchors_left (Err e) xs = xs
anchors_left (Ok j) xs = overwrite (length (job_anchors j) * 6) (entry (job_numbers j)) xs

unfoldable pub radii_left : Result Job Refusal → List Float → List Float
radii_left (Err e) xs = xs
radii_left (Ok j) xs = overwrite (length (job_anchors j)) (entry (job_radii j)) xs

module _ (bytes shapes : List ℕ) (anchors radii : List Float) where
  unfoldable pub answer_read : Result Read Refusal
  unfolding outcome answer_of
  answer_read = answer_of (outcome bytes shapes anchors radii)

  unfoldable pub shapes_read : List ℕ
  unfolding outcome shapes_left
  shapes_read = shapes_left (outcome bytes shapes anchors radii) shapes

  unfoldable pub anchors_read : List Float
  unfolding outcome anchors_left
  anchors_read = anchors_left (outcome bytes shapes anchors radii) anchors

  unfoldable pub radii_read : List Float
  unfolding outcome radii_left
  radii_read = radii_left (outcome bytes shapes anchors radii) radii

-- ---- what was read, handed to the lent lists: `hand_over`
abbrev pub room_in : Seen → List ℕ → List Float → List Float → Bool
room_in s shapes anchors radii = room_for s.subpaths s.anchors (length shapes) (length anchors) (length radii)

unfoldable pub handed_answer : Bool → Seen → Result Read Refusal
handed_answer room s = cond room (Ok (record { kind = s.head; subpaths = s.subpaths; anchors = s.anchors })) (Err (refusal_at Output 0))

-- the first n entries, where there is room
unfoldable pub handed : {A : Type 0} → Bool → ℕ → (ℕ → A) → List A → List A
handed room n f xs = cond room (overwrite n f xs) xs
