-- The call at some files: a length that is no multiple of 4, before any bad word; a list too short for the result. Assumes nothing.
use mathlib.Core.Path.{◌≡◌, refl}
use mathlib.Core.List.{List, [], ◌∷◌}
use Prim.Native.Nat.{ℕ}
use lib.Ieee.{Float}
use Rattle.views.specs.View.{tabulate, overwrite}
use Rattle.job.specs.Words.{words_of}
use Rattle.job.specs.Grammar.{anchors_of}
use Rattle.job.specs.Content.{shape_word}
use Rattle.std.proofs.Common.{Ok, Err}
use Rattle.refusal.specs.declared.Reason.TheVariants.{Unended, Output}
use Rattle.refusal.specs.Reasons.{refusal_at}
use Rattle.job_calls.specs.Call.{answer_read, shapes_read}

bytes_5 : (shapes : List ℕ) (anchors radii : List Float) → answer_read (9 ∷ 9 ∷ 9 ∷ 9 ∷ 9 ∷ []) shapes anchors radii ≡ Err (refusal_at Unended 1)
unfolding answer_read
bytes_5 shapes anchors radii = refl

-- an open subpath without an anchor
abbrev empty_job : List ℕ
empty_job = 1 ∷ 0 ∷ 0 ∷ 0 ∷ 0 ∷ 0 ∷ 0 ∷ 16 ∷ 0 ∷ 0 ∷ 0 ∷ 240 ∷ []

empty-read : answer_read empty_job (7 ∷ 7 ∷ []) [] [] ≡ Ok (record { kind = 1; subpaths = 1; anchors = 0 })
unfolding answer_read words_of tabulate anchors_of
empty-read = refl

empty_shapes : shapes_read empty_job (7 ∷ 7 ∷ []) [] [] ≡ 0 ∷ 7 ∷ []
unfolding shapes_read words_of tabulate overwrite shape_word anchors_of
empty_shapes = refl

no_room : answer_read empty_job [] [] [] ≡ Err (refusal_at Output 0)
unfolding answer_read words_of tabulate anchors_of
no_room = refl
