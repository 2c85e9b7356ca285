-- A list of one call, and lists that are refused, by computation. Assumes nothing.
use mathlib.Core.Path.{◌≡◌, refl}
use mathlib.Core.List.{List, [], ◌∷◌, ◌++◌}
use Prim.Native.Nat.{ℕ}
use lib.ListN.{replicate}
use lib.Ieee.{binary64, of_bits, of_int, div, round, neg}
use Rattle.std.proofs.Common.{Ok, Err}
use Rattle.views.specs.View.{overwrite}
use Rattle.job.specs.Words.{word_at}
use Rattle.call_list.specs.Number.{number_of}
use Rattle.call_list.specs.Input.{count_in, list_fits, code_at, value_at, calls_answer, codes_left}
use Rattle.refusal.specs.Reasons.{refusal_at}
use Rattle.refusal.specs.declared.Reason.TheVariants.{Unended}

-- ---- one call: the radius of anchor 3 of subpath 0 set to -1/1024, then the job's first byte
abbrev one : List ℕ
one = (1 ∷ 0 ∷ 0 ∷ 0 ∷ []) ++ (1 ∷ 0 ∷ 0 ∷ 0 ∷ []) ++ (0 ∷ 0 ∷ 0 ∷ 0 ∷ []) ++ (3 ∷ 0 ∷ 0 ∷ 0 ∷ []) ++ (255 ∷ 255 ∷ 255 ∷ 255 ∷ []) ++ replicate 21 0

one_answer : calls_answer one ≡ Ok 1
unfolding calls_answer list_fits count_in word_at
one_answer = refl

one_codes : codes_left one (9 ∷ 9 ∷ 9 ∷ 9 ∷ []) ≡ 1 ∷ 0 ∷ 3 ∷ 9 ∷ []
unfolding codes_left list_fits count_in code_at word_at overwrite
one_codes = refl

one_value : value_at one 0 ≡ neg (of_bits binary64 0x3F50_0000_0000_0000)
unfolding value_at word_at number_of of_bits div of_int round neg
one_value = refl

-- without the last of the call's bytes, and of more calls than may be
one_short : calls_answer (1 ∷ 0 ∷ 0 ∷ 0 ∷ replicate 35 0) ≡ Err (refusal_at Unended 9)
unfolding calls_answer list_fits count_in word_at
one_short = refl

too_many : calls_answer (1 ∷ 1 ∷ 0 ∷ 0 ∷ []) ≡ Err (refusal_at Unended 1)
unfolding calls_answer list_fits count_in word_at
too_many = refl

-- the lowest number
lowest : number_of 0x8000_0000 ≡ neg (of_bits binary64 0x4140_0000_0000_0000)
unfolding number_of of_bits div of_int round neg
lowest = refl
