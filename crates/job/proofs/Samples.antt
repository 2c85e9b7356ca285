-- The starred job of document 01 and one refusal of each number, by computation. Assumes nothing.
use mathlib.Core.Path.{◌≡◌, refl}
use mathlib.Core.Bool.{true}
use mathlib.Core.List.{List, [], ◌∷◌, ◌++◌}
use mathlib.Core.Option.{none, some}
use Prim.Native.Nat.{ℕ, zero, suc}
use lib.ListN.{replicate}
use lib.Ieee.{Float, binary64, of_bits, of_int, div, round, neg}
use Rattle.job.specs.Number.{number}
use Rattle.job.specs.Grammar.{Anchor, Job, written, anchors_of}
use Rattle.job.specs.Content.{pair, shape_word, numbers_of, radius_of, shape_words, job_numbers, job_radii}
use Rattle.std.proofs.Common.{Ok, Err}
use Rattle.refusal.specs.declared.Reason.{Reason}
use Rattle.refusal.specs.declared.Reason.TheVariants.{Unended, Misplaced, Empty, Full}
use Rattle.refusal.specs.Reasons.{refusal_at}
use Rattle.job.specs.Reading.{reading}

-- ---- the square of 8 mm, radius 2 at its first corner
abbrev square_words : List ℕ
square_words =
    0x0000_0002 ∷ 0x1000_0001 ∷ 0x2000_0000 ∷ 0x3000_0000 ∷ 0x8000_0800 ∷ 0x2000_2000 ∷ 0x3000_0000 ∷ 0x2000_2000 ∷ 0x3000_2000 ∷ 0x2000_0000 ∷ 0x3000_2000
    ∷ 0xF000_0000 ∷ []

abbrev plain : ℕ → ℕ → Anchor
plain x y = record { p = pair x y; into = none; out = none; radius = none }

abbrev square : Job
square =
    record {
      kind = 2;
      subpaths =
          record {
            closed = true;
            anchors = record { p = pair 0 0; into = none; out = none; radius = some 2048 } ∷ plain 8192 0 ∷ plain 8192 8192 ∷ plain 0 8192 ∷ [];
          }
          ∷ [];
    }

square-read : reading square_words ≡ Ok square
unfolding reading
square-read = refl

square-written : written square ≡ square_words
unfolding written
square-written = refl

-- 0.0, 2.0 and 8.0
abbrev f0 : Float
f0 = of_bits binary64 0

abbrev f2 : Float
f2 = of_bits binary64 0x4000_0000_0000_0000

abbrev f8 : Float
f8 = of_bits binary64 0x4020_0000_0000_0000

square_shapes : shape_words square ≡ 0x8000_0004 ∷ []
unfolding shape_word
square_shapes = refl

square-numbers : job_numbers square
    ≡ (f0 ∷ f0 ∷ f0 ∷ f0 ∷ f0 ∷ f0 ∷ []) ++ (f8 ∷ f0 ∷ f8 ∷ f0 ∷ f8 ∷ f0 ∷ []) ++ (f8 ∷ f8 ∷ f8 ∷ f8 ∷ f8 ∷ f8 ∷ []) ++ (f0 ∷ f8 ∷ f0 ∷ f8 ∷ f0 ∷ f8 ∷ [])
unfolding anchors_of numbers_of number of_bits div of_int round neg
square-numbers = refl

square_radii : job_radii square ≡ f2 ∷ f0 ∷ f0 ∷ f0 ∷ []
unfolding anchors_of radius_of number of_bits div of_int round neg
square_radii = refl

-- a payload of 2^28 - 1 is -1/1024, one of 2^27 is -131,072
minus_one : number 0xFFF_FFFF ≡ neg (of_bits binary64 0x3F50_0000_0000_0000)
unfolding number of_bits div of_int round neg
minus_one = refl

lowest : number 0x800_0000 ≡ neg (of_bits binary64 0x4100_0000_0000_0000)
unfolding number of_bits div of_int round neg
lowest = refl

-- ---- refusals, each at its place
abbrev Refuses : List ℕ → Reason → ℕ → Type 0
Refuses ws r place = reading ws ≡ Err (refusal_at r place)

-- 1: no word at all, no end word after the head or within an anchor, a word after the end word
no_word : Refuses [] Unended 0
unfolding reading
no_word = refl

head_alone : Refuses (0 ∷ []) Unended 1
unfolding reading
head_alone = refl

half-anchor : Refuses (0 ∷ 0x1000_0000 ∷ 0x2000_0000 ∷ []) Unended 3
unfolding reading
half-anchor = refl

after-end : Refuses (0 ∷ 0x1000_0000 ∷ 0xF000_0000 ∷ 0xF000_0000 ∷ []) Unended 3
unfolding reading
after-end = refl

-- 2: the end word first, a second head, a payload that is not listed, no such kind, the radius before a handle, a handle's y without its x
end_first : Refuses (0xF000_0000 ∷ []) Misplaced 0
unfolding reading
end_first = refl

second_head : Refuses (0 ∷ 0 ∷ []) Misplaced 1
unfolding reading
second_head = refl

head_of_3 : Refuses (3 ∷ []) Misplaced 0
unfolding reading
head_of_3 = refl

kind_9 : Refuses (0 ∷ 0x1000_0000 ∷ 0x9000_0000 ∷ []) Misplaced 2
unfolding reading
kind_9 = refl

radius_first : Refuses (0 ∷ 0x1000_0000 ∷ 0x2000_0000 ∷ 0x3000_0000 ∷ 0x8000_0000 ∷ 0x4000_0000 ∷ []) Misplaced 5
unfolding reading
radius_first = refl

y_alone : Refuses (0 ∷ 0x1000_0000 ∷ 0x2000_0000 ∷ 0x3000_0000 ∷ 0x5000_0000 ∷ []) Misplaced 4
unfolding reading
y_alone = refl

-- 3: the end word without a subpath; its payload comes first
no_subpath : Refuses (0 ∷ 0xF000_0000 ∷ []) Empty 1
unfolding reading
no_subpath = refl

end-of_1 : Refuses (0 ∷ 0xF000_0001 ∷ []) Misplaced 1
unfolding reading
end-of_1 = refl

-- 4: subpath 33, a bad payload there, anchor 513 at its kind-2 word
subpath_33 : Refuses (0 ∷ replicate 33 0x1000_0000 ++ 0xF000_0000 ∷ []) Full 33
unfolding reading
subpath_33 = refl

subpath_33_of_2 : Refuses (0 ∷ replicate 32 0x1000_0000 ++ 0x1000_0002 ∷ []) Misplaced 33
unfolding reading
subpath_33_of_2 = refl

abbrev anchor_words : ℕ → List ℕ
anchor_words zero = []
anchor_words (suc n) = 0x2000_0000 ∷ 0x3000_0000 ∷ anchor_words n

anchor_513 : Refuses (0 ∷ 0x1000_0000 ∷ anchor_words 513) Full 1026
unfolding reading
anchor_513 = refl
