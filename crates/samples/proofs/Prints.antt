-- What `patch` prints for document 01's job, by its head: the job read, its cut put together, and the text of that. Assumes nothing.
use mathlib.Core.Path.{◌≡◌, refl, ap, ◌∙◌}
use mathlib.Core.Bool.{Bool, true}
use mathlib.Core.List.{List, [], ◌∷◌}
use mathlib.Core.Option.{none, some}
use Prim.Native.Nat.{ℕ}
use lib.Dec.{leb}
use lib.ListN.{length}
use lib.Ieee.{of_bits, of_int, div, round, neg, eq}
use Rattle.views.specs.View.{tabulate}
use Rattle.views.specs.Search.{all, first_false}
use Rattle.real.specs.Limit.{in_limit}
use Rattle.real.specs.Operators.{0f, 2f}
use Rattle.refusal.specs.Order.{passes}
use Rattle.geom.specs.declared.point.P.{P}
use Rattle.geom.specs.Point.{point, same}
use Rattle.cubic.specs.Sample.{straight}
use Rattle.path.specs.declared.anchor.Anchor as path
use Rattle.path.specs.Anchor.{without_handles}
use Rattle.path.specs.Flat.{numbers, nth}
use Rattle.path.specs.Shape.{word_of, sub_of}
use Rattle.call.specs.Tests.{places}
use Rattle.corner.specs.declared.kind.CornerKind.{CornerKind}
use Rattle.corner.specs.declared.kind.CornerKind.TheVariants.{Round, Inverted, Chamfer}
use Rattle.cut.specs.declared.places.Place.{Place}
use Rattle.cut.specs.Subpath.{view_of}
use Rattle.cut.specs.Places.{place_at, place_numbers}
use Rattle.cut.specs.Outline.{joined, anchors_at, held_back, assembled, cut_corners}
use Rattle.std.proofs.Common.{Some, Ok}
use Rattle.corner.specs.Kinds.{kind_of}
use Rattle.cut_calls.specs.PlainCut.{sub_at, view_at, cut_up_to, cut_shape}
use Rattle.cut_corners.specs.Calls.{cut_outline, cut_words}
use Rattle.cache.specs.Cache.{place_of_path, cached_in}
use Rattle.cache.specs.Calls.{cut_places}
use Rattle.decimal.specs.Rounding.{in_thousandths}
use Rattle.decimal.specs.Text.{thousandths_text}
use Rattle.svg.specs.Path.{text_of}
use Rattle.job.specs.Words.{words_of}
use Rattle.job.specs.Number.{number}
use Rattle.job.specs.Grammar.{Anchor, Job, anchors_of}
use Rattle.job.specs.Content.{pair, shape_word, numbers_of, radius_of, shape_words, job_numbers, job_radii}
use Rattle.job.specs.Reading.{reading}
use Rattle.job_calls.specs.Call.{file_read}
use Rattle.printing.specs.Printed.{fitted, unless_bad, cut_text, drawing_text, read_text, printed}
use Rattle.samples.specs.Written.{ascii, bytes_of}
use Rattle.samples.specs.Pieces.{square_job}
use Rattle.samples.proofs.CutSquare.{8f, shapes, anchors, radii, view, cut_place, kept_place, chamfer_cut, round-cut, inverted-cut, place_0, place_1, place_2, place_3}

-- ---- the job, with this head
abbrev plain : ℕ → ℕ → Anchor
plain x y = record { p = pair x y; into = none; out = none; radius = none }

abbrev square : ℕ → Job
square head =
    record {
      kind = head;
      subpaths =
          record {
            closed = true;
            anchors = record { p = pair 0 0; into = none; out = none; radius = some 2048 } ∷ plain 8192 0 ∷ plain 8192 8192 ∷ plain 0 8192 ∷ [];
          }
          ∷ [];
    }

module _ (head : ℕ) where
  shapes_are : shape_words (square head) ≡ shapes
  unfolding shape_word
  shapes_are = refl

  numbers_are : job_numbers (square head) ≡ anchors
  unfolding anchors_of numbers_of number of_bits div of_int round neg
  numbers_are = refl

  radii_are : job_radii (square head) ≡ radii
  unfolding anchors_of radius_of number of_bits div of_int round neg
  radii_are = refl

  given : file_read (square_job head) ≡ Ok (square head) → printed (square_job head) ≡ drawing_text shapes anchors radii head
  unfolding printed read_text bytes_of
  given e = ap read_text e ∙ rw (shapes_are, numbers_are, radii_are)

-- ---- its cut, where the first place has these handles
abbrev outline : P → P → List path.Anchor
outline a b =
    record { p = point 2f 0f; h_in = b; h_out = point 2f 0f }
    ∷ without_handles (point 8f 0f)
    ∷ without_handles (point 8f 8f)
    ∷ without_handles (point 0f 8f)
    ∷ record { p = point 0f 2f; h_in = point 0f 2f; h_out = a }
    ∷ []

put_together : (a b : P) (f : ℕ → Place) → f 0 ≡ cut_place a b → f 1 ≡ kept_place (point 8f 0f) → f 2 ≡ kept_place (point 8f 8f) → f 3 ≡ kept_place (point 0f 8f)
    → assembled 4 true f ≡ outline a b
unfolding assembled joined anchors_at held_back
put_together a b f e₀ e₁ e₂ e₃ = rw (e₀, e₁, e₂, e₃)

four_pass : (good : ℕ → Bool) → good 0 ≡ true → good 1 ≡ true → good 2 ≡ true → good 3 ≡ true → places good 4 passes ≡ passes
unfolding places first_false
four_pass good e₀ e₁ e₂ e₃ = rw (e₀, e₁, e₂, e₃)

-- the twelve numbers of a place are within the limit
abbrev within : Place → Bool
within q = cached_in (λ i. q) 0

module _ (head : ℕ) (k : CornerKind) (known : kind_of head ≡ Some k) (a b : P) (first : place_at (view k) 0 ≡ cut_place a b) where
  outlined : cut_corners (view k) ≡ outline a b
  unfolding cut_corners view_at view_of sub_at
  outlined = put_together a b (place_at (view k)) first (place_1 k) (place_2 k) (place_3 k)

  cut-text : cut_text shapes anchors radii head ≡ text_of (0x8000_0005 ∷ []) (nth (outline a b))
  unfolding cut_text cut_outline cut_words cut_up_to cut_shape tabulate word_of view_at view_of sub_at
  cut-text = rw (known, outlined)

  none_bad : within (cut_place a b) ≡ true → places (cached_in (cut_places shapes anchors radii (kind_of head))) 4 passes ≡ passes
  unfolding cut_places cached_in place_of_path sub_of all place_numbers numbers in_limit of_bits
  none_bad e =
      rw known
      (four_pass (cached_in (place_of_path shapes (view_at shapes anchors radii k)))
      (ap within first ∙ e)
      (ap within (place_1 k))
      (ap within (place_2 k))
      (ap within (place_3 k)))

  -- the text of that, which is short enough
  prints : file_read (square_job head) ≡ Ok (square head) → within (cut_place a b) ≡ true → (text : List ℕ) → text_of (0x8000_0005 ∷ []) (nth (outline a b)) ≡ text
      → leb (length text) 65536 ≡ true → printed (square_job head) ≡ text
  unfolding drawing_text unless_bad fitted
  prints e w text t l = given head e ∙ rw (none_bad w, cut-text, t, l)

-- ---- by its head
pub chamfer_prints : printed (square_job 2) ≡ ascii "M2 0 L8 0 L8 8 L0 8 L0 2 Z"
unfolding file_read bytes_of words_of reading tabulate kind_of cached_in all place_numbers numbers in_limit text_of nth straight same in_thousandths thousandths_text ascii of_bits eq
chamfer_prints = prints 2 Chamfer refl _ _ (place_0 Chamfer _ _ chamfer_cut) refl refl _ refl refl

pub round_prints : printed (square_job 0) ≡ ascii "M2 0 L8 0 L8 8 L0 8 L0 2 C0 0.895 0.895 0 2 0 Z"
unfolding file_read bytes_of words_of reading tabulate kind_of cached_in all place_numbers numbers in_limit text_of nth straight same in_thousandths thousandths_text ascii of_bits eq
round_prints = prints 0 Round refl _ _ (place_0 Round _ _ round-cut) refl refl _ refl refl

pub inverted_prints : printed (square_job 1) ≡ ascii "M2 0 L8 0 L8 8 L0 8 L0 2 C1.105 2 2 1.105 2 0 Z"
unfolding file_read bytes_of words_of reading tabulate kind_of cached_in all place_numbers numbers in_limit text_of nth straight same in_thousandths thousandths_text ascii of_bits eq
inverted_prints = prints 1 Inverted refl _ _ (place_0 Inverted _ _ inverted-cut) refl refl _ refl refl
