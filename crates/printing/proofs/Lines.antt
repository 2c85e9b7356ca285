-- What `to_svg_d` answers on a path that passes its tests, in a buffer of 65,536 bytes, is the line that is printed. Assumes nothing.
use mathlib.Core.Path.{◌≡◌, refl, sym, ap, ◌∙◌}
use mathlib.Core.Logic.{⊎_elim}
use mathlib.Core.List.{List}
use Prim.Native.Nat.{ℕ, ◌≤◌, ◌<◌}
use native.Mathlib.Nat.{zero-add}
use native.Mathlib.Omega.{arith}
use lib.ListN.{length}
use lib.Seq.{sets}
use lib.Ieee.{Float}
use Rattle.std.proofs.Common.{Ok, Err, Result}
use borrow.Author.Tests.{le-leb, lt-leb}
use Rattle.views.proofs.Laws.{order}
use Rattle.decimal.specs.Put.{Put}
use Rattle.refusal.specs.Reasons.{number_of, refusal_at}
use Rattle.refusal.specs.declared.Refusal.{Refusal}
use Rattle.refusal.specs.declared.Reason.TheVariants.{Output}
use Rattle.path.specs.Flat.{anchor_at}
use Rattle.path.specs.Shape.{total}
use Rattle.call.proofs.Openings.{PathOpens}
use Rattle.svg.specs.Path.{text_of}
use Rattle.svg_calls.specs.Call.{to_svg_d_answer, to_svg_d_left}
use Rattle.svg_calls.proofs.Outcomes.{without_room, put_in_room, as_handed}
use Rattle.printing.specs.Refused.{refused_text}
use Rattle.printing.specs.Printed.{fitted}

differ : (why : Refusal) (m : ℕ) → ◌≡◌ {A = Result ℕ Refusal} (Err why) (Ok m) → ⊥
differ why m e = let z : ◌≡◌ {A = ℕ} 0 1 = cc in omega arith

fitted_long : (text : List ℕ) → 65536 < length text → refused_text 8 0 ≡ fitted text
unfolding fitted
fitted_long text h = rw (lt-leb (length text) 65536 h)

fitted_short : (text : List ℕ) → length text ≤ 65536 → text ≡ fitted text
unfolding fitted
fitted_short text h = rw (le-leb (length text) 65536 h)

-- a text that was stored whole
stored : (text out : List ℕ) → length text ≤ length out → Put out 0 text (sets out 0 text) (length text)
stored text out h = record { end = sym (zero-add (length text)); list = refl }

module _ (words : List ℕ) (anchors : List Float) (out : List ℕ) (opens : PathOpens 1024 words anchors (total words)) (room : length out ≡ 65536) where
  abbrev text : List ℕ
  text = text_of words (anchor_at anchors)

  long_says : 65536 < length text → (Err (refusal_at Output 0) ≡ to_svg_d_answer words anchors out) × (out ≡ to_svg_d_left words anchors out)
  long_says h =
      let a = without_room text out (omega arith) in
      let b = as_handed words anchors out opens in
      (a.0 ∙ b.0, a.1 ∙ b.1)

  short_says : length text ≤ 65536 → (Ok (length text) ≡ to_svg_d_answer words anchors out) × (sets out 0 text ≡ to_svg_d_left words anchors out)
  short_says h =
      let a = put_in_room text out (stored text out (omega arith)) (omega arith) in
      let b = as_handed words anchors out opens in
      (a.0 ∙ b.0, a.1 ∙ b.1)

  pub line_refused : (why : Refusal) (m : List ℕ) (r : ℕ) → to_svg_d_answer words anchors out ≡ Err why
      → Put (to_svg_d_left words anchors out) 0 (refused_text (number_of why.reason) why.place) m r → Put out 0 (fitted text) m r
  line_refused why m r e p =
      ⊎_elim
      (λ h. absurd (differ why (length text) (sym ((short_says h).0 ∙ e))))
      (λ h. let s = long_says h in rw (← fitted_long text h, s.1) (rw (sym (same_refusal (s.0 ∙ e))) at p))
      (order (length text) 65536)
    where
      same_refusal : ◌≡◌ {A = Result ℕ Refusal} (Err (refusal_at Output 0)) (Err why) → refused_text 8 0 ≡ refused_text (number_of why.reason) why.place
      same_refusal q = let z : refusal_at Output 0 ≡ why = cc in ap (λ w. refused_text (number_of w.reason) w.place) z

  pub line_accepted : (len : ℕ) → to_svg_d_answer words anchors out ≡ Ok len → Put out 0 (fitted text) (to_svg_d_left words anchors out) len
  line_accepted len e =
      ⊎_elim
      (λ h. let s = short_says h in record { end = same_length (s.0 ∙ e) ∙ ap length (fitted_short text h) ∙ sym (zero-add _); list = sym s.1 ∙ ap (sets out 0) (fitted_short text h) })
      (λ h. absurd (differ (refusal_at Output 0) len ((long_says h).0 ∙ e)))
      (order (length text) 65536)
    where
      same_length : ◌≡◌ {A = Result ℕ Refusal} (Ok (length text)) (Ok len) → len ≡ length text
      same_length q = cc
