-- Lists that hold a fine drawing and its cut: `assemble` takes them, and the text of what it leaves is the plain cut's. Assumes nothing.
use mathlib.Core.Path.{◌≡◌, sym, ap, ◌∙◌}
use mathlib.Core.List.{List}
use Prim.Native.Nat.{ℕ, ◌≤◌}
use native.Mathlib.Nat.{le_refl}
use native.Mathlib.Omega.{arith}
use lib.ListN.{length, take}
use lib.Ieee.{Float}
use Rattle.std.proofs.Common.{Ok, Err, Result}
use Rattle.refusal.specs.declared.Refusal.{Refusal}
use Rattle.call.specs.declared.answers.Outline.{Outline}
use Rattle.views.proofs.Laws.{length-tabulate}
use Rattle.refusal.specs.Order.{judge, accepted, answering}
use Rattle.refusal.proofs.Verdicts.{accepted_says}
use Rattle.path.specs.Shape.{total}
use Rattle.path.specs.Flat.{anchor_at, nth}
use Rattle.call.specs.Tests.{opened_path}
use Rattle.call.specs.Answers.{outline_answer}
use Rattle.call.proofs.Openings.{PathOpens, path_opens}
use Rattle.call.proofs.Handings.{room}
use Rattle.assembly.specs.Assembled.{place_read}
use Rattle.assembly.proofs.Outlined.{outline-total}
use Rattle.cut_calls.proofs.Handed.{outline_few}
use Rattle.svg.specs.Path.{text_of}
use Rattle.svg_calls.specs.Call.{to_svg_d_verdict}
use Rattle.svg.proofs.Texts.{text_same}
use Rattle.cache.specs.Calls.{held_outline, assemble_verdict, assemble_answer, assemble_shapes, assemble_anchors}
use Rattle.session.specs.Drawing.{Drawing, Lent}
use Rattle.session.specs.Outline as session
use Rattle.session.specs.Outline.{plain_cut, plain_text, assembled_from}
use Rattle.session.specs.Demand.{Holds, Outlined, Agrees}
use Rattle.session.proofs.Step.{Fine}
use Rattle.session.proofs.Demand.{agreed}
use Rattle.reporting.specs.Gathered.{held_text, GathersIn, Gathers}

pub gathered_answer : (shapes : List ℕ) (numbers : List Float) (flags to_shapes : List ℕ) (to : List Float) → GathersIn shapes numbers flags to_shapes to
    → assemble_answer shapes numbers flags to_shapes to ≡ Ok (record { subpaths = length shapes; anchors = length (held_outline shapes numbers flags) })
unfolding assemble_answer outline_answer answering
gathered_answer shapes numbers flags to_shapes to g = rw g.accepts

-- in lists that are long enough it is never refused, and leaves a path of that text
pub record Gathered (shapes : List ℕ) (numbers : List Float) (flags : List ℕ) (made : Outline) (words : List ℕ) (outline : List Float) : Type 0 where
  pub few : made.subpaths ≤ 32
  pub opens : PathOpens 1024 (take made.subpaths words) outline (total (take made.subpaths words))
  pub text : text_of (take made.subpaths words) (anchor_at outline) ≡ held_text shapes numbers flags

module _ (shapes : List ℕ) (numbers : List Float) (flags : List ℕ) (h : Gathers shapes numbers flags) (to_shapes : List ℕ) (to : List Float) (wide : 32 ≤ length to_shapes) (long : 6144 ≤ length to) where
  abbrev g : GathersIn shapes numbers flags to_shapes to
  g = h.gathers to_shapes to wide long

  pub never_refused : (why : Refusal) → Err why ≡ assemble_answer shapes numbers flags to_shapes to → ⊥
  never_refused why e = differ (e ∙ gathered_answer shapes numbers flags to_shapes to g)
    where
      differ : {x : Outline} → ◌≡◌ {A = Result Outline Refusal} (Err why) (Ok x) → ⊥
      differ q = let z : ◌≡◌ {A = ℕ} 0 1 = cc in omega arith

  pub gathers_path : (made : Outline) (words : List ℕ) (outline : List Float) → Ok made ≡ assemble_answer shapes numbers flags to_shapes to
      → words ≡ assemble_shapes shapes numbers flags to_shapes to → outline ≡ assemble_anchors shapes numbers flags to_shapes to → Gathered shapes numbers flags made words outline
  gathers_path made words outline e w o =
      let k = same_count (e ∙ gathered_answer shapes numbers flags to_shapes to g) in
      record { few = rw k h.words; opens = rw (k, w, o) g.opens; text = rw (k, w, o) g.text }
    where
      same_count : {m n : ℕ} → ◌≡◌ {A = Result Outline Refusal} (Ok made) (Ok (record { subpaths = m; anchors = n })) → made.subpaths ≡ m
      same_count {m} {n} q = let z : made ≡ record { subpaths = m; anchors = n } = cc in ap (λ y. y.subpaths) z

-- a path that `to_svg_d` takes
taken_opens : (words : List ℕ) (anchors : List Float) (out : List ℕ) → to_svg_d_verdict words anchors out ≡ accepted → PathOpens 1024 words anchors (total words)
unfolding to_svg_d_verdict opened_path answering judge
taken_opens words anchors out ok =
    let a = accepted_says _ _ _ _ _ _ ok in
    path_opens 1024 words anchors (total words) (rw (a.lists, a.arguments))

module _ (b : Lent) (m : Drawing) (held : Holds b m) (fine : Fine m) where
  abbrev o : session.Outline
  o = plain_cut m

  agrees : Agrees b m
  agrees = agreed b m held fine

  few : total b.shapes ≤ 512
  few = rw held.shapes fine.few

  -- its text
  pub held_plain : held_text b.shapes b.numbers b.flags ≡ plain_text m
  unfolding held_text plain_text assembled_from
  held_plain = ap (λ (x : session.Outline). text_of x.words (nth x.anchors)) agrees.outline

  plain_words : length o.words ≡ length m.shapes
  unfolding plain_cut
  plain_words = length-tabulate (length m.shapes) _

  plain_total : total o.words ≡ length o.anchors
  unfolding assembled_from held_outline
  plain_total =
      ap (λ (x : session.Outline). total x.words) (sym agrees.outline) ∙ outline-total b.shapes (place_read b.numbers b.flags) few
      ∙ ap (λ (x : session.Outline). length x.anchors) agrees.outline

  plain_few : length o.anchors ≤ 1024
  unfolding assembled_from held_outline
  plain_few =
      omega (arith, outline_few b.shapes (place_read b.numbers b.flags), few, ap (λ (x : session.Outline). length x.anchors) agrees.outline)

  module _ (to_shapes : List ℕ) (to : List Float) (wide : 32 ≤ length to_shapes) (long : 6144 ≤ length to) where
    gathered : (assemble_verdict b.shapes b.numbers b.flags to_shapes to ≡ accepted)
        × Outlined m (take (length m.shapes) (assemble_shapes b.shapes b.numbers b.flags to_shapes to)) (assemble_anchors b.shapes b.numbers b.flags to_shapes to) (plain_text m)
    gathered =
        agrees.assembles to_shapes to (plain_text m)
        (room (length o.words) (length o.anchors) to_shapes to (omega (arith, plain_words, fine.words)) (omega (arith, plain_few)))
        (le_refl (length (plain_text m)))

    gathers_in : GathersIn b.shapes b.numbers b.flags to_shapes to
    unfolding plain_text
    gathers_in =
        let g = gathered.1 in
        let e : length b.shapes ≡ length m.shapes = ap length held.shapes in
        let xs = assemble_anchors b.shapes b.numbers b.flags to_shapes to in
        record {
          accepts = gathered.0;
          opens = rw e (taken_opens _ _ (plain_text m) g.accepts);
          text =
              rw e
              (ap (λ ws. text_of ws (anchor_at xs)) g.words
              ∙ text_same (anchor_at xs) (nth o.anchors) o.words (λ k l. g.each k (omega (arith, plain_total)))
              ∙ sym held_plain);
        }

  pub gathers-held : Gathers b.shapes b.numbers b.flags
  gathers-held = record { words = rw held.shapes fine.words; gathers = gathers_in }
