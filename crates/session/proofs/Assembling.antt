-- Assembling the buffers of a drawing is refused neither 7 nor 9, and leaves the plain cut; `to_svg_d` of what it leaves writes the plain cut's text. Assumes nothing.
use mathlib.Core.Path.{◌≡◌, refl, sym, ap, ◌∙◌}
use mathlib.Core.Bool.{true}
use mathlib.Core.List.{List, ◌++◌}
use Prim.Native.Nat.{ℕ, ◌+◌, ◌*◌, ◌≤◌, ◌<◌}
use native.Mathlib.Omega.{arith}
use lib.Dec.{leb}
use lib.ListN.{length, take, drop}
use lib.Ieee.{Float, nan}
use borrow.Author.Tests.{leb-true, le-leb}
use Rattle.views.proofs.Bools.{and_left, and_right}
use Rattle.path.proofs.Anchors.{anchor_good_lem}
use Rattle.views.specs.View.{overwrite}
use Rattle.views.proofs.Laws.{length-tabulate, length-overwrite, at_overwrite}
use Rattle.refusal.specs.Order.{passes, holds, accepted}
use Rattle.refusal.proofs.Verdicts.{holds_true, by_none}
use Rattle.path.specs.declared.anchor.Anchor.{Anchor}
use Rattle.path.specs.Shape.{total}
use Rattle.path.specs.Flat.{anchor_at, nth, listed, anchor_numbers}
use Rattle.path.specs.Limit.{anchor_good, anchor_in}
use Rattle.path.proofs.Limits.{GoodBelow}
use Rattle.path.proofs.Places.{anchor-number}
use Rattle.call.specs.Tests.{path_fits, path_limit, outline_in, outline_limit, room_for}
use Rattle.call.specs.Answers.{list_left, anchors_left}
use Rattle.call.proofs.Openings.{places_pass}
use Rattle.assembly.specs.Assembled.{place_read, outline_words}
use Rattle.assembly.proofs.Outlined.{outline-total, words-written}
use Rattle.cut_calls.proofs.Handed.{outline_few}
use Rattle.svg.specs.Path.{text_of}
use Rattle.svg_calls.specs.Call.{text_room, left, to_svg_d_verdict, to_svg_d_left}
use Rattle.session.specs.Drawing.{Drawing, Lent, view_in}
use Rattle.cache.specs.Tests.{cache_fits}
use Rattle.cache.proofs.Limited.{cached_outline}
use Rattle.cache.specs.Calls.{held_outline, assemble_verdict, assemble_shapes, assemble_anchors}
use Rattle.session.specs.Edits.{places_of}
use Rattle.session.specs.Outline.{Outline, plain_cut, plain_text, assembled_from}
use Rattle.session.specs.Demand.{Holds, Outlined}
use Rattle.session.proofs.Lents.{anchor-is}
use Rattle.session.proofs.Step.{Fine}
use Rattle.session.proofs.Outlines.{outline_plain, outline-cut, words-cut}
use Rattle.svg.proofs.Texts.{text_same}

-- ---- the anchors of a list, written to a lent one, read back
listed_at : (ps : List Anchor) (xs : List Float) → length ps * 6 ≤ length xs → (k : ℕ) → k < length ps → anchor_at (listed ps xs) k ≡ nth ps k
unfolding listed
listed_at ps xs h k l = anchor-is (overwrite (length ps * 6) (anchor_numbers (nth ps)) xs) k (nth ps k) (λ i il. at_overwrite nan (length ps * 6) (anchor_numbers (nth ps)) xs (k * 6 + i) (omega arith) (omega arith) ∙ anchor-number (nth ps) k i il)

module _ (m : Drawing) (fine : Fine m) where
  abbrev o : Outline
  o = plain_cut m

  plain_good : GoodBelow (outline_in o.anchors) (length o.anchors)
  unfolding plain_cut places_of
  plain_good = rw (← outline-cut m) (cached_outline m.shapes (view_in m) fine.places)

  plain_words : length o.words ≡ length m.shapes
  unfolding plain_cut
  plain_words = length-tabulate (length m.shapes) _

  plain_total : total o.words ≡ length o.anchors
  unfolding plain_cut
  plain_total = ap total (sym (words-cut m)) ∙ outline-total m.shapes (places_of m) fine.few ∙ ap length (outline-cut m)

  plain_few : length o.anchors ≤ 1024
  unfolding plain_cut
  plain_few = let e = ap length (outline-cut m) in omega (arith, outline_few m.shapes (places_of m), fine.few)

  module _ (b : Lent) (held : Holds b m) (to_shapes : List ℕ) (to : List Float) (out : List ℕ) (enough : room_for (length o.words) (length o.anchors) to_shapes to ≡ true) where
    room-words : length o.words ≤ length to_shapes
    unfolding room_for
    room-words = leb-true _ _ (and_left (leb (length o.words) (length to_shapes)) (leb (length o.anchors * 6) (length to)) enough)

    room-numbers : length o.anchors * 6 ≤ length to
    unfolding room_for
    room-numbers = leb-true _ _ (and_right (leb (length o.words) (length to_shapes)) (leb (length o.anchors * 6) (length to)) enough)

    fits : cache_fits b.shapes b.numbers b.flags ≡ true
    unfolding cache_fits
    fits = rw (held.shapes, le-leb (length m.shapes) 32 fine.words, le-leb (total m.shapes) 512 fine.few, le-leb _ _ held.numbers_long, le-leb _ _ held.flags_long)

    held_anchors : held_outline b.shapes b.numbers b.flags ≡ o.anchors
    unfolding assembled_from
    held_anchors = ap (λ x. x.anchors) (outline_plain b m held)

    held-words : outline_words b.shapes (place_read b.numbers b.flags) ≡ o.words
    unfolding assembled_from
    held-words = ap (λ x. x.words) (outline_plain b m held)

    held-length : length b.shapes ≡ length o.words
    held-length = ap length held.shapes ∙ sym plain_words

    assemble-accepts : assemble_verdict b.shapes b.numbers b.flags to_shapes to ≡ accepted
    unfolding assemble_verdict outline_limit
    assemble-accepts =
        rw (held_anchors, held-length)
        (by_none _ _ _ _ _ _ (holds_true 0 fits) refl refl refl (places_pass (outline_in o.anchors) (length o.anchors) passes plain_good) (holds_true 0 enough))

    words_left : take (length m.shapes) (assemble_shapes b.shapes b.numbers b.flags to_shapes to) ≡ o.words
    unfolding assemble_shapes list_left
    words_left =
        ap (λ shapes. take (length shapes) (assemble_shapes b.shapes b.numbers b.flags to_shapes to)) (sym held.shapes)
        ∙ rw assemble-accepts
        (words-written b.shapes (place_read b.numbers b.flags) to_shapes (omega (arith, held-length, room-words)) ∙ held-words)

    anchors_left_lem : assemble_anchors b.shapes b.numbers b.flags to_shapes to ≡ listed o.anchors to
    unfolding assemble_anchors anchors_left
    anchors_left_lem = rw (assemble-accepts, held_anchors)

    listed_long : total o.words * 6 ≤ length (listed o.anchors to)
    unfolding listed
    listed_long = omega (arith, length-overwrite (length o.anchors * 6) (anchor_numbers (nth o.anchors)) to, plain_total, room-numbers)

    listed-fits : path_fits 1024 o.words (listed o.anchors to) ≡ true
    unfolding path_fits
    listed-fits =
        rw (
          le-leb (length o.words) 32 (omega (arith, plain_words, fine.words)),
          le-leb (total o.words) 1024 (omega (arith, plain_total, plain_few)),
          le-leb (total o.words * 6) (length (listed o.anchors to)) listed_long,
        )

    listed_good : GoodBelow (anchor_in (listed o.anchors to)) (total o.words)
    unfolding outline_in anchor_good
    listed_good k l =
        let h : k < length o.anchors = omega (arith, plain_total) in
        anchor_good_lem (listed o.anchors to) k ∙ ap anchor_good (listed_at o.anchors to room-numbers k h) ∙ plain_good k h

    text-left : text_of o.words (anchor_at (listed o.anchors to)) ≡ plain_text m
    unfolding plain_text
    text-left = text_same (anchor_at (listed o.anchors to)) (nth o.anchors) o.words (λ k l. listed_at o.anchors to room-numbers k (omega (arith, plain_total)))

    text-verdict : length (plain_text m) ≤ length out → to_svg_d_verdict o.words (listed o.anchors to) out ≡ accepted
    unfolding to_svg_d_verdict path_limit text_room
    text-verdict h =
        by_none _ _ _ _ _ _ (holds_true 0 listed-fits)
        (places_pass (anchor_in (listed o.anchors to)) (total o.words) (holds true (total o.words)) listed_good ∙ holds_true (total o.words) refl)
        refl refl refl
        (holds_true 0 (rw text-left (le-leb (length (plain_text m)) (length out) h)))

    text-written : length (plain_text m) ≤ length out → to_svg_d_left o.words (listed o.anchors to) out ≡ plain_text m ++ drop (length (plain_text m)) out
    unfolding to_svg_d_left left
    text-written h = rw (text-verdict h, text-left)

    pub assembles : length (plain_text m) ≤ length out
        → (assemble_verdict b.shapes b.numbers b.flags to_shapes to ≡ accepted)
        × Outlined m (take (length m.shapes) (assemble_shapes b.shapes b.numbers b.flags to_shapes to)) (assemble_anchors b.shapes b.numbers b.flags to_shapes to) out
    assembles h = (
      assemble-accepts,
      record {
        words = words_left;
        each = λ k l. rw anchors_left_lem (listed_at o.anchors to room-numbers k l);
        accepts = rw (words_left, anchors_left_lem) (text-verdict h);
        text = rw (words_left, anchors_left_lem) (text-written h);
      },
    )
