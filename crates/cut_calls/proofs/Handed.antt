-- Where scratch lists hold the outline of places, what is handed over from them is what an outline that is made comes to. Assumes nothing.
use mathlib.Core.Path.{◌≡◌, refl, ap, ◌∙◌}
use mathlib.Core.List.{List}
use Prim.Native.Nat.{ℕ, ◌*◌, ◌≤◌, ◌<◌}
use native.Mathlib.Nat.{le_refl}
use native.Mathlib.Omega.{arith}
use lib.ListN.{length, get_or, take}
use lib.Ieee.{Float}
use Rattle.views.specs.View.{overwrite}
use Rattle.views.proofs.Laws.{at_tabulate, overwrite_cong}
use Rattle.refusal.specs.Order.{Verdict, accepted, refused}
use Rattle.path.specs.Shape.{total}
use Rattle.path.specs.Flat.{listed}
use Rattle.path.proofs.Shapes.{total-end}
use Rattle.cut.specs.declared.places.Place.{Place}
use Rattle.assembly.specs.Assembled.{outline_of, outline_shapes, outline_words}
use Rattle.assembly.proofs.Outlined.{outline_most, outline-total, words-length, words-written}
use Rattle.call.specs.Answers.{list_left, handed_verdict, handed_answer, handed_shapes, handed_anchors}
use Rattle.call.proofs.Handings.{listed-verdict, listed_anchors}
use Rattle.cut_calls.specs.Made.{made_verdict, made_answer, made_shapes, made_anchors}

pub outline_few : (shapes : List ℕ) (f : ℕ → Place) → length (outline_of shapes f) ≤ 2 * total shapes
unfolding outline_of
outline_few shapes f = omega (arith, outline_most shapes f (length shapes) (le_refl (length shapes)), total-end shapes (length shapes) (le_refl (length shapes)))

-- the words left turn on the first m alone
pub list_same : {A : Type 0} (v : Verdict) (m : ℕ) (f g : ℕ → A) (ts : List A) → ((s : ℕ) → s < m → f s ≡ g s) → list_left v m f ts ≡ list_left v m g ts
unfolding list_left
list_same accepted m f g ts e = overwrite_cong m f g ts e
list_same (refused why) m f g ts e = refl

module _ (shapes : List ℕ) (f : ℕ → Place) (few : total shapes ≤ 512) (vs ws : List ℕ) (xs made : List Float)
    (w : ws ≡ overwrite (length shapes) (outline_shapes shapes f) vs) (e : made ≡ listed (outline_of shapes f) xs)
    (room : length shapes ≤ length vs) (long : total shapes * 12 ≤ length xs) where
  abbrev front : List ℕ
  front = take (length shapes) ws

  pub front_is : take (length shapes) ws ≡ outline_words shapes f
  front_is = ap (take (length shapes)) w ∙ words-written shapes f vs room

  pub front_length : length (take (length shapes) ws) ≡ length shapes
  front_length = ap length front_is ∙ words-length shapes f

  pub front_total : total (take (length shapes) ws) ≡ length (outline_of shapes f)
  front_total = ap total front_is ∙ outline-total shapes f few

  module _ (to_shapes : List ℕ) (to : List Float) where
    verdict-made : handed_verdict front made to_shapes to ≡ made_verdict (length shapes) (outline_of shapes f) to_shapes to
    unfolding made_verdict
    verdict-made =
        rw front_length at
        (listed-verdict (outline_of shapes f) xs (omega (arith, outline_few shapes f)) front made to_shapes to e front_total)

    pub answer-made : handed_answer (take (length shapes) ws) made to_shapes to ≡ made_answer (length shapes) (outline_of shapes f) to_shapes to
    unfolding handed_answer made_answer
    answer-made = rw (verdict-made, front_length, front_total)

    pub shapes_made : handed_shapes (take (length shapes) ws) made to_shapes to ≡ made_shapes (length shapes) (outline_of shapes f) (outline_shapes shapes f) to_shapes to
    unfolding handed_shapes made_shapes
    shapes_made =
        rw (verdict-made, front_length)
        (list_same _ (length shapes) _ _ to_shapes (λ s l. ap (λ z. get_or z s 0) front_is ∙ at_tabulate 0 (length shapes) (outline_shapes shapes f) s l))

    pub anchors_made : handed_anchors (take (length shapes) ws) made to_shapes to ≡ made_anchors (length shapes) (outline_of shapes f) to_shapes to
    unfolding made_anchors
    anchors_made = rw (← verdict-made) (listed_anchors (outline_of shapes f) xs (omega (arith, outline_few shapes f)) front made to_shapes to e front_total)
