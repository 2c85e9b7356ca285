-- THE KEY STEP: on the cache of an accepted drawing a call's verdict, whose test 9 looks at what it writes and recuts, is the model's, which looks at the whole. Assumes nothing.
use mathlib.Core.Path.{◌≡◌, refl, sym, ap, ap₂, ◌∙◌}
use mathlib.Core.Bool.{Bool, true, false, not, ◌&&◌, ◌||◌}
use mathlib.Core.List.{List}
use Prim.Native.Nat.{ℕ, ◌≤◌, ◌<◌}
use lib.Dec.{leb}
use lib.ListN.{length}
use lib.Ieee.{Float}
use borrow.Author.Tests.{leb-true}
use Rattle.path.proofs.Anchors.{anchor_good_lem}
use Rattle.views.specs.View.{entry}
use Rattle.views.proofs.Bools.{and_left, and_right}
use Rattle.real.specs.Limit.{in_limit}
use Rattle.refusal.specs.Order.{passes, holds}
use Rattle.refusal.proofs.Verdicts.{holds_says}
use Rattle.path.specs.declared.anchor.Anchor.{Anchor}
use Rattle.path.specs.Shape.{total}
use Rattle.path.specs.Flat.{anchor_at}
use Rattle.path.specs.Limit.{anchor_good, place_in}
use Rattle.path.proofs.Limits.{GoodBelow}
use Rattle.call.specs.Tests.{places, drawing_limit}
use Rattle.cut.specs.declared.places.Place.{Place}
use Rattle.corner.specs.Kinds.{kind_of, is_known}
use Rattle.session.specs.Drawing.{Drawing, Lent, drawn}
use Rattle.cache.specs.Cache.{cached_in}
use Rattle.session.specs.Edits.{Call, Edit, edit_of, places_of}
use Rattle.session.specs.Calls.{lists_fit, written_good, recut_good, edit_limit, room_in, edit_verdict, call_verdict}
use Rattle.session.specs.Model.{lengths_of, long_for, small_path, drawing_in, whole_limit, model_verdict}
use Rattle.session.proofs.Judging.{places-say, places_same, verdict-same}
use Rattle.session.proofs.Effects.{Faithful, faithful, draw, Alike, places-alike, made_alike, made-places, loose_same, known_same, shapes_same}
use Rattle.session.proofs.Lents.{fits-same, room-same}

cached_same : (f g : ℕ → Place) (j k : ℕ) → f j ≡ g k → cached_in f j ≡ cached_in g k
unfolding cached_in
cached_same f g j k e = rw e

-- ---- what is good elsewhere need not be looked at
module _ (d : Drawing) (e : Edit) (faith : Faithful d e) (limit : GoodBelow (drawing_in d) (total d.shapes)) (fine : GoodBelow (cached_in (places_of d)) (total d.shapes)) where
  written-test : (k : ℕ) → k < total e.made.shapes → written_good e k ≡ anchor_good (e.made.anchor k)
  unfolding written_good drawing_in
  written-test k l = go (e.writes k) refl
    where
      go : (b : Bool) → e.writes k ≡ b → (not b || anchor_good (e.made.anchor k)) ≡ anchor_good (e.made.anchor k)
      go true w = refl
      go false w = sym (ap anchor_good (faith.anchor_kept k l w) ∙ and_left (anchor_good (d.anchor (e.stood k))) (in_limit (d.radius (e.stood k))) (limit (e.stood k) (faith.stood_in k l)))

  recut-test : (k : ℕ) → k < total e.made.shapes → recut_good e k ≡ cached_in (places_of e.made) k
  unfolding recut_good
  recut-test k l = go (e.recuts k) refl
    where
      go : (b : Bool) → e.recuts k ≡ b → (not b || cached_in (places_of e.made) k) ≡ cached_in (places_of e.made) k
      go true w = refl
      go false w = sym (cached_same (places_of e.made) (places_of d) k (e.stood k) (faith.cut_kept k l w) ∙ fine (e.stood k) (faith.stood_in k l))

  near-whole : edit_limit e ≡ whole_limit e.made
  unfolding edit_limit whole_limit
  near-whole = places_same _ _ (total e.made.shapes) _ _ written-test (places_same _ _ (total e.made.shapes) _ _ recut-test refl)

-- ---- a drawing in lists, and the model drawing, alike where the lists are long enough
module _ (shapes : List ℕ) (kind : ℕ) (an ra nu : List Float) (fl : List ℕ) (g : ℕ → Anchor) (q : ℕ → Float) where
  abbrev lent : Lent
  lent = record { shapes = shapes; anchors = an; radii = ra; numbers = nu; flags = fl }

  abbrev d : Drawing
  d = draw shapes kind (anchor_at an) (entry ra)

  abbrev m : Drawing
  m = draw shapes kind g q

  module _ (alike : Alike shapes (anchor_at an) g (entry ra) q) where
    place_same : (k : ℕ) → k < total shapes → place_in an ra k ≡ drawing_in m k
    unfolding place_in drawing_in
    place_same k l = ap₂ ◌&&◌ (anchor_good_lem an k ∙ ap anchor_good (alike.anchors k l)) (ap in_limit (alike.radii k l))

    limit_same : (c : Call) → drawing_limit shapes an ra (is_known (kind_of kind) && (edit_of d c).loose)
        ≡ places (drawing_in m) (total shapes) (holds (is_known (kind_of kind) && (edit_of m c).loose) (total shapes))
    unfolding drawing_limit
    limit_same c = places_same _ _ (total shapes) _ _ place_same (ap (λ b. holds (is_known (kind_of kind) && b) (total shapes)) (loose_same shapes kind (anchor_at an) g (entry ra) q c))

    whole_same : (c : Call) → total shapes ≤ 512 → (edit_of d c).known ≡ true → whole_limit (edit_of d c).made ≡ whole_limit (edit_of m c).made
    unfolding whole_limit
    whole_same c few h =
        let e = edit_of d c in
        let f = edit_of m c in
        let a = made_alike shapes kind (anchor_at an) g (entry ra) q alike c few h in
        places_same _ _ (total e.made.shapes) _ _ (λ k l. ap anchor_good (a.anchors k l))
        (places_same _ _ (total e.made.shapes) _ _ (λ k l. cached_same (places_of e.made) (places_of f.made) k k (made-places shapes kind (anchor_at an) g (entry ra) q alike c few h k l)) refl)
        ∙ ap (λ sh. places (λ k. anchor_good (f.made.anchor k)) (total sh) (places (cached_in (places_of f.made)) (total sh) passes)) (shapes_same shapes kind (anchor_at an) g (entry ra) q c)

    -- the numbers of the lent drawing, once they have passed
    limit_says : (b : Bool) → drawing_limit shapes an ra b ≡ passes → GoodBelow (drawing_in d) (total shapes)
    unfolding drawing_limit place_in drawing_in
    limit_says b h k l = sym (ap (λ x. x && in_limit (entry ra k)) (anchor_good_lem an k)) ∙ places-say (place_in an ra) (total shapes) (holds b (total shapes)) h k l

    fine_here : GoodBelow (cached_in (places_of m)) (total shapes) → GoodBelow (cached_in (places_of d)) (total shapes)
    fine_here fine k l = cached_same (places_of d) (places_of m) k k (places-alike shapes kind (anchor_at an) g (entry ra) q alike k l) ∙ fine k l

  small_says : lists_fit lent ≡ true → total shapes ≤ 512
  unfolding small_path
  small_says h =
      leb-true (total shapes) 512 (and_right (leb (length shapes) 32) (leb (total shapes) 512) (and_left (leb (length shapes) 32 && leb (total shapes) 512) (long_for (lengths_of lent) (total shapes)) (sym (fits-same lent) ∙ h)))

  pub call_model : (c : Call) → (lists_fit lent ≡ true → Alike shapes (anchor_at an) g (entry ra) q) → GoodBelow (cached_in (places_of m)) (total shapes)
      → call_verdict lent kind c ≡ model_verdict m (lengths_of lent) c
  unfolding call_verdict edit_verdict model_verdict drawn
  call_model c like fine =
      verdict-same _ _ _ _ _ _ _ _ _ _ _ _
      (ap (λ b. holds b 0) (fits-same lent))
      (λ p. limit_same (like (holds_says (lists_fit lent) 0 p)) c)
      (ap (λ b. holds b 0) (known_same shapes kind (anchor_at an) g (entry ra) q c))
      (ap (λ sh. holds (leb (total sh) 512) 0) (shapes_same shapes kind (anchor_at an) g (entry ra) q c))
      (λ p a r. let al = like (holds_says (lists_fit lent) 0 p) in
      let few = small_says (holds_says (lists_fit lent) 0 p) in
      let h = holds_says (edit_of d c).known 0 r in
      near-whole d (edit_of d c) (faithful d c few h) (limit_says al _ a) (fine_here al fine) ∙ whole_same al c few h)
      (ap (λ sh. holds (room_in lent (total sh)) 0) (shapes_same shapes kind (anchor_at an) g (entry ra) q c) ∙ ap (λ b. holds b 0) (room-same lent (total (edit_of m c).made.shapes)))
