-- An edit of lists that hold a drawing and its cut, beside the same edit of that drawing: the lists then hold the drawing that it makes, and the cut of that. Assumes nothing.
use mathlib.Core.Path.{◌≡◌, refl, sym, ap, ◌∙◌}
use mathlib.Core.Bool.{Bool, true, false, cond}
use mathlib.Core.List.{List}
use Prim.Native.Nat.{ℕ, ◌+◌, ◌*◌, ◌/◌, ◌%◌, ◌≤◌, ◌<◌}
use native.Mathlib.Omega.{arith}
use lib.ListN.{get_or}
use lib.Ieee.{Float, nan}
use Rattle.views.specs.View.{entry}
use Rattle.path.specs.declared.anchor.Anchor.{Anchor}
use Rattle.path.specs.Shape.{total}
use Rattle.path.specs.Flat.{anchor_at, anchor_numbers}
use Rattle.cut.specs.declared.places.Place.{Place}
use Rattle.cut.specs.Places.{place_numbers}
use Rattle.cut.specs.Rows.{flag_of}
use Rattle.cache.specs.Cache.{cached_numbers, cached_flags}
use Rattle.session.specs.Drawing.{Drawing, Lent}
use Rattle.session.specs.Edits.{Call, Edit, edit_of, places_of}
use Rattle.session.specs.Calls.{numbers_after, flags_after, edited_lists}
use Rattle.session.specs.Model.{lengths_of}
use Rattle.session.specs.Session.{Carried, returned}
use Rattle.session.specs.Demand.{Holds}
use Rattle.session.proofs.Effects.{Faithful, faithful, draw, Alike, places-alike, made_alike, made-places, shapes_same}
use Rattle.session.proofs.Lents.{Long, anchor-same, back-written, back-written_long, back-anchor}

-- ---- what the cache holds of the places f, number by number
pub number-of : (f : ℕ → Place) (k i : ℕ) → i < 12 → cached_numbers f (k * 12 + i) ≡ entry (place_numbers (f k)) i
unfolding cached_numbers
number-of f k i l =
    let x : (k * 12 + i) / 12 ≡ k = omega arith in
    let y : (k * 12 + i) % 12 ≡ i = omega arith in
    rw (x, y)

pub number-after : (e : Edit) (xs : List Float) (k i : ℕ) → i < 12
    → numbers_after e xs (k * 12 + i) ≡ cond (e.recuts k) (entry (place_numbers (places_of e.made k)) i) (entry xs (e.stood k * 12 + i))
unfolding numbers_after
number-after e xs k i l =
    let x : (k * 12 + i) / 12 ≡ k = omega arith in
    let y : (k * 12 + i) % 12 ≡ i = omega arith in
    rw (x, y, number-of (places_of e.made) k i l)

-- ---- e edits one drawing as f another that is alike
pub record Twin (d : Drawing) (e f : Edit) : Type 0 where
  pub faith : Faithful d e
  pub shapes : e.made.shapes ≡ f.made.shapes
  pub anchors : (k : ℕ) → k < total e.made.shapes → e.made.anchor k ≡ f.made.anchor k
  pub radii : (k : ℕ) → k < total e.made.shapes → e.made.radius k ≡ f.made.radius k
  pub places : (k : ℕ) → k < total e.made.shapes → places_of e.made k ≡ places_of f.made k

-- a call does
pub call_twin : (shapes : List ℕ) (kind : ℕ) (f g : ℕ → Anchor) (r q : ℕ → Float) → Alike shapes f g r q → (c : Call) → total shapes ≤ 512 → (edit_of (draw shapes kind f r) c).known ≡ true
    → Twin (draw shapes kind f r) (edit_of (draw shapes kind f r) c) (edit_of (draw shapes kind g q) c)
call_twin shapes kind f g r q like c few known =
    let a = made_alike shapes kind f g r q like c few known in
    record {
      faith = faithful (draw shapes kind f r) c few known;
      shapes = shapes_same shapes kind f g r q c;
      anchors = a.anchors;
      radii = a.radii;
      places = made-places shapes kind f g r q like c few known;
    }

-- ---- lists lent of buffers that hold a drawing and its cut
module _ (b : Lent) (m : Drawing) (an ra nu : List Float) (fl : List ℕ) where
  abbrev l : Lent
  l = record { shapes = m.shapes; anchors = an; radii = ra; numbers = nu; flags = fl }

  abbrev n : ℕ
  n = total m.shapes

  abbrev d : Drawing
  d = draw m.shapes m.kind (anchor_at an) (entry ra)

  module _ (held : Holds b m) (carried : Carried b l) (long : Long (lengths_of l) n) where
    -- lists long enough hold the drawing and the cache
    pub lent_alike : Alike m.shapes (anchor_at an) m.anchor (entry ra) m.radius
    unfolding lengths_of
    lent_alike =
        let q : total b.shapes ≡ n = ap total held.shapes in
        record {
          anchors = λ k kl. anchor-same an b.anchors k (λ j jl. carried.anchors j (omega arith) (omega (arith, long.anchors))) ∙ held.anchors k kl;
          radii = λ k kl. carried.radii k (omega arith) (omega (arith, long.radii)) ∙ held.radii k kl;
        }

    held_number : (k i : ℕ) → k < n → i < 12 → entry nu (k * 12 + i) ≡ entry (place_numbers (places_of m k)) i
    unfolding lengths_of
    held_number k i kl il =
        let q : total b.shapes ≡ n = ap total held.shapes in
        carried.numbers (k * 12 + i) (omega arith) (omega (arith, long.numbers)) ∙ held.numbers k i kl il

    held_flag : (k : ℕ) → k < n → get_or fl k 0 ≡ flag_of (places_of m k).cut
    unfolding lengths_of
    held_flag k kl =
        let q : total b.shapes ≡ n = ap total held.shapes in
        carried.flags k (omega arith) (omega (arith, long.flags)) ∙ held.flags k kl

    -- an edit of them
    module _ (e f : Edit) (twin : Twin d e f) (room : Long (lengths_of l) (total e.made.shapes)) where
      -- a place that is not recut held its cut already
      stood : (k : ℕ) → k < total e.made.shapes → e.recuts k ≡ false → places_of m (e.stood k) ≡ places_of f.made k
      stood k kl w =
          sym (places-alike m.shapes m.kind (anchor_at an) m.anchor (entry ra) m.radius lent_alike (e.stood k) (twin.faith.stood_in k kl))
          ∙ sym (twin.faith.cut_kept k kl w)
          ∙ twin.places k kl

      new-number : (k i : ℕ) → k < total e.made.shapes → i < 12 → numbers_after e nu (k * 12 + i) ≡ entry (place_numbers (places_of f.made k)) i
      new-number k i kl il = number-after e nu k i il ∙ go (e.recuts k) refl
        where
          go : (t : Bool) → e.recuts k ≡ t → cond t (entry (place_numbers (places_of e.made k)) i) (entry nu (e.stood k * 12 + i)) ≡ entry (place_numbers (places_of f.made k)) i
          go true w = ap (λ p. entry (place_numbers p) i) (twin.places k kl)
          go false w = held_number (e.stood k) i (twin.faith.stood_in k kl) il ∙ ap (λ p. entry (place_numbers p) i) (stood k kl w)

      new_flag : (k : ℕ) → k < total e.made.shapes → flags_after e fl k ≡ flag_of (places_of f.made k).cut
      unfolding flags_after cached_flags
      new_flag k kl = go (e.recuts k) refl
        where
          go : (t : Bool) → e.recuts k ≡ t → cond t (flag_of (places_of e.made k).cut) (get_or fl (e.stood k) 0) ≡ flag_of (places_of f.made k).cut
          go true w = ap (λ (p : Place). flag_of p.cut) (twin.places k kl)
          go false w = held_flag (e.stood k) (twin.faith.stood_in k kl) ∙ ap (λ (p : Place). flag_of p.cut) (stood k kl w)

      pub edited-held : Holds (returned (edited_lists l e) b) f.made
      unfolding returned edited_lists lengths_of
      edited-held =
          let q = twin.shapes in
          let z : total e.made.shapes ≡ total f.made.shapes = ap total q in
          let y = total e.made.shapes in
          record {
            shapes = q;
            anchors_long = rw (← z) (back-written_long (y * 6) (anchor_numbers e.made.anchor) an b.anchors (y * 6) room.anchors);
            radii_long = rw (← z) (back-written_long y e.made.radius ra b.radii y room.radii);
            numbers_long = rw (← z) (back-written_long (y * 12) (numbers_after e nu) nu b.numbers (y * 12) room.numbers);
            flags_long = rw (← z) (back-written_long y (flags_after e fl) fl b.flags y room.flags);
            anchors = λ k kl. back-anchor y e.made.anchor an b.anchors room.anchors k (omega arith) ∙ twin.anchors k (omega arith);
            radii = λ k kl. back-written nan y e.made.radius ra b.radii room.radii k (omega arith) ∙ twin.radii k (omega arith);
            numbers = λ k i kl il. back-written nan (y * 12) (numbers_after e nu) nu b.numbers room.numbers (k * 12 + i) (omega arith) ∙ new-number k i (omega arith) il;
            flags = λ k kl. back-written 0 y (flags_after e fl) fl b.flags room.flags k (omega arith) ∙ new_flag k (omega arith);
          }
