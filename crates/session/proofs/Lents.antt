-- Lent lists: how long they are, what a buffer holds once a part of it was lent and came back, anchors and places in them. Assumes nothing.
use mathlib.Core.Path.{◌≡◌, refl, sym, ap, ◌∙◌}
use mathlib.Core.Logic.{⊎_elim}
use mathlib.Core.Bool.{Bool, true, false, ◌&&◌}
use mathlib.Core.List.{List}
use Prim.Native.Nat.{ℕ, ◌+◌, ◌-◌, ◌*◌, ◌≤◌, ◌<◌}
use native.Mathlib.Omega.{arith}
use lib.Dec.{leb}
use lib.ListN.{length, get_or, drop, length-append, length-drop, get_or-append}
use lib.Seq.{get_or-append-add, get_or-drop}
use lib.Ieee.{Float, nan}
use borrow.Author.Tests.{leb-true}
use Rattle.views.specs.View.{entry, overwrite}
use Rattle.views.proofs.Bools.{both, and_left, and_right}
use Rattle.views.proofs.Laws.{order, length-overwrite, at_overwrite}
use Rattle.path.specs.declared.anchor.Anchor.{Anchor}
use Rattle.path.specs.Shape.{total}
use Rattle.path.specs.Flat.{anchor_at, numbers, anchor_numbers}
use Rattle.path.proofs.Places.{anchor-number}
use Rattle.call.specs.Tests.{path_fits, drawing_fits}
use Rattle.session.specs.Drawing.{Lent}
use Rattle.cache.specs.Tests.{cache_fits}
use Rattle.session.specs.Calls.{lists_fit, room_in}
use Rattle.session.specs.Model.{Lengths, lengths_of, long_for, small_path}
use Rattle.session.specs.Session.{back}

-- ---- lengths
pub record Long (l : Lengths) (n : ℕ) : Type 0 where
  pub anchors : n * 6 ≤ l.anchors
  pub radii : n ≤ l.radii
  pub numbers : n * 12 ≤ l.numbers
  pub flags : n ≤ l.flags

pub long_says : (l : Lengths) (n : ℕ) → long_for l n ≡ true → Long l n
unfolding long_for
long_says l n h =
    let a = leb (n * 6) l.anchors in
    let r = leb n l.radii in
    let c = leb (n * 12) l.numbers in
    let f = leb n l.flags in
    let h1 = and_right a (r && (c && f)) h in
    let h2 = and_right r (c && f) h1 in
    record {
      anchors = leb-true _ _ (and_left a (r && (c && f)) h);
      radii = leb-true _ _ (and_left r (c && f) h1);
      numbers = leb-true _ _ (and_left c f h2);
      flags = leb-true _ _ (and_right c f h2);
    }

-- the calls' test of the lists is the model's
pub fits-same : (l : Lent) → lists_fit l ≡ (small_path l.shapes && long_for (lengths_of l) (total l.shapes))
unfolding lists_fit drawing_fits path_fits cache_fits small_path long_for lengths_of
fits-same l = go (leb (length l.shapes) 32) (leb (total l.shapes) 512) (leb (total l.shapes * 6) (length l.anchors)) (leb (total l.shapes) (length l.radii)) _
  where
    turned : (c d e : Bool) → (e && (c && d)) ≡ (c && (d && e))
    turned true true true = refl
    turned true true false = refl
    turned true false true = refl
    turned true false false = refl
    turned false d true = refl
    turned false d false = refl

    go : (a b c d e : Bool) → ((a && (b && e)) && ((a && (b && c)) && d)) ≡ ((a && b) && (c && (d && e)))
    go true true c d e = turned c d e
    go true false c d e = refl
    go false b c d e = refl

-- lists that pass it: at most 512 places, and long enough for them
pub fits_long : (l : Lent) → lists_fit l ≡ true → (total l.shapes ≤ 512) × Long (lengths_of l) (total l.shapes)
unfolding small_path
fits_long l h =
    let n = total l.shapes in
    let x = both (small_path l.shapes) (long_for (lengths_of l) n) (sym (fits-same l) ∙ h) in
    (leb-true n 512 (and_right (leb (length l.shapes) 32) (leb n 512) x.0), long_says (lengths_of l) n x.1)

pub room-same : (l : Lent) (n : ℕ) → room_in l n ≡ long_for (lengths_of l) n
unfolding room_in long_for lengths_of
room-same l n = refl

-- ---- what a buffer holds once a part of it came back
pub back_in : {A : Type 0} (d : A) (now before : List A) (i : ℕ) → i < length now → get_or (back now before) i d ≡ get_or now i d
back_in d now before i h = get_or-append now (drop (length now) before) d i h

back_out : {A : Type 0} (d : A) (now before : List A) (i : ℕ) → length now ≤ i → get_or (back now before) i d ≡ get_or before i d
back_out d now before i h =
    let e : i ≡ length now + (i - length now) = omega arith in
    ap (λ j. get_or (back now before) j d) e
    ∙ get_or-append-add now (drop (length now) before) (i - length now) d
    ∙ get_or-drop (length now) before (i - length now) d
    ∙ ap (λ j. get_or before j d) (sym e)

-- where the part holds the same, as far as it reaches
pub back_kept : {A : Type 0} (d : A) (now before : List A) (j : ℕ) → (j < length now → get_or now j d ≡ get_or before j d) → get_or (back now before) j d ≡ get_or before j d
back_kept d now before j h = ⊎_elim (λ l. back_out d now before j l) (λ l. back_in d now before j l ∙ h l) (order (length now) j)

pub back_long : {A : Type 0} (now before : List A) (n : ℕ) → n ≤ length before → n ≤ length (back now before)
back_long now before n h = simp (length-append, length-drop) (omega arith)

-- where the part was written
pub back-written : {A : Type 0} (d : A) (n : ℕ) (f : ℕ → A) (xs before : List A) → n ≤ length xs → (j : ℕ) → j < n → get_or (back (overwrite n f xs) before) j d ≡ f j
back-written d n f xs before h j l = let e = length-overwrite n f xs in back_in d (overwrite n f xs) before j (omega arith) ∙ at_overwrite d n f xs j l (omega arith)

pub back-written_long : {A : Type 0} (n : ℕ) (f : ℕ → A) (xs before : List A) (y : ℕ) → y ≤ length xs → y ≤ length (back (overwrite n f xs) before)
back-written_long n f xs before y h = simp (length-append, length-overwrite) (omega arith)

-- ---- anchors
pub anchor-is : (xs : List Float) (k : ℕ) (a : Anchor) → ((i : ℕ) → i < 6 → entry xs (k * 6 + i) ≡ entry (numbers a) i) → anchor_at xs k ≡ a
unfolding numbers
anchor-is xs k a h =
    let z : entry xs (k * 6) ≡ a.p.x = ap (entry xs) (omega arith) ∙ h 0 (omega arith) in
    rw (z, h 1 (omega arith), h 2 (omega arith), h 3 (omega arith), h 4 (omega arith), h 5 (omega arith))

pub anchor-same : (xs ys : List Float) (k : ℕ) → ((j : ℕ) → j < k * 6 + 6 → entry xs j ≡ entry ys j) → anchor_at xs k ≡ anchor_at ys k
anchor-same xs ys k h =
    rw (h (k * 6) (omega arith), h (k * 6 + 1) (omega arith), h (k * 6 + 2) (omega arith), h (k * 6 + 3) (omega arith), h (k * 6 + 4) (omega arith), h (k * 6 + 5) (omega arith))

pub back-anchor : (n : ℕ) (f : ℕ → Anchor) (xs before : List Float) → n * 6 ≤ length xs → (k : ℕ) → k < n → anchor_at (back (overwrite (n * 6) (anchor_numbers f) xs) before) k ≡ f k
back-anchor n f xs before h k l =
    anchor-is (back (overwrite (n * 6) (anchor_numbers f) xs) before) k (f k)
    (λ i il. back-written nan (n * 6) (anchor_numbers f) xs before h (k * 6 + i) (omega arith) ∙ anchor-number f k i il)
