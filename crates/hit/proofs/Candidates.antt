-- The candidates of `hit_segment` segment by segment, for any number of chords, and what it answers by what was found. Assumes nothing.
use mathlib.Core.Path.{◌≡◌, refl, sym, ap, ◌∙◌}
use mathlib.Core.Bool.{Bool, true, false, ◌&&◌, cond, true≢false}
use mathlib.Core.List.{List}
use Prim.Native.Nat.{ℕ, zero, suc, ◌+◌, ◌-◌, ◌*◌, ◌/◌, ◌%◌, ◌≤◌, ◌<◌}
use native.Mathlib.Nat.{mul-add-div_right, mul-add-mod_self_right, div-eq_of_lt, mod-eq_of_lt, add-zero, add-suc, suc-mul}
use native.Mathlib.Omega.{arith}
use lib.ListN.{length}
use lib.Ieee.{Float, is_nan, le}
use Rattle.geom.specs.declared.point.P.{P}
use Rattle.geom.specs.Point.{len}
use Rattle.std.proofs.Common.{Ok, Err, Some, None}
use Rattle.refusal.specs.declared.Refusal.{Refusal}
use Rattle.refusal.specs.Order.{accepted, refused, answering}
use Rattle.refusal.proofs.Verdicts.{answers_err}
use Rattle.path.specs.Flat.{curve_of}
use Rattle.path.specs.Shape.{count_of, closed_of, total, word_at, start, sub_of, is_segment}
use Rattle.hit.specs.declared.best.Best.{Best}
use Rattle.path.specs.declared.shape.AnchorRef.{AnchorRef}
use Rattle.hit.specs.Located.{index_of, located}
use Rattle.hit.specs.Steps.{step_offset, step_parameter, word_over, starts_at, curve_from, chord_distance, chord_within, nearest_chord}
use Rattle.hit.specs.Tried.{tried, tried_from}
use Rattle.hit.specs.Calls.{hit_verdict, chord_at, hit_segment_answer}
use Rattle.real.proofs.Orders.{le-number}
use Rattle.hit.proofs.Subpaths.{sub_at_lem, index_at, placed}
use Rattle.hit.proofs.Walked.{Stands, stands_skipped, stands-tried}
use Rattle.hit.proofs.Theorems.{nearest-is}

-- chord j of the segment from place x
chord_place : (N x j : ℕ) → j < N → (x * N + j) / N ≡ x
chord_place N x j h = mul-add-div_right (omega arith) x j ∙ ap (λ z. x + z) (div-eq_of_lt h) ∙ add-zero x

chord-step : (N x j : ℕ) → j < N → (x * N + j) % N ≡ j
chord-step N x j h = mul-add-mod_self_right x N j ∙ mod-eq_of_lt h

module _ (shapes : List ℕ) (anchors : List Float) (N : ℕ) (q : P) (tol : Float) where
  abbrev pub ChordsStand : ℕ → Best → Type 0
  ChordsStand i b = Stands (chord_within shapes anchors N q tol) (chord_distance shapes anchors N q) i b

  -- ---- anchor a of subpath s
  module _ (s : ℕ) (l : s < length shapes) where
    abbrev n : ℕ
    n = count_of (word_at shapes s)

    abbrev closed : Bool
    closed = closed_of (word_at shapes s)

    abbrev k : ℕ
    k = start shapes s

    module _ (a : ℕ) (h : a < n) where
      starts : starts_at shapes (k + a) ≡ is_segment n closed a
      unfolding starts_at word_over
      starts = rw (sub_at_lem shapes s a l h, index_at shapes s a l h)

      curve : curve_from shapes anchors (k + a) ≡ curve_of anchors k n a
      unfolding curve_from word_over
      curve = rw (sub_at_lem shapes s a l h, index_at shapes s a l h)

      distance : (j : ℕ) → j < N → chord_distance shapes anchors N q ((k + a) * N + j) ≡ len (step_offset N q (curve_of anchors k n a) j)
      unfolding chord_distance
      distance j m = rw (chord_place N (k + a) j m, chord-step N (k + a) j m, curve)

      within-is : (b : Bool) → is_segment n closed a ≡ b → (j : ℕ) → j < N
          → chord_within shapes anchors N q tol ((k + a) * N + j) ≡ (b && le (len (step_offset N q (curve_of anchors k n a) j)) tol)
      unfolding chord_within
      within-is b e j m = rw (distance j m, chord_place N (k + a) j m, starts, e)

      one_segment : (r : Best) → ChordsStand ((k + a) * N) r
          → ChordsStand ((k + a) * N + N) (cond (is_segment n closed a) (tried tol ((k + a) * N) (step_offset N q (curve_of anchors k n a)) r N) r)
      one_segment r w = go (is_segment n closed a) refl
        where
          go : (b : Bool) → is_segment n closed a ≡ b → ChordsStand ((k + a) * N + N) (cond (is_segment n closed a) (tried tol ((k + a) * N) (step_offset N q (curve_of anchors k n a)) r N) r)
          go true e = rw e (stands-tried _ _ tol ((k + a) * N) N (step_offset N q (curve_of anchors k n a)) r w (within-is true e) distance)
          go false e = rw e (stands_skipped _ _ ((k + a) * N) N r w (within-is false e))

    segments_stand : (b : Best) → ChordsStand (k * N) b → (a : ℕ) → a ≤ n → ChordsStand ((k + a) * N) (tried_from tol N q anchors k n closed b a)
    unfolding tried_from
    segments_stand b w zero h = rw (add-zero k) w
    segments_stand b w (suc a) h =
        let e : (k + suc a) * N ≡ (k + a) * N + N = ap (λ z. z * N) (add-suc k a) ∙ suc-mul (k + a) N in
        rw e (one_segment a h (tried_from tol N q anchors k n closed b a) (segments_stand b w a (omega arith)))

  pub subpath-stands : (s : ℕ) → s < length shapes → (x y : ℕ) (b r : Best) → x ≡ start shapes s → y ≡ start shapes s + count_of (word_at shapes s)
      → ChordsStand (x * N) b → r ≡ tried_from tol N q anchors x (count_of (word_at shapes s)) (closed_of (word_at shapes s)) b (count_of (word_at shapes s)) → ChordsStand (y * N) r
  subpath-stands s l x y b r e f w g = rw (f, g, e) (segments_stand s l b (rw e at w) (count_of (word_at shapes s)) (omega arith))

  -- what is found is a chord of the path
  pub chord_below : (i : ℕ) → nearest_chord shapes anchors N q tol ≡ Some i → i < total shapes * N
  unfolding nearest_chord chord_within
  chord_below i e = (nearest-is _ _ number (total shapes * N) i e).place
    where
      right : (a b : Bool) → (a && b) ≡ true → b ≡ true
      right true b f = f
      right false b f = absurd (true≢false (sym f))

      number : (j : ℕ) → chord_within shapes anchors N q tol j ≡ true → is_nan (chord_distance shapes anchors N q j) ≡ false
      number j f = le-number _ tol (right (starts_at shapes (j / N)) (le (chord_distance shapes anchors N q j) tol) f)

-- ---- the answer
module _ (shapes : List ℕ) (anchors : List Float) (q : P) where
  pub chord_is : (i : ℕ) → i / 48 < total shapes → (o : AnchorRef) (c : List P) (t : Float) → o ≡ located shapes (i / 48)
      → c ≡ curve_of anchors (i / 48 - o.anchor) (count_of (word_at shapes o.subpath)) o.anchor → t ≡ step_parameter 48 q c (i % 48)
      → record { subpath = o.subpath; anchor = o.anchor; t = t } ≡ chord_at 48 shapes anchors q i
  unfolding chord_at curve_from word_over located
  chord_is i h o c t o_is c-is t-is =
      let p = (placed shapes (i / 48) h).place in
      let e : i / 48 - index_of shapes (i / 48) ≡ start shapes (sub_of shapes (i / 48)) = omega arith in
      rw (t-is, c-is, o_is, e)

module _ (shapes : List ℕ) (anchors : List Float) (q : P) (tol : Float) where
  pub segment-refused : (why : Refusal) → hit_verdict shapes anchors q tol ≡ refused why → Err why ≡ hit_segment_answer shapes anchors q tol
  unfolding hit_segment_answer
  segment-refused why e = answers_err _ e

  module _ (p : hit_verdict shapes anchors q tol ≡ accepted) where
    pub segment_missed : nearest_chord shapes anchors 48 q tol ≡ None → Ok None ≡ hit_segment_answer shapes anchors q tol
    unfolding hit_segment_answer answering
    segment_missed e = rw (p, e)

    pub segment_found : (i : ℕ) → nearest_chord shapes anchors 48 q tol ≡ Some i → Ok (Some (chord_at 48 shapes anchors q i)) ≡ hit_segment_answer shapes anchors q tol
    unfolding hit_segment_answer answering
    segment_found i e = rw (p, e)
