-- What the cut leaves at index i of a view w is what it leaves at index s i of a view v, where near i the two look alike through s:
-- anchors within 3 steps, radii within 2, the kind at i alone. Locality and the split are instances. Assumes nothing.
use mathlib.Core.Path.{◌≡◌, refl, sym, ap, ◌∙◌}
use mathlib.Core.Bool.{Bool, true, false, ◌&&◌, ◌||◌, cond}
use Prim.Native.Nat.{ℕ, suc, ◌≤◌, ◌<◌}
use native.Mathlib.Omega.{arith}
use lib.Ieee.{Float, lt}
use Rattle.views.proofs.Bools.{both}
use Rattle.path.specs.declared.anchor.Anchor.{Anchor}
use Rattle.corner.specs.declared.corner.Corner.{Corner}
use Rattle.corner.specs.declared.kind.CornerKind.{CornerKind}
use Rattle.cut.specs.declared.places.Trim.{Trim}
use Rattle.std.proofs.Common.{Option, Some, None, option_map}
use Rattle.std.specs.Option.{option_map_or}
use Rattle.real.specs.Operators.{◌⊖◌, 0f, 1f}
use Rattle.cubic.specs.Cubic.{CEPS}
use Rattle.real.specs.StandIns.{max, min}
use Rattle.corner.specs.declared.cut.Cut.{Cut}
use Rattle.corner.specs.Corner.{corner_of, max_radius_beside}
use Rattle.corner.proofs.Measures.{none_some}
use Rattle.corner.specs.Cut.{cut}
use Rattle.cut.specs.View.{View, arrives, leaves}
use Rattle.path.specs.Shape.{prev, next}
use Rattle.cut.specs.Places.{corner_at, own_at, asked_at, fitted_at, is_cut, cut_at, trim, trimmed_at, in_at, out_at, place_at}
use Rattle.cut.specs.Near.{near}
use Rattle.cut.proofs.Steps.{prev-lt, next-lt, next-prev, near_self, near_more, near-prev, near_next, leaves-prev}

-- j is an index of w, within k steps of i
pub record In (w : View) (i k j : ℕ) : Type 0 where
  pub inside : j < w.n
  pub close : near k w.n w.closed i j ≡ true

pub record Follows (v w : View) (s : ℕ → ℕ) (i : ℕ) : Type 0 where
  pub inside : i < w.n
  pub chords : w.chords ≡ v.chords
  pub arriving : (j : ℕ) → In w i 2 j → arrives w j ≡ arrives v (s j)
  pub leaving : (j : ℕ) → In w i 2 j → leaves w j ≡ leaves v (s j)
  pub back : (j : ℕ) → In w i 2 j → arrives w j ≡ true → s (prev w.n j) ≡ prev v.n (s j)
  pub on : (j : ℕ) → In w i 2 j → leaves w j ≡ true → s (next w.n j) ≡ next v.n (s j)
  pub anchors : (j : ℕ) → In w i 3 j → w.anchor j ≡ v.anchor (s j)
  pub radii : (j : ℕ) → In w i 2 j → w.radius j ≡ v.radius (s j)
  pub kind : w.kind i ≡ v.kind (s i)

-- ---- a cond whose arms agree where they are taken
pub cond_same : {A : Type 0} (b c : Bool) (x y z : A) → b ≡ c → (b ≡ true → x ≡ y) → cond b x z ≡ cond c y z
cond_same true c x y z e h = rw (← e) (h refl)
cond_same false c x y z e h = rw (← e)

-- ---- a corner that there is has both neighbours
pub inner : (w : View) (j : ℕ) (c : Corner) → corner_at w j ≡ Some c → (arrives w j ≡ true) × (leaves w j ≡ true)
unfolding corner_at
inner w j c e = both (arrives w j) (leaves w j) (go (arrives w j && leaves w j) e)
  where
    go : (b : Bool) → cond b (corner_of w.chords (w.anchor j) (w.anchor (prev w.n j)) (w.anchor (next w.n j))) None ≡ Some c → b ≡ true
    go true h = refl
    go false h = absurd (none_some c h)

-- ---- a segment reads of the cuts at its ends only what does not turn on the kind
made_of : ℕ → Option Corner → Float → CornerKind → Option Cut
made_of h c r k = cond (lt CEPS r) (option_map (λ x. cut h x r k) c) None

read-same : {A : Type 0} (g : Cut → A) (h : ℕ) (c : Option Corner) (r : Float) (k l : CornerKind) (z : A) → ((x : Corner) → g (cut h x r k) ≡ g (cut h x r l))
    → option_map_or g (made_of h c r k) z ≡ option_map_or g (made_of h c r l) z
unfolding made_of
read-same g h c r k l z e = go c (lt CEPS r)
  where
    go : (c : Option Corner) (b : Bool) → option_map_or g (cond b (option_map (λ x. cut h x r k) c) None) z ≡ option_map_or g (cond b (option_map (λ x. cut h x r l) c) None) z
    go (Some x) true = e x
    go (Some x) false = refl
    go None true = refl
    go None false = refl

cut_is : (v : View) (i : ℕ) → cut_at v i ≡ made_of v.chords (corner_at v i) (fitted_at v i) (v.kind i)
unfolding cut_at is_cut made_of
cut_is v i = refl

segment : ℕ → Anchor → Anchor → Option Corner → Option Corner → Float → Float → CornerKind → CornerKind → Trim
segment h a b c d r q k l = cond (lt CEPS r || lt CEPS q) (trim a b (made_of h c r k) (made_of h d q l)) (record { out = a.h_out; into = b.h_in })

segment-kind : (h : ℕ) (a b : Anchor) (c d : Option Corner) (r q : Float) (k l k' l' : CornerKind) → segment h a b c d r q k l ≡ segment h a b c d r q k' l'
unfolding segment trim cut
segment-kind h a b c d r q k l k' l' =
    rw (
      read-same (λ x. x.tv) h c r k k' 0f (λ x. refl),
      read-same (λ x. 1f ⊖ x.tu) h d q l l' 1f (λ x. refl),
      read-same (λ x. x.end) h c r k k' a.p (λ x. refl),
      read-same (λ x. x.start) h d q l l' b.p (λ x. refl),
    )
    refl

trimmed_is : (v : View) (j k : ℕ) → leaves v j ≡ true → k ≡ next v.n j
    → trimmed_at v j ≡ segment v.chords (v.anchor j) (v.anchor k) (corner_at v j) (corner_at v k) (fitted_at v j) (fitted_at v k) (v.kind j) (v.kind k)
unfolding trimmed_at is_cut cut_at segment made_of
trimmed_is v j k l e = rw (e, l)

module _ (v w : View) (s : ℕ → ℕ) (i : ℕ) (f : Follows v w s i) where
  more : (k j : ℕ) → In w i k j → In w i (suc k) j
  more k j h = record { inside = h.inside; close = near_more k w.n w.closed i j h.close }

  within : i ≤ w.n
  within = let l = f.inside in omega arith

  step_back : (k j : ℕ) → In w i k j → arrives w j ≡ true → In w i (suc k) (prev w.n j)
  unfolding arrives
  step_back k j h e = record { inside = prev-lt w.n j h.inside; close = near-prev k w.n w.closed i j within h.inside e h.close }

  step_on : (k j : ℕ) → In w i k j → leaves w j ≡ true → In w i (suc k) (next w.n j)
  unfolding leaves
  step_on k j h e = record { inside = next-lt w.n j h.inside; close = near_next k w.n w.closed i j within h.inside e h.close }

  self : In w i 0 i
  self = record { inside = f.inside; close = near_self 0 w.n w.closed i }

  corner-same : (j : ℕ) → In w i 2 j → corner_at w j ≡ corner_at v (s j)
  unfolding corner_at
  corner-same j h = cond_same (arrives w j && leaves w j) (arrives v (s j) && leaves v (s j)) _ _ None (cc (f.arriving j h, f.leaving j h)) alike
    where
      alike : (arrives w j && leaves w j) ≡ true
          → corner_of w.chords (w.anchor j) (w.anchor (prev w.n j)) (w.anchor (next w.n j)) ≡ corner_of v.chords (v.anchor (s j)) (v.anchor (prev v.n (s j))) (v.anchor (next v.n (s j)))
      alike e =
          let sides = both (arrives w j) (leaves w j) e in
          cc (f.chords, f.anchors j (more 2 j h), f.anchors (prev w.n j) (step_back 2 j h sides.0), f.anchors (next w.n j) (step_on 2 j h sides.1), f.back j h sides.0, f.on j h sides.1)

  asked-same : (j : ℕ) → In w i 2 j → asked_at w j ≡ asked_at v (s j)
  unfolding asked_at own_at
  asked-same j h = rw (corner-same j h, f.radii j h)

  fitted-same : (j : ℕ) → In w i 1 j → fitted_at w j ≡ fitted_at v (s j)
  unfolding fitted_at own_at
  fitted-same j h = ap (λ c. option_map_or fits c 0f) (corner-same j (more 1 j h)) ∙ go (corner_at v (s j)) (corner-same j (more 1 j h))
    where
      fits : Corner → Float
      fits x = min (max (w.radius j) 0f) (max_radius_beside x (asked_at w (prev w.n j)) (asked_at w (next w.n j)))

      go : (c : Option Corner) → corner_at w j ≡ c
          → option_map_or fits c 0f ≡ option_map_or (λ x. min (max (v.radius (s j)) 0f) (max_radius_beside x (asked_at v (prev v.n (s j))) (asked_at v (next v.n (s j))))) c 0f
      go None e = refl
      go (Some c) e =
          let both = inner w j c e in
          cc (f.radii j (more 1 j h), asked-same (prev w.n j) (step_back 1 j h both.0), asked-same (next w.n j) (step_on 1 j h both.1), f.back j (more 1 j h) both.0, f.on j (more 1 j h) both.1)

  cut-same : (j : ℕ) → In w i 1 j → is_cut w j ≡ is_cut v (s j)
  unfolding is_cut
  cut-same j h = ap (lt CEPS) (fitted-same j h)

  -- the segment that leaves j, where j and the next are within a step
  trimmed_same : (j : ℕ) → In w i 1 j → leaves w j ≡ true → In w i 1 (next w.n j) → trimmed_at w j ≡ trimmed_at v (s j)
  trimmed_same j h l g =
      let k = next w.n j in
      trimmed_is w j k l refl
      ∙ segment-kind w.chords (w.anchor j) (w.anchor k) (corner_at w j) (corner_at w k) (fitted_at w j) (fitted_at w k) (w.kind j) (w.kind k) (v.kind (s j)) (v.kind (s k))
      ∙ cc (f.chords, f.anchors j (more 2 j (more 1 j h)), f.anchors k (more 2 k (more 1 k g)), corner-same j (more 1 j h), corner-same k (more 1 k g), fitted-same j h, fitted-same k g)
      ∙ sym (trimmed_is v (s j) (s k) (sym (f.leaving j (more 1 j h)) ∙ l) (f.on j (more 1 j h) l))

  -- where a segment arrives at i, it leaves the anchor before
  leaves-back : arrives w i ≡ true → leaves w (prev w.n i) ≡ true
  unfolding arrives leaves
  leaves-back e = leaves-prev w.n i w.closed f.inside e

  in-same : in_at w i ≡ in_at v (s i)
  unfolding in_at
  in-same = go (arrives w i) refl
    where
      j : ℕ
      j = prev w.n i

      go : (b : Bool) → arrives w i ≡ b → cond (arrives w i) (trimmed_at w j).into (w.anchor i).h_in ≡ cond (arrives v (s i)) (trimmed_at v (prev v.n (s i))).into (v.anchor (s i)).h_in
      go true e =
          let one = more 0 i self in
          let g : In w i 1 (next w.n j) = rw (next-prev w.n i f.inside) one in
          rw (← f.arriving i (more 1 i one), e, trimmed_same j (step_back 0 i self e) (leaves-back e) g, f.back i (more 1 i one) e)
      go false e =
          let two = more 1 i (more 0 i self) in
          rw (← f.arriving i two, e, f.anchors i (more 2 i two))

  out_same : out_at w i ≡ out_at v (s i)
  unfolding out_at
  out_same = go (leaves w i) refl
    where
      go : (b : Bool) → leaves w i ≡ b → cond (leaves w i) (trimmed_at w i).out (w.anchor i).h_out ≡ cond (leaves v (s i)) (trimmed_at v (s i)).out (v.anchor (s i)).h_out
      go true e =
          let one = more 0 i self in
          rw (← f.leaving i (more 1 i one), e, trimmed_same i one e (step_on 0 i self e))
      go false e =
          let two = more 1 i (more 0 i self) in
          rw (← f.leaving i two, e, f.anchors i (more 2 i two))

  made-same : cut_at w i ≡ cut_at v (s i)
  made-same = let one = more 0 i self in cut_is w i ∙ cc (f.chords, corner-same i (more 1 i one), fitted-same i one, f.kind) ∙ sym (cut_is v (s i))

  pub follows : place_at w i ≡ place_at v (s i)
  unfolding place_at
  follows =
      let one = more 0 i self in
      cc (made-same, f.anchors i (more 2 i (more 1 i one)), in-same, out_same)
