-- The words of a job, put into lists one by one, leave its shape words, its numbers and its radii there. Assumes nothing.
use mathlib.Core.Path.{◌≡◌, refl, sym, ap, ap₂, ◌∙◌}
use mathlib.Core.Bool.{Bool, true, false, cond}
use mathlib.Core.List.{List, [], ◌∷◌, ◌++◌, map, append_assoc}
use mathlib.Core.Option.{Option, none, some}
use Prim.Native.Nat.{ℕ, zero, suc, ◌+◌, ◌-◌, ◌*◌, ◌<◌}
use native.Mathlib.Nat.{add-zero, not-suc-le-zero, le_of_suc-le-suc}
use native.Mathlib.Numerals.{add-one}
use native.Mathlib.Omega.{arith}
use lib.Dec.{lit<}
use lib.ListN.{length, set}
use lib.Seq.{sets, set-set, set_comm}
use lib.Ieee.{Float}
use Rattle.real.specs.Operators.{0f}
use Rattle.job.specs.declared.kinds.Kind.TheVariants as kinds
use Rattle.job.specs.declared.kinds.Kind.TheVariants.{Head, X, Y, InX, InY, OutX, OutY, Radius, End}
use Rattle.job.specs.Kinds.{kind_of}
use Rattle.job.specs.Words.{Word}
use Rattle.job.specs.Number.{number}
use Rattle.job.specs.Grammar.{Pair, Anchor, Subpath, Job, pair_then, radius_then, rest_then, anchor_then, anchors_then, subpaths_then, end, spelled, anchors_of}
use Rattle.job.specs.Content.{shape_word, shape_words, handle, radius, radius_of, six_of, numbers_of, job_numbers, job_radii}
use Rattle.job.specs.Lists.{put_shape, put_coordinate, put_number, put_radius, lay_shapes, lay_numbers, lay_radii}

-- ---- stores and runs of stores
module _ {A : Type 0} where
  set_under : (vs xs : List A) (b j : ℕ) (w : A) → j < b → set (sets xs b vs) j w ≡ sets (set xs j w) b vs
  set_under [] xs b j w h = refl
  set_under (v ∷ vs) xs b j w h = set_under vs (set xs b v) (suc b) j w (omega arith) ∙ ap (λ l. sets l (suc b) vs) (set_comm xs b j v w (λ e. omega arith))

  -- a store within a run
  set-within : (vs xs : List A) (b i : ℕ) (w : A) → i < length vs → set (sets xs b vs) (b + i) w ≡ sets xs b (set vs i w)
  set-within [] xs b i w h = absurd (not-suc-le-zero h)
  set-within (v ∷ vs) xs b zero w h =
      ap (λ k. set (sets (set xs b v) (suc b) vs) k w) (add-zero b) ∙ set_under vs (set xs b v) (suc b) b w (omega arith) ∙ ap (λ l. sets l (suc b) vs) (set-set xs b v w)
  set-within (v ∷ vs) xs b (suc i) w h =
      let e : b + suc i ≡ suc b + i = omega arith in
      ap (λ k. set (sets (set xs b v) (suc b) vs) k w) e ∙ set-within vs (set xs b v) (suc b) i w (le_of_suc-le-suc h)

  -- a run after a run
  sets_after : (us vs xs : List A) (b c : ℕ) → c ≡ b + length us → sets (sets xs b us) c vs ≡ sets xs b (us ++ vs)
  sets_after [] vs xs b c e = ap (λ k. sets xs k vs) (e ∙ omega arith)
  sets_after (u ∷ us) vs xs b c e = sets_after us vs (set xs b u) (suc b) c (e ∙ omega arith)

last_index : (a : ℕ) → a + 1 - 1 ≡ a
last_index a = omega arith

-- ---- numbers
-- the six stores of an anchor's point
point_run : (xs : List Float) (b : ℕ) (x y : Float)
    → set (set (set (set (set (set xs (b + 0) x) (b + 0 + 2) x) (b + 0 + 4) x) (b + 1) y) (b + 1 + 2) y) (b + 1 + 4) y ≡ sets xs b (x ∷ y ∷ x ∷ y ∷ x ∷ y ∷ [])
point_run xs b x y =
    let e0 : b + 0 ≡ b = omega arith in
    let e2 : b + 2 ≡ suc (suc b) = omega arith in
    let e4 : b + 4 ≡ suc (suc (suc (suc b))) = omega arith in
    let e1 : b + 1 ≡ suc b = omega arith in
    let e3 : suc b + 2 ≡ suc (suc (suc b)) = omega arith in
    let e5 : suc b + 4 ≡ suc (suc (suc (suc (suc b)))) = omega arith in
    let l = set xs b x in
    rw (
      e0,
      e2,
      e4,
      e1,
      e3,
      e5,
      set_comm (set l (suc (suc b)) x) (suc (suc (suc (suc b)))) (suc b) x y (λ e. omega arith),
      set_comm l (suc (suc b)) (suc b) x y (λ e. omega arith),
      set_comm (set (set l (suc b) y) (suc (suc b)) x) (suc (suc (suc (suc b)))) (suc (suc (suc b))) x y (λ e. omega arith),
    )

-- what each word of an anchor stores
module _ (a v : ℕ) (xs : List Float) where
  put_2 : put_number (a + 1) X v xs ≡ set (set (set xs (a * 6 + 0) (number v)) (a * 6 + 0 + 2) (number v)) (a * 6 + 0 + 4) (number v)
  unfolding put_number put_coordinate
  put_2 = rw (last_index a)

  put_3 : put_number (a + 1) Y v xs ≡ set (set (set xs (a * 6 + 1) (number v)) (a * 6 + 1 + 2) (number v)) (a * 6 + 1 + 4) (number v)
  unfolding put_number put_coordinate
  put_3 = rw (last_index a)

  put_4 : put_number (a + 1) InX v xs ≡ set xs (a * 6 + 2) (number v)
  unfolding put_number put_coordinate
  put_4 = rw (last_index a)

  put_5 : put_number (a + 1) InY v xs ≡ set xs (a * 6 + 3) (number v)
  unfolding put_number put_coordinate
  put_5 = rw (last_index a)

  put_6 : put_number (a + 1) OutX v xs ≡ set xs (a * 6 + 4) (number v)
  unfolding put_number put_coordinate
  put_6 = rw (last_index a)

  put_7 : put_number (a + 1) OutY v xs ≡ set xs (a * 6 + 5) (number v)
  unfolding put_number put_coordinate
  put_7 = rw (last_index a)

module _ (a : ℕ) (ws : List Word) (xs : List Float) where
  lay_in : (p : Pair) (i : Option Pair) (v w : Float) →
      lay_numbers (a + 1) (pair_then 4 i ws) (sets xs (a * 6) (number p.x ∷ number p.y ∷ number p.x ∷ number p.y ∷ v ∷ w ∷ []))
      ≡ lay_numbers (a + 1) ws (sets xs (a * 6) (number p.x ∷ number p.y ∷ number (handle p i).x ∷ number (handle p i).y ∷ v ∷ w ∷ []))
  unfolding lay_numbers pair_then handle kind_of
  lay_in p none v w = refl
  lay_in p (some q) v w =
      let x = number p.x in
      let y = number p.y in
      let l = x ∷ y ∷ x ∷ y ∷ v ∷ w ∷ [] in
      let k = x ∷ y ∷ number q.x ∷ y ∷ v ∷ w ∷ [] in
      ap (lay_numbers (a + 1) ws)
      (ap (put_number (a + 1) InY q.y) (put_4 a q.x (sets xs (a * 6) l) ∙ set-within l xs (a * 6) 2 (number q.x) (lit< tt))
      ∙ put_5 a q.y (sets xs (a * 6) k)
      ∙ set-within k xs (a * 6) 3 (number q.y) (lit< tt))

  lay_out : (p : Pair) (o : Option Pair) (s t v w : Float) →
      lay_numbers (a + 1) (pair_then 6 o ws) (sets xs (a * 6) (s ∷ t ∷ v ∷ w ∷ number p.x ∷ number p.y ∷ []))
      ≡ lay_numbers (a + 1) ws (sets xs (a * 6) (s ∷ t ∷ v ∷ w ∷ number (handle p o).x ∷ number (handle p o).y ∷ []))
  unfolding lay_numbers pair_then handle kind_of
  lay_out p none s t v w = refl
  lay_out p (some q) s t v w =
      let l = s ∷ t ∷ v ∷ w ∷ number p.x ∷ number p.y ∷ [] in
      let k = s ∷ t ∷ v ∷ w ∷ number q.x ∷ number p.y ∷ [] in
      ap (lay_numbers (a + 1) ws)
      (ap (put_number (a + 1) OutY q.y) (put_6 a q.x (sets xs (a * 6) l) ∙ set-within l xs (a * 6) 4 (number q.x) (lit< tt))
      ∙ put_7 a q.y (sets xs (a * 6) k)
      ∙ set-within k xs (a * 6) 5 (number q.y) (lit< tt))

  lay_no_radius : (n : ℕ) (r : Option ℕ) → lay_numbers n (radius_then r ws) xs ≡ lay_numbers n ws xs
  unfolding lay_numbers radius_then kind_of
  lay_no_radius n none = refl
  lay_no_radius n (some v) = refl

lay_anchor : (a : ℕ) (c : Anchor) (ws : List Word) (xs : List Float) → lay_numbers a (anchor_then c ws) xs ≡ lay_numbers (a + 1) ws (sets xs (a * 6) (six_of c))
unfolding lay_numbers anchor_then rest_then six_of kind_of
lay_anchor a c ws xs =
    let x = number c.p.x in
    let y = number c.p.y in
    let i = handle c.p c.into in
    ap (lay_numbers (a + 1) (rest_then c.into c.out c.radius ws))
    (ap (put_number (a + 1) Y c.p.y) (put_2 a c.p.x xs) ∙ put_3 a c.p.y (set (set (set xs (a * 6 + 0) x) (a * 6 + 0 + 2) x) (a * 6 + 0 + 4) x) ∙ point_run xs (a * 6) x y)
    ∙ lay_in a (pair_then 6 c.out (radius_then c.radius ws)) xs c.p c.into x y
    ∙ lay_out a (radius_then c.radius ws) xs c.p c.out x y (number i.x) (number i.y)
    ∙ lay_no_radius a ws (sets xs (a * 6) (six_of c)) (a + 1) c.radius

lay_anchors : (a : ℕ) (more : List Anchor) (ws : List Word) (xs : List Float) → lay_numbers a (anchors_then more ws) xs ≡ lay_numbers (a + length more) ws (sets xs (a * 6) (numbers_of more))
unfolding anchors_then numbers_of six_of
lay_anchors a [] ws xs = rw add-zero
lay_anchors a (c ∷ more) ws xs =
    let e : a + 1 + length more ≡ a + suc (length more) = omega arith in
    lay_anchor a c (anchors_then more ws) xs ∙ lay_anchors (a + 1) more ws (sets xs (a * 6) (six_of c))
    ∙ ap₂ (λ n l. lay_numbers n ws l) e (sets_after (six_of c) (numbers_of more) xs (a * 6) ((a + 1) * 6) (omega arith))

pub numbers-length : (more : List Anchor) → length (numbers_of more) ≡ length more * 6
unfolding numbers_of six_of
numbers-length [] = refl
numbers-length (c ∷ more) = let h = numbers-length more in omega arith

numbers-append : (as₁ as₂ : List Anchor) → numbers_of (as₁ ++ as₂) ≡ numbers_of as₁ ++ numbers_of as₂
unfolding numbers_of
numbers-append [] bs = refl
numbers-append (c ∷ more) bs = ap (λ l. six_of c ++ l) (numbers-append more bs) ∙ sym (append_assoc (six_of c) (numbers_of more) (numbers_of bs))

lay_subpaths : (a : ℕ) (ss : List Subpath) (xs : List Float) → lay_numbers a (subpaths_then ss end) xs ≡ sets xs (a * 6) (numbers_of (anchors_of ss))
unfolding lay_numbers subpaths_then anchors_of numbers_of kind_of
lay_subpaths a [] xs = refl
lay_subpaths a (s ∷ ss) xs =
    let n = numbers-length s.anchors in
    lay_anchors a s.anchors (subpaths_then ss end) xs ∙ lay_subpaths (a + length s.anchors) ss (sets xs (a * 6) (numbers_of s.anchors))
    ∙ sets_after (numbers_of s.anchors) (numbers_of (anchors_of ss)) xs (a * 6) ((a + length s.anchors) * 6) (omega arith)
    ∙ ap (sets xs (a * 6)) (sym (numbers-append s.anchors (anchors_of ss)))

pub numbers-laid : (j : Job) (xs : List Float) → lay_numbers 0 (spelled j) xs ≡ sets xs 0 (job_numbers j)
unfolding lay_numbers spelled kind_of
numbers-laid j xs = lay_subpaths 0 j.subpaths xs

-- ---- radii
module _ (n : ℕ) (ws : List Word) (xs : List Float) where
  pass_in : (i : Option Pair) → lay_radii n (pair_then 4 i ws) xs ≡ lay_radii n ws xs
  unfolding lay_radii pair_then kind_of
  pass_in none = refl
  pass_in (some q) = refl

  pass_out : (o : Option Pair) → lay_radii n (pair_then 6 o ws) xs ≡ lay_radii n ws xs
  unfolding lay_radii pair_then kind_of
  pass_out none = refl
  pass_out (some q) = refl

round_2 : (a v : ℕ) (xs : List Float) → put_radius (a + 1) X v xs ≡ set xs a 0f
unfolding put_radius
round_2 a v xs = rw (last_index a)

round_8 : (a v : ℕ) (xs : List Float) → put_radius (a + 1) Radius v xs ≡ set xs a (number v)
unfolding put_radius
round_8 a v xs = rw (last_index a)

lay_radius : (a : ℕ) (r : Option ℕ) (ws : List Word) (xs : List Float) → lay_radii (a + 1) (radius_then r ws) (set xs a 0f) ≡ lay_radii (a + 1) ws (set xs a (radius r))
unfolding lay_radii radius_then radius kind_of
lay_radius a none ws xs = refl
lay_radius a (some v) ws xs = ap (lay_radii (a + 1) ws) (round_8 a v (set xs a 0f) ∙ set-set xs a 0f (number v))

lay_rounds : (a : ℕ) (more : List Anchor) (ws : List Word) (xs : List Float) → lay_radii a (anchors_then more ws) xs ≡ lay_radii (a + length more) ws (sets xs a (map radius_of more))
unfolding lay_radii anchors_then anchor_then rest_then radius_of kind_of
lay_rounds a [] ws xs = rw add-zero
lay_rounds a (c ∷ more) ws xs =
    let us = anchors_then more ws in
    let e : a + 1 + length more ≡ a + suc (length more) = omega arith in
    ap (lay_radii (a + 1) (rest_then c.into c.out c.radius us)) (round_2 a c.p.x xs)
    ∙ pass_in (a + 1) (pair_then 6 c.out (radius_then c.radius us)) (set xs a 0f) c.into
    ∙ pass_out (a + 1) (radius_then c.radius us) (set xs a 0f) c.out
    ∙ lay_radius a c.radius us xs
    ∙ lay_rounds (a + 1) more ws (set xs a (radius_of c))
    ∙ ap₂ (λ n k. lay_radii n ws (sets (set xs a (radius_of c)) k (map radius_of more))) e (add-one a)

map-append : (ps qs : List Anchor) → map radius_of (ps ++ qs) ≡ map radius_of ps ++ map radius_of qs
map-append [] qs = refl
map-append (p ∷ ps) qs = ap (λ l. radius_of p ∷ l) (map-append ps qs)

map-length : (ps : List Anchor) → length (map radius_of ps) ≡ length ps
map-length [] = refl
map-length (p ∷ ps) = ap suc (map-length ps)

lay_all_rounds : (a : ℕ) (ss : List Subpath) (xs : List Float) → lay_radii a (subpaths_then ss end) xs ≡ sets xs a (map radius_of (anchors_of ss))
unfolding lay_radii subpaths_then anchors_of kind_of
lay_all_rounds a [] xs = refl
lay_all_rounds a (s ∷ ss) xs =
    let n = map-length s.anchors in
    lay_rounds a s.anchors (subpaths_then ss end) xs ∙ lay_all_rounds (a + length s.anchors) ss (sets xs a (map radius_of s.anchors))
    ∙ sets_after (map radius_of s.anchors) (map radius_of (anchors_of ss)) xs a (a + length s.anchors) (omega arith)
    ∙ ap (sets xs a) (sym (map-append s.anchors (anchors_of ss)))

pub radii_laid : (j : Job) (xs : List Float) → lay_radii 0 (spelled j) xs ≡ sets xs 0 (job_radii j)
unfolding lay_radii spelled kind_of
radii_laid j xs = lay_all_rounds 0 j.subpaths xs

-- ---- shape words
module _ (n shape : ℕ) (ws : List Word) (xs : List ℕ) where
  skip_in : (i : Option Pair) → lay_shapes n shape (pair_then 4 i ws) xs ≡ lay_shapes n shape ws xs
  unfolding lay_shapes pair_then kind_of
  skip_in none = refl
  skip_in (some q) = refl

  skip_out : (o : Option Pair) → lay_shapes n shape (pair_then 6 o ws) xs ≡ lay_shapes n shape ws xs
  unfolding lay_shapes pair_then kind_of
  skip_out none = refl
  skip_out (some q) = refl

  skip_radius : (r : Option ℕ) → lay_shapes n shape (radius_then r ws) xs ≡ lay_shapes n shape ws xs
  unfolding lay_shapes radius_then kind_of
  skip_radius none = refl
  skip_radius (some v) = refl

put_shape_lem : (s shape : ℕ) (xs : List ℕ) → (put_shape (s + 1) kinds.Subpath shape xs ≡ set xs s shape) × (put_shape (s + 1) X shape xs ≡ set xs s shape)
unfolding put_shape
put_shape_lem s shape xs = (rw (last_index s), rw (last_index s))

lay_count : (s shape : ℕ) (more : List Anchor) (ws : List Word) (xs : List ℕ)
    → lay_shapes (s + 1) shape (anchors_then more ws) (set xs s shape) ≡ lay_shapes (s + 1) (shape + length more) ws (set xs s (shape + length more))
unfolding lay_shapes anchors_then anchor_then rest_then kind_of
lay_count s shape [] ws xs = rw add-zero
lay_count s shape (c ∷ more) ws xs =
    let us = anchors_then more ws in
    let e : shape + 1 + length more ≡ shape + suc (length more) = omega arith in
    ap (lay_shapes (s + 1) (shape + 1) (rest_then c.into c.out c.radius us)) ((put_shape_lem s (shape + 1) (set xs s shape)).1 ∙ set-set xs s shape (shape + 1))
    ∙ skip_in (s + 1) (shape + 1) (pair_then 6 c.out (radius_then c.radius us)) (set xs s (shape + 1)) c.into
    ∙ skip_out (s + 1) (shape + 1) (radius_then c.radius us) (set xs s (shape + 1)) c.out
    ∙ skip_radius (s + 1) (shape + 1) us (set xs s (shape + 1)) c.radius
    ∙ lay_count s (shape + 1) more ws xs
    ∙ ap (λ n. lay_shapes (s + 1) n ws (set xs s n)) e

top_bit : (c : Bool) → cond c 1 0 * 2147483648 ≡ cond c 2147483648 0
top_bit true = refl
top_bit false = refl

lay_shapes_lem : (s shape : ℕ) (ss : List Subpath) (xs : List ℕ) → lay_shapes s shape (subpaths_then ss end) xs ≡ sets xs s (map shape_word ss)
unfolding lay_shapes subpaths_then shape_word kind_of
lay_shapes_lem s shape [] xs = refl
lay_shapes_lem s shape (p ∷ ss) xs =
    let us = anchors_then p.anchors (subpaths_then ss end) in
    let bit : ℕ = cond p.closed 1 0 * 2147483648 in
    ap (lay_shapes (s + 1) bit us) ((put_shape_lem s bit xs).0)
    ∙ ap (λ w. lay_shapes (s + 1) w us (set xs s w)) (top_bit p.closed)
    ∙ lay_count s (cond p.closed 2147483648 0) p.anchors (subpaths_then ss end) xs
    ∙ lay_shapes_lem (s + 1) (shape_word p) ss (set xs s (shape_word p))
    ∙ ap (λ k. sets (set xs s (shape_word p)) k (map shape_word ss)) (add-one s)

pub shapes_laid : (j : Job) (xs : List ℕ) → lay_shapes 0 0 (spelled j) xs ≡ sets xs 0 (shape_words j)
unfolding lay_shapes spelled kind_of
shapes_laid j xs = lay_shapes_lem 0 0 j.subpaths xs
