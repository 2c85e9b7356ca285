-- Two edits out of move and radius that are apart commute, on any lists: where both orders are accepted, every list ends with the same bits, and each edit recuts as many places. Assumes nothing.
use mathlib.Core.Path.{◌≡◌, refl, sym, ap, ◌∙◌}
use mathlib.Core.Logic.{⊎_elim}
use mathlib.Core.Bool.{Bool, true, false, ◌&&◌, cond, true≢false}
use mathlib.Core.List.{List}
use Prim.Native.Nat.{ℕ, ◌+◌, ◌*◌, ◌/◌, ◌%◌, ◌≤◌, ◌<◌}
use native.Mathlib.Omega.{arith}
use lib.Dec.{eqb}
use lib.ListN.{length, get_or}
use lib.Ieee.{Float, nan}
use borrow.Author.Tests.{not-true, eqb-true, eq-eqb}
use Rattle.views.specs.View.{entry, overwrite}
use Rattle.views.specs.Search.{count}
use Rattle.views.proofs.Bools.{not_both}
use Rattle.views.proofs.Laws.{same, set_at, at_overwrite, overwrite_cong, overwrite-twice}
use Rattle.views.proofs.Searches.{count_cong}
use Rattle.refusal.specs.Order.{accepted}
use Rattle.refusal.proofs.Verdicts.{holds_says, accepted_says}
use Rattle.path.specs.declared.anchor.Anchor.{Anchor}
use Rattle.path.specs.Shape.{count_of, total, word_at, start}
use Rattle.path.specs.Flat.{anchor_at, anchor_numbers}
use Rattle.path.proofs.Shapes.{total_in, has_says}
use Rattle.path.proofs.Places.{put_at}
use Rattle.cut.specs.Subpath.{view_of}
use Rattle.cut.specs.Recut.{reached}
use Rattle.cut_calls.specs.PlainCut.{sub_at}
use Rattle.cut.specs.Places.{place_numbers}
use Rattle.cut.specs.Rows.{flag_of}
use Rattle.cache.specs.Cache.{cached_numbers, cached_flags}
use Rattle.session.specs.Drawing.{Drawing, Lent, view_in, drawn}
use Rattle.session.specs.Edits.{Call, move, set_radius, split, Edit, moved, resized, edit_of, places_of}
use Rattle.session.specs.Calls.{lists_fit, numbers_after, flags_after, edit_answer, edited_lists, lists_after, edit_verdict, call_verdict, call_answer, call_lists}
use Rattle.session.specs.Model.{lengths_of}
use Rattle.session.specs.Commute.{elsewhere, apart, BothOrders, Commute}
use Rattle.session.proofs.Effects.{other_place, faithful}
use Rattle.session.proofs.Lents.{Long, fits_long}
use Rattle.session.proofs.Recutting.{move_radii, radius_anchors}
use Rattle.session.proofs.Accepted.{move_anchors_left, radius_radii_left}

-- what is recut by both edits, by one, by none: x is cut from the drawing of both, y of the first alone, z of the second alone, w stood there
either_way : {A : Type 0} (p q : Bool) (x y z w : A) → (p ≡ false → x ≡ y) → (q ≡ false → x ≡ z) → cond p x (cond q y w) ≡ cond q x (cond p z w)
either_way true true x y z w h g = refl
either_way true false x y z w h g = g refl
either_way false true x y z w h g = sym (h refl)
either_way false false x y z w h g = refl

-- ---- edits that leave the shapes as they are
pub record InPlace (d : Drawing) (e : Edit) : Type 0 where
  pub shapes : e.made.shapes ≡ d.shapes
  pub stood : (k : ℕ) → e.stood k ≡ k

-- no split is apart from another edit
pub data Still : Call → Type 0 where
  moves : {s i : ℕ} {new : Anchor} → Still (move s i new)
  sets : {s i : ℕ} {r : Float} → Still (set_radius s i r)

still : (c d : Call) → apart c d ≡ true → Still c × Still d
unfolding apart
still (move s i x) (move r j y) h = (moves, moves)
still (move s i x) (set_radius r j y) h = (moves, sets)
still (set_radius s i x) (move r j y) h = (sets, moves)
still (set_radius s i x) (set_radius r j y) h = (sets, sets)
still (split s a t) d h = absurd (true≢false (sym h))
still (move s i x) (split r a t) h = absurd (true≢false (sym h))
still (set_radius s i x) (split r a t) h = absurd (true≢false (sym h))

in_place : (d : Drawing) {c : Call} → Still c → InPlace d (edit_of d c)
unfolding edit_of moved resized
in_place d moves = record { shapes = refl; stood = λ k. refl }
in_place d sets = record { shapes = refl; stood = λ k. refl }

-- what turns on the shapes alone: which places are recut
recuts_same : (d m : Drawing) {c : Call} → Still c → m.shapes ≡ d.shapes → (k : ℕ) → (edit_of m c).recuts k ≡ (edit_of d c).recuts k
unfolding edit_of moved resized reached view_in view_of sub_at
recuts_same d m moves e k = rw e
recuts_same d m sets e k = rw e

-- ---- two anchors that are not one stand at different places
module _ (shapes : List ℕ) (s i r j : ℕ) (there : s < length shapes) (inside : i < count_of (word_at shapes s)) (there-r : r < length shapes) (inside-r : j < count_of (word_at shapes r)) where
  places_differ : elsewhere s i r j ≡ true → start shapes s + i ≡ start shapes r + j → ⊥
  unfolding elsewhere
  places_differ h q = ⊎_elim one two (same s r)
    where
      no : (eqb s r && eqb i j) ≡ false
      no = not-true (eqb s r && eqb i j) h

      two : (s ≡ r → ⊥) → ⊥
      two ne = other_place shapes s r j i there there-r inside inside-r ne q

      one : s ≡ r → ⊥
      one e = let z : start shapes s ≡ start shapes r = ap (start shapes) e in not_both (eqb s r && eqb i j) no (rw (eq-eqb s r e) (eq-eqb i j (omega arith)))

-- two values put to different places
swapped : {A : Type 0} (p q : ℕ) (x y : A) (f : ℕ → A) → (p ≡ q → ⊥) → (k : ℕ) → cond (eqb k q) y (cond (eqb k p) x (f k)) ≡ cond (eqb k p) x (cond (eqb k q) y (f k))
swapped p q x y f ne k = go (eqb k p) refl (eqb k q) refl
  where
    go : (a : Bool) → eqb k p ≡ a → (b : Bool) → eqb k q ≡ b → cond b y (cond a x (f k)) ≡ cond a x (cond b y (f k))
    go true e true g = absurd (ne (sym (eqb-true k p e) ∙ eqb-true k q g))
    go true e false g = refl
    go false e true g = refl
    go false e false g = refl

-- ---- the drawing that both make
made_swapped : (d : Drawing) (c e : Call) → apart c e ≡ true → (edit_of d c).known ≡ true → (edit_of d e).known ≡ true → (edit_of (edit_of d c).made e).made ≡ (edit_of (edit_of d e).made c).made
unfolding apart edit_of moved resized
made_swapped d (move s i x) (move r j y) h kc ke =
    let p = has_says d.shapes s i kc in
    let q = has_says d.shapes r j ke in
    let ne = places_differ d.shapes s i r j p.0 p.1 q.0 q.1 h in
    λ t. record { shapes = d.shapes; kind = d.kind; anchor = λ k. swapped (start d.shapes s + i) (start d.shapes r + j) x y d.anchor ne k t; radius = d.radius }
made_swapped d (move s i x) (set_radius r j y) h kc ke = refl
made_swapped d (set_radius s i x) (move r j y) h kc ke = refl
made_swapped d (set_radius s i x) (set_radius r j y) h kc ke =
    let p = has_says d.shapes s i kc in
    let q = has_says d.shapes r j ke in
    let ne = places_differ d.shapes s i r j p.0 p.1 q.0 q.1 h in
    λ t. record { shapes = d.shapes; kind = d.kind; anchor = d.anchor; radius = λ k. swapped (start d.shapes s + i) (start d.shapes r + j) x y d.radius ne k t }
made_swapped d (split s a t) e h kc ke = absurd (true≢false (sym h))
made_swapped d (move s i x) (split r a t) h kc ke = absurd (true≢false (sym h))
made_swapped d (set_radius s i x) (split r a t) h kc ke = absurd (true≢false (sym h))

-- ---- an accepted call
module _ (l : Lent) (kind : ℕ) (c : Call) (yes : call_verdict l kind c ≡ accepted) where
  fits : (total l.shapes ≤ 512) × Long (lengths_of l) (total l.shapes)
  unfolding call_verdict edit_verdict
  fits = fits_long l (holds_says (lists_fit l) 0 (accepted_says _ _ _ _ _ _ yes).lists)

  known : (edit_of (drawn l kind) c).known ≡ true
  unfolding call_verdict edit_verdict
  known = holds_says (edit_of (drawn l kind) c).known 0 (accepted_says _ _ _ _ _ _ yes).reference

  lists_edited : call_lists l kind c ≡ edited_lists l (edit_of (drawn l kind) c)
  unfolding call_lists lists_after
  lists_edited = rw yes

-- the lists that it leaves hold the drawing that it makes, at every place
drawn-edited : (l : Lent) (kind : ℕ) {c : Call} → Still c → (edit_of (drawn l kind) c).known ≡ true → Long (lengths_of l) (total l.shapes)
    → drawn (edited_lists l (edit_of (drawn l kind) c)) kind ≡ (edit_of (drawn l kind) c).made
unfolding drawn edited_lists edit_of moved resized lengths_of
drawn-edited l kind (moves {s} {i} {new}) h g =
    let p = has_says l.shapes s i h in
    let b = total_in l.shapes s p.0 in
    let a = move_anchors_left l kind s i p.0 p.1 new g.anchors in
    λ t. record {
      shapes = l.shapes;
      kind = kind;
      anchor = λ k. (ap (λ xs. anchor_at xs k) (sym a) ∙ put_at l.anchors (start l.shapes s + i) new (omega (arith, g.anchors, p.1)) k) t;
      radius = λ k. ap (λ xs. entry xs k) (sym (move_radii l.radii (total l.shapes))) t;
    }
drawn-edited l kind (sets {s} {i} {r}) h g =
    let p = has_says l.shapes s i h in
    let b = total_in l.shapes s p.0 in
    let a = radius_radii_left l kind s i p.0 p.1 r g.radii in
    λ t. record {
      shapes = l.shapes;
      kind = kind;
      anchor = λ k. ap (λ xs. anchor_at xs k) (sym (radius_anchors l.anchors (total l.shapes))) t;
      radius = λ k. (ap (λ xs. entry xs k) (sym a) ∙ set_at nan l.radii (start l.shapes s + i) r (omega (arith, g.radii, p.1)) k) t;
    }

-- ---- two calls in turn, both accepted
module _ (l : Lent) (kind : ℕ) (c d : Call) (sc : Still c) (sd : Still d) (yes : call_verdict l kind c ≡ accepted) (next : call_verdict (call_lists l kind c) kind d ≡ accepted) where
  abbrev e : Edit
  e = edit_of (drawn l kind) c

  abbrev f : Edit
  f = edit_of e.made d

  abbrev n : ℕ
  n = total l.shapes

  e_shapes : e.made.shapes ≡ l.shapes
  unfolding drawn
  e_shapes = (in_place (drawn l kind) sc).shapes

  f_shapes : f.made.shapes ≡ l.shapes
  f_shapes = (in_place e.made sd).shapes ∙ e_shapes

  drawn-between : drawn (call_lists l kind c) kind ≡ e.made
  drawn-between = ap (λ x. drawn x kind) (lists_edited l kind c yes) ∙ drawn-edited l kind sc (known l kind c yes) (fits l kind c yes).1

  in-turn : call_lists (call_lists l kind c) kind d ≡ edited_lists (edited_lists l e) f
  in-turn =
      lists_edited (call_lists l kind c) kind d next
      ∙ ap (λ m. edited_lists (call_lists l kind c) (edit_of m d)) drawn-between
      ∙ ap (λ x. edited_lists x f) (lists_edited l kind c yes)

  -- which places the second recuts does not turn on the first, and elsewhere the cut is as the first left it
  recuts_first : (k : ℕ) → f.recuts k ≡ (edit_of (drawn l kind) d).recuts k
  unfolding drawn
  recuts_first = recuts_same (drawn l kind) e.made sd e_shapes

  kept : (k : ℕ) → k < n → f.recuts k ≡ false → places_of f.made k ≡ places_of e.made k
  kept k kl h =
      let q : total e.made.shapes ≡ n = ap total e_shapes in
      let z : total f.made.shapes ≡ n = ap total f_shapes in
      let few-e : total e.made.shapes ≤ 512 = omega (arith, (fits l kind c yes).0) in
      let known-f : f.known ≡ true = ap (λ m. (edit_of m d).known) (sym drawn-between) ∙ known (call_lists l kind c) kind d next in
      (faithful e.made d few-e known-f).cut_kept k (omega arith) h ∙ ap (places_of e.made) ((in_place e.made sd).stood k)

  -- number j and flag k after both
  unfoldable number : ℕ → Float
  number j =
      cond (f.recuts (j / 12)) (entry (place_numbers (places_of f.made (j / 12))) (j % 12))
      (cond (e.recuts (j / 12)) (entry (place_numbers (places_of e.made (j / 12))) (j % 12)) (entry l.numbers j))

  unfoldable flag : ℕ → ℕ
  flag k = cond (f.recuts k) (flag_of (places_of f.made k).cut) (cond (e.recuts k) (flag_of (places_of e.made k).cut) (get_or l.flags k 0))

  number_is : (j : ℕ) → j < n * 12 → numbers_after f (overwrite (n * 12) (numbers_after e l.numbers) l.numbers) j ≡ number j
  unfolding number numbers_after cached_numbers lengths_of
  number_is j jl =
      let z : j / 12 * 12 + j % 12 ≡ j = omega arith in
      rw ((in_place e.made sd).stood (j / 12), z, at_overwrite nan (n * 12) (numbers_after e l.numbers) l.numbers j jl (omega (arith, (fits l kind c yes).1.numbers)), (in_place (drawn l kind) sc).stood (j / 12), z)

  flag_is : (k : ℕ) → k < n → flags_after f (overwrite n (flags_after e l.flags) l.flags) k ≡ flag k
  unfolding flag flags_after cached_flags lengths_of
  flag_is k kl =
      rw ((in_place e.made sd).stood k, at_overwrite 0 n (flags_after e l.flags) l.flags k kl (omega (arith, (fits l kind c yes).1.flags)), (in_place (drawn l kind) sc).stood k)

  -- each list is written once
  written : call_lists (call_lists l kind c) kind d ≡ record {
    shapes = l.shapes;
    anchors = overwrite (n * 6) (anchor_numbers f.made.anchor) l.anchors;
    radii = overwrite n f.made.radius l.radii;
    numbers = overwrite (n * 12) number l.numbers;
    flags = overwrite n flag l.flags;
  }
  unfolding edited_lists
  written =
      let q : total e.made.shapes ≡ n = ap total e_shapes in
      let z : total f.made.shapes ≡ n = ap total f_shapes in
      let an : (edited_lists (edited_lists l e) f).anchors ≡ overwrite (n * 6) (anchor_numbers f.made.anchor) l.anchors = rw (z, q) (overwrite-twice (n * 6) _ _ l.anchors) in
      let ra : (edited_lists (edited_lists l e) f).radii ≡ overwrite n f.made.radius l.radii = rw (z, q) (overwrite-twice n _ _ l.radii) in
      let nu : (edited_lists (edited_lists l e) f).numbers ≡ overwrite (n * 12) number l.numbers = rw (z, q) (overwrite-twice (n * 12) _ _ l.numbers ∙ overwrite_cong (n * 12) _ _ l.numbers number_is) in
      let fl : (edited_lists (edited_lists l e) f).flags ≡ overwrite n flag l.flags = rw (z, q) (overwrite-twice n _ _ l.flags ∙ overwrite_cong n _ _ l.flags flag_is) in
      in-turn ∙ (λ t. record { shapes = f_shapes t; anchors = an t; radii = ra t; numbers = nu t; flags = fl t })

  -- and the answer of a call that comes second is what it would be if it came first
  answer-is : call_answer (call_lists l kind c) kind d ≡ edit_answer accepted (count (edit_of (drawn l kind) d).recuts n) n
  unfolding call_answer
  answer-is =
      let z : total f.made.shapes ≡ n = ap total f_shapes in
      rw (next, drawn-between, z, count_cong f.recuts (edit_of (drawn l kind) d).recuts n (λ k kl. recuts_first k))

-- ---- THE THEOREM
module _ (l : Lent) (kind : ℕ) (c d : Call) (h : apart c d ≡ true) (yes : BothOrders l kind c d) where
  sc : Still c
  sc = (still c d h).0

  sd : Still d
  sd = (still c d h).1

  made : (edit_of (edit_of (drawn l kind) c).made d).made ≡ (edit_of (edit_of (drawn l kind) d).made c).made
  made = made_swapped (drawn l kind) c d h (known l kind c yes.first_c) (known l kind d yes.first_d)

  -- where one edit does not recut, the cut of both is that of the other
  module _ (k : ℕ) (kl : k < total l.shapes) where
    by_c : (edit_of (drawn l kind) d).recuts k ≡ false → places_of (edit_of (edit_of (drawn l kind) c).made d).made k ≡ places_of (edit_of (drawn l kind) c).made k
    by_c g = kept l kind c d sc sd yes.first_c yes.then_d k kl (recuts_first l kind c d sc sd yes.first_c yes.then_d k ∙ g)

    by_d : (edit_of (drawn l kind) c).recuts k ≡ false → places_of (edit_of (edit_of (drawn l kind) c).made d).made k ≡ places_of (edit_of (drawn l kind) d).made k
    by_d g = ap (λ m. places_of m k) made ∙ kept l kind d c sd sc yes.first_d yes.then_c k kl (recuts_first l kind d c sd sc yes.first_d yes.then_c k ∙ g)

    number_swapped : (j : ℕ) → j / 12 ≡ k → number l kind c d sc sd yes.first_c yes.then_d j ≡ number l kind d c sd sc yes.first_d yes.then_c j
    unfolding number
    number_swapped j e =
        rw (e, recuts_first l kind c d sc sd yes.first_c yes.then_d k, recuts_first l kind d c sd sc yes.first_d yes.then_c k, ← made)
        (either_way _ _ _ _ _ _ (λ g. ap (λ p. entry (place_numbers p) (j % 12)) (by_c g)) (λ g. ap (λ p. entry (place_numbers p) (j % 12)) (by_d g)))

    flag_swapped : flag l kind c d sc sd yes.first_c yes.then_d k ≡ flag l kind d c sd sc yes.first_d yes.then_c k
    unfolding flag
    flag_swapped =
        rw (recuts_first l kind c d sc sd yes.first_c yes.then_d k, recuts_first l kind d c sd sc yes.first_d yes.then_c k, ← made)
        (either_way _ _ _ _ _ _ (λ g. ap (λ p. flag_of p.cut) (by_c g)) (λ g. ap (λ p. flag_of p.cut) (by_d g)))

  answer_first : (x : Call) → Still x → call_verdict l kind x ≡ accepted → call_answer l kind x ≡ edit_answer accepted (count (edit_of (drawn l kind) x).recuts (total l.shapes)) (total l.shapes)
  unfolding call_answer drawn
  answer_first x sx ok = let z : total (edit_of (drawn l kind) x).made.shapes ≡ total l.shapes = ap total (in_place (drawn l kind) sx).shapes in rw (ok, z)

  pub commute : Commute l kind c d
  commute =
      let n = total l.shapes in
      record {
        lists =
            written l kind c d sc sd yes.first_c yes.then_d
            ∙ (λ t. record {
              shapes = l.shapes;
              anchors = overwrite (n * 6) (anchor_numbers (made t).anchor) l.anchors;
              radii = overwrite n (made t).radius l.radii;
              numbers = overwrite_cong (n * 12) _ _ l.numbers (λ j jl. number_swapped (j / 12) (omega arith) j refl) t;
              flags = overwrite_cong n _ _ l.flags (λ k kl. flag_swapped k kl) t;
            })
            ∙ sym (written l kind d c sd sc yes.first_d yes.then_c);
        answer_c = answer-is l kind d c sd sc yes.first_d yes.then_c ∙ sym (answer_first c sc yes.first_c);
        answer_d = answer-is l kind c d sc sd yes.first_c yes.then_d ∙ sym (answer_first d sd yes.first_d);
      }
