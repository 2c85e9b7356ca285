-- Which anchors `bend_segment` puts anew, and that they are there. Assumes nothing.
use mathlib.Core.Path.{◌≡◌, refl, sym}
use mathlib.Core.Logic.{⊎_elim}
use mathlib.Core.Bool.{Bool, true, false, ◌&&◌, ◌||◌, cond, true≢false, and-false}
use mathlib.Core.List.{List}
use Prim.Native.Nat.{ℕ, ◌+◌, ◌≤◌, ◌<◌}
use native.Mathlib.Omega.{arith}
use lib.Dec.{ltb, eqb}
use lib.ListN.{length}
use lib.Ieee.{Float}
use borrow.Author.Tests.{ltb-true, eqb-true, lt-ltb, le-ltb, eq-eqb, ne_eqb}
use Rattle.views.proofs.Laws.{order}
use Rattle.geom.specs.declared.point.P.{P}
use Rattle.path.proofs.Shapes.{total_in}
use Rattle.path.specs.Shape.{count_of, closed_of, total, word_at, start, is_segment, next}
use Rattle.path.specs.Flat.{anchor_at, put_anchor, listed}
use Rattle.bend.specs.Bent.{bent_out, bent_in}
use Rattle.path.specs.Limit.{anchor_in}
use Rattle.path.proofs.Limits.{GoodBelow}
use Rattle.refusal.specs.Reasons.{refusal_at}
use Rattle.refusal.specs.declared.Reason.TheVariants.{Made}
use Rattle.refusal.specs.Order.{accepted, refused}
use Rattle.views.specs.View.{tabulate}
use Rattle.std.proofs.Common.{Some, None, ◌*◌}
use Rattle.bend.specs.Edits.{has_bend, bend_at, first_out, last_verdict}
use Rattle.bend.proofs.Afterwards.{two_bad, two_good, two_put}

-- ---- a segment's start is an anchor, and the next one is another
segment-inside : (n : ℕ) (closed : Bool) (a : ℕ) → is_segment n closed a ≡ true → a < n
unfolding is_segment
segment-inside n closed a = go (ltb (a + 1) n) closed (ltb 1 n) (eqb (a + 1) n) refl refl
  where
    go : (p c q r : Bool) → ltb (a + 1) n ≡ p → eqb (a + 1) n ≡ r → (p || c && (q && r)) ≡ true → a < n
    go true c q r e f h = let l = ltb-true (a + 1) n e in omega arith
    go false true true true e f h = let l = eqb-true (a + 1) n f in omega arith
    go false true true false e f h = absurd (true≢false (sym h))
    go false true false r e f h = absurd (true≢false (sym h))
    go false false q r e f h = absurd (true≢false (sym h))

pub next_inside : (n a : ℕ) → a < n → next n a < n
unfolding next
next_inside n a h = ⊎_elim (λ l. rw (le-ltb (a + 1) n l) (omega arith)) (λ l. rw (lt-ltb (a + 1) n l) l) (order n (a + 1))

pub next_another : (n a : ℕ) → a < n → 2 ≤ n → a ≡ next n a → ⊥
unfolding next
next_another n a h t =
    ⊎_elim (λ l. rw (le-ltb (a + 1) n l) (λ (e : a ≡ 0). omega arith)) (λ l. rw (lt-ltb (a + 1) n l) (λ (e : a ≡ a + 1). omega arith)) (order n (a + 1))

module _ (shapes : List ℕ) (s a : ℕ) where
  abbrev n : ℕ
  n = count_of (word_at shapes s)

  pub has_bend_says : has_bend shapes s a ≡ true → (s < length shapes) × (2 ≤ n → a < n)
  unfolding has_bend
  has_bend_says = go (ltb s (length shapes)) (eqb n 1) refl refl
    where
      go : (p q : Bool) → ltb s (length shapes) ≡ p → eqb n 1 ≡ q → (p && cond q (eqb a 0) (is_segment n (closed_of (word_at shapes s)) a)) ≡ true → (s < length shapes) × (2 ≤ n → a < n)
      go true true e f h = (ltb-true _ _ e, λ l. let k = eqb-true n 1 f in absurd (omega arith))
      go true false e f h = (ltb-true _ _ e, λ l. segment-inside n (closed_of (word_at shapes s)) a h)
      go false q e f h = absurd (true≢false (sym h))

  pub bend_subpath : has_bend shapes s a ≡ true → s < length shapes
  bend_subpath h = (has_bend_says h).0

  pub bend_places : has_bend shapes s a ≡ true → start shapes s + count_of (word_at shapes s) ≤ total shapes
  bend_places h = total_in shapes s (has_bend_says h).0

  pub bend_index : has_bend shapes s a ≡ true → 2 ≤ count_of (word_at shapes s) → a < count_of (word_at shapes s)
  bend_index h = (has_bend_says h).1

  module _ (anchors : List Float) (v : P) (keep : Bool) where
    pub nothing-bent : n < 2 → (q : ℕ) → bend_at shapes anchors s a v keep q ≡ anchor_at anchors q
    unfolding bend_at
    nothing-bent h q = rw (le-ltb 1 n (omega arith))

    pub others_kept : (q : ℕ) → (q ≡ start shapes s + a → ⊥) → (q ≡ start shapes s + next n a → ⊥) → bend_at shapes anchors s a v keep q ≡ anchor_at anchors q
    unfolding bend_at
    others_kept q ne nf = rw (ne_eqb q (start shapes s + a) ne, ne_eqb q (start shapes s + next n a) nf, and-false)

    pub start_anew : 2 ≤ n → bend_at shapes anchors s a v keep (start shapes s + a) ≡ bent_out v keep (anchor_at anchors (start shapes s + a))
    unfolding bend_at
    start_anew h = rw (lt-ltb 1 n (omega arith), eq-eqb (start shapes s + a) (start shapes s + a) refl)

    pub end_anew : 2 ≤ n → (start shapes s + next n a ≡ start shapes s + a → ⊥)
        → bend_at shapes anchors s a v keep (start shapes s + next n a) ≡ bent_in v keep (anchor_at anchors (start shapes s + next n a))
    unfolding bend_at
    end_anew h ne =
        rw (lt-ltb 1 n (omega arith), ne_eqb (start shapes s + next n a) (start shapes s + a) ne, eq-eqb (start shapes s + next n a) (start shapes s + next n a) refl)

    -- ---- two anchors anew: which place breaks the limit, or that none does
    module _ (good : GoodBelow (anchor_in anchors) (total shapes)) (long : total shapes * 6 ≤ length anchors) (there : has_bend shapes s a ≡ true) (many : 2 ≤ n) where
      abbrev i : ℕ
      i = start shapes s + a

      abbrev j : ℕ
      j = start shapes s + next n a

      index : a < n
      index = bend_index there many

      apart : i ≡ j → ⊥
      apart e = next_another n a index many (omega arith)

      i-inside : i < total shapes
      i-inside = let l = index in omega (arith, bend_places there)

      j-inside : j < total shapes
      j-inside = omega (arith, bend_places there, next_inside n a index)

      pub bent_bad : (place : ℕ) → first_out i (bent_out v keep (anchor_at anchors i)) j (bent_in v keep (anchor_at anchors j)) ≡ Some place
          → last_verdict (tabulate (total shapes) (bend_at shapes anchors s a v keep)) ≡ refused (refusal_at Made place)
      bent_bad = two_bad anchors (total shapes) _ good long i j _ _ apart i-inside j-inside (start_anew many) (end_anew many (λ e. apart (sym e))) others_kept

      pub bent_good : first_out i (bent_out v keep (anchor_at anchors i)) j (bent_in v keep (anchor_at anchors j)) ≡ None
          → last_verdict (tabulate (total shapes) (bend_at shapes anchors s a v keep)) ≡ accepted
      bent_good = two_good anchors (total shapes) _ good long i j _ _ apart i-inside j-inside (start_anew many) (end_anew many (λ e. apart (sym e))) others_kept

      pub bent_put : put_anchor (put_anchor anchors i (bent_out v keep (anchor_at anchors i))) j (bent_in v keep (anchor_at anchors j))
          ≡ listed (tabulate (total shapes) (bend_at shapes anchors s a v keep)) anchors
      bent_put = two_put anchors (total shapes) _ good long i j _ _ apart i-inside j-inside (start_anew many) (end_anew many (λ e. apart (sym e))) others_kept
