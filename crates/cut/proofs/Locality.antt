-- Locality: what the cut leaves at an index turns on anchors within 3 steps, radii within 2 and the kind there. After a split: the same at indices more than 4 steps away. Assumes nothing.
use mathlib.Core.Path.{◌≡◌, refl, ◌∙◌}
use mathlib.Core.Logic.{⊎_elim}
use mathlib.Core.Bool.{Bool, true, false, ◌||◌}
use Prim.Native.Nat.{ℕ, zero, suc, ◌+◌, ◌-◌, ◌≤◌, ◌<◌}
use native.Mathlib.Omega.{arith}
use lib.Dec.{ltb}
use borrow.Author.Tests.{lt-ltb, le-ltb}
use Rattle.views.proofs.Laws.{order}
use Rattle.cut.specs.View.{View, arrives, leaves}
use Rattle.path.specs.Shape.{prev, next}
use Rattle.cut.specs.Places.{place_at}
use Rattle.cut.specs.Near.{gap, near, old}
use Rattle.views.proofs.Bools.{not_both}
use Rattle.cut.proofs.Steps.{next_in, next-round, near_cases, near_in, near-round}
use Rattle.cut.proofs.Shifts.{old_low, old_high}
use Rattle.cut.proofs.Follow.{In, follows}

-- ---- two views of one shape that agree near i
pub record Alike (v w : View) (i : ℕ) : Type 0 where
  pub n : w.n ≡ v.n
  pub closed : w.closed ≡ v.closed
  pub chords : w.chords ≡ v.chords
  pub anchors : (j : ℕ) → j < w.n → near 3 w.n w.closed i j ≡ true → w.anchor j ≡ v.anchor j
  pub radii : (j : ℕ) → j < w.n → near 2 w.n w.closed i j ≡ true → w.radius j ≡ v.radius j
  pub kind : w.kind i ≡ v.kind i

pub locality : (v w : View) (i : ℕ) → i < w.n → Alike v w i → place_at w i ≡ place_at v i
unfolding arrives leaves
locality v w i h a = follows v w (λ j. j) i (record {
  inside = h;
  chords = a.chords;
  arriving = λ j g. rw a.closed;
  leaving = λ j g. rw (a.closed, a.n);
  back = λ j g e. rw a.n;
  on = λ j g e. rw a.n;
  anchors = λ j g. a.anchors j g.inside g.close;
  radii = λ j g. a.radii j g.inside g.close;
  kind = a.kind;
})

-- ---- a view w that is v with an anchor put in after a, where the two beside it may differ too
pub record Inserted (v w : View) (a : ℕ) : Type 0 where
  pub n : w.n ≡ v.n + 1
  pub from : a < v.n
  pub closed : w.closed ≡ v.closed
  pub chords : w.chords ≡ v.chords
  pub anchors : (j : ℕ) → j < w.n → near 1 w.n w.closed (a + 1) j ≡ false → w.anchor j ≡ v.anchor (old a j)
  pub radii : (j : ℕ) → j < w.n → (j ≡ a + 1 → ⊥) → w.radius j ≡ v.radius (old a j)
  pub kinds : (j : ℕ) → j < w.n → (j ≡ a + 1 → ⊥) → w.kind j ≡ v.kind (old a j)

-- not near, as numbers
pub record Far (k n : ℕ) (c : Bool) (i j : ℕ) : Type 0 where
  pub straight : k < gap i j
  pub round : c ≡ true → gap i j + k < n

pub far_of : (k n : ℕ) (c : Bool) (i j : ℕ) → near k n c i j ≡ false → Far k n c i j
far_of k n c i j e = record {
  straight = ⊎_elim (λ (l : gap i j ≤ k). absurd (not_both (near k n c i j) e (near_in k n c i j l))) (λ (l : k < gap i j). l) (order (gap i j) k);
  round = λ t. ⊎_elim (λ (l : n ≤ gap i j + k). absurd (not_both (near k n c i j) e (near-round k n c i j t l))) (λ (l : gap i j + k < n). l) (order n (gap i j + k));
}

pub far_not : (k n : ℕ) (c : Bool) (i j : ℕ) → Far k n c i j → near k n c i j ≡ false
far_not k n c i j f = go (near k n c i j) refl
  where
    go : (b : Bool) → near k n c i j ≡ b → b ≡ false
    go false e = refl
    go true e =
        absurd (⊎_elim (λ (l : gap i j ≤ k). lower l) (λ (l : (c ≡ true) × (n ≤ gap i j + k)). over (f.round l.0) l.1) (near_cases k n c i j e))
      where
        lower : gap i j ≤ k → ⊥
        lower l = omega arith

        over : gap i j + k < n → n ≤ gap i j + k → ⊥
        over g l = omega arith

-- k steps from an index that is k + m away leave it m away
pub far_step : (k m n : ℕ) (c : Bool) (a i j : ℕ) → a < n → i < n → j < n → Far (k + m) n c a i → near k n c i j ≡ true → Far m n c a j
unfolding gap
far_step k m n c a i j ha hi hj f h = ⊎_elim near_by round_by (near_cases k n c i j h)
  where
    near_by : gap i j ≤ k → Far m n c a j
    near_by l = record { straight = omega arith; round = λ t. let g = f.round t in omega arith }

    round_by : (c ≡ true) × (n ≤ gap i j + k) → Far m n c a j
    round_by l = let g = f.round l.0 in record { straight = omega arith; round = λ t. omega arith }

-- ---- away from the new anchor, neighbours and ends are as before
module _ (n a j : ℕ) (c : Bool) (from : a < n) (inside : j < n + 1) (f : Far 1 (n + 1) c (a + 1) j) where
  arriving_old : (c || ltb 0 j) ≡ (c || ltb 0 (old a j))
  unfolding gap
  arriving_old = ⊎_elim low high (order j a)
    where
      low : j ≤ a → (c || ltb 0 j) ≡ (c || ltb 0 (old a j))
      low l = rw (old_low a j l)

      high : a < j → (c || ltb 0 j) ≡ (c || ltb 0 (old a j))
      high l = let g = f.straight in rw (old_high a j l, lt-ltb 0 j (omega arith), lt-ltb 0 (j - 1) (omega arith))

  leaving_old : (c || ltb (j + 1) (n + 1)) ≡ (c || ltb (old a j + 1) n)
  unfolding gap
  leaving_old = ⊎_elim low high (order j a)
    where
      low : j ≤ a → (c || ltb (j + 1) (n + 1)) ≡ (c || ltb (old a j + 1) n)
      low l = let g = f.straight in rw (old_low a j l, lt-ltb (j + 1) (n + 1) (omega arith), lt-ltb (j + 1) n (omega arith))

      high : a < j → (c || ltb (j + 1) (n + 1)) ≡ (c || ltb (old a j + 1) n)
      high l = let g = f.straight in rw (old_high a j l) (⊎_elim last inner (order n j))
        where
          last : n ≤ j → (c || ltb (j + 1) (n + 1)) ≡ (c || ltb (j - 1 + 1) n)
          last m = rw (le-ltb (j + 1) (n + 1) (omega arith), le-ltb (j - 1 + 1) n (omega arith))

          inner : j < n → (c || ltb (j + 1) (n + 1)) ≡ (c || ltb (j - 1 + 1) n)
          inner m = rw (lt-ltb (j + 1) (n + 1) (omega arith), lt-ltb (j - 1 + 1) n (omega arith))

  on_old : old a (next (n + 1) j) ≡ next n (old a j)
  unfolding gap
  on_old = ⊎_elim low high (order j a)
    where
      low : j ≤ a → old a (next (n + 1) j) ≡ next n (old a j)
      low l =
          let g = f.straight in
          rw (old_low a j l, next_in (n + 1) j (omega arith), next_in n j (omega arith)) (old_low a (j + 1) (omega arith))

      high : a < j → old a (next (n + 1) j) ≡ next n (old a j)
      high l = let g = f.straight in rw (old_high a j l) (⊎_elim last inner (order n j))
        where
          last : n ≤ j → old a (next (n + 1) j) ≡ next n (j - 1)
          last m = rw (next-round (n + 1) j (omega arith), next-round n (j - 1) (omega arith)) (old_low a 0 (omega arith))

          inner : j < n → old a (next (n + 1) j) ≡ next n (j - 1)
          inner m = rw (next_in (n + 1) j (omega arith), next_in n (j - 1) (omega arith)) (old_high a (j + 1) (omega arith) ∙ omega arith)

-- (gap from the section, to go by cases on j)
back-old : (n a j : ℕ) (c : Bool) → a < n → j < n + 1 → Far 1 (n + 1) c (a + 1) j → old a (prev (n + 1) j) ≡ prev n (old a j)
unfolding prev gap
back-old n a zero c from inside f = rw (old_low a 0 (omega arith)) (old_high a (n + 1 - 1) (omega arith) ∙ omega arith)
back-old n a (suc j) c from inside f = ⊎_elim low high (order (suc j) a)
  where
    low : suc j ≤ a → old a j ≡ prev n (old a (suc j))
    low l = rw (old_low a (suc j) l) (old_low a j (omega arith))

    high : a < suc j → old a j ≡ prev n (old a (suc j))
    high l = let g = f.straight in let e : suc j - 1 ≡ suc (j - 1) = omega arith in rw (old_high a (suc j) l, e) (old_high a j (omega arith))

pub split_locality : (v w : View) (a : ℕ) → Inserted v w a → (i : ℕ) → i < w.n → near 4 w.n w.closed (a + 1) i ≡ false → place_at w i ≡ place_at v (old a i)
unfolding arrives leaves gap
split_locality v w a t i h e = follows v w (old a) i (record {
  inside = h;
  chords = t.chords;
  arriving = λ j g. arrive j g;
  leaving = λ j g. leave j g;
  back = λ j g d. rw t.n (back-old v.n a j w.closed t.from (at j g.inside) (away 1 j (two j g)));
  on = λ j g d. rw t.n (on_old v.n a j w.closed t.from (at j g.inside) (away 1 j (two j g)));
  anchors = λ j g. t.anchors j g.inside (far_not 1 w.n w.closed (a + 1) j (three j g));
  radii = λ j g. t.radii j g.inside (other j (two j g));
  kind = t.kinds i h (other i (less 2 i (far_of 4 w.n w.closed (a + 1) i e)));
})
  where
    at : (j : ℕ) → j < w.n → j < v.n + 1
    at j l = let q = t.n in omega arith

    new : a + 1 < w.n
    new = let q = t.n in let p = t.from in omega arith

    three : (j : ℕ) → In w i 3 j → Far 1 w.n w.closed (a + 1) j
    three j g = far_step 3 1 w.n w.closed (a + 1) i j new h g.inside (far_of 4 w.n w.closed (a + 1) i e) g.close

    two : (j : ℕ) → In w i 2 j → Far 2 w.n w.closed (a + 1) j
    two j g = far_step 2 2 w.n w.closed (a + 1) i j new h g.inside (far_of 4 w.n w.closed (a + 1) i e) g.close

    less : (m j : ℕ) → Far (m + 2) w.n w.closed (a + 1) j → Far 2 w.n w.closed (a + 1) j
    less m j g = record { straight = let s = g.straight in omega arith; round = λ c. let r = g.round c in omega arith }

    away : (m j : ℕ) → Far (m + 1) w.n w.closed (a + 1) j → Far 1 (v.n + 1) w.closed (a + 1) j
    away m j g = record { straight = let s = g.straight in omega arith; round = λ c. let r = g.round c in let q = t.n in omega arith }

    other : (j : ℕ) → Far 2 w.n w.closed (a + 1) j → j ≡ a + 1 → ⊥
    other j g q = let s = g.straight in omega arith

    arrive : (j : ℕ) → In w i 2 j → arrives w j ≡ arrives v (old a j)
    arrive j g = rw (← t.closed) (arriving_old v.n a j w.closed t.from (at j g.inside) (away 1 j (two j g)))

    leave : (j : ℕ) → In w i 2 j → leaves w j ≡ leaves v (old a j)
    leave j g = rw (← t.closed, t.n) (leaving_old v.n a j w.closed t.from (at j g.inside) (away 1 j (two j g)))
