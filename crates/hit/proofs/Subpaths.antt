-- The subpath and the index of a place. Assumes nothing.
use mathlib.Core.Path.{◌≡◌, ap}
use mathlib.Core.Logic.{⊎_elim}
use mathlib.Core.List.{List, [], ◌∷◌}
use Prim.Native.Nat.{ℕ, zero, suc, ◌+◌, ◌-◌, ◌≤◌, ◌<◌}
use native.Mathlib.Nat.{le_of_suc-le-suc, not-suc-le-zero}
use native.Mathlib.Omega.{arith}
use lib.ListN.{length}
use borrow.Author.Tests.{lt-ltb, le-ltb}
use Rattle.views.proofs.Laws.{order}
use Rattle.path.specs.Shape.{count_of, total, word_at, start, sub_of}
use Rattle.path.proofs.Shapes.{total-end}
use Rattle.path.specs.declared.shape.AnchorRef.{AnchorRef}
use Rattle.hit.specs.Located.{index_of, located}

pub sub_at_lem : (shapes : List ℕ) (s a : ℕ) → s < length shapes → a < count_of (word_at shapes s) → sub_of shapes (start shapes s + a) ≡ s
unfolding sub_of
sub_at_lem [] s a l h = absurd (not-suc-le-zero l)
sub_at_lem (w ∷ ws) zero a l h = rw (lt-ltb (0 + a) (count_of w) (omega arith))
sub_at_lem (w ∷ ws) (suc s) a l h =
    let e : count_of w + start ws s + a - count_of w ≡ start ws s + a = omega arith in
    rw (le-ltb (count_of w + start ws s + a) (count_of w) (omega arith), e) (ap suc (sub_at_lem ws s a (le_of_suc-le-suc l) h))

module _ (shapes : List ℕ) (s a : ℕ) (l : s < length shapes) (h : a < count_of (word_at shapes s)) where
  pub index_at : index_of shapes (start shapes s + a) ≡ a
  unfolding index_of
  index_at = rw (sub_at_lem shapes s a l h) (omega arith)

  pub located_at : (k : ℕ) → k ≡ start shapes s + a → record { subpath = s; anchor = a } ≡ located shapes k
  unfolding located
  located_at k e = rw (e, sub_at_lem shapes s a l h, index_at)

-- a place of the path that is not before subpath s
pub in_path : (shapes : List ℕ) (s k : ℕ) → start shapes s ≤ k → k < total shapes → s < length shapes
in_path shapes s k h l = ⊎_elim (λ e. absurd (past e)) (λ e. e) (order (length shapes) s)
  where
    past : length shapes ≤ s → ⊥
    past e = let z = total-end shapes s e in omega arith

-- every place of the path is one of a subpath
pub record Placed (shapes : List ℕ) (k : ℕ) : Type 0 where
  pub subpath : sub_of shapes k < length shapes
  pub index : index_of shapes k < count_of (word_at shapes (sub_of shapes k))
  pub place : start shapes (sub_of shapes k) + index_of shapes k ≡ k

pub placed : (shapes : List ℕ) (k : ℕ) → k < total shapes → Placed shapes k
unfolding sub_of index_of
placed [] k h = absurd (not-suc-le-zero h)
placed (w ∷ ws) k h = ⊎_elim (λ l. later l (placed ws (k - count_of w) (omega arith))) here (order (count_of w) k)
  where
    here : k < count_of w → Placed (w ∷ ws) k
    here l =
        let e = lt-ltb k (count_of w) l in
        record { subpath = rw e (omega arith); index = rw e (omega arith); place = rw e (omega arith) }

    later : count_of w ≤ k → Placed ws (k - count_of w) → Placed (w ∷ ws) k
    later l p =
        let e = le-ltb k (count_of w) l in
        let i = p.subpath in
        let j = p.index in
        let n = p.place in
        let d : k - (count_of w + start ws (sub_of ws (k - count_of w))) ≡ k - count_of w - start ws (sub_of ws (k - count_of w)) = omega arith in
        record { subpath = rw e (omega arith); index = rw (e, d) j; place = rw (e, d) (omega arith) }

-- and of a place that was located
pub record LocatedIn (shapes : List ℕ) (k : ℕ) (o : AnchorRef) : Type 0 where
  pub subpath : o.subpath < length shapes
  pub index : o.anchor < count_of (word_at shapes o.subpath)
  pub place : start shapes o.subpath + o.anchor ≡ k

pub located_in : (shapes : List ℕ) (k : ℕ) (o : AnchorRef) → k < total shapes → o ≡ located shapes k → LocatedIn shapes k o
unfolding located
located_in shapes k o h e = let p = placed shapes k h in rw e (record { subpath = p.subpath; index = p.index; place = p.place })
