-- What a reading that reaches the end word has shown of its words. Assumes nothing.
use mathlib.Core.Path.{◌≡◌, refl, sym, ap, subst, ◌∙◌}
use mathlib.Core.Bool.{Bool, true, false, cond}
use mathlib.Core.List.{List, [], ◌∷◌}
use Prim.Native.Nat.{ℕ, zero, suc, ◌+◌, ◌≤◌}
use native.Mathlib.Omega.{arith}
use lib.Dec.{eqb}
use lib.ListN.{length, length-append}
use borrow.Author.Tests.{eqb-true, eqb-false, eq-eqb}
use Rattle.job.specs.declared.kinds.Kind.{Kind}
use Rattle.job.specs.declared.kinds.Kind.TheVariants.{Head}
use Rattle.job.specs.declared.order.Seen.{Seen}
use Rattle.std.proofs.Common.{Option, Some, None, Ok, Err}
use Rattle.refusal.specs.declared.Reason.{Reason}
use Rattle.refusal.specs.declared.Reason.TheVariants.{Unended}
use Rattle.refusal.specs.Reasons.{refusal_at}
use Rattle.job.specs.Words.{Word, word}
use Rattle.job.specs.Grammar.{anchors_of}
use Rattle.job.specs.Kinds.{number_of_kind, kind_of}
use Rattle.job.specs.Order.{member, Row, rows, after_in, may_follow, last_of, refusal_of, count_subpath, count_anchor, advance, Fair}
use Rattle.job.specs.Content.{Part, on_word, part_of}
use Rattle.job.specs.Reading.{settle, scan_from}
use Rattle.job.proofs.Orders.{Each, follows_one, by_rows, named, Passed, passed, passes, fair-after}
use Rattle.job.proofs.Shapes.{Shaped, Step, steps}

-- ---- one word
module _ (s : Seen) (i : ℕ) where
  pub scan_end : (t : Seen) → scan_from s i [] ≡ Ok t → (last_of s ≡ 15) × (s ≡ t)
  unfolding scan_from
  scan_end t = go _ (eqb (last_of s) 15) refl
    where
      go : (place : ℕ) (b : Bool) → eqb (last_of s) 15 ≡ b → cond b (Ok s) (Err (refusal_at Unended place)) ≡ Ok t → (last_of s ≡ 15) × (s ≡ t)
      go place true e h = (eqb-true (last_of s) 15 e, cc)
      go place false e h = let z : ◌≡◌ {A = ℕ} 0 1 = cc in absurd (omega arith)

  pub scan_word : (k v : ℕ) (ws : List Word) (t : Seen) → scan_from s i (word k v ∷ ws) ≡ Ok t → (Passed s k v) × (scan_from (advance s (kind_of k) v) (suc i) ws ≡ Ok t)
  unfolding scan_from settle
  scan_word k v ws t = go (refusal_of s k v) refl
    where
      go : (r : Option Reason) → refusal_of s k v ≡ r → settle r i (scan_from (advance s (kind_of k) v) (suc i) ws) ≡ Ok t → (Passed s k v) × (scan_from (advance s (kind_of k) v) (suc i) ws ≡ Ok t)
      go None e h = (passed s k v e, h)
      go (Some r) e h = let z : ◌≡◌ {A = ℕ} 0 1 = cc in absurd (omega arith)

  pub scan_on : (k v : ℕ) (ws : List Word) → Passed s k v → scan_from s i (word k v ∷ ws) ≡ scan_from (advance s (kind_of k) v) (suc i) ws
  unfolding scan_from settle
  scan_on k v ws p = rw (passes s k v p)

-- ---- the words are what the part that they read as writes
last_after : (s : Seen) (k v : ℕ) → may_follow (last_of s) k ≡ true → last_of (advance s (kind_of k) v) ≡ k
unfolding advance kind_of
last_after s k v f = named (last_of s) k f

pub scan_shaped : (ws : List Word) (s : Seen) (i : ℕ) (t : Seen) → scan_from s i ws ≡ Ok t → Shaped (last_of s) ws
unfolding part_of may_follow
scan_shaped [] s i t h = subst (λ l. Shaped l []) (sym (scan_end s i t h).0) (record { words = refl; lacks = tt })
scan_shaped (w ∷ ws) s i t h =
    let k = w.kind in
    let v = w.payload in
    let n = scan_word s i k v ws t h in
    by_rows Step rows steps (last_of s) k n.0.follows v n.0.listed ws
    (subst (λ l. Shaped l ws) (last_after s k v n.0.follows) (scan_shaped ws (advance s (kind_of k) v) (suc i) t n.1))

-- ---- its counts
abbrev total : Part → ℕ
total p = length p.anchors + length (anchors_of p.subpaths)

abbrev Counts : ℕ → Type 0
Counts k = (v n : ℕ) (p : Part) → (n + length (on_word k v p).subpaths ≡ count_subpath (kind_of k) n + length p.subpaths) × (n + total (on_word k v p) ≡ count_anchor (kind_of k) n + total p)

by_kinds : (P : ℕ → Type 0) (rs : List Row) → Each (λ r. P r.kind) rs → (l k : ℕ) → member l (after_in rs k) ≡ true → P k
unfolding member after_in
by_kinds P [] ps l k h = let z : ◌≡◌ {A = ℕ} 0 1 = cc in absurd (omega arith)
by_kinds P (r ∷ rs) ps l k h = go (eqb k r.kind) refl (by_kinds P rs ps.1 l k) h
  where
    go : (b : Bool) → eqb k r.kind ≡ b → (member l (after_in rs k) ≡ true → P k) → member l (cond b r.after (after_in rs k)) ≡ true → P k
    go true e later h = subst P (sym (eqb-true k r.kind e)) ps.0
    go false e later h = later h

counts : Each (λ r. Counts r.kind) rows
unfolding on_word count_subpath count_anchor anchors_of kind_of
counts = (
  λ v n p. (refl, refl),
  (
    λ v n p. (omega arith, simp length-append (omega arith)),
    (
      λ v n p. (refl, omega arith),
      (λ v n p. (refl, refl), (λ v n p. (refl, refl), (λ v n p. (refl, refl), (λ v n p. (refl, refl), (λ v n p. (refl, refl), (λ v n p. (refl, refl), (λ v n p. (refl, refl), tt))))))),
    ),
  ),
)

counted_after : (s : Seen) (k v : ℕ) → ((advance s (kind_of k) v).subpaths ≡ count_subpath (kind_of k) s.subpaths) × ((advance s (kind_of k) v).anchors ≡ count_anchor (kind_of k) s.anchors)
unfolding advance kind_of
counted_after s k v = (refl, refl)

pub scan_counts : (ws : List Word) (s : Seen) (i : ℕ) (t : Seen) → scan_from s i ws ≡ Ok t
    → (t.subpaths ≡ s.subpaths + length (part_of ws).subpaths) × (t.anchors ≡ s.anchors + total (part_of ws))
unfolding part_of may_follow anchors_of
scan_counts [] s i t h = let e = (scan_end s i t h).1 in (rw (sym e) (omega arith), rw (sym e) (omega arith))
scan_counts (w ∷ ws) s i t h =
    let k = w.kind in
    let v = w.payload in
    let n = scan_word s i k v ws t h in
    let later = scan_counts ws (advance s (kind_of k) v) (suc i) t n.1 in
    let a = counted_after s k v in
    let by = by_kinds Counts rows counts (last_of s) k n.0.follows in
    (omega (arith, later.0, a.0, (by v s.subpaths (part_of ws)).0), omega (arith, later.1, a.1, (by v s.anchors (part_of ws)).1))

-- ---- its limits
pub scan_fair : (ws : List Word) (s : Seen) (i : ℕ) (t : Seen) → Fair s → scan_from s i ws ≡ Ok t → Fair t
scan_fair [] s i t f h = subst Fair (scan_end s i t h).1 f
scan_fair (w ∷ ws) s i t f h =
    let n = scan_word s i w.kind w.payload ws t h in
    scan_fair ws (advance s (kind_of w.kind) w.payload) (suc i) t (fair-after s w.kind w.payload n.0 f) n.1

-- nothing follows the end word
scan_last : (ws : List Word) (s : Seen) (i : ℕ) (t : Seen) → last_of s ≡ 15 → scan_from s i ws ≡ Ok t → s ≡ t
scan_last [] s i t e h = (scan_end s i t h).1
scan_last (w ∷ ws) s i t e h =
    let z : true ≡ false = sym (eq-eqb (last_of s) 15 e) ∙ (scan_word s i w.kind w.payload ws t h).0.unended in
    let y : ◌≡◌ {A = ℕ} 0 1 = cc in absurd (omega arith)

some : (a b : ℕ) → (a ≡ 0 → ⊥) → a ≡ b → 1 ≤ b
some zero b z e = absurd (z refl)
some (suc a) b z e = omega arith

pub scan_some : (ws : List Word) (s : Seen) (i : ℕ) (t : Seen) → (last_of s ≡ 15 → ⊥) → scan_from s i ws ≡ Ok t → 1 ≤ t.subpaths
unfolding advance kind_of count_subpath
scan_some [] s i t u h = absurd (u (scan_end s i t h).0)
scan_some (w ∷ ws) s i t u h = go (eqb w.kind 15) refl (scan_some ws (advance s (kind_of w.kind) w.payload) (suc i) t)
  where
    n : (Passed s w.kind w.payload) × (scan_from (advance s (kind_of w.kind) w.payload) (suc i) ws ≡ Ok t)
    n = scan_word s i w.kind w.payload ws t h

    go : (b : Bool) → eqb w.kind 15 ≡ b → ((last_of (advance s (kind_of w.kind) w.payload) ≡ 15 → ⊥) → scan_from (advance s (kind_of w.kind) w.payload) (suc i) ws ≡ Ok t → 1 ≤ t.subpaths)
        → 1 ≤ t.subpaths
    go true e later =
        let k = last_after s w.kind w.payload n.0.follows ∙ eqb-true w.kind 15 e in
        let same = ap (λ (x : Seen). x.subpaths) (scan_last ws (advance s (kind_of w.kind) w.payload) (suc i) t k n.1) in
        let zero-not = eqb-false s.subpaths 0 (rw (eqb-true w.kind 15 e) at n.0.begun) in
        let keep : count_subpath (kind_of w.kind) s.subpaths ≡ s.subpaths = rw (eqb-true w.kind 15 e) in
        some s.subpaths t.subpaths zero-not (sym keep ∙ same)
    go false e later = later (λ k. eqb-false w.kind 15 e (sym (last_after s w.kind w.payload n.0.follows) ∙ k)) n.1

-- ---- the head stays
no_start : (l : ℕ) → may_follow l 16 ≡ true → ⊥
unfolding may_follow member after_in
no_start l h = let z : ◌≡◌ {A = ℕ} 0 1 = cc in omega arith

head_first : (l : ℕ) → may_follow l 0 ≡ true → l ≡ 16
unfolding after_in
head_first l h = eqb-true l 16 (sym (follows_one l 0 0 16 refl refl) ∙ h)

pub scan_head : (ws : List Word) (s : Seen) (i : ℕ) (t : Seen) → (last_of s ≡ 16 → ⊥) → scan_from s i ws ≡ Ok t → t.head ≡ s.head
unfolding advance kind_of
scan_head [] s i t u h = ap (λ (x : Seen). x.head) (sym (scan_end s i t h).1)
scan_head (w ∷ ws) s i t u h =
    let n = scan_word s i w.kind w.payload ws t h in
    scan_head ws (advance s (kind_of w.kind) w.payload) (suc i) t (λ e. no_start (last_of s) (subst (λ k. may_follow (last_of s) k ≡ true) (sym (last_after s w.kind w.payload n.0.follows) ∙ e) n.0.follows)) n.1
    ∙ kept (kind_of w.kind) refl n.0.follows
  where
    kept : (k : Kind) → kind_of w.kind ≡ k → may_follow (last_of s) w.kind ≡ true → (advance s (kind_of w.kind) w.payload).head ≡ s.head
    kept Head e f = absurd (u (head_first (last_of s) (subst (λ k. may_follow (last_of s) k ≡ true) (sym (named (last_of s) w.kind f) ∙ ap number_of_kind e) f)))
    kept _ e f = rw e
