-- A job within the limits is read to its end word. Assumes nothing.
use mathlib.Core.Path.{◌≡◌, refl, ◌∙◌}
use mathlib.Core.Logic.{inl, inr}
use mathlib.Core.Bool.{Bool, true, false, ◌&&◌, ◌||◌, cond, or-true}
use mathlib.Core.List.{List, [], ◌∷◌}
use mathlib.Core.Option.{Option, none, some}
use Prim.Native.Nat.{ℕ, suc, ◌+◌, ◌≤◌, ◌<◌}
use native.Mathlib.Omega.{arith}
use lib.Dec.{ltb, eqb}
use lib.ListN.{length, length-append}
use borrow.Author.Tests.{lt-ltb, lt-leb, ne_eqb}
use Rattle.job.specs.declared.kinds.Kind.TheVariants as kinds
use Rattle.job.specs.declared.kinds.Kind.TheVariants.{Head, X, Y, InX, InY, OutX, OutY, Radius, End}
use Rattle.job.specs.declared.order.Seen.{Seen}
use Rattle.std.proofs.Common.{Ok}
use Rattle.job.specs.Words.{Word, word}
use Rattle.job.specs.Grammar.{
  Pair,
  Anchor,
  Subpath,
  Job,
  pair_then,
  radius_then,
  rest_then,
  anchor_then,
  anchors_then,
  subpaths_then,
  end,
  spelled,
  anchors_of,
  in_range,
  Within,
}
use Rattle.job.specs.Order.{member, wholes, after_in, is_whole, may_follow, payloads, is_full, last_of, count_subpath, count_anchor, advance, start}
use Rattle.job.specs.Kinds.{kind_of}
use Rattle.job.specs.Reading.{scan_from}
use Rattle.job.proofs.Orders.{by_members, follows_all, follows_whole, Passed}
use Rattle.job.proofs.Scans.{scan_on}

-- words are read to their end
abbrev pub Reaches : Seen → List Word → Type 0
Reaches s ws = (i : ℕ) → (t : Seen) × (scan_from s i ws ≡ Ok t)

-- one word in front
pub on : (s : Seen) (k v : ℕ) (ws : List Word) → Passed s k v → Reaches (advance s (kind_of k) v) ws → Reaches s (word k v ∷ ws)
on s k v ws p r i = let n = r (suc i) in (n.0, scan_on s i k v ws p ∙ n.1)

-- after a whole anchor or a subpath's word, m subpaths and n anchors having begun
record At (m n : ℕ) (s : Seen) : Type 0 where
  whole : is_whole (last_of s) ≡ true
  subpaths : s.subpaths ≡ m
  anchors : s.anchors ≡ n

whole_unended : (l : ℕ) → is_whole l ≡ true → eqb l 15 ≡ false
unfolding is_whole
whole_unended = by_members (λ l. eqb l 15 ≡ false) wholes (refl, (refl, (refl, (refl, (refl, tt)))))

-- every payload has 28 bits: the first, and the others
first_small : (k v : ℕ) (ws : List Word) → in_range (word k v ∷ ws) ≡ true → ltb v 268435456 ≡ true
unfolding in_range
first_small k v ws h = go (ltb v 268435456) h
  where
    go : (a : Bool) → (a && in_range ws) ≡ true → a ≡ true
    go true h = refl
    go false h = h

rest-small : (k v : ℕ) (ws : List Word) → in_range (word k v ∷ ws) ≡ true → in_range ws ≡ true
unfolding in_range
rest-small k v ws h = go (ltb v 268435456) h
  where
    go : (a : Bool) → (a && in_range ws) ≡ true → in_range ws ≡ true
    go true h = h
    go false h = let z : ◌≡◌ {A = ℕ} 0 1 = cc in absurd (omega arith)

-- ---- an anchor
module _ (m n : ℕ) (ws : List Word) (later : in_range ws ≡ true → (t : Seen) → At m n t → Reaches t ws) where
  radius_on : (r : Option ℕ) → in_range (radius_then r ws) ≡ true → (s : Seen) → At m n s → may_follow (last_of s) 8 ≡ true → Reaches s (radius_then r ws)
  unfolding radius_then advance kind_of count_subpath count_anchor is_whole member payloads is_full
  radius_on none b s a f = later b s a
  radius_on (some v) b s a f =
      on s 8 v ws (record { unended = whole_unended (last_of s) a.whole; follows = f; listed = first_small 8 v ws b; begun = refl; roomy = refl })
      (later (rest-small 8 v ws b) (advance s Radius v) (record { whole = refl; subpaths = a.subpaths; anchors = a.anchors }))

  out_on : (o : Option Pair) (r : Option ℕ) → in_range (pair_then 6 o (radius_then r ws)) ≡ true → (s : Seen) → At m n s
      → may_follow (last_of s) 6 ≡ true → may_follow (last_of s) 8 ≡ true → Reaches s (pair_then 6 o (radius_then r ws))
  unfolding pair_then advance kind_of count_subpath count_anchor is_whole may_follow after_in member payloads is_full
  out_on none r b s a f g = radius_on r b s a g
  out_on (some q) r b s a f g =
      let us = radius_then r ws in
      let c = rest-small 6 q.x (word 7 q.y ∷ us) b in
      let u = advance s OutX q.x in
      on s 6 q.x (word 7 q.y ∷ us)
      (record { unended = whole_unended (last_of s) a.whole; follows = f; listed = first_small 6 q.x (word 7 q.y ∷ us) b; begun = refl; roomy = refl })
      (on u 7 q.y us (record { unended = refl; follows = refl; listed = first_small 7 q.y us c; begun = refl; roomy = refl })
      (radius_on r (rest-small 7 q.y us c) (advance u OutY q.y) (record { whole = refl; subpaths = a.subpaths; anchors = a.anchors }) refl))

  in_on : (i o : Option Pair) (r : Option ℕ) → in_range (rest_then i o r ws) ≡ true → (s : Seen) → At m n s → last_of s ≡ 3 → Reaches s (rest_then i o r ws)
  unfolding rest_then pair_then advance kind_of count_subpath count_anchor is_whole may_follow after_in member payloads is_full
  in_on none o r b s a e = out_on o r b s a (rw e) (rw e)
  in_on (some q) o r b s a e =
      let us = pair_then 6 o (radius_then r ws) in
      let c = rest-small 4 q.x (word 5 q.y ∷ us) b in
      let u = advance s InX q.x in
      on s 4 q.x (word 5 q.y ∷ us)
      (record { unended = whole_unended (last_of s) a.whole; follows = rw e; listed = first_small 4 q.x (word 5 q.y ∷ us) b; begun = refl; roomy = refl })
      (on u 5 q.y us (record { unended = refl; follows = refl; listed = first_small 5 q.y us c; begun = refl; roomy = refl })
      (out_on o r (rest-small 5 q.y us c) (advance u InY q.y) (record { whole = refl; subpaths = a.subpaths; anchors = a.anchors }) refl refl))

anchor_on : (m n : ℕ) (ws : List Word) → (in_range ws ≡ true → (t : Seen) → At m (n + 1) t → Reaches t ws) → n < 512
    → (a : Anchor) → in_range (anchor_then a ws) ≡ true → (s : Seen) → At m n s → Reaches s (anchor_then a ws)
unfolding anchor_then advance kind_of count_subpath count_anchor is_whole may_follow after_in member payloads is_full
anchor_on m n ws later few a b s h =
    let x = a.p.x in
    let y = a.p.y in
    let us = rest_then a.into a.out a.radius ws in
    let c = rest-small 2 x (word 3 y ∷ us) b in
    let u = advance s X x in
    on s 2 x (word 3 y ∷ us)
    (record {
      unended = whole_unended (last_of s) h.whole;
      follows = follows_whole (last_of s) 2 refl ∙ h.whole;
      listed = first_small 2 x (word 3 y ∷ us) b;
      begun = refl;
      roomy = rw h.anchors (lt-leb 512 n few);
    })
    (on u 3 y us (record { unended = refl; follows = refl; listed = first_small 3 y us c; begun = refl; roomy = refl })
    (in_on m (n + 1) ws later a.into a.out a.radius (rest-small 3 y us c) (advance u Y y) (record { whole = refl; subpaths = h.subpaths; anchors = rw h.anchors }) refl))

anchors_on : (m n : ℕ) (ws : List Word) (more : List Anchor) → (in_range ws ≡ true → (t : Seen) → At m (n + length more) t → Reaches t ws) → n + length more ≤ 512
    → in_range (anchors_then more ws) ≡ true → (s : Seen) → At m n s → Reaches s (anchors_then more ws)
unfolding anchors_then
anchors_on m n ws [] later few b s h = later b s (record { whole = h.whole; subpaths = h.subpaths; anchors = h.anchors ∙ omega arith })
anchors_on m n ws (a ∷ more) later few b s h =
    anchor_on m n (anchors_then more ws)
    (λ c t g. anchors_on m (n + 1) ws more (λ d u k. later d u (record { whole = k.whole; subpaths = k.subpaths; anchors = k.anchors ∙ omega arith })) (omega arith) c t g)
    (omega arith) a b s h

-- ---- subpaths, after the head or a whole anchor
record Between (m n : ℕ) (s : Seen) : Type 0 where
  unended : eqb (last_of s) 15 ≡ false
  follows : (eqb (last_of s) 0 || is_whole (last_of s)) ≡ true
  subpaths : s.subpaths ≡ m
  anchors : s.anchors ≡ n

between : (m n : ℕ) (s : Seen) → At m n s → Between m n s
between m n s h =
    record { unended = whole_unended (last_of s) h.whole; follows = rw h.whole (or-true (eqb (last_of s) 0)); subpaths = h.subpaths; anchors = h.anchors }

one_bit : (c : Bool) → ltb (cond c 1 0) 2 ≡ true
one_bit true = refl
one_bit false = refl

subpaths_on : (m n : ℕ) (ss : List Subpath) → 1 ≤ m + length ss → m + length ss ≤ 32 → n + length (anchors_of ss) ≤ 512
    → in_range (subpaths_then ss end) ≡ true → (s : Seen) → Between m n s → Reaches s (subpaths_then ss end)
unfolding subpaths_then anchors_of advance kind_of count_subpath count_anchor is_whole member payloads is_full scan_from
subpaths_on m n [] one few all b s h =
    on s 15 0 []
    (record {
      unended = h.unended;
      follows = follows_all (last_of s) 15 (inr refl) ∙ h.follows;
      listed = refl;
      begun = ne_eqb s.subpaths 0 (λ e. omega (arith, h.subpaths));
      roomy = refl;
    })
    (λ i. (advance s End 0, refl))
subpaths_on m n (p ∷ ss) one few all b s h =
    let v : ℕ = cond p.closed 1 0 in
    let us = anchors_then p.anchors (subpaths_then ss end) in
    let l = length-append p.anchors (anchors_of ss) in
    on s 1 v us
    (record {
      unended = h.unended;
      follows = follows_all (last_of s) 1 (inl refl) ∙ h.follows;
      listed = one_bit p.closed;
      begun = refl;
      roomy = lt-leb 32 s.subpaths (omega (arith, h.subpaths));
    })
    (anchors_on (m + 1) n (subpaths_then ss end) p.anchors
    (λ c t g. subpaths_on (m + 1) (n + length p.anchors) ss (omega arith) (omega arith) (omega (arith, l)) c t (between (m + 1) (n + length p.anchors) t g))
    (omega (arith, l)) (rest-small 1 v us b) (advance s kinds.Subpath v) (record { whole = refl; subpaths = rw h.subpaths; anchors = h.anchors }))

pub accepted_spelling : (j : Job) → Within j → (t : Seen) × (scan_from start 0 (spelled j) ≡ Ok t)
unfolding spelled advance kind_of count_subpath count_anchor is_whole may_follow after_in member payloads is_full
accepted_spelling j w =
    on start 0 j.kind (subpaths_then j.subpaths end) (record { unended = refl; follows = refl; listed = lt-ltb j.kind 3 w.known; begun = refl; roomy = refl })
    (subpaths_on 0 0 j.subpaths (omega (arith, w.some_subpath)) (omega (arith, w.few_subpaths)) (omega (arith, w.few_anchors)) (rest-small 0 j.kind (subpaths_then j.subpaths end) w.payloads) (advance start Head j.kind)
    (record { unended = refl; follows = refl; subpaths = refl; anchors = refl })) 0
