-- Laws of the order of words: members of a list, the rows by cases, and what a word that is read has passed. Assumes nothing.
use mathlib.Core.Path.{◌≡◌, refl, sym, ap, subst, ◌∙◌}
use mathlib.Core.Logic.{◌⊎◌, ⊎_elim, inl, inr}
use mathlib.Core.Bool.{Bool, true, false, not, ◌&&◌, ◌||◌, cond, or-true, or-false}
use mathlib.Core.List.{List, [], ◌∷◌}
use Prim.Native.Nat.{ℕ, ◌+◌, ◌/◌, ◌%◌, ◌≤◌, ◌<◌}
use native.Mathlib.Omega.{arith}
use lib.Dec.{ltb, eqb}
use types.Run.{OneOf}
use borrow.Author.Tests.{eq-eqb, ne_eqb, lt-ltb, le-ltb, eqb-true, ltb-true, leb-false}
use Rattle.std.proofs.Common.{Option, Some, None, Ok, Err}
use Rattle.std.specs.Result.{result_err}
use Rattle.refusal.specs.declared.Reason.{Reason}
use Rattle.refusal.specs.declared.Reason.TheVariants.{Unended, Misplaced, Empty, Full}
use Rattle.job.specs.declared.order.Seen.{Seen}
use Rattle.job.specs.declared.words.Word as declared
use Rattle.job.specs.declared.kinds.Kind.{Kind}
use Rattle.job.specs.declared.kinds.Kind.TheVariants.{Head, Subpath, X, Y, InX, InY, OutX, OutY, Radius, End}
use Rattle.job.specs.Kinds.{number_of_kind, kind_of}
use Rattle.job.specs.Order.{member, Row, rows, after_in, is_whole, may_follow, payloads, is_full, last_of, refusal_of, unless, tested, count_subpath, count_anchor, shape_after, advance, Fair}

-- ---- members of a list
pub member_of : (xs : List ℕ) (x : ℕ) → OneOf xs x → member x xs ≡ true
unfolding member
member_of [] x h = absurd h
member_of (y ∷ []) x h = rw (eq-eqb x y h)
member_of (y ∷ z ∷ zs) x h = ⊎_elim (λ e. rw (eq-eqb x y e)) (λ k. rw (member_of (z ∷ zs) x k) (or-true (eqb x y))) h

pub not-member : (xs : List ℕ) (x : ℕ) → (OneOf xs x → ⊥) → member x xs ≡ false
unfolding member
not-member [] x h = refl
not-member (y ∷ []) x h = rw (ne_eqb x y h)
not-member (y ∷ z ∷ zs) x h = rw (ne_eqb x y (λ e. h (inl e)), not-member (z ∷ zs) x (λ k. h (inr k)))

-- ---- the row of each kind
pub follows_all : (l k : ℕ) → (k ≡ 1) ⊎ (k ≡ 15) → may_follow l k ≡ (eqb l 0 || is_whole l)
unfolding may_follow member after_in is_whole
follows_all l k o = ⊎_elim (λ e. rw e) (λ e. rw e) o

pub follows_whole : (l k : ℕ) → k ≡ 2 → may_follow l k ≡ is_whole l
unfolding may_follow member after_in is_whole
follows_whole l k e = rw e

pub follows_radius : (l k : ℕ) → k ≡ 8 → may_follow l k ≡ member l (3 ∷ 5 ∷ 7 ∷ [])
unfolding may_follow member after_in
follows_radius l k e = rw e

pub follows_out : (l k : ℕ) → k ≡ 6 → may_follow l k ≡ (eqb l 3 || eqb l 5)
unfolding may_follow member after_in
follows_out l k e = rw (e, or-false)

-- a kind that comes after one other
pub follows_one : (l k n a : ℕ) → k ≡ n → after_in rows n ≡ a ∷ [] → may_follow l k ≡ eqb l a
unfolding may_follow member
follows_one l k n a e r = rw (e, r, or-false)

-- ---- by cases
abbrev pub Each : {A : Type 0} → (A → Type 0) → List A → Type 0
Each P [] = Unit {0}
Each P (x ∷ xs) = P x × Each P xs

pub by_members : (P : ℕ → Type 0) (xs : List ℕ) → Each P xs → (x : ℕ) → member x xs ≡ true → P x
unfolding member
by_members P [] ps x h = let z : ◌≡◌ {A = ℕ} 0 1 = cc in absurd (omega arith)
by_members P (y ∷ ys) ps x h = go (eqb x y) refl (by_members P ys ps.1 x) h
  where
    go : (b : Bool) → eqb x y ≡ b → (member x ys ≡ true → P x) → (b || member x ys) ≡ true → P x
    go true e later h = subst P (sym (eqb-true x y e)) ps.0
    go false e later h = later h

pub by_rows : (P : ℕ → ℕ → Type 0) (rs : List Row) → Each (λ r. Each (λ l. P l r.kind) r.after) rs → (last k : ℕ) → member last (after_in rs k) ≡ true → P last k
unfolding member after_in
by_rows P [] ps last k h = let z : ◌≡◌ {A = ℕ} 0 1 = cc in absurd (omega arith)
by_rows P (r ∷ rs) ps last k h = go (eqb k r.kind) refl (by_rows P rs ps.1 last k) h
  where
    go : (b : Bool) → eqb k r.kind ≡ b → (member last (after_in rs k) ≡ true → P last k) → member last (cond b r.after (after_in rs k)) ≡ true → P last k
    go true e later h = subst (P last) (sym (eqb-true k r.kind e)) (by_members (λ l. P l r.kind) r.after ps.0 last h)
    go false e later h = later h

-- a kind that comes after another names one
pub named : (l k : ℕ) → may_follow l k ≡ true → number_of_kind (kind_of k) ≡ k
unfolding may_follow kind_of
named = by_rows (λ l k. number_of_kind (kind_of k) ≡ k) rows (
  (refl, tt),
  (
    (refl, (refl, (refl, (refl, (refl, (refl, tt)))))),
    (
      (refl, (refl, (refl, (refl, (refl, tt))))),
      (
        (refl, tt),
        (
          (refl, tt),
          (
            (refl, tt),
            (
              (refl, (refl, tt)),
              (
                (refl, tt),
                ((refl, (refl, (refl, tt))), ((refl, (refl, (refl, (refl, (refl, (refl, tt)))))), tt)),
              ),
            ),
          ),
        ),
      ),
    ),
  ),
)

pub unknown : (l n : ℕ) → ((k : Kind) → number_of_kind k ≡ n → ⊥) → may_follow l n ≡ false
unknown l n h = go (may_follow l n) refl
  where
    go : (b : Bool) → may_follow l n ≡ b → may_follow l n ≡ false
    go true e = absurd (h (kind_of n) (named l n e))
    go false e = e

pub kind_back : (k : Kind) → kind_of (number_of_kind k) ≡ k
unfolding kind_of
kind_back Head = refl
kind_back Subpath = refl
kind_back X = refl
kind_back Y = refl
kind_back InX = refl
kind_back InY = refl
kind_back OutX = refl
kind_back OutY = refl
kind_back Radius = refl
kind_back End = refl

-- ---- each refusal of a word
module _ (s : Seen) (k v : ℕ) where
  pub refused_1 : last_of s ≡ 15 → refusal_of s k v ≡ Some Unended
  unfolding refusal_of
  refused_1 e = rw (eq-eqb (last_of s) 15 e)

  module _ (unended : last_of s ≡ 15 → ⊥) where
    pub refused-order : may_follow (last_of s) k ≡ false → refusal_of s k v ≡ Some Misplaced
    unfolding refusal_of
    refused-order f = rw (ne_eqb (last_of s) 15 unended, f)

    module _ (follows : may_follow (last_of s) k ≡ true) where
      pub refused_payload : payloads (kind_of k) ≤ v → refusal_of s k v ≡ Some Misplaced
      unfolding refusal_of
      refused_payload h = rw (ne_eqb (last_of s) 15 unended, follows, le-ltb v (payloads (kind_of k)) h)

      module _ (listed : v < payloads (kind_of k)) where
        pub refused_full : (k ≡ 15 → ⊥) → refusal_of s k v ≡ cond (is_full s (kind_of k)) (Some Full) None
        unfolding refusal_of
        refused_full n = rw (ne_eqb (last_of s) 15 unended, follows, lt-ltb v (payloads (kind_of k)) listed, ne_eqb k 15 n)

        pub refused_end : k ≡ 15 → refusal_of s k v ≡ cond (eqb s.subpaths 0) (Some Empty) None
        unfolding refusal_of is_full kind_of
        refused_end e = rw (ne_eqb (last_of s) 15 unended, follows, lt-ltb v (payloads (kind_of k)) listed, e)

-- ---- a word that is read
pub record Passed (s : Seen) (k v : ℕ) : Type 0 where
  pub unended : eqb (last_of s) 15 ≡ false
  pub follows : may_follow (last_of s) k ≡ true
  pub listed : ltb v (payloads (kind_of k)) ≡ true
  pub begun : (eqb k 15 && eqb s.subpaths 0) ≡ false
  pub roomy : is_full s (kind_of k) ≡ false

pub passed : (s : Seen) (k v : ℕ) → refusal_of s k v ≡ None → Passed s k v
unfolding refusal_of
passed s k v = go (eqb (last_of s) 15) refl (may_follow (last_of s) k) refl (ltb v (payloads (kind_of k))) refl (eqb k 15 && eqb s.subpaths 0) refl (is_full s (kind_of k)) refl
  where
    go : (a : Bool) → eqb (last_of s) 15 ≡ a → (b : Bool) → may_follow (last_of s) k ≡ b → (c : Bool) → ltb v (payloads (kind_of k)) ≡ c
        → (d : Bool) → (eqb k 15 && eqb s.subpaths 0) ≡ d → (e : Bool) → is_full s (kind_of k) ≡ e
        → ◌≡◌ {A = Option Reason} (cond a (Some Unended) (cond (not (b && c)) (Some Misplaced) (cond d (Some Empty) (cond e (Some Full) None)))) None → Passed s k v
    go true ea b eb c ec d ed e ee h = cc
    go false ea false eb c ec d ed e ee h = cc
    go false ea true eb false ec d ed e ee h = cc
    go false ea true eb true ec true ed e ee h = cc
    go false ea true eb true ec false ed true ee h = cc
    go false ea true eb true ec false ed false ee h = record { unended = ea; follows = eb; listed = ec; begun = ed; roomy = ee }

-- of a word or its refusal the refusal
pub unless_err : {A : Type 0} (r : Option Reason) (x : A) → result_err (unless r x) ≡ r
unfolding unless
unless_err None x = refl
unless_err (Some r) x = refl

-- what the test of a word of the file has shown
module _ (s : Seen) (w : ℕ) where
  pub tested_err : (r : Reason) → tested s w ≡ Err r → refusal_of s (w / 268435456) (w % 268435456) ≡ Some r
  unfolding tested unless
  tested_err r = go _ (refusal_of s (w / 268435456) (w % 268435456)) refl
    where
      go : (word : declared.Word) (o : Option Reason) → refusal_of s (w / 268435456) (w % 268435456) ≡ o → unless o word ≡ Err r → refusal_of s (w / 268435456) (w % 268435456) ≡ Some r
      go word None e h = let z : ◌≡◌ {A = ℕ} 0 1 = cc in absurd (omega arith)
      go word (Some q) e h = let z : q ≡ r = cc in cc

  pub tested_ok : (word : declared.Word) → tested s w ≡ Ok word
      → (number_of_kind word.kind ≡ w / 268435456) × (word.payload ≡ w % 268435456) × (refusal_of s (w / 268435456) (w % 268435456) ≡ None)
  unfolding tested unless
  tested_ok word = go (refusal_of s (w / 268435456) (w % 268435456)) refl
    where
      go : (o : Option Reason) → refusal_of s (w / 268435456) (w % 268435456) ≡ o → unless o (record { kind = kind_of (w / 268435456); payload = w % 268435456 }) ≡ Ok word
          → (number_of_kind word.kind ≡ w / 268435456) × (word.payload ≡ w % 268435456) × (refusal_of s (w / 268435456) (w % 268435456) ≡ None)
      go None e h =
          let same : ◌≡◌ {A = declared.Word} (record { kind = kind_of (w / 268435456); payload = w % 268435456 }) word = cc in (
            ap (λ (x : declared.Word). number_of_kind x.kind) (sym same) ∙ named (last_of s) (w / 268435456) (passed s (w / 268435456) (w % 268435456) e).follows,
            ap (λ (x : declared.Word). x.payload) (sym same),
            e,
          )
      go (Some q) e h = let z : ◌≡◌ {A = ℕ} 0 1 = cc in absurd (omega arith)

pub passes : (s : Seen) (k v : ℕ) → Passed s k v → refusal_of s k v ≡ None
unfolding refusal_of
passes s k v p = rw (p.unended, p.follows, p.listed, p.begun, p.roomy)

-- ---- a word that is read leaves no more than a job may have
module _ (s : Seen) (k v : ℕ) (p : Passed s k v) where
  pub subpath_one : kind_of k ≡ Subpath → (v < 2) × (s.subpaths < 32)
  unfolding payloads is_full
  subpath_one e = (ltb-true v 2 (rw e at p.listed), leb-false 32 s.subpaths (rw e at p.roomy))

  pub anchor_one : kind_of k ≡ X → s.anchors < 512
  unfolding is_full
  anchor_one e = leb-false 512 s.anchors (rw e at p.roomy)

  module _ (f : Fair s) where
    few_subpaths : count_subpath (kind_of k) s.subpaths ≤ 32
    unfolding count_subpath
    few_subpaths = go (kind_of k) refl
      where
        go : (c : Kind) → kind_of k ≡ c → count_subpath c s.subpaths ≤ 32
        go Subpath e = omega (arith, (subpath_one e).1)
        go _ e = f.subpaths

    few_anchors : count_anchor (kind_of k) s.anchors ≤ 512
    unfolding count_anchor
    few_anchors = go (kind_of k) refl
      where
        go : (c : Kind) → kind_of k ≡ c → count_anchor c s.anchors ≤ 512
        go X e = omega (arith, anchor_one e)
        go _ e = f.anchors

    small_shape : shape_after (kind_of k) v s.shape ≤ 2147483648 + count_anchor (kind_of k) s.anchors
    unfolding shape_after count_anchor
    small_shape = go (kind_of k) refl
      where
        go : (c : Kind) → kind_of k ≡ c → shape_after c v s.shape ≤ 2147483648 + count_anchor c s.anchors
        go Subpath e = omega (arith, (subpath_one e).0)
        go X e = omega (arith, f.shape)
        go _ e = f.shape

    pub fair-after : Fair (advance s (kind_of k) v)
    unfolding advance
    fair-after = record { subpaths = few_subpaths; anchors = few_anchors; shape = small_shape }
