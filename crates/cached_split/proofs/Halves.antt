-- The stretch of a subpath with one anchor more: gathered about the gap, and the three anchors of the segment split put. Assumes nothing.
use mathlib.Core.Path.{◌≡◌, sym, ap, ◌∙◌}
use mathlib.Core.Logic.{⊎_elim}
use mathlib.Core.Bool.{true, ◌||◌}
use mathlib.Core.List.{List}
use Prim.Native.Nat.{ℕ, ◌+◌, ◌<◌}
use native.Mathlib.Omega.{arith}
use lib.Dec.{ltb}
use lib.ListN.{length, set}
use lib.Seq.{get_or-set_same, get_or-set_other}
use lib.Ieee.{Float, nan}
use Rattle.views.specs.View.{entry}
use Rattle.views.proofs.Laws.{same}
use Rattle.real.specs.Operators.{0f}
use Rattle.path.specs.Flat.{anchor_at, put_anchor}
use Rattle.path.specs.Shape.{next}
use Rattle.path.proofs.Places.{length-put, at_put, at_put_other}
use Rattle.corner.specs.declared.kind.CornerKind.{CornerKind}
use Rattle.cut.specs.declared.subpath.Sub.{Sub}
use Rattle.cut.specs.declared.subpath.Window.{Window}
use Rattle.cut.specs.View.{View}
use Rattle.cut.specs.Near.{gap, near}
use Rattle.cut.specs.Unrolled.{unrolled, rolled}
use Rattle.cut.proofs.Steps.{next-lt, near_in, near_self, near_more, near_next}
use Rattle.cut.proofs.Unrolled.{Index, index-of, index_is, index_back, index_one, unrolled-rolled}
use Rattle.edit.specs.declared.splitting.Halved.{Halved}
use Rattle.recutting.specs.declared.stretches.Stretch.{Stretch}
use Rattle.recutting.specs.declared.stretches.Gathered.{Gathered}
use Rattle.recutting.specs.Stretch.{About, From, Stretched}
use Rattle.recutting.proofs.Unrolling.{middle-index, index_in}
use Rattle.cached_split.specs.Splitting.{grown}
use Rattle.cached_split.specs.Planning.{Halving}

module _ (sub : Sub) (a : ℕ) (inside : a < sub.n) (leaving : (sub.closed || ltb (a + 1 + 1) (sub.n + 1)) ≡ true) (s : Stretch) where
  abbrev more : Sub
  more = grown sub

  abbrev win : Window
  win = record { at = a + 1; reach = 4 }

  abbrev n : ℕ
  n = sub.n + 1

  abbrev after : ℕ
  after = next (sub.n + 1) (a + 1)

  after_in_lem : next (sub.n + 1) (a + 1) < sub.n + 1
  after_in_lem = next-lt (sub.n + 1) (a + 1) (omega arith)

  module _ (about : About (grown sub) (record { at = a + 1; reach = 4 }) s) where
    -- the ends of the segment are in the stretch
    pub start_in : rolled (sub.n + 1) s.from a < 15
    unfolding gap
    start_in =
        let k = index_in more win s about (omega arith) a (omega arith) (near_in 4 n sub.closed (a + 1) a (omega arith)) in
        let z = about.short in
        omega arith

    one_near : near 1 (sub.n + 1) sub.closed (a + 1) (next (sub.n + 1) (a + 1)) ≡ true
    one_near = near_next 0 n sub.closed (a + 1) (a + 1) (omega arith) (omega arith) leaving (near_self 0 n sub.closed (a + 1))

    pub end_in : rolled (sub.n + 1) s.from (next (sub.n + 1) (a + 1)) < 15
    end_in =
        let k = index_in more win s about (omega arith) after after_in_lem (near_more 3 n sub.closed (a + 1) after (near_more 2 n sub.closed (a + 1) after (near_more 1 n sub.closed (a + 1) after one_near))) in
        let z = about.short in
        omega arith

    module _ (v : View) (kind : CornerKind) (h : Halved) (anchors radii : List Float) (f : Halving v kind sub a h anchors radii)
        (g : Gathered) (from : From anchors radii (grown sub) s a g) where
      abbrev ja : ℕ
      ja = rolled (sub.n + 1) s.from a

      abbrev jc : ℕ
      jc = rolled (sub.n + 1) s.from (next (sub.n + 1) (a + 1))

      abbrev xs1 : List Float
      xs1 = put_anchor g.anchors ja h.left

      abbrev xs2 : List Float
      xs2 = put_anchor xs1 s.mid h.middle

      abbrev xs3 : List Float
      xs3 = put_anchor xs2 jc h.right

      long1 : length xs1 ≡ 90
      long1 = length-put g.anchors ja h.left ∙ from.anchors_long

      long2 : length xs2 ≡ 90
      long2 = length-put xs1 s.mid h.middle ∙ long1

      module _ (j : ℕ) (l : j < s.n) where
        abbrev i : ℕ
        i = unrolled (sub.n + 1) s.from j

        at_i : Index (sub.n + 1) s.from j i
        at_i = index-of n s.from j about.inside (let q = about.few in omega arith)

        j_in : j < n
        j_in = let q = about.few in omega arith

        to_index : (x : ℕ) → x < sub.n + 1 → i ≡ x → j ≡ rolled (sub.n + 1) s.from x
        to_index x b e = let k = index_back n s.from x about.inside b in index_one n s.from x j (rolled n s.from x) j_in k.1 (rw e at at_i) k.0

        off_index : (x : ℕ) → x < sub.n + 1 → (i ≡ x → ⊥) → j ≡ rolled (sub.n + 1) s.from x → ⊥
        off_index x b ne e = ne (ap (unrolled n s.from) e ∙ unrolled-rolled n s.from x about.inside b)

        mid_at : Index (sub.n + 1) s.from s.mid (a + 1)
        mid_at = middle-index more win s about (omega arith)

        to_mid : i ≡ a + 1 → j ≡ s.mid
        to_mid e = let q = about.few in let z = about.middle in index_one n s.from (a + 1) j s.mid j_in (omega arith) (rw e at at_i) mid_at

        off_mid : (i ≡ a + 1 → ⊥) → j ≡ s.mid → ⊥
        off_mid ne e = ne (ap (unrolled n s.from) e ∙ index_is n s.from s.mid (a + 1) mid_at)

        three : anchor_at xs3 j ≡ v.anchor i
        three =
            ⊎_elim
            (λ (e : i ≡ after).
            let q = to_index after after_in_lem e in
            let z = end_in in
            ap (anchor_at xs3) q ∙ at_put xs2 jc h.right (omega (arith, long2)) ∙ sym (ap v.anchor e ∙ f.right))
            (λ (ne : i ≡ after → ⊥).
            at_put_other xs2 jc h.right j (off_index after after_in_lem ne)
            ∙ ⊎_elim
            (λ (e : i ≡ a + 1).
            let q = to_mid e in
            let z = about.short in
            let y = about.middle in
            ap (anchor_at xs2) q ∙ at_put xs1 s.mid h.middle (omega (arith, long1)) ∙ sym (ap v.anchor e ∙ f.middle))
            (λ (nm : i ≡ a + 1 → ⊥).
            at_put_other xs1 s.mid h.middle j (off_mid nm)
            ∙ ⊎_elim
            (λ (e : i ≡ a).
            let q = to_index a (omega arith) e in
            let z = start_in in
            ap (anchor_at xs1) q ∙ at_put g.anchors ja h.left (omega (arith, from.anchors_long)) ∙ sym (ap v.anchor e ∙ f.left))
            (λ (na : i ≡ a → ⊥).
            at_put_other g.anchors ja h.left j (off_index a (omega arith) na) ∙ from.anchor j l ∙ sym (f.stood i at_i.below na nm ne))
            (same i a))
            (same i (a + 1)))
            (same i after)

        zero-put : entry (set g.radii s.mid 0f) j ≡ v.radius i
        zero-put =
            ⊎_elim
            (λ (e : i ≡ a + 1).
            let q = to_mid e in
            let z = about.short in
            let y = about.middle in
            ap (entry (set g.radii s.mid 0f)) q ∙ get_or-set_same g.radii s.mid 0f nan (omega (arith, from.radii_long)) ∙ sym (ap v.radius e ∙ f.zero))
            (λ (nm : i ≡ a + 1 → ⊥). get_or-set_other g.radii s.mid j 0f nan (off_mid nm) ∙ from.radius j l ∙ sym (f.kept i at_i.below nm))
            (same i (a + 1))

      pub stretch_halves : Stretched v kind (grown sub) s
          (put_anchor (put_anchor (put_anchor g.anchors (rolled (sub.n + 1) s.from a) h.left) s.mid h.middle) (rolled (sub.n + 1) s.from (next (sub.n + 1) (a + 1))) h.right)
          (set g.radii s.mid 0f)
      stretch_halves = record {
        size = f.size;
        closed = f.closed;
        chords = f.chords;
        anchor = three;
        radius = zero-put;
        kinds = λ j l. f.kinds (unrolled (sub.n + 1) s.from j);
      }
