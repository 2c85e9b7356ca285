-- `recutting::stretches::gather`: each anchor read stands in the lists, and is put beside those before it.
use Rattle.std.proofs.Common.{◌≡◌, ℕ, ◌+◌, ◌*◌, ◌≤◌, ◌<◌, length, List, ap, ◌∙◌}
use native.Mathlib.Omega.{arith}
use lib.ListN.{length-set}
use lib.Ieee.{Float, nan}
use Rattle.views.specs.View.{entry}
use Rattle.views.proofs.Laws.{fill_more}
use Rattle.path.specs.Flat.{anchor_at}
use Rattle.path.proofs.Places.{length-put}
use Rattle.cut.specs.Near.{old}
use Rattle.cut.specs.Unrolled.{unrolled}
use Rattle.cut.proofs.Unrolled.{index-of}
use Rattle.recutting.proofs.Passing.{put_more}
use Rattle.recutting.proofs.stretches.gather.Goals as goal

-- where an index that is read stands in the lists
record Stands (anchors radii : List Float) (place : ℕ) : Type 0 where
  pub long : place * 6 + 6 ≤ length anchors
  pub round : place < length radii
  pub small : place ≤ 1024

stands : (anchors radii : List Float) (first n from gap j u i : ℕ)
    → ((k : ℕ) → k < n → ((first + old gap k) * 6 + 6 ≤ length anchors) × (first + old gap k < length radii) × (first + old gap k ≤ 1024))
    → from < n → j ≤ n → u ≡ unrolled n from j → i ≡ old gap u → Stands anchors radii (first + i)
stands anchors radii first n from gap j u i p h l e d =
    let q = p (unrolled n from j) (index-of n from j h l).below in
    rw (d, e) (record { long = q.0; round = q.1; small = q.2 })

pub overflow_add-i : goal.overflow_add-i
overflow_add-i c =
    let a = c.args in
    let b = c.requires.n_bound in
    let s = stands a.anchors.now a.radii.now a.sub.first a.sub.n a.s.from a.gap c.loop-j.j _ _ c.requires.by_index b.0.inside (omega arith) c.unrolled.ensures c.stood.ensures in
    record { fits = omega (arith, s.small) }

pub anchor_at-requires : goal.anchor_at-requires
anchor_at-requires c =
    let a = c.args in
    let b = c.requires.n_bound in
    let s = stands a.anchors.now a.radii.now a.sub.first a.sub.n a.s.from a.gap c.loop-j.j _ _ c.requires.by_index b.0.inside (omega arith) c.unrolled.ensures c.stood.ensures in
    omega (arith, s.long)

pub offset_bounds-radii-i : goal.offset_bounds-radii-i
offset_bounds-radii-i c =
    let a = c.args in
    let b = c.requires.n_bound in
    let s = stands a.anchors.now a.radii.now a.sub.first a.sub.n a.s.from a.gap c.loop-j.j _ _ c.requires.by_index b.0.inside (omega arith) c.unrolled.ensures c.stood.ensures in
    record { fits = omega (arith, s.small) }

pub bounds-radii-i : goal.bounds-radii-i
bounds-radii-i c =
    let a = c.args in
    let b = c.requires.n_bound in
    (stands a.anchors.now a.radii.now a.sub.first a.sub.n a.s.from a.gap c.loop-j.j _ _ c.requires.by_index b.0.inside (omega arith) c.unrolled.ensures c.stood.ensures).round

pub loop-j-preserved : goal.loop-j-preserved
loop-j-preserved c =
    let a = c.args in
    let l = c.loop-j in
    let i = l.invariant in
    let g = c.put_anchor.ensures in
    let e : c.stood.result ≡ old a.gap (unrolled a.sub.n a.s.from l.j) = c.stood.ensures ∙ ap (old a.gap) c.unrolled.ensures in
    record {
      anchors_long = ap length g ∙ length-put l.g.anchors l.j c.anchor_at.result ∙ i.anchors_long;
      radii_long = simp length-set i.radii_long;
      anchor = λ q h.
          ap (λ z. anchor_at z q) g
          ∙ put_more (λ q. anchor_at a.anchors.now (a.sub.first + old a.gap (unrolled a.sub.n a.s.from q))) l.g.anchors l.j c.anchor_at.result (omega (arith, i.anchors_long)) i.anchor
          (c.anchor_at.ensures ∙ ap (λ z. anchor_at a.anchors.now (a.sub.first + z)) e) q h;
      radius = fill_more nan l.g.radii l.j _ (λ q. entry a.radii.now (a.sub.first + old a.gap (unrolled a.sub.n a.s.from q))) (omega (arith, i.radii_long)) i.radius (ap (λ z. entry a.radii.now (a.sub.first + z)) e);
    }

pub returns : goal.returns
returns c =
    let i = c.loop-j.invariant in
    record { anchors_long = i.anchors_long; radii_long = i.radii_long; anchor = λ j h. i.anchor j (omega arith); radius = λ j h. i.radius j (omega arith) }
