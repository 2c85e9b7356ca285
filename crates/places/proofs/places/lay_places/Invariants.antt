-- Before index i the lists hold the places of those below it that are near.
use mathlib.Core.Path.{◌≡◌}
use Prim.Native.Nat.{ℕ, ◌+◌, ◌≤◌}
use lib.Ieee.{Float}
use lib.ListN.{length, get_or}
use Rattle.views.specs.View.{entry}
use Rattle.views.specs.Search.{count}
use Rattle.path.specs.Flat.{anchor_at}
use Rattle.corner.specs.declared.kind.CornerKind.{CornerKind}
use Rattle.cut.specs.Subpath.{view_of}
use Rattle.cut.specs.Near.{near}
use Rattle.cut.specs.Places.{is_cut, place_at, place_numbers}
use Rattle.cut.specs.Rows.{flag_of, HoldsCuts}
use Rattle.cut.proofs.Stages.{numbers_at_lem, flags_at}
use Rattle.places.proofs.places.lay_places.Given as goal

abbrev pub invariant-loop-i : goal.invariant-loop-i
invariant-loop-i l =
    let s = l.fn.sub in
    let near_it = near l.fn.w.reach s.n s.closed l.fn.w.at in
    record {
      inside : l.i ≤ s.n;
      end_inside : l.i-end ≤ s.n;
      numbers_kept : length l.numbers ≡ length l.fn.numbers;
      flags_kept : length l.flags ≡ length l.fn.flags;
      counted : l.count ≡ count near_it l.i;
      few : l.count ≤ l.i;
      number : (radius : ℕ → Float) (kind : ℕ → CornerKind) → let v = view_of (anchor_at l.fn.anchors) radius kind 128 s in HoldsCuts v (l.fn.w.reach + 1) l.fn.w.at l.fn.cuts
          → (j : ℕ) → entry l.numbers j ≡ numbers_at_lem near_it s.first (λ k. place_numbers (place_at v k)) l.fn.numbers l.i j;
      flag : (radius : ℕ → Float) (kind : ℕ → CornerKind) → let v = view_of (anchor_at l.fn.anchors) radius kind 128 s in HoldsCuts v (l.fn.w.reach + 1) l.fn.w.at l.fn.cuts
          → (j : ℕ) → get_or l.flags j 0 ≡ flags_at near_it s.first (λ k. flag_of (is_cut v k)) l.fn.flags l.i j;
    }
