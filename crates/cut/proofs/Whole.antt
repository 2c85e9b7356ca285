-- A recut whose reach covers the subpath is the whole cut: every place is written, every flag, and all are counted. Assumes nothing.
use mathlib.Core.Path.{◌≡◌, sym, ◌∙◌}
use mathlib.Core.Bool.{Bool, true}
use mathlib.Core.List.{List}
use Prim.Native.Nat.{ℕ, ◌+◌, ◌-◌, ◌*◌, ◌/◌, ◌%◌, ◌≤◌, ◌<◌}
use native.Mathlib.Omega.{arith}
use lib.ListN.{length, get_or}
use lib.Ieee.{Float, nan}
use Rattle.views.specs.View.{entry}
use Rattle.views.proofs.Laws.{at_tabulate}
use Rattle.views.proofs.Searches.{first_all, first_count}
use Rattle.cut.specs.View.{View}
use Rattle.cut.specs.Near.{near, near_count}
use Rattle.cut.specs.Places.{is_cut, place_at, place_numbers}
use Rattle.cut.specs.Rows.{flag_of}
use Rattle.cut.specs.Recut.{reached, recut_numbers, recut_flags}
use Rattle.cut.proofs.Steps.{near-all}
use Rattle.cut.proofs.Stages.{touched, touched_here}

module _ (v : View) (first reach at i : ℕ) (inside : i < v.n) where
  -- ---- an index within reach: its place, number by number, and its flag
  module _ (e : near reach v.n v.closed at i ≡ true) where
    here : reached v first reach at (first + i) ≡ true
    unfolding reached touched
    here = touched_here (near reach v.n v.closed at) first i v.n inside ∙ e

    pub place_recut : (xs : List Float) → (first + v.n) * 12 ≤ length xs → (q : ℕ) → q < 12
        → entry (recut_numbers v first reach at xs) ((first + i) * 12 + q) ≡ entry (place_numbers (place_at v i)) q
    unfolding recut_numbers
    place_recut xs h q l =
        let d : ((first + i) * 12 + q) / 12 ≡ first + i = omega arith in
        let r : ((first + i) * 12 + q) % 12 ≡ q = omega arith in
        let z : first + i - first ≡ i = omega arith in
        at_tabulate nan (length xs) _ ((first + i) * 12 + q) (omega arith) ∙ rw (d, r, here, z)

    pub flag_recut : (fs : List ℕ) → first + v.n ≤ length fs → get_or (recut_flags v first reach at fs) (first + i) 0 ≡ flag_of (is_cut v i)
    unfolding recut_flags
    flag_recut fs h =
        let z : first + i - first ≡ i = omega arith in
        at_tabulate 0 (length fs) _ (first + i) (omega arith) ∙ rw (here, z)

  -- ---- with a reach of at least n, any index
  module _ (index : at ≤ v.n) (covers : v.n ≤ reach) where
    all_near : near reach v.n v.closed at i ≡ true
    all_near = near-all reach v.n v.closed at i (omega arith) (omega arith)

    pub whole_place : (xs : List Float) → (first + v.n) * 12 ≤ length xs → (q : ℕ) → q < 12
        → entry (recut_numbers v first reach at xs) ((first + i) * 12 + q) ≡ entry (place_numbers (place_at v i)) q
    whole_place = place_recut all_near

    pub whole_flag : (fs : List ℕ) → first + v.n ≤ length fs → get_or (recut_flags v first reach at fs) (first + i) 0 ≡ flag_of (is_cut v i)
    whole_flag = flag_recut all_near

pub whole-count : (n reach at : ℕ) (closed : Bool) → at ≤ n → n ≤ reach → near_count reach n closed at ≡ n
unfolding near_count
whole-count n reach at closed h l =
    let near-each : (k : ℕ) → k < n → near reach n closed at k ≡ true = λ k m. near-all reach n closed at k (omega arith) (omega arith) in
    sym (first_count (near reach n closed at) n (λ k m e. near-each k (omega arith))) ∙ first_all (near reach n closed at) n near-each
