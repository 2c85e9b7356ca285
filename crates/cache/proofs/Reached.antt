-- The places of a path within reach of an index of a subpath: which, how many, and the twelve numbers of a place. Assumes nothing.
use mathlib.Core.Path.{◌≡◌, ap, ◌∙◌}
use mathlib.Core.Bool.{false}
use Prim.Native.Nat.{ℕ, ◌+◌, ◌-◌, ◌≤◌, ◌<◌}
use native.Mathlib.Omega.{arith}
use lib.ListN.{get_or-append}
use lib.Seq.{get_or-append-add}
use lib.Ieee.{nan}
use borrow.Author.Tests.{lt-ltb, le-ltb, le-leb, lt-leb}
use Rattle.views.specs.View.{entry}
use Rattle.views.specs.Search.{count}
use Rattle.views.proofs.Searches.{count_cong, count_none, count_add}
use Rattle.path.specs.Flat.{numbers}
use Rattle.cut.specs.declared.places.Place.{Place}
use Rattle.cut.specs.View.{View}
use Rattle.cut.specs.Near.{near, near_count}
use Rattle.cut.specs.Places.{place_numbers}
use Rattle.cut.specs.Recut.{reached}

-- ---- a place's numbers: those of its start, then those of its end
pub start-number : (p : Place) (i : ℕ) → i < 6 → entry (place_numbers p) i ≡ entry (numbers p.start) i
unfolding place_numbers numbers
start-number p i l = get_or-append (numbers p.start) (numbers p.end) nan i l

pub end-number : (p : Place) (i : ℕ) → entry (place_numbers p) (6 + i) ≡ entry (numbers p.end) i
unfolding place_numbers numbers
end-number p i = get_or-append-add (numbers p.start) (numbers p.end) i nan

-- ---- which places
module _ (v : View) (first reach at k : ℕ) where
  pub reached_here : first ≤ k → k < first + v.n → reached v first reach at k ≡ near reach v.n v.closed at (k - first)
  unfolding reached
  reached_here l h = rw (le-leb first k l, lt-ltb k (first + v.n) h)

  pub reached_below : k < first → reached v first reach at k ≡ false
  unfolding reached
  reached_below l = rw (lt-leb first k l)

  pub reached_past : first + v.n ≤ k → reached v first reach at k ≡ false
  unfolding reached
  reached_past l = rw (le-leb first k (omega arith), le-ltb k (first + v.n) l)

-- ---- the places of a path that are reached are those of the subpath, each once
pub reached-count : (v : View) (first reach at n : ℕ) → first + v.n ≤ n → count (reached v first reach at) n ≡ near_count reach v.n v.closed at
unfolding near_count
reached-count v first reach at n l =
    let p = reached v first reach at in
    let z = n - (first + v.n) in
    let e : n ≡ first + (v.n + z) = omega arith in
    let x : count p first ≡ 0 = count_none p first (λ k h. reached_below v first reach at k h) in
    let y : count (λ k. p (first + k)) v.n ≡ count (near reach v.n v.closed at) v.n = count_cong _ _ v.n (λ k h. here k h) in
    let w : count (λ k. p (first + (v.n + k))) z ≡ 0 = count_none _ z (λ k h. reached_past v first reach at (first + (v.n + k)) (omega arith)) in
    ap (count p) e ∙ omega (arith, count_add p first (v.n + z), count_add (λ k. p (first + k)) v.n z)
  where
    here : (k : ℕ) → k < v.n → reached v first reach at (first + k) ≡ near reach v.n v.closed at k
    here k h = reached_here v first reach at (first + k) (omega arith) (omega arith) ∙ ap (near reach v.n v.closed at) (omega arith)
