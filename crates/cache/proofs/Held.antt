-- Lists in which every place of the cut is laid hold the cache of the path, number by number and flag by flag. Assumes nothing.
use mathlib.Core.Path.{◌≡◌, sym, ap, ◌∙◌}
use mathlib.Core.Logic.{⊎_elim}
use mathlib.Core.Bool.{Bool}
use mathlib.Core.List.{List}
use Prim.Native.Nat.{ℕ, ◌+◌, ◌-◌, ◌*◌, ◌/◌, ◌%◌, ◌<◌}
use native.Mathlib.Omega.{arith}
use lib.ListN.{get_or}
use lib.Ieee.{Float}
use Rattle.views.specs.View.{entry}
use Rattle.views.proofs.Searches.{all_cong}
use Rattle.real.specs.Limit.{in_limit}
use Rattle.refusal.specs.Order.{Test, passes}
use Rattle.path.specs.Shape.{total, start, sub_of}
use Rattle.path.proofs.Limits.{Least, search_to}
use Rattle.corner.specs.declared.kind.CornerKind.{CornerKind}
use Rattle.cut.specs.declared.places.Place.{Place}
use Rattle.cut.specs.View.{View}
use Rattle.cut.specs.Places.{place_numbers}
use Rattle.cut.specs.Rows.{flag_of}
use Rattle.cut.proofs.Outlines.{place_cut}
use Rattle.call.specs.Tests.{places}
use Rattle.call.specs.Answers.{outline_answer, list_left}
use Rattle.call.proofs.Openings.{places_fail, places_pass}
use Rattle.cut_calls.specs.PlainCut.{view_at, Laid}
use Rattle.cut_calls.proofs.Laying.{size_at}
use Rattle.cut_calls.proofs.Handed.{list_same}
use Rattle.cache.specs.Cache.{place_of_path, cached_numbers, cached_flags, cached_in}
use Rattle.cache.specs.Tests.{twelve_in, cache_verdict}
use Rattle.cache.proofs.Subpaths.{located}

-- ---- tests by place that agree
module _ (p q : ℕ → Bool) (n : ℕ) (after : Test) (alike : (k : ℕ) → k < n → p k ≡ q k) where
  same-least : (k : ℕ) → Least p n k → Least q n k
  same-least k l = record {
    place = l.place;
    bad = sym (alike k l.place) ∙ l.bad;
    below = λ j h. let w = l.place in sym (alike j (omega arith)) ∙ l.below j h;
  }

  pub places_same : places p n after ≡ places q n after
  places_same =
      ⊎_elim
      (λ g. places_pass p n after g ∙ sym (places_pass q n after (λ k l. sym (alike k l) ∙ g k l)))
      (λ kl. places_fail p n after kl.0 kl.1 ∙ sym (places_fail q n after kl.0 (same-least kl.0 kl.1)))
      (search_to p n)

-- ---- lists that hold the places f 0, .., f (n - 1)
pub record Holds (f : ℕ → Place) (n : ℕ) (numbers : List Float) (flags : List ℕ) : Type 0 where
  pub number : (k q : ℕ) → k < n → q < 12 → entry numbers (k * 12 + q) ≡ entry (place_numbers (f k)) q
  pub flag : (k : ℕ) → k < n → get_or flags k 0 ≡ cached_flags f k

module _ (shapes : List ℕ) (anchors radii : List Float) (kind : CornerKind) (numbers : List Float) (flags : List ℕ)
    (laid : Laid shapes (view_at shapes anchors radii kind) numbers flags) where
  abbrev view : ℕ → View
  view = view_at shapes anchors radii kind

  number-laid : (k q : ℕ) → k < total shapes → q < 12 → entry numbers (k * 12 + q) ≡ entry (place_numbers (place_of_path shapes view k)) q
  unfolding place_of_path
  number-laid k q l h =
      let w = located shapes k l in
      let s = sub_of shapes k in
      let e : start shapes s + (k - start shapes s) ≡ k = omega (arith, w.from) in
      rw e at (laid.number s (k - start shapes s) q w.subpath (omega (arith, w.from, w.below, size_at shapes anchors radii kind s)) h)

  flag_laid : (k : ℕ) → k < total shapes → get_or flags k 0 ≡ cached_flags (place_of_path shapes view) k
  unfolding place_of_path cached_flags
  flag_laid k l =
      let w = located shapes k l in
      let s = sub_of shapes k in
      let e : start shapes s + (k - start shapes s) ≡ k = omega (arith, w.from) in
      rw e at (laid.flag s (k - start shapes s) w.subpath (omega (arith, w.from, w.below, size_at shapes anchors radii kind s)))
      ∙ ap flag_of (sym (place_cut (view s) (k - start shapes s)))

  pub laid-holds : Holds (place_of_path shapes (view_at shapes anchors radii kind)) (total shapes) numbers flags
  laid-holds = record { number = number-laid; flag = flag_laid }

-- ---- what is written from them
module _ (f : ℕ → Place) (n : ℕ) (numbers : List Float) (flags : List ℕ) (held : Holds f n numbers flags) where
  twelve-held : (k : ℕ) → k < n → twelve_in numbers k ≡ cached_in f k
  unfolding twelve_in cached_in
  twelve-held k l = all_cong _ _ 12 (λ i h. ap in_limit (held.number k i l h))

  verdict-held : cache_verdict (twelve_in numbers) n ≡ cache_verdict (cached_in f) n
  unfolding cache_verdict
  verdict-held = rw (places_same (twelve_in numbers) (cached_in f) n passes twelve-held)

  number-held : (j : ℕ) → j < n * 12 → entry numbers j ≡ cached_numbers f j
  unfolding cached_numbers
  number-held j l =
      let e : j / 12 * 12 + j % 12 ≡ j = omega arith in
      rw e at (held.number (j / 12) (j % 12) (omega arith) (omega arith))

  pub answer-held : (m : ℕ) → outline_answer (cache_verdict (twelve_in numbers) n) m n ≡ outline_answer (cache_verdict (cached_in f) n) m n
  answer-held m = ap (λ v. outline_answer v m n) verdict-held

  pub numbers-held : (xs : List Float) → list_left (cache_verdict (twelve_in numbers) n) (n * 12) (entry numbers) xs ≡ list_left (cache_verdict (cached_in f) n) (n * 12) (cached_numbers f) xs
  numbers-held xs = rw verdict-held (list_same _ (n * 12) _ _ xs number-held)

  pub flags_held : (xs : List ℕ) → list_left (cache_verdict (twelve_in numbers) n) n (λ k. get_or flags k 0) xs ≡ list_left (cache_verdict (cached_in f) n) n (cached_flags f) xs
  flags_held xs = rw verdict-held (list_same _ n _ _ xs held.flag)
