-- Opening: of an accepted drawing, no place differs in a bit from its fresh cache exactly where building that cache would leave the lists as they are; then demand 3 holds from them. Assumes nothing.
use mathlib.Core.Path.{◌≡◌, sym, ap, subst, ◌∙◌}
use mathlib.Core.Logic.{◌↔◌}
use mathlib.Core.Bool.{Bool, true}
use mathlib.Core.List.{List}
use Prim.Native.Nat.{ℕ, ◌+◌, ◌*◌, ◌/◌, ◌%◌, ◌<◌}
use native.Mathlib.Omega.{arith}
use lib.Dec.{T, eqb}
use lib.ListN.{get_or}
use lib.Ieee.{Float, nan, binary64, fits, of_bits, to_bits}
use lib.Ieee.Bits.{of_bits-to_bits}
use borrow.Author.Tests.{eqb-true, eq-eqb}
use Rattle.views.specs.View.{entry}
use Rattle.views.specs.Search.{all}
use Rattle.views.proofs.Bools.{and_left, and_right}
use Rattle.views.proofs.Laws.{overwrite-same}
use Rattle.views.proofs.Searches.{all_says, all_true}
use Rattle.refusal.specs.Order.{accepted}
use Rattle.std.proofs.Common.{None}
use Rattle.path.specs.Shape.{total}
use Rattle.path.proofs.Limits.{GoodBelow, none_is}
use Rattle.cut.specs.Places.{place_numbers}
use Rattle.cut.specs.Rows.{flag_of}
use Rattle.cache.specs.Cache.{cached_numbers, cached_flags}
use Rattle.session.specs.Drawing.{Lent, drawn}
use Rattle.session.specs.Edits.{places_of}
use Rattle.session.specs.Calls.{built_verdict, built_lists}
use Rattle.session.specs.Session.{Turn, Linked}
use Rattle.session.specs.Demand.{Demand3}
use Rattle.session.specs.Opened.{same_bits, place_fresh, stale_at, Storable}
use Rattle.session.proofs.Demand.{numbers_built, flags_built, built_held, demand3}

-- ---- one number: the same bits, the same value
bits-say : (x y : Float) → T (fits binary64 x) → T (fits binary64 y) → same_bits x y ≡ true → x ≡ y
unfolding same_bits
bits-say x y hx hy e = sym (of_bits-to_bits binary64 x hx) ∙ ap (of_bits binary64) (eqb-true (to_bits binary64 x) (to_bits binary64 y) e) ∙ of_bits-to_bits binary64 y hy

same_bits_lem : (x y : Float) → x ≡ y → same_bits x y ≡ true
unfolding same_bits
same_bits_lem x y e = eq-eqb (to_bits binary64 x) (to_bits binary64 y) (ap (to_bits binary64) e)

module _ (l : Lent) (kind : ℕ) (yes : built_verdict l kind ≡ accepted) where
  abbrev n : ℕ
  n = total l.shapes

  -- ---- by value, on any lists
  module _ (numbers : (k i : ℕ) → k < n → i < 12 → entry l.numbers (k * 12 + i) ≡ entry (place_numbers (places_of (drawn l kind) k)) i)
      (flags : (k : ℕ) → k < n → get_or l.flags k 0 ≡ flag_of (places_of (drawn l kind) k).cut) where
    pub built_same : built_lists l kind ≡ l
    unfolding built_lists cached_numbers cached_flags
    built_same =
        let f = places_of (drawn l kind) in
        let nu : (built_lists l kind).numbers ≡ l.numbers =
        numbers_built l kind yes ∙ overwrite-same nan l.numbers (n * 12) (cached_numbers f) (λ j jl. ap (entry l.numbers) (omega arith) ∙ numbers (j / 12) (j % 12) (omega arith) (omega arith)) in
        let fl : (built_lists l kind).flags ≡ l.flags = flags_built l kind yes ∙ overwrite-same 0 l.flags n (cached_flags f) flags in
        λ t. record { shapes = l.shapes; anchors = l.anchors; radii = l.radii; numbers = nu t; flags = fl t }

  -- ---- bit for bit
  pub opened_built : Storable l kind → GoodBelow (place_fresh l kind) n → built_lists l kind ≡ l
  unfolding place_fresh
  opened_built s h = built_same number flag
    where
      place : ℕ → Bool
      place k = all (λ i. same_bits (entry l.numbers (k * 12 + i)) (entry (place_numbers (places_of (drawn l kind) k)) i)) 12

      mark : ℕ → Bool
      mark k = eqb (get_or l.flags k 0) (flag_of (places_of (drawn l kind) k).cut)

      number : (k i : ℕ) → k < n → i < 12 → entry l.numbers (k * 12 + i) ≡ entry (place_numbers (places_of (drawn l kind) k)) i
      number k i kl il = bits-say _ _ (s.held (k * 12 + i)) (s.fresh k i kl il) (all_says _ 12 (and_left (place k) (mark k) (h k kl)) i il)

      flag : (k : ℕ) → k < n → get_or l.flags k 0 ≡ flag_of (places_of (drawn l kind) k).cut
      flag k kl = eqb-true _ _ (and_right (place k) (mark k) (h k kl))

  pub built_opened : built_lists l kind ≡ l → GoodBelow (place_fresh l kind) n
  unfolding place_fresh drawn
  built_opened e k kl =
      let b = built_held l kind yes in
      rw (all_true _ 12 (λ i il. same_bits_lem _ _ (ap (λ (x : Lent). entry x.numbers (k * 12 + i)) (sym e) ∙ b.numbers k i kl il)))
      (eq-eqb _ _ (ap (λ (x : Lent). get_or x.flags k 0) (sym e) ∙ b.flags k kl))

  -- no place differs exactly where the lists are those that building would leave
  pub opened : Storable l kind → (stale_at l kind ≡ None) ↔ (built_lists l kind ≡ l)
  unfolding stale_at
  opened s = (λ h. opened_built s ((none_is (place_fresh l kind) n).0 h), λ e. (none_is (place_fresh l kind) n).1 (built_opened e))

  -- what was opened starts the list of edits as the fresh cache does
  pub opened-demand3 : Storable l kind → stale_at l kind ≡ None → (ts : List Turn) → Linked kind l ts → Demand3 (drawn l kind) l ts
  opened-demand3 s h ts linked =
      let e = (opened s).0 h in
      subst (λ x. Linked kind x ts → Demand3 (drawn l kind) x ts) e (demand3 l kind yes ts) linked
