-- What `read_calls` answers and leaves, by which test fails. Assumes nothing.
use mathlib.Core.Path.{◌≡◌, refl, ◌∙◌}
use mathlib.Core.Bool.{Bool, true, false, cond}
use mathlib.Core.List.{List}
use Prim.Native.Nat.{ℕ, ◌+◌, ◌*◌, ◌/◌, ◌≤◌, ◌<◌}
use native.Mathlib.Omega.{arith}
use lib.Dec.{leb}
use lib.ListN.{length, take}
use lib.Seq.{length-take-le, get_or-take}
use lib.Ieee.{Float, nan}
use borrow.Author.Tests.{leb-true, le-leb, lt-leb}
use Rattle.std.proofs.Common.{Ok, Err, Result}
use Rattle.views.specs.View.{tabulate, overwrite}
use Rattle.views.proofs.Bools.{and_false, both}
use Rattle.views.proofs.Laws.{as_tabulate, length-overwrite, at_overwrite}
use Rattle.call_list.specs.Input.{count_in, list_fits, code_at, value_at, calls_answer, codes_left, values_left, codes_in, values_in}
use Rattle.refusal.specs.Reasons.{refusal_at}
use Rattle.refusal.specs.declared.Refusal.{Refusal}
use Rattle.refusal.specs.declared.Reason.TheVariants.{Unended}

pub many_unfit : (bytes : List ℕ) → 256 < count_in bytes → list_fits bytes ≡ false
unfolding list_fits
many_unfit bytes h = rw (lt-leb (count_in bytes) 256 h)

pub short_unfit : (bytes : List ℕ) → length bytes < 4 + count_in bytes * 36 → list_fits bytes ≡ false
unfolding list_fits
short_unfit bytes h = rw (lt-leb (4 + count_in bytes * 36) (length bytes) h) (and_false (leb (count_in bytes) 256))

pub few_fit : (bytes : List ℕ) → count_in bytes ≤ 256 → leb (4 + count_in bytes * 36) (length bytes) ≡ list_fits bytes
unfolding list_fits
few_fit bytes h = rw (le-leb (count_in bytes) 256 h)

pub fits_few : (bytes : List ℕ) → list_fits bytes ≡ true → count_in bytes ≤ 256
unfolding list_fits
fits_few bytes e = leb-true _ _ (both (leb (count_in bytes) 256) _ e).0

pub fits_long : (bytes : List ℕ) → list_fits bytes ≡ true → 4 + count_in bytes * 36 ≤ length bytes
unfolding list_fits
fits_long bytes e = leb-true _ _ (both (leb (count_in bytes) 256) _ e).1

module _ (bytes codes : List ℕ) (values : List Float) where
  pub calls_refused : list_fits bytes ≡ false → (Err (refusal_at Unended (length bytes / 4)) ≡ calls_answer bytes) × ((codes ≡ codes_left bytes codes) × (values ≡ values_left bytes values))
  unfolding calls_answer codes_left values_left
  calls_refused e = (rw e, (rw e, rw e))

  pub calls_read : list_fits bytes ≡ true
      → (Ok (count_in bytes) ≡ calls_answer bytes) × ((overwrite (count_in bytes * 3) (code_at bytes) codes ≡ codes_left bytes codes) × (overwrite (count_in bytes * 6) (value_at bytes) values ≡ values_left bytes values))
  unfolding calls_answer codes_left values_left
  calls_read e = (rw e, (rw e, rw e))

-- ---- what is read, where there is room for it
pub record Reads (bytes : List ℕ) (m : ℕ) : Type 0 where
  pub count : m ≡ count_in bytes
  pub few : m ≤ 256
  pub long : 4 + m * 36 ≤ length bytes
  pub fits : list_fits bytes ≡ true

pub reads : (bytes : List ℕ) (m : ℕ) → calls_answer bytes ≡ Ok m → Reads bytes m
unfolding calls_answer
reads bytes m = go (list_fits bytes) refl
  where
    differ : {why : Refusal} → ◌≡◌ {A = Result ℕ Refusal} (Err why) (Ok m) → ⊥
    differ q = let z : ◌≡◌ {A = ℕ} 0 1 = cc in omega arith

    same_count : ◌≡◌ {A = Result ℕ Refusal} (Ok (count_in bytes)) (Ok m) → m ≡ count_in bytes
    same_count q = cc

    go : (t : Bool) → list_fits bytes ≡ t → cond t (Ok (count_in bytes)) (Err (refusal_at Unended (length bytes / 4))) ≡ Ok m → Reads bytes m
    go true e q = let k = same_count q in record { count = k; few = rw k (fits_few bytes e); long = rw k (fits_long bytes e); fits = e }
    go false e q = absurd (differ q)

taken : {A : Type 0} (d : A) (n : ℕ) (f : ℕ → A) (xs : List A) → n ≤ length xs → take n (overwrite n f xs) ≡ tabulate n f
taken d n f xs h =
    as_tabulate d (take n (overwrite n f xs)) n f (length-take-le n (overwrite n f xs) (omega (arith, length-overwrite n f xs)))
    (λ i l. get_or-take n (overwrite n f xs) i d l ∙ at_overwrite d n f xs i l (omega arith))

module _ (bytes : List ℕ) (m : ℕ) (r : Reads bytes m) where
  pub codes_taken : (xs ys : List ℕ) → ys ≡ codes_left bytes xs → 768 ≤ length xs → take (m * 3) ys ≡ codes_in bytes
  unfolding codes_left codes_in
  codes_taken xs ys e h = rw (e, r.fits, r.count) (taken 0 (count_in bytes * 3) (code_at bytes) xs (omega (arith, r.few, r.count)))

  pub values_taken : (xs ys : List Float) → ys ≡ values_left bytes xs → 1536 ≤ length xs → take (m * 6) ys ≡ values_in bytes
  unfolding values_left values_in
  values_taken xs ys e h = rw (e, r.fits, r.count) (taken nan (count_in bytes * 6) (value_at bytes) xs (omega (arith, r.few, r.count)))

pub codes_length : (bytes xs : List ℕ) → length (codes_left bytes xs) ≡ length xs
unfolding codes_left
codes_length bytes xs = go (list_fits bytes)
  where
    go : (t : Bool) → length (cond t (overwrite (count_in bytes * 3) (code_at bytes) xs) xs) ≡ length xs
    go true = length-overwrite _ _ xs
    go false = refl

pub values_length : (bytes : List ℕ) (xs : List Float) → length (values_left bytes xs) ≡ length xs
unfolding values_left
values_length bytes xs = go (list_fits bytes)
  where
    go : (t : Bool) → length (cond t (overwrite (count_in bytes * 6) (value_at bytes) xs) xs) ≡ length xs
    go true = length-overwrite _ _ xs
    go false = refl
