-- A place copied from one list to another. Assumes nothing.
use mathlib.Core.Path.{◌≡◌, sym, ap, ◌∙◌}
use mathlib.Core.Logic.{⊎_elim}
use mathlib.Core.Bool.{false}
use mathlib.Core.List.{List}
use Prim.Native.Nat.{ℕ, ◌+◌, ◌-◌, ◌*◌, ◌≤◌, ◌<◌}
use native.Mathlib.Omega.{arith}
use lib.ListN.{length}
use lib.Ieee.{Float}
use Rattle.views.specs.View.{entry}
use Rattle.views.proofs.Laws.{order}
use Rattle.path.specs.Flat.{anchor_at, numbers, put_anchor}
use Rattle.path.proofs.Places.{length-put, anchor-number, numbers_at}
use Rattle.cut.specs.declared.places.Place.{Place}
use Rattle.cut.specs.Places.{place_numbers}
use Rattle.cut.specs.Recut.{put_place}
use Rattle.cache.proofs.Reached.{start-number, end-number}

-- the twelve numbers of place k of a list, as a place
abbrev pub place_from : List Float → ℕ → Place
place_from xs k = record { cut = false; start = anchor_at xs (2 * k); end = anchor_at xs (2 * k + 1) }

pub length_copied : (xs : List Float) (k : ℕ) (q : Place) → length (put_place xs k q) ≡ length xs
length_copied xs k q = length-put (put_anchor xs (2 * k) q.start) (2 * k + 1) q.end ∙ length-put xs (2 * k) q.start

anchor-entry : (xs : List Float) (k i : ℕ) → i < 6 → entry (numbers (anchor_at xs k)) i ≡ entry xs (k * 6 + i)
anchor-entry xs k i l = sym (anchor-number (anchor_at xs) k i l) ∙ numbers_at xs (k * 6 + i)

pub place_number : (xs : List Float) (k q : ℕ) → q < 12 → entry (place_numbers (place_from xs k)) q ≡ entry xs (k * 12 + q)
place_number xs k q l =
    ⊎_elim
    (λ (h : 6 ≤ q). let e : q ≡ 6 + (q - 6) = omega arith in
    ap (entry (place_numbers (place_from xs k))) e ∙ end-number (place_from xs k) (q - 6) ∙ anchor-entry xs (2 * k + 1) (q - 6) (omega arith) ∙ ap (entry xs) (omega arith))
    (λ (h : q < 6). start-number (place_from xs k) q h ∙ anchor-entry xs (2 * k) q h ∙ ap (entry xs) (omega arith))
    (order 6 q)
