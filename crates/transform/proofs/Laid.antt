-- A table of anchors in front of a list is that list of anchors, and the list is as long as it was. Assumes nothing.
use mathlib.Core.Path.{◌≡◌, ap, sym, ◌∙◌}
use mathlib.Core.List.{List}
use Prim.Native.Nat.{ℕ, ◌*◌, ◌/◌, ◌%◌, ◌<◌}
use native.Mathlib.Omega.{arith}
use lib.ListN.{length}
use lib.Ieee.{Float}
use Rattle.views.specs.View.{entry, tabulate, overwrite}
use Rattle.views.proofs.Laws.{length-tabulate, at_tabulate, length-overwrite, overwrite_cong}
use Rattle.path.specs.declared.anchor.Anchor.{Anchor}
use Rattle.path.specs.Flat.{numbers, anchor_numbers, nth, listed}

module _ (n : ℕ) (f : ℕ → Anchor) where
  table_number : (j : ℕ) → j < n * 6 → anchor_numbers f j ≡ anchor_numbers (nth (tabulate n f)) j
  unfolding anchor_numbers nth
  table_number j l =
      let h : j / 6 < n = omega arith in
      ap (λ a. entry (numbers a) (j % 6)) (sym (at_tabulate _ n f (j / 6) h))

  pub listed_table : (xs : List Float) → overwrite (n * 6) (anchor_numbers f) xs ≡ listed (tabulate n f) xs
  unfolding listed
  listed_table xs = rw (length-tabulate n f) (overwrite_cong (n * 6) (anchor_numbers f) (anchor_numbers (nth (tabulate n f))) xs table_number)

pub as_long : {n : ℕ} (k : ℕ) (f : ℕ → Float) (xs made : List Float) → made ≡ overwrite k f xs → length xs ≡ n → length made ≡ n
as_long k f xs made e l = ap length e ∙ length-overwrite k f xs ∙ l
