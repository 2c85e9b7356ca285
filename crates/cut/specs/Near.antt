-- Steps between two anchors of a subpath of n, round the end where it is closed. Assumes nothing.
use Rattle.std.specs.Prelude.{ℕ, ◌+◌, ◌-◌, Bool, ◌&&◌, ◌||◌, cond, leb, ltb}
use Rattle.views.specs.Search.{count}
use Rattle.cut.specs.declared.subpath.Indices.{Indices}

-- how far apart i and j are as indices, not round the end
unfoldable pub gap : ℕ → ℕ → ℕ
gap i j = i - j + (j - i)

-- j is within k steps of i
unfoldable pub near : ℕ → ℕ → Bool → ℕ → ℕ → Bool
near k n closed i j = leb (gap i j) k || closed && leb n (gap i j + k)

-- k steps from i may pass the end of a closed subpath
unfoldable pub around : ℕ → ℕ → Bool → ℕ → Bool
around k n closed i = closed && (ltb i k || leb n (i + k))

-- the indices among which those within k steps of i are: all, or a row from i - k to i + k
unfoldable pub span_of : ℕ → ℕ → Bool → ℕ → Indices
span_of k n closed i =
    let whole = around k n closed i in
    record { from = cond whole 0 (i - k); to = cond whole n (cond (ltb (i + k) n) (i + k + 1) n) }

-- how many anchors are within k steps of i
unfoldable pub near_count : ℕ → ℕ → Bool → ℕ → ℕ
near_count k n closed i = count (near k n closed i) n

-- where an anchor is put in after a, the index that j had before
unfoldable pub old : ℕ → ℕ → ℕ
old a j = cond (leb j a) j (j - 1)

-- and the index that j then has: those after a are one further on
unfoldable pub shifted : ℕ → ℕ → ℕ
shifted a j = cond (leb j a) j (j + 1)
