-- A stretch of a subpath: some of its anchors in a row, unrolled once round its end. Assumes nothing.
use Rattle.std.specs.Prelude.{ℕ, ◌+◌, ◌-◌, cond, leb, ltb}

-- the index, in a subpath of n, of index j of a stretch that starts at its index `from`
unfoldable pub unrolled : ℕ → ℕ → ℕ → ℕ
unrolled n from j = cond (ltb (from + j) n) (from + j) (from + j - n)

-- and back
unfoldable pub rolled : ℕ → ℕ → ℕ → ℕ
rolled n from i = cond (leb from i) (i - from) (i + n - from)
