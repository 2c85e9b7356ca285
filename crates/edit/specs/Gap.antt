-- A gap made in a list of numbers. Assumes nothing.
use Rattle.std.specs.Prelude.{ℕ, ◌+◌, ◌-◌, ◌*◌, cond, List, ltb, Float}
use Rattle.views.specs.View.{entry, overwrite}

-- what stands at j once the numbers from lo on have moved up by `by`: those up to lo + by are as they were
unfoldable pub shifted_at : List Float → ℕ → ℕ → ℕ → Float
shifted_at xs lo by j = cond (ltb j (lo + by)) (entry xs j) (entry xs (j - by))

-- xs with the numbers at lo .. hi - 1 moved up by `by`
unfoldable pub moved : List Float → ℕ → ℕ → ℕ → List Float
moved xs lo hi by = overwrite (hi + by) (shifted_at xs lo by) xs

-- a gap of one group of `width` numbers at group `from` of `count`
unfoldable pub gapped : List Float → ℕ → ℕ → ℕ → List Float
gapped xs from count width = moved xs (from * width) (count * width) width
