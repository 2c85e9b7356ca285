-- What the words of a job put into a drawing's lists, one by one, in place. Assumes nothing.
use Rattle.std.specs.Prelude.{ℕ, ◌+◌, ◌-◌, ◌*◌, cond, List, [], ◌∷◌, ltb, set, Float, Option, Some, None}
use Rattle.real.specs.Operators.{0f}
use Rattle.job.specs.declared.kinds.Kind.{Kind}
use Rattle.job.specs.declared.kinds.Kind.TheVariants.{Subpath, X, Y, InX, InY, OutX, OutY, Radius}
use Rattle.job.specs.Kinds.{kind_of}
use Rattle.job.specs.Words.{Word}
use Rattle.job.specs.Number.{number}
use Rattle.job.specs.Order.{count_subpath, count_anchor, shape_after}

-- ---- a word of payload v: the shape word of the last of s subpaths, a coordinate and the radius of the last of a anchors
unfoldable pub put_shape : ℕ → Kind → ℕ → List ℕ → List ℕ
put_shape s Subpath shape xs = set xs (s - 1) shape
put_shape s X shape xs = set xs (s - 1) shape
put_shape s _ shape xs = xs

-- which of an anchor's six numbers a word is
abbrev pub coordinate : Kind → Option ℕ
coordinate X = Some 0
coordinate Y = Some 1
coordinate InX = Some 2
coordinate InY = Some 3
coordinate OutX = Some 4
coordinate OutY = Some 5
coordinate _ = None

-- one of p stands in for both handles'
unfoldable pub put_coordinate : ℕ → Option ℕ → Float → List Float → List Float
put_coordinate a None x xs = xs
put_coordinate a (Some i) x xs = let at = (a - 1) * 6 + i in cond (ltb i 2) (set (set (set xs at x) (at + 2) x) (at + 4) x) (set xs at x)

unfoldable pub put_number : ℕ → Kind → ℕ → List Float → List Float
unfolding put_coordinate
put_number a k v xs = put_coordinate a (coordinate k) (number v) xs

unfoldable pub put_radius : ℕ → Kind → ℕ → List Float → List Float
put_radius a X v xs = set xs (a - 1) 0f
put_radius a Radius v xs = set xs (a - 1) (number v)
put_radius a _ v xs = xs

-- ---- the words, after s subpaths and a anchors
unfoldable pub lay_shapes : ℕ → ℕ → List Word → List ℕ → List ℕ
unfolding put_shape count_subpath shape_after kind_of
lay_shapes s shape [] xs = xs
lay_shapes s shape (w ∷ ws) xs =
    let k = kind_of w.kind in
    let n = count_subpath k s in
    let now = shape_after k w.payload shape in
    lay_shapes n now ws (put_shape n k now xs)

unfoldable pub lay_numbers : ℕ → List Word → List Float → List Float
unfolding put_number count_anchor kind_of
lay_numbers a [] xs = xs
lay_numbers a (w ∷ ws) xs = let k = kind_of w.kind in let n = count_anchor k a in lay_numbers n ws (put_number n k w.payload xs)

unfoldable pub lay_radii : ℕ → List Word → List Float → List Float
unfolding put_radius count_anchor kind_of
lay_radii a [] xs = xs
lay_radii a (w ∷ ws) xs = let k = kind_of w.kind in let n = count_anchor k a in lay_radii n ws (put_radius n k w.payload xs)
