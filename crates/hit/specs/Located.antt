-- A place of a path as a subpath and an anchor of it. Assumes nothing.
use Rattle.std.specs.Prelude.{ℕ, ◌-◌, List}
use Rattle.path.specs.Shape.{start, sub_of}
use Rattle.path.specs.declared.shape.AnchorRef.{AnchorRef}

-- the index of place k in its subpath
unfoldable pub index_of : List ℕ → ℕ → ℕ
index_of shapes k = k - start shapes (sub_of shapes k)

unfoldable pub located : List ℕ → ℕ → AnchorRef
located shapes k = record { subpath = sub_of shapes k; anchor = index_of shapes k }
