-- Marks of the places of a path that go. Assumes nothing.
use Rattle.std.specs.Prelude.{◌≡◌, Bool, false, not, List, ℕ, ◌+◌, ◌<◌, length, get_or}
use Rattle.path.specs.Shape.{count_of, word_at, start}
use Rattle.removal.specs.Deleted.{unnamed}

-- place k has no mark
abbrev pub kept_at : List Bool → ℕ → Bool
kept_at gone k = not (get_or gone k false)

-- the place of anchor k of subpath s
unfoldable pub kept_in : List ℕ → List Bool → ℕ → ℕ → Bool
kept_in shapes gone s k = kept_at gone (start shapes s + k)

-- an anchor's place has none exactly where none of the first m references names it
abbrev pub Marked : List ℕ → List ℕ → ℕ → List Bool → Type 0
Marked shapes which m gone = (s k : ℕ) → s < length shapes → k < count_of (word_at shapes s) → kept_in shapes gone s k ≡ unnamed which m s k
