-- The numbers of the kinds of a job's words (document 01, 'Job file and program'). Assumes nothing.
use Rattle.std.specs.Prelude.{ℕ, ◌≡◌, [], ◌∷◌, get_or, Option, Some, None, Result, MatchResult}
use Rattle.job.specs.declared.kinds.Kind.{Kind}
use Rattle.job.specs.declared.kinds.Kind.TheVariants.{Head, Subpath, X, Y, InX, InY, OutX, OutY, Radius, End}
use Rattle.job.specs.declared.kinds.UnknownKind.{UnknownKind}

abbrev pub number_of_kind : Kind → ℕ
number_of_kind Head = 0
number_of_kind Subpath = 1
number_of_kind X = 2
number_of_kind Y = 3
number_of_kind InX = 4
number_of_kind InY = 5
number_of_kind OutX = 6
number_of_kind OutY = 7
number_of_kind Radius = 8
number_of_kind End = 15

-- a number by what it names, or as one that names nothing
abbrev pub Names : ℕ → Result Kind UnknownKind → Type 0
Names n r = MatchResult r (λ k. number_of_kind k ≡ n) (λ e. (k : Kind) → number_of_kind k ≡ n → ⊥)

-- the kind that a number names, of those that name one
unfoldable pub kind_of : ℕ → Kind
kind_of n = get_or (Head ∷ Subpath ∷ X ∷ Y ∷ InX ∷ InY ∷ OutX ∷ OutY ∷ Radius ∷ []) n End

-- the number of the last word's kind, 16 standing for the start of the file
abbrev pub last_number : Option Kind → ℕ
last_number None = 16
last_number (Some k) = number_of_kind k
