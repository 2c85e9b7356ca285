-- The reading of one word, by what was read before it: document 01's refusals 1, 2, 3 and 4 in their order. Assumes nothing.
use Rattle.std.specs.Prelude.{ℕ, ◌+◌, ◌*◌, ◌≤◌, Bool, false, not, ◌&&◌, ◌||◌, cond, List, [], ◌∷◌, map, leb, ltb, eqb, Option, Some, None, Result, Ok, Err}
use Rattle.refusal.specs.declared.Reason.{Reason}
use Rattle.refusal.specs.declared.Reason.TheVariants.{Unended, Misplaced, Empty, Full}
use Rattle.job.specs.declared.order.Seen.{Seen}
use Rattle.job.specs.declared.words.Word as declared
use Rattle.job.specs.Words.{split}
use Rattle.job.specs.declared.kinds.Kind.{Kind}
use Rattle.job.specs.declared.kinds.Kind.TheVariants.{Head, Subpath, X, Y, InX, InY, OutX, OutY, Radius, End}
use Rattle.job.specs.Kinds.{number_of_kind, kind_of, last_number}

unfoldable pub member : ℕ → List ℕ → Bool
member x [] = false
member x (y ∷ ys) = eqb x y || member x ys

-- ---- which kinds a kind of word may come after
-- the last words of an anchor, and a subpath's own
abbrev pub whole_kinds : List (Option Kind)
whole_kinds = Some Radius ∷ Some Subpath ∷ Some Y ∷ Some InY ∷ Some OutY ∷ []

-- none before the first word
abbrev pub after : Kind → List (Option Kind)
after Head = None ∷ []
after Subpath = Some Head ∷ whole_kinds
after X = whole_kinds
after Y = Some X ∷ []
after InX = Some Y ∷ []
after InY = Some InX ∷ []
after OutX = Some Y ∷ Some InY ∷ []
after OutY = Some OutX ∷ []
after Radius = Some Y ∷ Some InY ∷ Some OutY ∷ []
after End = Some Head ∷ whole_kinds

-- the same by the kinds' numbers
pub record Row : Type 0 where
  pub kind : ℕ
  pub after : List ℕ

abbrev pub row : Kind → Row
row k = record { kind = number_of_kind k; after = map last_number (after k) }

abbrev pub rows : List Row
rows = map row (Head ∷ Subpath ∷ X ∷ Y ∷ InX ∷ InY ∷ OutX ∷ OutY ∷ Radius ∷ End ∷ [])

abbrev pub wholes : List ℕ
wholes = map last_number whole_kinds

-- a kind with no row comes after nothing
unfoldable pub after_in : List Row → ℕ → List ℕ
after_in [] k = []
after_in (r ∷ rs) k = cond (eqb k r.kind) r.after (after_in rs k)

unfoldable pub is_whole : ℕ → Bool
unfolding member
is_whole last = member last wholes

unfoldable pub may_follow : ℕ → ℕ → Bool
unfolding member after_in
may_follow last k = member last (after_in rows k)

-- the payloads that are listed for a kind: those below this number
unfoldable pub payloads : Kind → ℕ
payloads Head = 3
payloads Subpath = 2
payloads End = 1
payloads _ = 268435456

-- the word begins subpath 33 or anchor 513
unfoldable pub is_full : Seen → Kind → Bool
is_full s Subpath = leb 32 s.subpaths
is_full s X = leb 512 s.anchors
is_full s _ = false

-- the number of the last word's kind
abbrev pub last_of : Seen → ℕ
last_of s = last_number s.last

-- the refusal that a word meets: a word after the end word; one out of order, of no kind, or with another payload; an end word without a
-- subpath; one too many. None where it is read
unfoldable pub refusal_of : Seen → ℕ → ℕ → Option Reason
unfolding may_follow payloads is_full kind_of
refusal_of s k v =
    cond (eqb (last_of s) 15) (Some Unended)
    (cond (not (may_follow (last_of s) k && ltb v (payloads (kind_of k)))) (Some Misplaced)
    (cond (eqb k 15 && eqb s.subpaths 0) (Some Empty)
    (cond (is_full s (kind_of k)) (Some Full) None)))

-- a word that is read, or why it is not
unfoldable pub unless : {A : Type 0} → Option Reason → A → Result A Reason
unless None a = Ok a
unless (Some r) a = Err r

abbrev pub worded : Seen → ℕ → ℕ → Result declared.Word Reason
worded s k v = unless (refusal_of s k v) (record { kind = kind_of k; payload = v })

unfoldable pub tested : Seen → ℕ → Result declared.Word Reason
unfolding refusal_of unless kind_of
tested s w = let p = split w in worded s p.kind p.payload

-- ---- what has been read after it
unfoldable pub head_after : Kind → ℕ → ℕ → ℕ
head_after Head v head = v
head_after _ v head = head

unfoldable pub count_subpath : Kind → ℕ → ℕ
count_subpath Subpath n = n + 1
count_subpath _ n = n

unfoldable pub count_anchor : Kind → ℕ → ℕ
count_anchor X n = n + 1
count_anchor _ n = n

-- the shape word of the subpath so far
unfoldable pub shape_after : Kind → ℕ → ℕ → ℕ
shape_after Subpath v shape = v * 2147483648
shape_after X v shape = shape + 1
shape_after _ v shape = shape

unfoldable pub advance : Seen → Kind → ℕ → Seen
unfolding head_after count_subpath count_anchor shape_after
advance s k v =
    record {
      head = head_after k v s.head;
      last = Some k;
      shape = shape_after k v s.shape;
      subpaths = count_subpath k s.subpaths;
      anchors = count_anchor k s.anchors;
    }

-- before the first word
abbrev pub start : Seen
start = record { head = 0; last = None; shape = 0; subpaths = 0; anchors = 0 }

-- no more than a job may have
pub record Fair (s : Seen) : Type 0 where
  pub subpaths : s.subpaths ≤ 32
  pub anchors : s.anchors ≤ 512
  pub shape : s.shape ≤ 2147483648 + s.anchors
