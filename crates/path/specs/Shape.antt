-- Shape words (document 01, 'Points, root, cubics'): counts, segments, neighbours, and the size that a path may have. Assumes nothing.
use Rattle.std.specs.Prelude.{ℕ, zero, suc, ◌+◌, ◌-◌, ◌%◌, Bool, ◌&&◌, ◌||◌, cond, Option, Some, None, List, [], ◌∷◌, leb, ltb, eqb, length, get_or, take}

-- a word: top bit closed, the rest the anchor count
abbrev pub count_of : ℕ → ℕ
count_of w = w % 2147483648

abbrev pub closed_of : ℕ → Bool
closed_of w = leb 2147483648 w

-- the anchors of a path
abbrev pub total : List ℕ → ℕ
total [] = 0
total (w ∷ ws) = count_of w + total ws

-- the word of subpath s, and the place of its first anchor
abbrev pub word_at : List ℕ → ℕ → ℕ
word_at shapes s = get_or shapes s 0

abbrev pub start : List ℕ → ℕ → ℕ
start shapes s = total (take s shapes)

-- subpath s has an anchor i
unfoldable pub has_anchor : List ℕ → ℕ → ℕ → Bool
has_anchor shapes s i = ltb s (length shapes) && ltb i (count_of (word_at shapes s))

-- the word of a subpath of n anchors
unfoldable pub word_of : ℕ → Bool → ℕ
word_of n closed = cond closed (n + 2147483648) n

-- the subpath in which place k lies
unfoldable pub sub_of : List ℕ → ℕ → ℕ
sub_of [] k = 0
sub_of (w ∷ ws) k = cond (ltb k (count_of w)) 0 (suc (sub_of ws (k - count_of w)))

-- a segment starts at anchor a of n: `segments` of 000
unfoldable pub is_segment : ℕ → Bool → ℕ → Bool
is_segment n closed a = ltb (a + 1) n || closed && (ltb 1 n && eqb (a + 1) n)

-- the neighbours of index i below n, round the ends
unfoldable pub prev : ℕ → ℕ → ℕ
prev n zero = n - 1
prev n (suc i) = i

unfoldable pub next : ℕ → ℕ → ℕ
next n i = cond (ltb (i + 1) n) (i + 1) 0

-- at most 32 subpaths and `most` anchors: how many anchors, or refusal 7
unfoldable pub sized_of : List ℕ → ℕ → Option ℕ
sized_of shapes most = cond (leb (length shapes) 32 && leb (total shapes) most) (Some (total shapes)) None
