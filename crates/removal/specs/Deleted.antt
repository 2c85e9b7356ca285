-- `delete`: the anchors that references name go, then every subpath that has too few left, anywhere in the path. Assumes nothing.
use Rattle.std.specs.Prelude.{ℕ, zero, suc, ◌+◌, ◌*◌, ◌/◌, ◌%◌, Bool, true, not, ◌&&◌, cond, List, [], ◌∷◌, ◌++◌, leb, eqb, length, get_or, Float, Result}
use Rattle.views.specs.Search.{all}
use Rattle.refusal.specs.declared.Refusal.{Refusal}
use Rattle.refusal.specs.Order.{passes, holds, Verdict, verdict, tests}
use Rattle.path.specs.declared.anchor.Anchor.{Anchor}
use Rattle.path.specs.Flat.{anchor_at}
use Rattle.path.specs.Shape.{count_of, closed_of, word_at, word_of, start, has_anchor}
use Rattle.call.specs.declared.answers.Outline.{Outline}
use Rattle.call.specs.Tests.{path_fits, path_limit}
use Rattle.call.specs.Answers.{outline_answer, list_left, anchors_left}

-- ---- references: pairs of a subpath and an anchor of it

unfoldable pub whole_pairs : List ℕ → Bool
whole_pairs which = eqb (length which % 2) 0

abbrev pub pairs : List ℕ → ℕ
pairs which = length which / 2

-- the subpath that pair i names, and the anchor
abbrev pub named_subpath : List ℕ → ℕ → ℕ
named_subpath which i = get_or which (2 * i) 0

abbrev pub named_anchor : List ℕ → ℕ → ℕ
named_anchor which i = get_or which (2 * i + 1) 0

-- the one that pair i names is there
unfoldable pub points_in : List ℕ → List ℕ → ℕ → Bool
points_in shapes which i = has_anchor shapes (named_subpath which i) (named_anchor which i)

-- it is anchor k of subpath s
unfoldable pub names : List ℕ → ℕ → ℕ → ℕ → Bool
names which s k i = eqb (named_subpath which i) s && eqb (named_anchor which i) k

-- none of the first m pairs names that one
unfoldable pub unnamed : List ℕ → ℕ → ℕ → ℕ → Bool
unnamed which m s k = all (λ i. not (names which s k i)) m

-- no pair does: 000's `keep`
unfoldable pub keeps : List ℕ → ℕ → ℕ → Bool
keeps which s k = unnamed which (pairs which) s k

-- ---- what is left of a path whose subpath s keeps anchor k where `keep s k`

-- those of f 0, .., f (n - 1) that are kept: 000's first `retain`
unfoldable pub retained : (ℕ → Bool) → (ℕ → Anchor) → ℕ → List Anchor
retained keep f zero = []
retained keep f (suc n) = retained keep f n ++ cond (keep n) (f n ∷ []) []

-- a subpath with n anchors left stays: 000's second `retain`
unfoldable pub suffices : Bool → ℕ → Bool
suffices closed n = leb (cond closed 3 2) n

module _ (shapes : List ℕ) (anchors : List Float) (keep : ℕ → ℕ → Bool) where
  -- the anchors left of subpath s
  unfoldable pub subpath_left : ℕ → List Anchor
  subpath_left s = retained (keep s) (λ k. anchor_at anchors (start shapes s + k)) (count_of (word_at shapes s))

  unfoldable pub subpath_stays : ℕ → Bool
  subpath_stays s = suffices (closed_of (word_at shapes s)) (length (subpath_left s))

  -- its word
  unfoldable pub word_left : ℕ → ℕ
  word_left s = word_of (length (subpath_left s)) (closed_of (word_at shapes s))

  -- the words and the anchors of those of the first m subpaths that stay, one after the other
  unfoldable pub words_up_to : ℕ → List ℕ
  words_up_to zero = []
  words_up_to (suc m) = words_up_to m ++ cond (subpath_stays m) (word_left m ∷ []) []

  unfoldable pub anchors_up_to : ℕ → List Anchor
  anchors_up_to zero = []
  anchors_up_to (suc m) = anchors_up_to m ++ cond (subpath_stays m) (subpath_left m) []

  -- of the path
  unfoldable pub kept_words : List ℕ
  kept_words = words_up_to (length shapes)

  unfoldable pub kept_anchors : List Anchor
  kept_anchors = anchors_up_to (length shapes)

-- ---- the call

unfoldable pub deleted_words : List ℕ → List Float → List ℕ → List ℕ
deleted_words shapes anchors which = kept_words shapes anchors (keeps which)

unfoldable pub deleted_anchors : List ℕ → List Float → List ℕ → List Anchor
deleted_anchors shapes anchors which = kept_anchors shapes anchors (keeps which)

-- the result has no other numbers than the path and is no longer, so 10, 9 and 8 are not met
unfoldable pub delete_verdict : List ℕ → List Float → List ℕ → Verdict
delete_verdict shapes anchors which =
    verdict
    (tests
    (holds (whole_pairs which && path_fits 512 shapes anchors) 0)
    (path_limit shapes anchors true)
    (holds (all (points_in shapes which) (pairs which)) 0)
    passes
    passes
    passes)

unfoldable pub delete_answer : List ℕ → List Float → List ℕ → Result Outline Refusal
delete_answer shapes anchors which =
    outline_answer (delete_verdict shapes anchors which) (length (deleted_words shapes anchors which)) (length (deleted_anchors shapes anchors which))

unfoldable pub delete_shapes_left : List ℕ → List Float → List ℕ → List ℕ
delete_shapes_left shapes anchors which =
    list_left (delete_verdict shapes anchors which) (length (deleted_words shapes anchors which)) (word_at (deleted_words shapes anchors which)) shapes

unfoldable pub delete_anchors_left : List ℕ → List Float → List ℕ → List Float
delete_anchors_left shapes anchors which = anchors_left (delete_verdict shapes anchors which) (deleted_anchors shapes anchors which) anchors
