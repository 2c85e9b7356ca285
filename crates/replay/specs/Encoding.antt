-- A list of calls in words and numbers: three words and six numbers a call, and the five words that tell its answer. Assumes nothing.
use Rattle.std.proofs.Common.{Ok, Err, Result}
use Rattle.std.specs.Prelude.{ℕ, ◌+◌, ◌*◌, ◌/◌, ◌%◌, ◌≤◌, ◌<◌, Bool, ◌&&◌, cond, List, [], ◌∷◌, ◌++◌, leb, eqb, length, get_or, Float}
use Rattle.views.specs.View.{tabulate}
use Rattle.views.specs.Search.{all}
use Rattle.path.specs.declared.anchor.Anchor.{Anchor}
use Rattle.path.specs.Flat.{anchor_at}
use Rattle.path.specs.Shape.{total, word_at, start}
use Rattle.refusal.specs.declared.Refusal.{Refusal}
use Rattle.refusal.specs.Reasons.{number_of}
use Rattle.session.specs.declared.answers.Edited.{Edited}
use Rattle.session.specs.Edits.{Call, move, set_radius, split}

-- ---- the calls
-- 0 moves an anchor to the six numbers, 1 sets a radius to the first of them, 2 splits a segment at the first
unfoldable pub call_of : ℕ → ℕ → ℕ → Anchor → Call
call_of which s i given = cond (eqb which 0) (move s i given) (cond (eqb which 1) (set_radius s i given.p.x) (split s i given.p.x))

-- call j: which, subpath and index (of the anchor, or of the segment's start); its six numbers stand like an anchor's
unfoldable pub call_at : List ℕ → List Float → ℕ → Call
call_at codes values j = call_of (get_or codes (j * 3) 0) (get_or codes (j * 3 + 1) 0) (get_or codes (j * 3 + 2) 0) (anchor_at values j)

abbrev pub call_count : List ℕ → ℕ
call_count codes = length codes / 3

unfoldable pub calls_of : List ℕ → List Float → List Call
calls_of codes values = tabulate (call_count codes) (call_at codes values)

-- the lists fit together: whole calls, six numbers and room for five words each
unfoldable pub calls_fit : List ℕ → List Float → List ℕ → Bool
calls_fit codes values answers = eqb (length codes % 3) 0 && (leb (call_count codes * 6) (length values) && leb (call_count codes * 5) (length answers))

-- each is one of the three
unfoldable pub calls_known : List ℕ → Bool
calls_known codes = all (λ j. leb (get_or codes (j * 3) 0) 2) (call_count codes)

-- ---- the answers
-- the first three words: number, place, 0; or 0, how many places were recut, how many anchors there are
unfoldable pub told : Result Edited Refusal → List ℕ
told (Err why) = number_of why.reason ∷ why.place ∷ 0 ∷ []
told (Ok e) = 0 ∷ e.recut ∷ e.anchors ∷ []

-- the last two: where the call's subpath starts and its shape word, as the edit leaves them
unfoldable pub stands : Result Edited Refusal → List ℕ → ℕ → List ℕ
stands (Err why) shapes s = 0 ∷ 0 ∷ []
stands (Ok e) shapes s = start shapes s ∷ word_at shapes s ∷ []

unfoldable pub answer_words : Result Edited Refusal → List ℕ → ℕ → List ℕ
answer_words e shapes s = told e ++ stands e shapes s

-- they fit: no place or count is above 512, and an accepted call's subpath is there
abbrev pub Small : Result Edited Refusal → List ℕ → ℕ → Type 0
Small (Err why) shapes s = why.place ≤ 512
Small (Ok e) shapes s = (e.recut ≤ 512) × (e.anchors ≤ 512) × (s < length shapes) × (length shapes ≤ 32) × (total shapes ≤ 512)

unfoldable pub subpath_of : Call → ℕ
subpath_of (move s i new) = s
subpath_of (set_radius s i r) = s
subpath_of (split s a t) = s

-- what the first m answers in a list tell, by their first three words
unfoldable pub told_in : List ℕ → ℕ → List (List ℕ)
told_in answers m = tabulate m (λ j. get_or answers (j * 5) 0 ∷ get_or answers (j * 5 + 1) 0 ∷ get_or answers (j * 5 + 2) 0 ∷ [])
