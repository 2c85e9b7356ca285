-- The lines of the calls (docs/EDITS.md): 'refused' with number and place, or 'recut' and each place that was recut. Assumes nothing.
use Rattle.std.specs.Prelude.{ℕ, zero, suc, ◌+◌, ◌*◌, ◌≤◌, ◌<◌, ◌≡◌, Bool, cond, List, [], ◌∷◌, ◌++◌, eqb, get_or}
use Rattle.path.specs.Shape.{count_of, closed_of}
use Rattle.cut.specs.declared.subpath.Sub.{Sub}
use Rattle.cut.specs.declared.subpath.Window.{Window}
use Rattle.decimal.specs.Text.{whole_text}
use Rattle.recutting.specs.Near.{reached_in}
use Rattle.printing.specs.Refused.{refused_text}

-- ---- which places
-- those below n that pass, lowest first
unfoldable pub passing : (ℕ → Bool) → ℕ → List ℕ
passing p zero = []
passing p (suc n) = passing p n ++ cond (p n) (n ∷ []) []

-- about which index a call recuts, and how far (document 01, 'Kept outline'): 0 move, 1 set radius, 2 split, about the new anchor
unfoldable pub window_of : ℕ → ℕ → Window
window_of which index =
    cond (eqb which 0) (record { at = index; reach = 3 }) (cond (eqb which 1) (record { at = index; reach = 2 }) (record { at = index + 1; reach = 4 }))

-- a subpath by the place at which it starts and its shape word
unfoldable pub sub_from : ℕ → ℕ → Sub
sub_from first word = record { first = first; n = count_of word; closed = closed_of word }

-- the places of the path that are in the subpath within reach
unfoldable pub recut_places : Sub → Window → List ℕ
recut_places sub w = passing (reached_in sub w) (sub.first + sub.n)

-- ---- the text. 10 is a newline, 32 a blank
unfoldable pub listed : List ℕ → List ℕ
listed [] = []
listed (k ∷ ks) = (32 ∷ whole_text k) ++ listed ks

-- 114 is 'r', 101 'e', 99 'c', 117 'u', 116 't'
unfoldable pub recut_text : List ℕ → List ℕ
recut_text places = (114 ∷ 101 ∷ 99 ∷ 117 ∷ 116 ∷ []) ++ listed places

-- of a call by two words of its code and four of its answer: number is 0 where it was accepted, else `second` is the refusal's place
unfoldable pub call_text : ℕ → ℕ → ℕ → ℕ → ℕ → ℕ → List ℕ
call_text which index number second first word = cond (eqb number 0) (recut_text (recut_places (sub_from first word) (window_of which index))) (refused_text number second)

unfoldable pub call_line : ℕ → ℕ → ℕ → ℕ → ℕ → ℕ → List ℕ
call_line which index number second first word = call_text which index number second first word ++ 10 ∷ []

-- call j of the codes, three words each, and of the answers, five words each
unfoldable pub line_at : List ℕ → List ℕ → ℕ → List ℕ
line_at codes answers j =
    call_line (get_or codes (j * 3) 0) (get_or codes (j * 3 + 2) 0) (get_or answers (j * 5) 0) (get_or answers (j * 5 + 1) 0) (get_or answers (j * 5 + 3) 0) (get_or answers (j * 5 + 4) 0)

-- the first m calls
unfoldable pub call_lines : List ℕ → List ℕ → ℕ → List ℕ
call_lines codes answers zero = []
call_lines codes answers (suc m) = call_lines codes answers m ++ line_at codes answers m

-- ---- what an accepted call answers: its subpath lies in a path of at most 512 anchors, and it recuts about an index of it
pub record Sound (sub : Sub) (w : Window) : Type 0 where
  pub few : sub.first + sub.n ≤ 512
  pub index : w.at < sub.n

-- each of the first m calls that was accepted
abbrev pub SoundAll : List ℕ → List ℕ → ℕ → Type 0
SoundAll codes answers m =
    (j : ℕ) → j < m → get_or answers (j * 5) 0 ≡ 0
    → Sound (sub_from (get_or answers (j * 5 + 3) 0) (get_or answers (j * 5 + 4) 0)) (window_of (get_or codes (j * 3) 0) (get_or codes (j * 3 + 2) 0))
