-- The text of a list of commands, parsed: it gives back the commands. Assumes nothing.
use mathlib.Core.Path.{◌≡◌, refl, sym, ap, ◌∙◌}
use mathlib.Core.Bool.{true, cond}
use mathlib.Core.List.{List, [], ◌∷◌, ◌++◌, append_assoc}
use mathlib.Core.Option.{Option, none, some}
use Prim.Native.Nat.{ℕ}
use lib.IntN.{ℤ}
use Rattle.decimal.specs.Text.{thousandths_text}
use Rattle.decimal.specs.Value.{Decimal}
use Rattle.svg_grammar.specs.Grammar.{Command, move, line, curve, close, Letter, M, L, C, Z, kind, Token, command, number, Gap, first, later, gap, step, in_gap, before, taken, lex, at_end, then, lines, curves, made, parsed, joined, on_token, group, begins, whole_path, grouped, Commands, parse}
use Rattle.svg_grammar.specs.Text.{pair_text, command_text, after_text, commands_text}
use Rattle.svg_grammar.specs.ReadsAs.{Alike, moves, lines as lines-alike, curves as curves-alike, closes, AllAlike, none as none_alike, more as more-alike, ReadsAs}
use Rattle.svg_grammar.proofs.Numbers.{before_nil, Ends, finished, spaced, as_read, is_read, number-text}

before_both : (a b : List Token) (o : Option (List Token)) → before a (before b o) ≡ before (a ++ b) o
unfolding before
before_both a b none = refl
before_both a b (some c) = ap some (sym (append_assoc a b c))

before_some : (a b : List Token) → before a (some b) ≡ some (a ++ b)
unfolding before
before_some a b = refl

-- ---- pairs of numbers
blank : (g : Gap) (q : List ℕ) → lex (gap g) (32 ∷ q) ≡ lex (gap g) q
unfolding lex kind step in_gap taken
blank g q = before_nil (lex (gap g) q)

abbrev read : ℤ → Token
read z = number (as_read z)

pair-text : (x y : ℤ) (g : Gap) (r : List ℕ) → Ends r → lex (gap g) (pair_text x y ++ r) ≡ before (read x ∷ read y ∷ []) (lex (gap later) r)
unfolding pair_text
pair-text x y g r e =
    ap (lex (gap g)) (append_assoc (thousandths_text x) (32 ∷ thousandths_text y) r)
    ∙ number-text x g (32 ∷ thousandths_text y ++ r) (spaced (thousandths_text y ++ r))
    ∙ ap (before (read x ∷ [])) (blank later (thousandths_text y ++ r) ∙ number-text y later r e)
    ∙ before_both (read x ∷ []) (read y ∷ []) (lex (gap later) r)

three_pairs : (a b c d x y : ℤ) (g : Gap) (r : List ℕ) → Ends r
    → lex (gap g) (pair_text a b ++ 32 ∷ pair_text c d ++ 32 ∷ pair_text x y ++ r) ≡ before (read a ∷ read b ∷ read c ∷ read d ∷ read x ∷ read y ∷ []) (lex (gap later) r)
three_pairs a b c d x y g r e =
    let last : List ℕ = 32 ∷ (pair_text x y ++ r) in
    ap (lex (gap g)) (append_assoc (pair_text a b ++ 32 ∷ pair_text c d) (32 ∷ pair_text x y) r ∙ append_assoc (pair_text a b) (32 ∷ pair_text c d) last)
    ∙ pair-text a b g (32 ∷ (pair_text c d ++ last)) (spaced (pair_text c d ++ last))
    ∙ ap (before (read a ∷ read b ∷ []))
    (blank later (pair_text c d ++ last)
    ∙ pair-text c d later last (spaced (pair_text x y ++ r))
    ∙ ap (before (read c ∷ read d ∷ [])) (blank later (pair_text x y ++ r) ∙ pair-text x y later r e)
    ∙ before_both (read c ∷ read d ∷ []) (read x ∷ read y ∷ []) (lex (gap later) r))
    ∙ before_both (read a ∷ read b ∷ []) (read c ∷ read d ∷ read x ∷ read y ∷ []) (lex (gap later) r)

-- ---- a command
unfoldable tokens : Command ℤ → List Token
tokens (move x y) = command M ∷ read x ∷ read y ∷ []
tokens (line x y) = command L ∷ read x ∷ read y ∷ []
tokens (curve a b c d x y) = command C ∷ read a ∷ read b ∷ read c ∷ read d ∷ read x ∷ read y ∷ []
tokens close = command Z ∷ []

-- a letter may stand in any gap but that after a comma
data Open : Gap → Type 0 where
  open_first : Open first
  open_later : Open later

abbrev gap_after : Command ℤ → Gap
gap_after (move x y) = later
gap_after (line x y) = later
gap_after (curve a b c d x y) = later
gap_after close = first

open_after : (c : Command ℤ) → Open (gap_after c)
open_after (move x y) = open_later
open_after (line x y) = open_later
open_after (curve a b c d x y) = open_later
open_after close = open_first

letter : {g : Gap} → Open g → (b : ℕ) (l : Letter) (r : List ℕ) → kind b ≡ Rattle.svg_grammar.specs.Grammar.letter l → lex (gap g) (b ∷ r) ≡ before (command l ∷ []) (lex (gap first) r)
unfolding lex step in_gap taken
letter open_first b l r e = ap (λ k. taken (step k (gap first)) (λ s. lex s r)) e
letter open_later b l r e = ap (λ k. taken (step k (gap later)) (λ s. lex s r)) e

command-text : (c : Command ℤ) {g : Gap} → Open g → (r : List ℕ) → Ends r → lex (gap g) (command_text c ++ r) ≡ before (tokens c) (lex (gap (gap_after c)) r)
unfolding kind command_text tokens
command-text (move x y) o r e =
    letter o 77 M (pair_text x y ++ r) refl ∙ ap (before (command M ∷ [])) (pair-text x y first r e) ∙ before_both (command M ∷ []) (read x ∷ read y ∷ []) (lex (gap later) r)
command-text (line x y) o r e =
    letter o 76 L (pair_text x y ++ r) refl ∙ ap (before (command L ∷ [])) (pair-text x y first r e) ∙ before_both (command L ∷ []) (read x ∷ read y ∷ []) (lex (gap later) r)
command-text (curve a b c d x y) o r e =
    letter o 67 C (pair_text a b ++ 32 ∷ pair_text c d ++ 32 ∷ pair_text x y ++ r) refl
    ∙ ap (before (command C ∷ [])) (three_pairs a b c d x y first r e)
    ∙ before_both (command C ∷ []) (read a ∷ read b ∷ read c ∷ read d ∷ read x ∷ read y ∷ []) (lex (gap later) r)
command-text close o r e = letter o 90 Z r refl

-- ---- a list of commands
unfoldable tokens_of : List (Command ℤ) → List Token
unfolding tokens
tokens_of [] = []
tokens_of (c ∷ cs) = tokens c ++ tokens_of cs

after_ends : (cs : List (Command ℤ)) → Ends (after_text cs)
unfolding after_text
after_ends [] = finished
after_ends (c ∷ cs) = spaced (command_text c ++ after_text cs)

nothing_more : {g : Gap} → Open g → lex (gap g) [] ≡ some []
unfolding lex at_end
nothing_more open_first = refl
nothing_more open_later = refl

after_text_lem : (cs : List (Command ℤ)) {g : Gap} → Open g → lex (gap g) (after_text cs) ≡ some (tokens_of cs)
unfolding after_text tokens_of
after_text_lem [] o = nothing_more o
after_text_lem (c ∷ cs) {g} o =
    blank g (command_text c ++ after_text cs)
    ∙ command-text c o (after_text cs) (after_ends cs)
    ∙ ap (before (tokens c)) (after_text_lem cs (open_after c))
    ∙ before_some (tokens c) (tokens_of cs)

lexed : (cs : List (Command ℤ)) → lex (gap first) (commands_text cs) ≡ some (tokens_of cs)
unfolding commands_text tokens_of
lexed [] = nothing_more open_first
lexed (c ∷ cs) =
    command-text c open_first (after_text cs) (after_ends cs) ∙ ap (before (tokens c)) (after_text_lem cs (open_after c)) ∙ before_some (tokens c) (tokens_of cs)

-- ---- from tokens to commands
unfoldable command_read : Command ℤ → Command Decimal
command_read (move x y) = move (as_read x) (as_read y)
command_read (line x y) = line (as_read x) (as_read y)
command_read (curve a b c d x y) = curve (as_read a) (as_read b) (as_read c) (as_read d) (as_read x) (as_read y)
command_read close = close

unfoldable commands_read : List (Command ℤ) → Commands
unfolding command_read
commands_read [] = []
commands_read (c ∷ cs) = command_read c ∷ commands_read cs

grouped_tokens : (cs : List (Command ℤ)) → group (tokens_of cs) ≡ parsed [] (commands_read cs)
unfolding group tokens_of tokens on_token joined made lines curves then commands_read command_read
grouped_tokens [] = refl
grouped_tokens (move x y ∷ cs) = ap (λ p. on_token (command M) (on_token (read x) (on_token (read y) p))) (grouped_tokens cs)
grouped_tokens (line x y ∷ cs) = ap (λ p. on_token (command L) (on_token (read x) (on_token (read y) p))) (grouped_tokens cs)
grouped_tokens (curve a b c d x y ∷ cs) =
    ap (λ p. on_token (command C) (on_token (read a) (on_token (read b) (on_token (read c) (on_token (read d) (on_token (read x) (on_token (read y) p))))))) (grouped_tokens cs)
grouped_tokens (close ∷ cs) = ap (λ p. on_token (command Z) p) (grouped_tokens cs)

begins-read : (cs : List (Command ℤ)) → begins (commands_read cs) ≡ begins cs
unfolding begins commands_read command_read
begins-read [] = refl
begins-read (move x y ∷ cs) = refl
begins-read (line x y ∷ cs) = refl
begins-read (curve a b c d x y ∷ cs) = refl
begins-read (close ∷ cs) = refl

-- ---- values
alike_read : (c : Command ℤ) → Alike (command_read c) c
unfolding command_read
alike_read (move x y) = moves (is_read x) (is_read y)
alike_read (line x y) = lines-alike (is_read x) (is_read y)
alike_read (curve a b c d x y) = curves-alike (is_read a) (is_read b) (is_read c) (is_read d) (is_read x) (is_read y)
alike_read close = closes

all_alike : (cs : List (Command ℤ)) → AllAlike (commands_read cs) cs
unfolding commands_read
all_alike [] = none_alike
all_alike (c ∷ cs) = more-alike (alike_read c) (all_alike cs)

-- ---- the theorem: any list of commands that begins with a moveto, coordinates of any size
pub reads_back : (cs : List (Command ℤ)) → begins cs ≡ true → ReadsAs (commands_text cs) cs
unfolding parse grouped whole_path
reads_back cs h = record {
  read = commands_read cs;
  accepted = ap grouped (lexed cs) ∙ ap whole_path (grouped_tokens cs) ∙ ap (λ b. cond b (some (commands_read cs)) none) (begins-read cs ∙ h);
  alike = all_alike cs;
}
