-- Commands as text, coordinates in thousandths: one blank between numbers and between commands, none after M, L or C and none at the end. Assumes nothing.
use Rattle.std.specs.Prelude.{ℕ, List, [], ◌∷◌, ◌++◌, ℤ}
use Rattle.decimal.specs.Text.{thousandths_text}
use Rattle.svg_grammar.specs.Grammar.{Command, move, line, curve, close}

unfoldable pub pair_text : ℤ → ℤ → List ℕ
pair_text x y = thousandths_text x ++ 32 ∷ thousandths_text y

-- 77 is 'M', 76 'L', 67 'C', 90 'Z', 32 a blank
unfoldable pub command_text : Command ℤ → List ℕ
unfolding pair_text
command_text (move x y) = 77 ∷ pair_text x y
command_text (line x y) = 76 ∷ pair_text x y
command_text (curve a b c d x y) = 67 ∷ pair_text a b ++ 32 ∷ pair_text c d ++ 32 ∷ pair_text x y
command_text close = 90 ∷ []

-- each after a blank
unfoldable pub after_text : List (Command ℤ) → List ℕ
unfolding command_text
after_text [] = []
after_text (c ∷ cs) = 32 ∷ command_text c ++ after_text cs

unfoldable pub commands_text : List (Command ℤ) → List ℕ
unfolding after_text command_text
commands_text [] = []
commands_text (c ∷ cs) = command_text c ++ after_text cs
