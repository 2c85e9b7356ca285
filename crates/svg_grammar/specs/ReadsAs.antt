-- A text that is path data and reads as given commands, each coordinate exactly so many thousandths. Assumes nothing.
use Rattle.std.specs.Prelude.{ℕ, ◌≡◌, List, [], ◌∷◌, ℤ}
use Rattle.std.proofs.Math.Option.{some}
use Rattle.decimal.specs.Value.{Decimal, Same, thousandths}
use Rattle.svg_grammar.specs.Grammar.{Command, move, line, curve, close, Commands, parse}

-- a decimal that is z thousandths, by value
abbrev pub Is : Decimal → ℤ → Type 0
Is d z = Same d (thousandths z)

-- the same command, with the same coordinates
pub data Alike : Command Decimal → Command ℤ → Type 0 where
  moves : {x y : Decimal} {a b : ℤ} → Is x a → Is y b → Alike (move x y) (move a b)
  lines : {x y : Decimal} {a b : ℤ} → Is x a → Is y b → Alike (line x y) (line a b)
  curves : {p q r s x y : Decimal} {a b c d e f : ℤ} → Is p a → Is q b → Is r c → Is s d → Is x e → Is y f → Alike (curve p q r s x y) (curve a b c d e f)
  closes : Alike close close

pub data AllAlike : Commands → List (Command ℤ) → Type 0 where
  none : AllAlike [] []
  more : {c : Command Decimal} {e : Command ℤ} {cs : Commands} {es : List (Command ℤ)} → Alike c e → AllAlike cs es → AllAlike (c ∷ cs) (e ∷ es)

pub record ReadsAs (text : List ℕ) (commands : List (Command ℤ)) : Type 0 where
  pub read : Commands
  pub accepted : parse text ≡ some read
  pub alike : AllAlike read commands
