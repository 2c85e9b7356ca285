-- A reader of SVG path data: the grammar of SVG 1.1 (Second Edition) section 8.3.9, for the absolute commands M, L, C and Z. Assumes nothing.
-- The section's productions stand beside what reads them. A production takes as much of the text as it can: a number ends where the next byte
-- cannot go on with it, so that '1-2' and '1.5.5' are two numbers each.
use Rattle.std.specs.Prelude.{ℕ, suc, ◌+◌, ◌-◌, ◌*◌, Bool, true, false, ◌&&◌, ◌||◌, cond, List, [], ◌∷◌, ◌++◌, leb, eqb}
use Rattle.std.proofs.Math.Option.{Option, none, some}
use Rattle.decimal.specs.Value.{Decimal, decimal}

-- ---- what is read: commands with coordinates
pub data Command (A : Type 0) : Type 0 where
  move line : A → A → Command A
  curve : A → A → A → A → A → A → Command A
  close : Command A

-- ---- bytes, as the grammar tells them apart
pub data Letter : Type 0 where
  M L C Z : Letter

pub data Kind : Type 0 where
  blank comma point exponent other : Kind
  digit : ℕ → Kind
  sign : Bool → Kind
  letter : Letter → Kind

-- wsp: '(#x20 | #x9 | #xD | #xA)'
unfoldable pub is_blank : ℕ → Bool
is_blank b = eqb b 32 || eqb b 9 || eqb b 13 || eqb b 10

unfoldable pub kind : ℕ → Kind
unfolding is_blank
kind b =
    cond (leb 48 b && leb b 57) (digit (b - 48))
    (cond (is_blank b) blank
    (cond (eqb b 44) comma
    (cond (eqb b 43) (sign false)
    (cond (eqb b 45) (sign true)
    (cond (eqb b 46) point
    (cond (eqb b 69 || eqb b 101) exponent
    (cond (eqb b 77) (letter M)
    (cond (eqb b 76) (letter L)
    (cond (eqb b 67) (letter C)
    (cond (eqb b 90) (letter Z) other))))))))))

-- ---- numbers
-- number: 'sign? integer-constant | sign? floating-point-constant', as far as it is read. n is its digits so far, k of them after the point
pub data Part : Type 0 where
  signed pointed : Bool → Part  -- sign; sign? "."
  whole : Bool → ℕ → Part  -- sign? digit-sequence
  decimals : Bool → ℕ → ℕ → Part  -- sign? fractional-constant: 'digit-sequence? "." digit-sequence | digit-sequence "."'
  marked : Bool → ℕ → ℕ → Part  -- a constant, then "e" or "E"
  turned : Bool → ℕ → ℕ → Bool → Part  -- and a sign
  power : Bool → ℕ → ℕ → Bool → ℕ → Part  -- and the digits of the exponent

-- the number, where it may end here
unfoldable pub ended : Part → Option Decimal
ended (signed s) = none
ended (pointed s) = none
ended (whole s n) = some (decimal s n 0 0)
ended (decimals s n k) = some (decimal s n 0 k)
ended (marked s n k) = none
ended (turned s n k t) = none
ended (power s n k t x) = some (cond t (decimal s n 0 (k + x)) (decimal s n x k))

-- what may go on with it: a digit always, the others where `some`
unfoldable pub on_digit : ℕ → Part → Part
on_digit d (signed s) = whole s d
on_digit d (pointed s) = decimals s d 1
on_digit d (whole s n) = whole s (n * 10 + d)
on_digit d (decimals s n k) = decimals s (n * 10 + d) (suc k)
on_digit d (marked s n k) = power s n k false d
on_digit d (turned s n k t) = power s n k t d
on_digit d (power s n k t x) = power s n k t (x * 10 + d)

unfoldable pub on_point : Part → Option Part
on_point (signed s) = some (pointed s)
on_point (pointed s) = none
on_point (whole s n) = some (decimals s n 0)
on_point (decimals s n k) = none
on_point (marked s n k) = none
on_point (turned s n k t) = none
on_point (power s n k t x) = none

unfoldable pub on_exponent : Part → Option Part
on_exponent (signed s) = none
on_exponent (pointed s) = none
on_exponent (whole s n) = some (marked s n 0)
on_exponent (decimals s n k) = some (marked s n k)
on_exponent (marked s n k) = none
on_exponent (turned s n k t) = none
on_exponent (power s n k t x) = none

unfoldable pub on_sign : Bool → Part → Option Part
on_sign t (signed s) = none
on_sign t (pointed s) = none
on_sign t (whole s n) = none
on_sign t (decimals s n k) = none
on_sign t (marked s n k) = some (turned s n k t)
on_sign t (turned s n k r) = none
on_sign t (power s n k r x) = none

-- ---- from bytes to letters and numbers
pub data Token : Type 0 where
  command : Letter → Token
  number : Decimal → Token

-- Between numbers: after the start or a letter, after a number, after a comma. 'comma-wsp: (wsp+ comma? wsp*) | (comma wsp*)' stands between two
-- numbers, wsp* anywhere else
pub data Gap : Type 0 where
  first later due : Gap

pub data State : Type 0 where
  gap : Gap → State
  inside : Part → State

-- a byte refuses the text, or gives tokens and a state
pub data Step : Type 0 where
  refused : Step
  gives : List Token → State → Step

-- a number that ends here, tokens after it, and the state then
unfoldable pub after : Option Decimal → List Token → State → Step
after none ts st = refused
after (some d) ts st = gives (number d ∷ ts) st

unfoldable pub or_else : Option Part → Step → Step
or_else none s = s
or_else (some p) s = gives [] (inside p)

-- a byte between numbers
unfoldable pub in_gap : Kind → Gap → Step
in_gap blank g = gives [] (gap g)
in_gap comma first = refused
in_gap comma later = gives [] (gap due)
in_gap comma due = refused
in_gap point g = gives [] (inside (pointed false))
in_gap exponent g = refused
in_gap other g = refused
in_gap (digit d) g = gives [] (inside (whole false d))
in_gap (sign t) g = gives [] (inside (signed t))
in_gap (letter c) first = gives (command c ∷ []) (gap first)
in_gap (letter c) later = gives (command c ∷ []) (gap first)
in_gap (letter c) due = refused

-- a byte after a part of a number
unfoldable pub in_number : Kind → Part → Step
unfolding ended on_digit on_point on_exponent on_sign after or_else
in_number blank p = after (ended p) [] (gap later)
in_number comma p = after (ended p) [] (gap due)
in_number point p = or_else (on_point p) (after (ended p) [] (inside (pointed false)))
in_number exponent p = or_else (on_exponent p) refused
in_number other p = refused
in_number (digit d) p = gives [] (inside (on_digit d p))
in_number (sign t) p = or_else (on_sign t p) (after (ended p) [] (inside (signed t)))
in_number (letter c) p = after (ended p) (command c ∷ []) (gap first)

unfoldable pub step : Kind → State → Step
unfolding in_gap in_number
step k (gap g) = in_gap k g
step k (inside p) = in_number k p

-- the end of the text
unfoldable pub at_end : State → Option (List Token)
unfolding ended
at_end (gap first) = some []
at_end (gap later) = some []
at_end (gap due) = none
at_end (inside p) = elim (ended p) [ none ↦ none | some d ↦ some (number d ∷ []) ]

-- tokens before what the rest gives
unfoldable pub before : List Token → Option (List Token) → Option (List Token)
before ts none = none
before ts (some us) = some (ts ++ us)

unfoldable pub taken : Step → (State → Option (List Token)) → Option (List Token)
unfolding before
taken refused rest = none
taken (gives ts st) rest = before ts (rest st)

unfoldable pub lex : State → List ℕ → Option (List Token)
unfolding step kind taken at_end
lex st [] = at_end st
lex st (b ∷ bs) = taken (step (kind b) st) (λ s. lex s bs)

-- ---- from letters and numbers to commands
abbrev pub Commands : Type 0
Commands = List (Command Decimal)

unfoldable pub then : Command Decimal → Option (Commands) → Option (Commands)
then c none = none
then c (some cs) = some (c ∷ cs)

-- lineto-argument-sequence: 'coordinate-pair | coordinate-pair comma-wsp? lineto-argument-sequence', or none
unfoldable pub lines : List Decimal → Option (Commands)
unfolding then
lines [] = some []
lines (x ∷ []) = none
lines (x ∷ y ∷ zs) = then (line x y) (lines zs)

-- curveto-argument-sequence, or none
unfoldable pub curves : List Decimal → Option (Commands)
unfolding then
curves [] = some []
curves (a ∷ []) = none
curves (a ∷ b ∷ []) = none
curves (a ∷ b ∷ c ∷ []) = none
curves (a ∷ b ∷ c ∷ d ∷ []) = none
curves (a ∷ b ∷ c ∷ d ∷ x ∷ []) = none
curves (a ∷ b ∷ c ∷ d ∷ x ∷ y ∷ zs) = then (curve a b c d x y) (curves zs)

-- A letter and all its numbers. 'If a moveto is followed by multiple pairs of coordinates, the subsequent pairs are treated as implicit lineto commands'
unfoldable pub made : Letter → List Decimal → Option (Commands)
unfolding lines curves then
made M [] = none
made M (x ∷ []) = none
made M (x ∷ y ∷ zs) = then (move x y) (lines zs)
made L [] = none
made L (z ∷ zs) = lines (z ∷ zs)
made C [] = none
made C (z ∷ zs) = curves (z ∷ zs)
made Z [] = some (close ∷ [])
made Z (z ∷ zs) = none

-- the commands of a list of tokens, after numbers that belong to a letter before it
pub data Parsed : Type 0 where
  parsed : List Decimal → Commands → Parsed
  wrong : Parsed

unfoldable pub joined : Option (Commands) → Commands → Parsed
joined none cs = wrong
joined (some ds) cs = parsed [] (ds ++ cs)

unfoldable pub on_token : Token → Parsed → Parsed
unfolding made joined
on_token (command l) wrong = wrong
on_token (number z) wrong = wrong
on_token (command l) (parsed zs cs) = joined (made l zs) cs
on_token (number z) (parsed zs cs) = parsed (z ∷ zs) cs

unfoldable pub group : List Token → Parsed
unfolding on_token
group [] = parsed [] []
group (t ∷ ts) = on_token t (group ts)

-- svg-path: 'wsp* moveto-drawto-command-groups? wsp*', and a group begins with a moveto
unfoldable pub begins : {A : Type 0} → List (Command A) → Bool
begins [] = true
begins (move x y ∷ cs) = true
begins (line x y ∷ cs) = false
begins (curve a b c d x y ∷ cs) = false
begins (close ∷ cs) = false

unfoldable pub whole_path : Parsed → Option (Commands)
unfolding begins
whole_path wrong = none
whole_path (parsed [] cs) = cond (begins cs) (some cs) none
whole_path (parsed (z ∷ zs) cs) = none

unfoldable pub grouped : Option (List Token) → Option (Commands)
unfolding group whole_path
grouped none = none
grouped (some ts) = whole_path (group ts)

-- the commands of a text, where it is path data
unfoldable pub parse : List ℕ → Option (Commands)
unfolding grouped lex
parse bs = grouped (lex (gap first) bs)
