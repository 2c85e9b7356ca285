-- Decimal numerals with no exponent and a digit before the point: among these `write_num` takes the shortest. Assumes nothing.
-- (Other forms can be shorter: .5 for 0.5, 1e3 for 1000.)
use Rattle.std.specs.Prelude.{ℕ, ◌+◌, ◌*◌, ◌<◌, Bool, true, false, List, [], ◌∷◌, ◌++◌, length}
use Rattle.decimal.specs.Value.{Decimal, decimal}

pub data Sign : Type 0 where
  bare plus minus : Sign

-- a sign or none, one digit, more digits, and decimals
pub record Numeral : Type 0 where
  pub sign : Sign
  pub first : ℕ
  pub rest : List ℕ
  pub decimals : List ℕ

pub data Digits : List ℕ → Type 0 where
  none : Digits []
  more : {d : ℕ} {ds : List ℕ} → d < 10 → Digits ds → Digits (d ∷ ds)

pub record Proper (w : Numeral) : Type 0 where
  pub first : w.first < 10
  pub rest : Digits w.rest
  pub decimals : Digits w.decimals

-- ---- its text: 43 is '+', 45 '-', 46 '.', 48 '0'

abbrev pub sign_text : Sign → List ℕ
sign_text bare = []
sign_text plus = 43 ∷ []
sign_text minus = 45 ∷ []

abbrev pub digits_text : List ℕ → List ℕ
digits_text [] = []
digits_text (d ∷ ds) = (48 + d) ∷ digits_text ds

-- a point stands only where decimals follow
abbrev pub point_text : List ℕ → List ℕ
point_text [] = []
point_text (d ∷ ds) = 46 ∷ digits_text (d ∷ ds)

abbrev pub numeral_text : Numeral → List ℕ
numeral_text w = sign_text w.sign ++ ((48 + w.first) ∷ (digits_text w.rest ++ point_text w.decimals))

-- ---- its value

-- n, and then the digits ds
abbrev pub digits_after : ℕ → List ℕ → ℕ
digits_after n [] = n
digits_after n (d ∷ ds) = digits_after (n * 10 + d) ds

abbrev pub is_minus : Sign → Bool
is_minus bare = false
is_minus plus = false
is_minus minus = true

abbrev pub numeral_value : Numeral → Decimal
numeral_value w = decimal (is_minus w.sign) (digits_after (digits_after w.first w.rest) w.decimals) 0 (length w.decimals)
