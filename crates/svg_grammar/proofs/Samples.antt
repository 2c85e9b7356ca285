-- The reader at some texts, accepted and refused. Assumes nothing.
use mathlib.Core.Path.{◌≡◌, refl}
use mathlib.Core.Bool.{true, false}
use mathlib.Core.List.{List, [], ◌∷◌}
use mathlib.Core.Option.{none, some}
use Prim.Native.Nat.{ℕ}
use Rattle.decimal.specs.Value.{decimal, Same}
use Rattle.svg_grammar.specs.Grammar.{move, line, curve, close, Commands, parse}

abbrev Accepts : List ℕ → Commands → Type 0
Accepts text commands = parse text ≡ some commands

abbrev Refuses : List ℕ → Type 0
Refuses text = parse text ≡ none

-- 'M2 0 L8 0 Z'
plain : Accepts (77 ∷ 50 ∷ 32 ∷ 48 ∷ 32 ∷ 76 ∷ 56 ∷ 32 ∷ 48 ∷ 32 ∷ 90 ∷ []) (move (decimal false 2 0 0) (decimal false 0 0 0) ∷ line (decimal false 8 0 0) (decimal false 0 0 0) ∷ close ∷ [])
unfolding parse
plain = refl

-- 'M2 0 C0 0.895 0.895 0 2 0 Z'
curved : Accepts (77 ∷ 50 ∷ 32 ∷ 48 ∷ 32 ∷ 67 ∷ 48 ∷ 32 ∷ 48 ∷ 46 ∷ 56 ∷ 57 ∷ 53 ∷ 32 ∷ 48 ∷ 46 ∷ 56 ∷ 57 ∷ 53 ∷ 32 ∷ 48 ∷ 32 ∷ 50 ∷ 32 ∷ 48 ∷ 32 ∷ 90 ∷ []) (move (decimal false 2 0 0) (decimal false 0 0 0) ∷ curve (decimal false 0 0 0) (decimal false 895 0 3) (decimal false 895 0 3) (decimal false 0 0 0) (decimal false 2 0 0) (decimal false 0 0 0) ∷ close ∷ [])
unfolding parse
curved = refl

-- 'M 1,2 ,3 , 4\tL5,6'
commas : Accepts (77 ∷ 32 ∷ 49 ∷ 44 ∷ 50 ∷ 32 ∷ 44 ∷ 51 ∷ 32 ∷ 44 ∷ 32 ∷ 52 ∷ 9 ∷ 76 ∷ 53 ∷ 44 ∷ 54 ∷ []) (move (decimal false 1 0 0) (decimal false 2 0 0) ∷ line (decimal false 3 0 0) (decimal false 4 0 0) ∷ line (decimal false 5 0 0) (decimal false 6 0 0) ∷ [])
unfolding parse
commas = refl

-- 'M1 2 3 4L5 6 7 8C1 2 3 4 5 6 7 8 9 0 1 2'
repeated : Accepts (77 ∷ 49 ∷ 32 ∷ 50 ∷ 32 ∷ 51 ∷ 32 ∷ 52 ∷ 76 ∷ 53 ∷ 32 ∷ 54 ∷ 32 ∷ 55 ∷ 32 ∷ 56 ∷ 67 ∷ 49 ∷ 32 ∷ 50 ∷ 32 ∷ 51 ∷ 32 ∷ 52 ∷ 32 ∷ 53 ∷ 32 ∷ 54 ∷ 32 ∷ 55 ∷ 32 ∷ 56 ∷ 32 ∷ 57 ∷ 32 ∷ 48 ∷ 32 ∷ 49 ∷ 32 ∷ 50 ∷ []) (move (decimal false 1 0 0) (decimal false 2 0 0) ∷ line (decimal false 3 0 0) (decimal false 4 0 0) ∷ line (decimal false 5 0 0) (decimal false 6 0 0) ∷ line (decimal false 7 0 0) (decimal false 8 0 0) ∷ curve (decimal false 1 0 0) (decimal false 2 0 0) (decimal false 3 0 0) (decimal false 4 0 0) (decimal false 5 0 0) (decimal false 6 0 0) ∷ curve (decimal false 7 0 0) (decimal false 8 0 0) (decimal false 9 0 0) (decimal false 0 0 0) (decimal false 1 0 0) (decimal false 2 0 0) ∷ [])
unfolding parse
repeated = refl

-- 'M1-2+3-4'
sign_starts : Accepts (77 ∷ 49 ∷ 45 ∷ 50 ∷ 43 ∷ 51 ∷ 45 ∷ 52 ∷ []) (move (decimal false 1 0 0) (decimal true 2 0 0) ∷ line (decimal false 3 0 0) (decimal true 4 0 0) ∷ [])
unfolding parse
sign_starts = refl

-- 'M1.5.5.25 1..5 2'
point_starts : Accepts (77 ∷ 49 ∷ 46 ∷ 53 ∷ 46 ∷ 53 ∷ 46 ∷ 50 ∷ 53 ∷ 32 ∷ 49 ∷ 46 ∷ 46 ∷ 53 ∷ 32 ∷ 50 ∷ []) (move (decimal false 15 0 1) (decimal false 5 0 1) ∷ line (decimal false 25 0 2) (decimal false 1 0 0) ∷ line (decimal false 5 0 1) (decimal false 2 0 0) ∷ [])
unfolding parse
point_starts = refl

-- 'M1e3 -2.5E-1 1.e+2.5e1'
exponents : Accepts (77 ∷ 49 ∷ 101 ∷ 51 ∷ 32 ∷ 45 ∷ 50 ∷ 46 ∷ 53 ∷ 69 ∷ 45 ∷ 49 ∷ 32 ∷ 49 ∷ 46 ∷ 101 ∷ 43 ∷ 50 ∷ 46 ∷ 53 ∷ 101 ∷ 49 ∷ []) (move (decimal false 1 3 0) (decimal true 25 0 2) ∷ line (decimal false 1 2 0) (decimal false 5 1 1) ∷ [])
unfolding parse
exponents = refl

-- 'M+.5 -.25'
signed_fractions : Accepts (77 ∷ 43 ∷ 46 ∷ 53 ∷ 32 ∷ 45 ∷ 46 ∷ 50 ∷ 53 ∷ []) (move (decimal false 5 0 1) (decimal true 25 0 2) ∷ [])
unfolding parse
signed_fractions = refl

-- 'M000.000100 12345678901234567890'
long_numbers : Accepts (77 ∷ 48 ∷ 48 ∷ 48 ∷ 46 ∷ 48 ∷ 48 ∷ 48 ∷ 49 ∷ 48 ∷ 48 ∷ 32 ∷ 49 ∷ 50 ∷ 51 ∷ 52 ∷ 53 ∷ 54 ∷ 55 ∷ 56 ∷ 57 ∷ 48 ∷ 49 ∷ 50 ∷ 51 ∷ 52 ∷ 53 ∷ 54 ∷ 55 ∷ 56 ∷ 57 ∷ 48 ∷ []) (move (decimal false 100 0 6) (decimal false 12345678901234567890 0 0) ∷ [])
unfolding parse
long_numbers = refl

-- 'M2 0L1 1ZM3 4Z'
no_blanks : Accepts (77 ∷ 50 ∷ 32 ∷ 48 ∷ 76 ∷ 49 ∷ 32 ∷ 49 ∷ 90 ∷ 77 ∷ 51 ∷ 32 ∷ 52 ∷ 90 ∷ []) (move (decimal false 2 0 0) (decimal false 0 0 0) ∷ line (decimal false 1 0 0) (decimal false 1 0 0) ∷ close ∷ move (decimal false 3 0 0) (decimal false 4 0 0) ∷ close ∷ [])
unfolding parse
no_blanks = refl

-- ' \t\r\nM 2\n0  Z '
blanks : Accepts (32 ∷ 9 ∷ 13 ∷ 10 ∷ 77 ∷ 32 ∷ 50 ∷ 10 ∷ 48 ∷ 32 ∷ 32 ∷ 90 ∷ 32 ∷ []) (move (decimal false 2 0 0) (decimal false 0 0 0) ∷ close ∷ [])
unfolding parse
blanks = refl

-- 'M1 2ZL3 4'
after_z : Accepts (77 ∷ 49 ∷ 32 ∷ 50 ∷ 90 ∷ 76 ∷ 51 ∷ 32 ∷ 52 ∷ []) (move (decimal false 1 0 0) (decimal false 2 0 0) ∷ close ∷ line (decimal false 3 0 0) (decimal false 4 0 0) ∷ [])
unfolding parse
after_z = refl

-- ''
empty : Accepts ([]) ([])
unfolding parse
empty = refl

-- ' \n'
blank_only : Accepts (32 ∷ 10 ∷ []) ([])
unfolding parse
blank_only = refl

-- 'M 1'
one_number : Refuses (77 ∷ 32 ∷ 49 ∷ [])
unfolding parse
one_number = refl

-- 'L 1 2'
no_moveto : Refuses (76 ∷ 32 ∷ 49 ∷ 32 ∷ 50 ∷ [])
unfolding parse
no_moveto = refl

-- 'M 1,,2'
two_commas : Refuses (77 ∷ 32 ∷ 49 ∷ 44 ∷ 44 ∷ 50 ∷ [])
unfolding parse
two_commas = refl

-- 'M1 2 Z 3'
number-after_z : Refuses (77 ∷ 49 ∷ 32 ∷ 50 ∷ 32 ∷ 90 ∷ 32 ∷ 51 ∷ [])
unfolding parse
number-after_z = refl

-- 'M 1 2 L'
no_numbers : Refuses (77 ∷ 32 ∷ 49 ∷ 32 ∷ 50 ∷ 32 ∷ 76 ∷ [])
unfolding parse
no_numbers = refl

-- 'M1 2 3'
odd_numbers : Refuses (77 ∷ 49 ∷ 32 ∷ 50 ∷ 32 ∷ 51 ∷ [])
unfolding parse
odd_numbers = refl

-- 'M0 0C1 2 3 4 5'
five-numbers : Refuses (77 ∷ 48 ∷ 32 ∷ 48 ∷ 67 ∷ 49 ∷ 32 ∷ 50 ∷ 32 ∷ 51 ∷ 32 ∷ 52 ∷ 32 ∷ 53 ∷ [])
unfolding parse
five-numbers = refl

-- 'M,1 2'
comma_first : Refuses (77 ∷ 44 ∷ 49 ∷ 32 ∷ 50 ∷ [])
unfolding parse
comma_first = refl

-- 'M1 2,'
comma_last : Refuses (77 ∷ 49 ∷ 32 ∷ 50 ∷ 44 ∷ [])
unfolding parse
comma_last = refl

-- 'M1 2,L3 4'
comma_before-letter : Refuses (77 ∷ 49 ∷ 32 ∷ 50 ∷ 44 ∷ 76 ∷ 51 ∷ 32 ∷ 52 ∷ [])
unfolding parse
comma_before-letter = refl

-- 'M1 2Z,L3 4'
comma_after_z : Refuses (77 ∷ 49 ∷ 32 ∷ 50 ∷ 90 ∷ 44 ∷ 76 ∷ 51 ∷ 32 ∷ 52 ∷ [])
unfolding parse
comma_after_z = refl

-- '1 2'
number_first : Refuses (49 ∷ 32 ∷ 50 ∷ [])
unfolding parse
number_first = refl

-- 'M--1 2'
two_signs : Refuses (77 ∷ 45 ∷ 45 ∷ 49 ∷ 32 ∷ 50 ∷ [])
unfolding parse
two_signs = refl

-- 'M- 1'
sign_alone : Refuses (77 ∷ 45 ∷ 32 ∷ 49 ∷ [])
unfolding parse
sign_alone = refl

-- 'M. 1'
point_alone : Refuses (77 ∷ 46 ∷ 32 ∷ 49 ∷ [])
unfolding parse
point_alone = refl

-- 'Me1 2'
exponent_alone : Refuses (77 ∷ 101 ∷ 49 ∷ 32 ∷ 50 ∷ [])
unfolding parse
exponent_alone = refl

-- 'M1e 2'
exponent_open : Refuses (77 ∷ 49 ∷ 101 ∷ 32 ∷ 50 ∷ [])
unfolding parse
exponent_open = refl

-- 'M1e- 2'
exponent_sign_open : Refuses (77 ∷ 49 ∷ 101 ∷ 45 ∷ 32 ∷ 50 ∷ [])
unfolding parse
exponent_sign_open = refl

-- 'M0 0l1 1'
small-letter : Refuses (77 ∷ 48 ∷ 32 ∷ 48 ∷ 108 ∷ 49 ∷ 32 ∷ 49 ∷ [])
unfolding parse
small-letter = refl

-- 'M1\x0c2'
form_feed : Refuses (77 ∷ 49 ∷ 12 ∷ 50 ∷ [])
unfolding parse
form_feed = refl

-- 'M1 L2'
letter-between : Refuses (77 ∷ 49 ∷ 32 ∷ 76 ∷ 50 ∷ [])
unfolding parse
letter-between = refl

-- ---- values: 1e3 is 1000.0, -0 is 0; the grammar has shorter texts than `write_num` writes, .5 for 0.5 and 1e3 for 1000
thousand : Same (decimal false 1 3 0) (decimal false 10000 0 1)
thousand = refl

zero-is-zero : Same (decimal true 0 0 0) (decimal false 0 5 2)
zero-is-zero = refl

half : Same (decimal false 5 0 1) (decimal false 500 0 3)
half = refl
