-- Commands put one after another. Assumes nothing.
use mathlib.Core.Path.{◌≡◌, refl, sym, ap, ◌∙◌}
use mathlib.Core.Bool.{cond}
use mathlib.Core.List.{List, [], ◌∷◌, ◌++◌, append_assoc, append-nil}
use Prim.Native.Nat.{ℕ, zero, suc, ◌+◌, ◌^◌, ◌<◌}
use native.Mathlib.Omega.{arith}
use lib.Dec.{eqb, eqb-suc-zero}
use lib.ListN.{length, length-append}
use lib.IntN.{ℤ}
use Rattle.geom.specs.declared.point.P.{P}
use Rattle.decimal.specs.Text.{float_text}
use Rattle.decimal.specs.declared.text.Text.{Text}
use Rattle.decimal.specs.Put.{Adds, counted}
use Rattle.decimal.proofs.Puts.{then, no_text}
use Rattle.svg_grammar.specs.Grammar.{Command, move, line, curve, close}
use Rattle.svg_grammar.specs.Text.{pair_text, command_text, after_text, commands_text}
use Rattle.svg.specs.Path.{move_to, line_to, curve_to}
use Rattle.svg.specs.Pieces.{glue}

-- ---- a command: its letter, with a blank before it or not, and the rest
pub glue_one : (at : ℕ) (c : Command ℤ) (l : ℕ) (t : List ℕ) → command_text c ≡ l ∷ t → glue at (c ∷ []) ≡ cond (eqb at 0) (l ∷ []) (32 ∷ l ∷ []) ++ t
unfolding glue commands_text after_text
glue_one zero c l t e = append-nil (command_text c) ∙ e
glue_one (suc k) c l t e = rw (eqb-suc-zero k) (ap (λ z. 32 ∷ z) (append-nil (command_text c) ∙ e))

-- a point's text
abbrev pub point_text : P → List ℕ
point_text p = float_text p.x ++ 32 ∷ float_text p.y

pub text_move : (p : P) → command_text (move_to p) ≡ 77 ∷ point_text p
unfolding command_text move_to pair_text float_text
text_move p = refl

pub text-line : (p : P) → command_text (line_to p) ≡ 76 ∷ point_text p
unfolding command_text line_to pair_text float_text
text-line p = refl

pub glue_move : (at : ℕ) (p : P) → glue at (move_to p ∷ []) ≡ cond (eqb at 0) (77 ∷ []) (32 ∷ 77 ∷ []) ++ point_text p
glue_move at p = glue_one at (move_to p) 77 _ (text_move p)

pub glue_line : (at : ℕ) (p : P) → glue at (line_to p ∷ []) ≡ cond (eqb at 0) (76 ∷ []) (32 ∷ 76 ∷ []) ++ point_text p
glue_line at p = glue_one at (line_to p) 76 _ (text-line p)

pub text-curve : (a b p : P) → command_text (curve_to a b p) ≡ 67 ∷ (point_text a ++ 32 ∷ point_text b ++ 32 ∷ point_text p)
unfolding command_text curve_to pair_text float_text
text-curve a b p = refl

-- a letter and three points, one piece put after another
pub three_points : (l a b p : List ℕ) → ((((l ++ a) ++ 32 ∷ []) ++ b) ++ 32 ∷ []) ++ p ≡ l ++ (a ++ 32 ∷ b ++ 32 ∷ p)
three_points l a b p = simp append_assoc

pub text_close : command_text close ≡ 90 ∷ []
unfolding command_text
text_close = refl

pub glue_close : (at : ℕ) → glue at (close ∷ []) ≡ cond (eqb at 0) (90 ∷ []) (32 ∷ 90 ∷ [])
glue_close at = glue_one at close 90 [] text_close ∙ append-nil (cond (eqb at 0) (90 ∷ []) (32 ∷ 90 ∷ []))

-- ---- one list of commands after another
after-append : (cs ds : List (Command ℤ)) → after_text cs ++ after_text ds ≡ after_text (cs ++ ds)
unfolding after_text
after-append [] ds = refl
after-append (c ∷ cs) ds = ap (λ t. 32 ∷ t) (append_assoc (command_text c) (after_text cs) (after_text ds) ∙ ap (λ t. command_text c ++ t) (after-append cs ds))

some_text : (c : Command ℤ) → 0 < length (command_text c)
unfolding command_text
some_text (move x y) = omega arith
some_text (line x y) = omega arith
some_text (curve a b c d x y) = omega arith
some_text close = omega arith

later : (to : ℕ) (ds : List (Command ℤ)) → 0 < to → glue to ds ≡ after_text ds
unfolding glue
later zero ds h = absurd (omega arith)
later (suc k) ds h = refl

glue-append : (at to : ℕ) (cs ds : List (Command ℤ)) → to ≡ counted (at + length (glue at cs)) → glue at cs ++ glue to ds ≡ glue at (cs ++ ds)
unfolding glue commands_text
glue-append zero to [] ds e = let z : to ≡ 0 = omega arith in ap (λ k. glue k ds) z
glue-append zero to (c ∷ cs) ds e =
    ap (λ t. command_text c ++ after_text cs ++ t) (later to ds (omega (arith, some_text c, length-append (command_text c) (after_text cs))))
    ∙ append_assoc (command_text c) (after_text cs) (after_text ds)
    ∙ ap (λ t. command_text c ++ t) (after-append cs ds)
glue-append (suc k) to cs ds e = ap (λ t. after_text cs ++ t) (later to ds (omega arith)) ∙ after-append cs ds

pub glued : {t m n : Text} (cs ds : List (Command ℤ)) → length t.out.now < 2 ^ 64 → Adds t (glue t.at cs) m → Adds m (glue m.at ds) n → Adds t (glue t.at (cs ++ ds)) n
glued {t} {m} {n} cs ds h p q = rw (sym (glue-append t.at m.at cs ds p.end)) (then h p q)

glue-none : (at : ℕ) → glue at [] ≡ []
unfolding glue commands_text after_text
glue-none zero = refl
glue-none (suc k) = refl

pub no_commands : {t : Text} → t.at < 2 ^ 64 → Adds t (glue t.at []) t
no_commands {t} h = rw (glue-none t.at) (no_text h)
