-- The reader at a decimal numeral: it gives the numeral's value. Assumes nothing.
use mathlib.Core.Path.{◌≡◌, refl, sym, ap, ◌∙◌}
use mathlib.Core.Bool.{Bool, true, false}
use mathlib.Core.List.{List, [], ◌∷◌, ◌++◌, append_assoc}
use mathlib.Core.Option.{Option, none, some}
use Prim.Native.Nat.{ℕ, suc, ◌+◌, ◌-◌, ◌*◌, ◌≤◌, ◌<◌}
use native.Mathlib.Omega.{arith}
use borrow.Author.Tests.{le-leb}
use lib.ListN.{length}
use lib.IntN.{ℤ}
use Rattle.decimal.specs.Text.{thousandths_text}
use Rattle.decimal.specs.Value.{Decimal, decimal}
use Rattle.decimal.specs.Numeral.{Sign, bare, plus, minus, Numeral, Digits, none as no-digits, more, Proper, sign_text, digits_text, point_text, numeral_text, digits_after, is_minus, numeral_value}
use Rattle.decimal.proofs.Numerals.{written}
use Rattle.svg_grammar.specs.ReadsAs.{Is}
use Rattle.svg_grammar.specs.Grammar.{digit, kind, Part, signed, whole, decimals, ended, on_digit, Token, number, Gap, later, State, gap, inside, in_gap, in_number, step, after, at_end, before, taken, lex}

pub before_nil : (o : Option (List Token)) → before [] o ≡ o
unfolding before
before_nil none = refl
before_nil (some ts) = refl

-- ---- digits
kind-digit : (d : ℕ) → d < 10 → kind (48 + d) ≡ digit d
unfolding kind
kind-digit d h =
    let l : 48 ≤ 48 + d = omega arith in
    let g : 48 + d ≤ 57 = omega arith in
    let e : 48 + d - 48 ≡ d = omega arith in
    rw (le-leb 48 (48 + d) l, le-leb (48 + d) 57 g) (ap digit e)

lex-digit : (p : Part) (d : ℕ) (r : List ℕ) → d < 10 → lex (inside p) ((48 + d) ∷ r) ≡ lex (inside (on_digit d p)) r
unfolding lex step in_number taken
lex-digit p d r h = ap (λ k. taken (step k (inside p)) (λ s. lex s r)) (kind-digit d h) ∙ before_nil (lex (inside (on_digit d p)) r)

lex_first : (g : Gap) (d : ℕ) (r : List ℕ) → d < 10 → lex (gap g) ((48 + d) ∷ r) ≡ lex (inside (whole false d)) r
unfolding lex step in_gap taken
lex_first g d r h = ap (λ k. taken (step k (gap g)) (λ s. lex s r)) (kind-digit d h) ∙ before_nil (lex (inside (whole false d)) r)

lex-whole : (s : Bool) (n : ℕ) {ds : List ℕ} → Digits ds → (r : List ℕ) → lex (inside (whole s n)) (digits_text ds ++ r) ≡ lex (inside (whole s (digits_after n ds))) r
unfolding on_digit
lex-whole s n no-digits r = refl
lex-whole s n (more {d = d} {ds = ds} h ps) r = lex-digit (whole s n) d (digits_text ds ++ r) h ∙ lex-whole s (n * 10 + d) ps r

lex_decimals : (s : Bool) (n k : ℕ) {ds : List ℕ} → Digits ds → (r : List ℕ)
    → lex (inside (decimals s n k)) (digits_text ds ++ r) ≡ lex (inside (decimals s (digits_after n ds) (k + length ds))) r
unfolding on_digit
lex_decimals s n k no-digits r = ap (λ j. lex (inside (decimals s n j)) r) (omega arith)
lex_decimals s n k (more {d = d} {ds = ds} h ps) r =
    lex-digit (decimals s n k) d (digits_text ds ++ r) h
    ∙ lex_decimals s (n * 10 + d) (suc k) ps r
    ∙ ap (λ j. lex (inside (decimals s (digits_after (n * 10 + d) ds) j)) r) (omega arith)

-- ---- a numeral, from between numbers
record Reads (st : State) (text : List ℕ) (d : Decimal) : Type 0 where
  to : Part
  holds : ended to ≡ some d
  reads : (r : List ℕ) → lex st (text ++ r) ≡ lex (inside to) r

lex-point : (s : Bool) (n : ℕ) (r : List ℕ) → lex (inside (whole s n)) (46 ∷ r) ≡ lex (inside (decimals s n 0)) r
unfolding lex kind step in_number
lex-point s n r = before_nil (lex (inside (decimals s n 0)) r)

reads_fraction : (s : Bool) (n : ℕ) {ds : List ℕ} → Digits ds → Reads (inside (whole s n)) (point_text ds) (decimal s (digits_after n ds) 0 (length ds))
unfolding ended
reads_fraction s n no-digits = record { to = whole s n; holds = refl; reads = λ r. refl }
reads_fraction s n (more {d = d} {ds = ds} h ps) =
    record {
      to = decimals s (digits_after (n * 10 + d) ds) (0 + suc (length ds));
      holds = ap (λ k. some (decimal s (digits_after (n * 10 + d) ds) 0 k)) (omega arith);
      reads = λ r. lex-point s n ((48 + d) ∷ (digits_text ds ++ r)) ∙ lex_decimals s n 0 (more h ps) r;
    }

lex-sign : (s : Sign) (g : Gap) (d : ℕ) (r : List ℕ) → d < 10 → lex (gap g) (sign_text s ++ (48 + d) ∷ r) ≡ lex (inside (whole (is_minus s) d)) r
unfolding lex kind step in_gap on_digit
lex-sign bare g d r h = lex_first g d r h
lex-sign plus g d r h = before_nil (lex (inside (signed false)) ((48 + d) ∷ r)) ∙ lex-digit (signed false) d r h
lex-sign minus g d r h = before_nil (lex (inside (signed true)) ((48 + d) ∷ r)) ∙ lex-digit (signed true) d r h

reads_numeral : (w : Numeral) → Proper w → (g : Gap) → Reads (gap g) (numeral_text w) (numeral_value w)
reads_numeral w p g =
    let s = is_minus w.sign in
    let n = digits_after w.first w.rest in
    let f = reads_fraction s n p.decimals in
    record {
      to = f.to;
      holds = f.holds;
      reads = λ r.
          ap (lex (gap g)) (append_assoc (sign_text w.sign) ((48 + w.first) ∷ (digits_text w.rest ++ point_text w.decimals)) r)
          ∙ lex-sign w.sign g w.first ((digits_text w.rest ++ point_text w.decimals) ++ r) p.first
          ∙ ap (lex (inside (whole s w.first))) (append_assoc (digits_text w.rest) (point_text w.decimals) r)
          ∙ lex-whole s w.first p.rest (point_text w.decimals ++ r)
          ∙ f.reads r;
    }

-- ---- what may stand after a number: nothing, or a blank
pub data Ends : List ℕ → Type 0 where
  finished : Ends []
  spaced : (r : List ℕ) → Ends (32 ∷ r)

number_ends : (p : Part) (d : Decimal) → ended p ≡ some d → (r : List ℕ) → Ends r → lex (inside p) r ≡ before (number d ∷ []) (lex (gap later) r)
unfolding lex kind step in_number in_gap at_end after
number_ends p d h r finished = rw (h, at_end)
number_ends p d h r (spaced q) = ap (λ o. taken (after o [] (gap later)) (λ s. lex s q)) h ∙ ap (before (number d ∷ [])) (sym (before_nil (lex (gap later) q)))

-- the decimal that the text of z thousandths gives
pub as_read : ℤ → Decimal
as_read z = numeral_value (written z).numeral

pub is_read : (z : ℤ) → Is (as_read z) z
unfolding as_read
is_read z = (written z).value

pub number-text : (z : ℤ) (g : Gap) (r : List ℕ) → Ends r → lex (gap g) (thousandths_text z ++ r) ≡ before (number (as_read z) ∷ []) (lex (gap later) r)
unfolding as_read
number-text z g r e =
    let w = written z in
    let n = reads_numeral w.numeral w.proper g in
    ap (λ t. lex (gap g) (t ++ r)) (sym w.text) ∙ n.reads r ∙ number_ends n.to (numeral_value w.numeral) n.holds r e
