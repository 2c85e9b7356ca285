-- A list that fits is read, and its first word is the count; one that does not is refused.
use Rattle.std.proofs.Common.{◌≡◌, ℕ, ◌+◌, ◌*◌, ◌≤◌, Bool, true, Ok, List, [], ◌∷◌, ◌++◌, zero, suc, refl, take, drop, length, rules}
use mathlib.Core.Path.{sym, ap, ◌∙◌}
use native.Mathlib.Omega.{arith}
use native.Mathlib.Nat.{le_of_suc-le-suc}
use lib.Seq.{length-take-le}
use Rattle.job.specs.Words.{word_at}
use Rattle.views.specs.View.{overwrite}
use Rattle.call_list.specs.Input.{count_in, list_fits, code_at, value_at}
use Rattle.call_list.proofs.Inputs.{fits_few, fits_long, calls_refused, calls_read}
use Rattle.call_list.proofs.calls.read_calls.Goals as goal

pub returns-then-not-list_fits : goal.returns-then-not-list_fits
returns-then-not-list_fits c =
    let a = c.args in
    let r = calls_refused a.bytes.now a.codes.now a.values.now (sym c.list_fits.ensures ∙ c.if-not-list_fits.true) in
    record { answer = rw c.at.ensures r.0; codes = r.1.0; values = r.1.1 }

pub word_at-m-requires : goal.word_at-m-requires
word_at-m-requires c = omega (arith, fits_long c.args.bytes.now (sym c.list_fits.ensures ∙ c.if-not-list_fits.false))

-- how much there is of m calls, where the list fits and its first word is m
room : (bytes : List ℕ) (b : Bool) (m : ℕ) → b ≡ list_fits bytes → b ≡ true → m ≡ word_at bytes 0 → (m ≤ 256) × (4 + m * 36 ≤ length bytes)
unfolding count_in
room bytes b m e t h = let fits : list_fits bytes ≡ true = sym e ∙ t in (omega (arith, fits_few bytes fits), omega (arith, fits_long bytes fits))

-- the first n entries filled as a list of their own
filled : {A : Type 0} (f : ℕ → A) (n : ℕ) (xs : List A) → n ≤ length xs → overwrite (length (take n xs)) f (take n xs) ++ drop n xs ≡ overwrite n f xs
unfolding overwrite
filled f zero [] h = refl
filled f zero (x ∷ xs) h = refl
filled f (suc n) [] h = refl
filled f (suc n) (x ∷ xs) h = ap (λ l. f 0 ∷ l) (filled (λ i. f (suc i)) n xs (le_of_suc-le-suc h))

part : {A : Type 0} (f : ℕ → A) (n : ℕ) (xs ys : List A) → n ≤ length xs → ys ≡ overwrite (length (take n xs)) f (take n xs) → ys ++ drop n xs ≡ overwrite n f xs
part f n xs ys h e = rw e (filled f n xs h)

pub slice_bounds-fill-end : goal.slice_bounds-fill-end
slice_bounds-fill-end c = let n = room c.args.bytes.now _ _ c.list_fits.ensures c.if-not-list_fits.false c.word_at-m.ensures in omega arith

pub fill-requires : goal.fill-requires
fill-requires c = λ k h _ _ _ _ _ _ _.
    let n = room c.args.bytes.now _ _ c.list_fits.ensures c.if-not-list_fits.false c.word_at-m.ensures in
    let most = length-take-le (c.word_at-m.result * 3) c.args.codes.now (omega arith) in
    (omega arith, omega arith)

pub fill-requires-2 : goal.fill-requires-2
fill-requires-2 c = λ k h _ _ _ _ _ _ _.
    let n = room c.args.bytes.now _ _ c.list_fits.ensures c.if-not-list_fits.false c.word_at-m.ensures in
    let most = length-take-le (c.word_at-m.result * 6) c.args.values.now (omega arith) in
    (omega arith, omega arith)

pub returns : goal.returns
unfolding count_in
returns c =
    let a = c.args in
    let fits : list_fits a.bytes.now ≡ true = sym c.list_fits.ensures ∙ c.if-not-list_fits.false in
    let m : c.word_at-m.result ≡ count_in a.bytes.now = c.word_at-m.ensures in
    let n = room a.bytes.now _ _ c.list_fits.ensures c.if-not-list_fits.false m in
    let r = calls_read a.bytes.now a.codes.now a.values.now fits in
    let codes = part (code_at a.bytes.now) (c.word_at-m.result * 3) a.codes.now c.fill.new.list (omega arith) (c.fill.ensures (code_at a.bytes.now) (λ k x h p. search rules)) in
    let values = part (value_at a.bytes.now) (c.word_at-m.result * 6) a.values.now c.fill-2.new.list (omega arith) (c.fill-2.ensures (value_at a.bytes.now) (λ k x h p. search rules)) in
    record {
      answer = ap Ok m ∙ r.0;
      codes = codes ∙ ap (λ k. overwrite (k * 3) (code_at a.bytes.now) a.codes.now) m ∙ r.1.0;
      values = values ∙ ap (λ k. overwrite (k * 6) (value_at a.bytes.now) a.values.now) m ∙ r.1.1;
    }
