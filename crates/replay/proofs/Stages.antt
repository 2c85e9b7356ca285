-- The lists after j calls and the answers to them, by recursion on j, are those of the list of calls. Assumes nothing.
use mathlib.Core.Path.{◌≡◌, refl, sym, ap, ap₂, ◌∙◌}
use mathlib.Core.List.{List, [], ◌∷◌, map}
use Prim.Native.Nat.{ℕ, zero, suc, ◌+◌, ◌-◌, ◌*◌, ◌/◌, ◌%◌, ◌≤◌, ◌<◌}
use native.Mathlib.Numerals.{add-one}
use native.Mathlib.Omega.{arith}
use mathlib.Core.Logic.{inl, inr, ⊎_elim}
use lib.ListN.{length, get_or}
use lib.Seq.{sets, length-sets}
use Rattle.std.proofs.Common.{Ok, Err, Result}
use Rattle.views.specs.View.{tabulate, overwrite}
use Rattle.views.proofs.Laws.{order, tabulate_cong, length-overwrite, at_overwrite, past_overwrite, as_overwrite}
use Rattle.views.proofs.Runs.{get_d_sets_in, get_d_sets_out}
use Rattle.session.specs.declared.answers.Edited.{Edited}
use Rattle.session.specs.Drawing.{Lent}
use Rattle.session.specs.Edits.{Call}
use Rattle.session.specs.Calls.{call_answer, call_lists}
use Rattle.session.specs.Session.{answers, played, turns_of}
use Rattle.replay.specs.Encoding.{told, stands, answer_words, told_in}
use Rattle.replay.specs.Replay.{stage, call_words, answer_word}
use Rattle.refusal.specs.declared.Refusal.{Refusal}

module _ (kind : ℕ) where
  -- ---- the lists
  -- the first call taken off
  stage_shift : (l : Lent) (f : ℕ → Call) (j : ℕ) → stage kind (call_lists l kind (f zero)) (λ i. f (suc i)) j ≡ stage kind l f (suc j)
  unfolding stage
  stage_shift l f zero = refl
  stage_shift l f (suc j) = ap (λ x. call_lists x kind (f (suc j))) (stage_shift l f j)

  pub stage-played : (n : ℕ) (l : Lent) (f : ℕ → Call) → stage kind l f n ≡ played kind l (tabulate n f)
  unfolding stage played tabulate
  stage-played zero l f = refl
  stage-played (suc n) l f = sym (stage_shift l f n) ∙ stage-played n (call_lists l kind (f zero)) (λ i. f (suc i))

  -- one call more
  pub stage_more : (l : Lent) (f : ℕ → Call) (j : ℕ) (now next : Lent) → now ≡ stage kind l f j → next ≡ call_lists now kind (f j) → next ≡ stage kind l f (j + 1)
  unfolding stage
  stage_more l f j now next e g = g ∙ ap (λ x. call_lists x kind (f j)) e ∙ sym (ap (stage kind l f) (add-one j))

  -- ---- the answers
  stage-answers : (n : ℕ) (l : Lent) (f : ℕ → Call) → answers kind (turns_of kind l (tabulate n f)) ≡ tabulate n (λ j. call_answer (stage kind l f j) kind (f j))
  unfolding stage answers turns_of tabulate
  stage-answers zero l f = refl
  stage-answers (suc n) l f =
      ap (λ rest. call_answer l kind (f zero) ∷ rest)
      (stage-answers n (call_lists l kind (f zero)) (λ i. f (suc i)) ∙ tabulate_cong n _ _ (λ j h. ap (λ x. call_answer x kind (f (suc j))) (stage_shift l f j)))

  -- word i of answer j
  pub word_at_lem : (l : Lent) (f : ℕ → Call) (j i : ℕ) → i < 5 → answer_word kind l f (j * 5 + i) ≡ get_or (call_words kind (stage kind l f j) (f j)) i 0
  unfolding answer_word
  word_at_lem l f j i h =
      let x : (j * 5 + i) / 5 ≡ j = omega arith in
      let y : (j * 5 + i) % 5 ≡ i = omega arith in
      rw (x, y)

-- no answer yet
pub answers-none : (f : ℕ → ℕ) (xs : List ℕ) → xs ≡ overwrite 0 f xs
unfolding overwrite
answers-none f [] = refl
answers-none f (x ∷ xs) = refl

-- one answer more: its five words, behind those before
pub five-words : (e : Result Edited Refusal) (shapes : List ℕ) (s : ℕ) → length (answer_words e shapes s) ≡ 5
unfolding answer_words told stands
five-words (Err why) shapes s = refl
five-words (Ok x) shapes s = refl

module _ (kind : ℕ) (l : Lent) (f : ℕ → Call) (xs : List ℕ) (j : ℕ) (room : j * 5 + 5 ≤ length xs) where
  abbrev before : List ℕ
  before = overwrite (j * 5) (answer_word kind l f) xs

  abbrev words : List ℕ
  words = call_words kind (stage kind l f j) (f j)

  five : length words ≡ 5
  unfolding call_words
  five = five-words _ _ _

  long : length before ≡ length xs
  long = length-overwrite (j * 5) (answer_word kind l f) xs

  told_below : (q : ℕ) → q < (j + 1) * 5 → get_or (sets before (j * 5) words) q 0 ≡ answer_word kind l f q
  told_below q h =
      ⊎_elim
      (λ (k : j * 5 ≤ q). let e : q ≡ j * 5 + (q - j * 5) = omega arith in
      rw e (get_d_sets_in 0 words before (j * 5) (q - j * 5) (omega (arith, five, long)) (omega (arith, five)) ∙ sym (word_at_lem kind l f j (q - j * 5) (omega arith))))
      (λ (k : q < j * 5). get_d_sets_out 0 words before (j * 5) q (inl k) ∙ at_overwrite 0 (j * 5) (answer_word kind l f) xs q k (omega arith))
      (order (j * 5) q)

  told_past : (q : ℕ) → (j + 1) * 5 ≤ q → get_or (sets before (j * 5) words) q 0 ≡ get_or xs q 0
  told_past q h = get_d_sets_out 0 words before (j * 5) q (inr (omega (arith, five))) ∙ past_overwrite 0 (j * 5) (answer_word kind l f) xs q (omega arith)

  pub answers_more : (now : Lent) (answers out : List ℕ) → now ≡ stage kind l f j → answers ≡ overwrite (j * 5) (answer_word kind l f) xs
      → out ≡ sets answers (j * 5) (call_words kind now (f j)) → out ≡ overwrite ((j + 1) * 5) (answer_word kind l f) xs
  answers_more now answers out e g h =
      h
      ∙ ap₂ (λ a x. sets a (j * 5) (call_words kind x (f j))) g e
      ∙ as_overwrite 0 (sets before (j * 5) words) xs ((j + 1) * 5) (answer_word kind l f) (length-sets before (j * 5) words ∙ long) told_below told_past

map-tabulate : {A B : Type 0} (g : A → B) (n : ℕ) (f : ℕ → A) → map g (tabulate n f) ≡ tabulate n (λ j. g (f j))
unfolding tabulate
map-tabulate g zero f = refl
map-tabulate g (suc n) f = ap (λ l. g (f zero) ∷ l) (map-tabulate g n (λ i. f (suc i)))

-- the first three words of five
first_three : (e : Result Edited Refusal) (shapes : List ℕ) (s : ℕ)
    → get_or (answer_words e shapes s) 0 0 ∷ get_or (answer_words e shapes s) 1 0 ∷ get_or (answer_words e shapes s) 2 0 ∷ [] ≡ told e
unfolding answer_words told stands
first_three (Err why) shapes s = refl
first_three (Ok x) shapes s = refl

-- the answers written tell what the calls answered
module _ (kind : ℕ) (l : Lent) (f : ℕ → Call) (n : ℕ) (xs : List ℕ) (room : n * 5 ≤ length xs) where
  abbrev out : List ℕ
  out = overwrite (n * 5) (answer_word kind l f) xs

  word : (j i : ℕ) → j < n → i < 5 → get_or out (j * 5 + i) 0 ≡ get_or (call_words kind (stage kind l f j) (f j)) i 0
  word j i h k = at_overwrite 0 (n * 5) (answer_word kind l f) xs (j * 5 + i) (omega arith) (omega arith) ∙ word_at_lem kind l f j i k

  three : (j : ℕ) → j < n → get_or out (j * 5) 0 ∷ get_or out (j * 5 + 1) 0 ∷ get_or out (j * 5 + 2) 0 ∷ [] ≡ told (call_answer (stage kind l f j) kind (f j))
  unfolding call_words
  three j h =
      let z : get_or out (j * 5) 0 ≡ get_or (call_words kind (stage kind l f j) (f j)) 0 0 = ap (λ q. get_or out q 0) (omega arith) ∙ word j 0 h (omega arith) in
      rw (z, word j 1 h (omega arith), word j 2 h (omega arith)) (first_three _ _ _)

  pub told-answers : told_in (overwrite (n * 5) (answer_word kind l f) xs) n ≡ map told (answers kind (turns_of kind l (tabulate n f)))
  unfolding told_in
  told-answers = tabulate_cong n _ _ three ∙ sym (map-tabulate told n (λ j. call_answer (stage kind l f j) kind (f j))) ∙ ap (map told) (sym (stage-answers kind n l f))
