-- The first words of the calls of a list, as three at a time are passed, and which of them are a kind's. Assumes nothing.
use mathlib.Core.Path.{◌≡◌, refl, sym, ap, ◌∙◌}
use mathlib.Core.List.{List, ◌∷◌, ◌++◌}
use Prim.Native.Nat.{ℕ, zero, suc, ◌*◌, ◌/◌}
use native.Mathlib.Omega.{arith}
use borrow.Author.Tests.{lt-leb}
use lib.Dec.{leb}
use lib.ListN.{length, get_or, length-append, get_or-append}
use Rattle.std.proofs.Common.{Bor, Some, None}
use Rattle.std.specs.Option.{ok_or}
use Rattle.std.specs.Result.{is_ok}
use Rattle.std.specs.Slice.Iter.{chunks_exact_rest, chunks_exact_size, chunks_exact_steps}
use Rattle.std.specs.declared.slice.ChunksExact.{ChunksExact}
use Rattle.std.proofs.lemmas.List.{get_or-append_right}
use Rattle.std.proofs.lemmas.Iterator.{YieldsList}
use Rattle.std.proofs.lemmas.Iterator.Splits.{YieldsList-from_shown_while}
use Rattle.views.specs.Search.{all}
use Rattle.views.specs.View.{tabulate}
use Rattle.views.proofs.Laws.{length-tabulate, at_tabulate, tabulate_cong}
use Rattle.views.proofs.Searches.{all_cong}
use Rattle.replay.specs.Encoding.{calls_known}
use Rattle.replay.specs.Kinds.{call_kind}

-- ---- the first words
unfoldable pub firsts : List ℕ → List ℕ
firsts codes = tabulate (length codes / 3) (λ j. get_or codes (j * 3) 0)

none : (s t : ChunksExact ℕ) → chunks_exact_size s ≡ 3 → chunks_exact_steps s None t → length (firsts (chunks_exact_rest s)) ≡ 0
unfolding firsts
none s t p h = length-tabulate (length (chunks_exact_rest s) / 3) (λ j. get_or (chunks_exact_rest s) (j * 3) 0) ∙ omega (arith, h.1.0)

first_call : (xs ys : List ℕ) → length xs ≡ 3 → firsts (xs ++ ys) ≡ get_or xs 0 0 ∷ firsts ys
unfolding firsts tabulate
first_call xs ys h =
    let n : length (xs ++ ys) / 3 ≡ suc (length ys / 3) = omega (arith, length-append xs ys) in
    rw (n, get_or-append xs ys 0 0 (omega arith)) (ap (λ l. get_or xs 0 0 ∷ l) (tabulate_cong (length ys / 3) _ _ (λ j k. next j)))
  where
    next : (j : ℕ) → get_or (xs ++ ys) (suc j * 3) 0 ≡ get_or ys (j * 3) 0
    next j = get_or-append_right xs ys 3 (suc j * 3) 0 h (omega arith) ∙ ap (λ i. get_or ys i 0) (omega arith)

some : (s : ChunksExact ℕ) (x : Bor (List ℕ)) (t : ChunksExact ℕ) → chunks_exact_size s ≡ 3 → chunks_exact_steps s (Some x) t
    → (chunks_exact_size t ≡ 3) × (firsts (chunks_exact_rest s) ≡ get_or x.now 0 0 ∷ firsts (chunks_exact_rest t))
some s x t p h = (h.0 ∙ p, rw h.1.0 (first_call x.now (chunks_exact_rest t) (h.1.1 ∙ p)))

pub every_first : {s : ChunksExact ℕ} (codes : List ℕ) → chunks_exact_size s ≡ 3 → chunks_exact_rest s ≡ codes
    → YieldsList chunks_exact_steps (λ x. get_or x.now 0 0) s (firsts codes)
every_first {s} codes n e =
    rw (← e) (YieldsList-from_shown_while chunks_exact_steps (λ x. get_or x.now 0 0) (λ t. firsts (chunks_exact_rest t)) (λ t. chunks_exact_size t ≡ 3) none some s n)

-- ---- which are a kind's
pub known : {E : Type 0} (e : E) (w : ℕ) → is_ok (ok_or (call_kind w) e) ≡ leb w 2
unfolding call_kind
known e zero = refl
known e (suc zero) = refl
known e (suc (suc zero)) = refl
known e (suc (suc (suc n))) = sym (lt-leb (suc (suc (suc n))) 2 (omega arith))

pub firsts_known : (codes : List ℕ) → all (λ i. leb (get_or (firsts codes) i 0) 2) (length (firsts codes)) ≡ calls_known codes
unfolding firsts calls_known
firsts_known codes =
    let m = length codes / 3 in
    rw (length-tabulate m (λ j. get_or codes (j * 3) 0)) (all_cong _ _ m (λ k h. ap (λ w. leb w 2) (at_tabulate 0 m (λ j. get_or codes (j * 3) 0) k h)))
