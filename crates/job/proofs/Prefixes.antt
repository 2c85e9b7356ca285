-- A refusal of a word stands whatever comes after the word: no job begins with the words up to it and with it. Assumes nothing.
use mathlib.Core.Path.{◌≡◌, refl, sym, ap, ◌∙◌}
use mathlib.Core.Bool.{Bool, true, false, cond}
use mathlib.Core.List.{List, [], ◌∷◌, ◌++◌}
use Prim.Native.Nat.{ℕ, zero, suc, ◌+◌, ◌≤◌, ◌<◌}
use native.Mathlib.Nat.{not-suc-le-zero, le_of_suc-le-suc}
use native.Mathlib.Omega.{arith}
use lib.Dec.{eqb}
use lib.ListN.{length, take, length-map}
use Rattle.job.specs.declared.order.Seen.{Seen}
use Rattle.std.proofs.Common.{Option, Some, None, Result, Ok, Err}
use Rattle.refusal.specs.declared.Reason.{Reason}
use Rattle.refusal.specs.declared.Reason.TheVariants.{Unended}
use Rattle.refusal.specs.declared.Refusal.{Refusal}
use Rattle.refusal.specs.Reasons.{refusal_at}
use Rattle.job.specs.Kinds.{kind_of}
use Rattle.job.specs.Words.{Word, split, word_list}
use Rattle.job.specs.Grammar.{Job, written, Within}
use Rattle.job.specs.Order.{last_of, refusal_of, advance, start}
use Rattle.job.specs.Content.{job_of}
use Rattle.job.specs.Reading.{settle, scan_from, scanned, reading_of, reading}
use Rattle.job.proofs.Theorems.{complete}

-- two refusals that are one have one place
pub one_place : (r n : Reason) (i q : ℕ) → ◌≡◌ {A = Result Seen Refusal} (Err (refusal_at r i)) (Err (refusal_at n q)) → i ≡ q
one_place r n i q h = let e : refusal_at r i ≡ refusal_at n q = cc in ap (λ (x : Refusal). x.place) e

-- no word before word i is refused
pub place_after : (ws : List Word) (s : Seen) (i : ℕ) (n : Reason) (q : ℕ) → scan_from s i ws ≡ Err (refusal_at n q) → i ≤ q
unfolding scan_from settle
place_after [] s i n q h = go (eqb (last_of s) 15) h
  where
    go : (b : Bool) → cond b (Ok s) (Err (refusal_at Unended i)) ≡ Err (refusal_at n q) → i ≤ q
    go true h = let z : ◌≡◌ {A = ℕ} 0 1 = cc in absurd (omega arith)
    go false h = let e : i ≡ q = one_place Unended n i q h in omega arith
place_after (w ∷ ws) s i n q h = go (refusal_of s w.kind w.payload) (place_after ws (advance s (kind_of w.kind) w.payload) (suc i) n q) h
  where
    later : Result Seen Refusal
    later = scan_from (advance s (kind_of w.kind) w.payload) (suc i) ws

    go : (m : Option Reason) → (later ≡ Err (refusal_at n q) → suc i ≤ q) → settle m i later ≡ Err (refusal_at n q) → i ≤ q
    go None on h = let l = on h in omega arith
    go (Some m) on h = let e : i ≡ q = one_place m n i q h in omega arith

scan_prefix : (ws : List Word) (s : Seen) (i : ℕ) (n : Reason) (p : ℕ) → scan_from s i ws ≡ Err (refusal_at n (i + p)) → p < length ws → (rest : List Word) → scan_from s i (take (suc p) ws ++ rest) ≡ Err (refusal_at n (i + p))
unfolding scan_from settle
scan_prefix [] s i n p h l rest = absurd (not-suc-le-zero l)
scan_prefix (w ∷ ws) s i n p h l rest = go p (refusal_of s w.kind w.payload) (scan_prefix ws (advance s (kind_of w.kind) w.payload) (suc i) n) h l
  where
    t : Seen
    t = advance s (kind_of w.kind) w.payload

    go : (p : ℕ) (m : Option Reason) → ((p : ℕ) → scan_from t (suc i) ws ≡ Err (refusal_at n (suc i + p)) → p < length ws → (rest : List Word) → scan_from t (suc i) (take (suc p) ws ++ rest) ≡ Err (refusal_at n (suc i + p)))
        → settle m i (scan_from t (suc i) ws) ≡ Err (refusal_at n (i + p)) → p < suc (length ws) → settle m i (scan_from t (suc i) (take p ws ++ rest)) ≡ Err (refusal_at n (i + p))
    go p (Some m) on h l = h
    go zero None on h l = absurd (early (place_after ws t (suc i) n (i + 0) h))
      where
        early : suc i ≤ i + 0 → ⊥
        early k = omega arith
    go (suc p) None on h l =
        let e : i + suc p ≡ suc i + p = omega arith in
        on p (h ∙ ap (λ q. Err (refusal_at n q)) e) (le_of_suc-le-suc l) rest ∙ ap (λ q. Err (refusal_at n q)) (sym e)

pub list_prefix : (p : ℕ) (ws rest : List ℕ) → word_list (take p ws ++ rest) ≡ take p (word_list ws) ++ word_list rest
list_prefix zero ws rest = refl
list_prefix (suc p) [] rest = refl
list_prefix (suc p) (w ∷ ws) rest = ap (λ l. split w ∷ l) (list_prefix p ws rest)

-- a word of the list is refused (all but 'no end word'): no job goes on from there
pub no_job-begins : (ws : List ℕ) (n : Reason) (p : ℕ) → reading ws ≡ Err (refusal_at n p) → p < length ws
    → (j : Job) → Within j → (rest : List ℕ) → written j ≡ take (suc p) ws ++ rest → ⊥
unfolding reading scanned reading_of
no_job-begins ws n p h l j w rest e = go (scanned ws) refl h
  where
    go : (r : Result Seen Refusal) → scanned ws ≡ r → reading_of r (job_of (word_list ws)) ≡ Err (refusal_at n p) → ⊥
    go (Ok t) f k = let z : ◌≡◌ {A = ℕ} 0 1 = cc in omega arith
    go (Err m) f k =
        let zero-p : p ≡ 0 + p = omega arith in
        let same : ◌≡◌ {A = Result Seen Refusal} (Err m) (Err (refusal_at n (0 + p))) = cc in
        let d = length-map ws split in
        let early = scan_prefix (word_list ws) start 0 n p (f ∙ same) (omega arith) (word_list rest) in
        let again : scanned (written j) ≡ Err (refusal_at n (0 + p)) = ap scanned e ∙ ap (scan_from start 0) (list_prefix (suc p) ws rest) ∙ early in
        let read : reading_of (Err (refusal_at n (0 + p))) (job_of (word_list (written j))) ≡ Ok j = sym (ap (λ r. reading_of r (job_of (word_list (written j)))) again) ∙ complete j w in
        let z : ◌≡◌ {A = ℕ} 0 1 = cc in
        omega arith
