-- The words before a refused word begin some job: whatever was read up to there can be ended. Assumes nothing.
use mathlib.Core.Path.{◌≡◌, refl, sym, ap, subst, ◌∙◌}
use mathlib.Core.Bool.{Bool, true, false, ◌||◌, cond}
use mathlib.Core.List.{List, [], ◌∷◌, ◌++◌, map}
use Prim.Native.Nat.{ℕ, zero, suc, ◌+◌, ◌<◌}
use native.Mathlib.Nat.{le_of_suc-le-suc}
use native.Mathlib.Omega.{arith}
use lib.Dec.{ltb, eqb}
use lib.ListN.{length, take, length-map}
use borrow.Author.Tests.{ne_eqb, eqb-true, ltb-true, lt-ltb, lt-leb}
use Rattle.job.specs.declared.kinds.Kind.TheVariants.{Head, Subpath, Y, InY, OutY, End}
use Rattle.job.specs.declared.order.Seen.{Seen}
use Rattle.std.proofs.Common.{Option, Some, None, Result, Ok, Err}
use Rattle.refusal.specs.declared.Reason.{Reason}
use Rattle.refusal.specs.declared.Refusal.{Refusal}
use Rattle.refusal.specs.Reasons.{refusal_at}
use Rattle.job.specs.Kinds.{kind_of}
use Rattle.job.specs.Words.{Word, word, split, joined, word_list}
use Rattle.job.specs.Grammar.{Job, end, written, Within}
use Rattle.job.specs.Order.{member, wholes, rows, after_in, may_follow, payloads, is_full, last_of, refusal_of, count_subpath, advance, start}
use Rattle.job.specs.Content.{job_of}
use Rattle.job.specs.Reading.{settle, scan_from, scanned, reading_of, reading}
use Rattle.job.proofs.Orders.{Each, by_members, by_rows, named, Passed, passed}
use Rattle.job.proofs.Scans.{scan_on}
use Rattle.job.proofs.Accepting.{Reaches, on}
use Rattle.job.proofs.Theorems.{sound}
use Rattle.job.proofs.Prefixes.{list_prefix, one_place}

-- ---- what was read, by the last word's kind l and m subpaths: none before the first subpath's word, and some from there on
abbrev kinds : List ℕ
kinds = 16 ∷ 0 ∷ 2 ∷ 4 ∷ 6 ∷ 15 ∷ wholes

abbrev counted : ℕ → ℕ → Bool
counted l m = cond (eqb l 16 || eqb l 0) (eqb m 0) (cond (eqb l 15) true (ltb 0 m))

record Live (l m : ℕ) : Type 0 where
  kind : member l kinds ≡ true
  count : counted l m ≡ true

abbrev Lives : ℕ → ℕ → Type 0
Lives l k = (m : ℕ) → counted l m ≡ true → Live k (count_subpath (kind_of k) m)

some_after : (m : ℕ) → ltb 0 (m + 1) ≡ true
some_after m = lt-ltb 0 (m + 1) (omega arith)

after-whole : (k : ℕ) → ((m : ℕ) → ltb 0 m ≡ true → Live k (count_subpath (kind_of k) m)) → Each (λ l. Lives l k) wholes
after-whole k h = (h, (h, (h, (h, (h, tt)))))

lives : Each (λ r. Each (λ l. Lives l r.kind) r.after) rows
unfolding member count_subpath kind_of
lives =
    let subpath : (m : ℕ) → Live 1 (count_subpath Subpath m) = λ m. record { kind = refl; count = some_after m } in
    let stay3 : (m : ℕ) → ltb 0 m ≡ true → Live 3 m = λ m h. record { kind = refl; count = h } in
    let over : (m : ℕ) → Live 15 m = λ m. record { kind = refl; count = refl } in (
      (λ m h. record { kind = refl; count = h }, tt),
      (
        (λ m h. subpath m, after-whole 1 (λ m h. subpath m)),
        (
          after-whole 2 (λ m h. record { kind = refl; count = h }),
          (
            (stay3, tt),
            (
              (λ m h. record { kind = refl; count = h }, tt),
              (
                (λ m h. record { kind = refl; count = h }, tt),
                (
                  (λ m h. record { kind = refl; count = h }, (λ m h. record { kind = refl; count = h }, tt)),
                  (
                    (λ m h. record { kind = refl; count = h }, tt),
                    (
                      (λ m h. record { kind = refl; count = h }, (λ m h. record { kind = refl; count = h }, (λ m h. record { kind = refl; count = h }, tt))),
                      ((λ m h. over m, after-whole 15 (λ m h. over m)), tt),
                    ),
                  ),
                ),
              ),
            ),
          ),
        ),
      ),
    )

-- ---- each can be ended
abbrev finish : ℕ → List Word
finish l =
    cond (eqb l 15) []
    (cond (eqb l 16) (word 0 0 ∷ word 1 0 ∷ end)
    (cond (eqb l 0) (word 1 0 ∷ end)
    (cond (eqb l 2) (word 3 0 ∷ end)
    (cond (eqb l 4) (word 5 0 ∷ end)
    (cond (eqb l 6) (word 7 0 ∷ end)
    end)))))

abbrev Ends : ℕ → Type 0
Ends l = (s : Seen) → last_of s ≡ l → counted l s.subpaths ≡ true → Reaches s (finish l)

module _ (s : Seen) where
  whole_ends : may_follow (last_of s) 15 ≡ true → eqb (last_of s) 15 ≡ false → ltb 0 s.subpaths ≡ true → Reaches s end
  unfolding payloads is_full advance kind_of scan_from
  whole_ends f u h =
      on s 15 0 [] (record { unended = u; follows = f; listed = refl; begun = ne_eqb s.subpaths 0 (λ e. omega (arith, ltb-true 0 s.subpaths h)); roomy = refl }) (λ i. (advance s End 0, refl))

ends : Each Ends kinds
unfolding may_follow member after_in payloads is_full advance kind_of count_subpath scan_from
ends =
    let w : (l : ℕ) → may_follow l 15 ≡ true → eqb l 15 ≡ false → (s : Seen) → last_of s ≡ l → ltb 0 s.subpaths ≡ true → Reaches s end =
    λ l f u s e h. whole_ends s (subst (λ k. may_follow k 15 ≡ true) (sym e) f) (subst (λ k. eqb k 15 ≡ false) (sym e) u) h in
    let subpath : (s : Seen) → last_of s ≡ 0 → eqb s.subpaths 0 ≡ true → Reaches s (word 1 0 ∷ end) =
    λ s e h. on s 1 0 end (record { unended = rw e; follows = rw e; listed = refl; begun = refl; roomy = lt-leb 32 s.subpaths (omega (arith, eqb-true s.subpaths 0 h)) })
    (w 1 refl refl (advance s Subpath 0) refl (some_after s.subpaths)) in (
      λ s e h. on s 0 0 (word 1 0 ∷ end) (record { unended = rw e; follows = rw e; listed = refl; begun = refl; roomy = refl }) (subpath (advance s Head 0) refl h),
      (
        subpath,
        (
          λ s e h. on s 3 0 end (record { unended = rw e; follows = rw e; listed = refl; begun = refl; roomy = refl }) (w 3 refl refl (advance s Y 0) refl h),
          (
            λ s e h. on s 5 0 end (record { unended = rw e; follows = rw e; listed = refl; begun = refl; roomy = refl }) (w 5 refl refl (advance s InY 0) refl h),
            (
              λ s e h. on s 7 0 end (record { unended = rw e; follows = rw e; listed = refl; begun = refl; roomy = refl }) (w 7 refl refl (advance s OutY 0) refl h),
              ((λ s e h i. (s, rw e)), (w 8 refl refl, (w 1 refl refl, (w 3 refl refl, (w 5 refl refl, (w 7 refl refl, tt)))))),
            ),
          ),
        ),
      ),
    )

-- ---- the state before a refused word
record Before (s : Seen) (i p : ℕ) (ws : List Word) : Type 0 where
  state : Seen
  live : Live (last_of state) state.subpaths
  reads : (rest : List Word) → scan_from s i (take p ws ++ rest) ≡ scan_from state (i + p) rest

live_after : (s : Seen) (k v : ℕ) → Passed s k v → Live (last_of s) s.subpaths → Live (last_of (advance s (kind_of k) v)) (advance s (kind_of k) v).subpaths
unfolding may_follow advance kind_of
live_after s k v p h = subst (λ l. Live l (count_subpath (kind_of k) s.subpaths)) (sym (named (last_of s) k p.follows)) (by_rows Lives rows lives (last_of s) k p.follows s.subpaths h.count)

before : (p : ℕ) (ws : List Word) (s : Seen) (i : ℕ) (n : Reason) → Live (last_of s) s.subpaths → scan_from s i ws ≡ Err (refusal_at n (i + p)) → p < length ws → Before s i p ws
unfolding scan_from settle
before zero ws s i n h f l = let e : i ≡ i + 0 = omega arith in record { state = s; live = h; reads = λ rest. ap (λ j. scan_from s j rest) e }
before (suc p) [] s i n h f l = absurd (none l)
  where
    none : suc p < 0 → ⊥
    none k = omega arith
before (suc p) (w ∷ ws) s i n h f l = go (refusal_of s w.kind w.payload) refl f (before p ws (advance s (kind_of w.kind) w.payload) (suc i) n)
  where
    t : Seen
    t = advance s (kind_of w.kind) w.payload

    go : (m : Option Reason) → refusal_of s w.kind w.payload ≡ m → settle m i (scan_from t (suc i) ws) ≡ Err (refusal_at n (i + suc p))
        → (Live (last_of t) t.subpaths → scan_from t (suc i) ws ≡ Err (refusal_at n (suc i + p)) → p < length ws → Before t (suc i) p ws) → Before s i (suc p) (w ∷ ws)
    go (Some m) e f on = let z : i ≡ i + suc p = one_place m n i (i + suc p) f in absurd (omega arith)
    go None e f on =
        let a : i + suc p ≡ suc i + p = omega arith in
        let q = passed s w.kind w.payload e in
        let b = on (live_after s w.kind w.payload q h) (f ∙ ap (λ r. Err (refusal_at n r)) a) (le_of_suc-le-suc l) in
        record {
          state = b.state;
          live = b.live;
          reads = λ rest. scan_on s i w.kind w.payload (take p ws ++ rest) q ∙ b.reads rest ∙ ap (λ r. scan_from b.state r rest) (sym a);
        }

finish_split : (l : ℕ) → member l kinds ≡ true → word_list (map joined (finish l)) ≡ finish l
finish_split = by_members (λ l. word_list (map joined (finish l)) ≡ finish l) kinds (refl, (refl, (refl, (refl, (refl, (refl, (refl, (refl, (refl, (refl, (refl, tt)))))))))))

-- the words before a refused word begin a job within the limits
pub job-begins : (ws : List ℕ) (n : Reason) (p : ℕ) → reading ws ≡ Err (refusal_at n p) → p < length ws → (j : Job) × (rest : List ℕ) × Within j × (written j ≡ take p ws ++ rest)
unfolding reading reading_of scanned member
job-begins ws n p h l = go (scanned ws) refl h
  where
    Begins : Type 0
    Begins = (j : Job) × (rest : List ℕ) × Within j × (written j ≡ take p ws ++ rest)

    go : (r : Result Seen Refusal) → scanned ws ≡ r → reading_of r (job_of (word_list ws)) ≡ Err (refusal_at n p) → Begins
    go (Ok t) f k = let z : ◌≡◌ {A = ℕ} 0 1 = cc in absurd (omega arith)
    go (Err m) f k =
        let zero-p : p ≡ 0 + p = omega arith in
        let same : ◌≡◌ {A = Result Seen Refusal} (Err m) (Err (refusal_at n (0 + p))) = cc in
        let b = before p (word_list ws) start 0 n (record { kind = refl; count = refl }) (f ∙ same) (omega (arith, length-map ws split)) in
        let last = last_of b.state in
        let rest = map joined (finish last) in
        let done = by_members Ends kinds ends last b.live.kind b.state refl b.live.count (0 + p) in
        let whole : scanned (take p ws ++ rest) ≡ Ok done.0 =
        ap (scan_from start 0) (list_prefix p ws rest ∙ ap (λ u. take p (word_list ws) ++ u) (finish_split last b.live.kind)) ∙ b.reads (finish last) ∙ done.1 in
        let j = job_of (word_list (take p ws ++ rest)) in
        let s = sound (take p ws ++ rest) j (ap (λ r. reading_of r j) whole) in
        (j, rest, s.1, sym s.0)
