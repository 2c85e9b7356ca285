-- One law for each way in which `replay` ends, with its answer, the lists at exit and the claim. Assumes nothing.
use mathlib.Core.Path.{◌≡◌, refl, sym, ap, ◌∙◌}
use mathlib.Core.Bool.{true, false, ◌&&◌, true≢false}
use mathlib.Core.List.{List, map}
use Prim.Native.Nat.{ℕ, ◌*◌, ◌%◌, ◌≤◌}
use native.Mathlib.Omega.{arith}
use lib.Dec.{leb, eqb}
use lib.ListN.{length}
use lib.Ieee.{Float}
use borrow.Author.Tests.{leb-true}
use Rattle.std.proofs.Common.{Result, Ok, Err}
use Rattle.views.specs.View.{overwrite}
use Rattle.views.proofs.Bools.{and_left, and_right}
use Rattle.views.proofs.Laws.{length-tabulate}
use Rattle.refusal.specs.Reasons.{refusal_at}
use Rattle.refusal.specs.declared.Refusal.{Refusal}
use Rattle.refusal.specs.declared.Reason.TheVariants.{Arguments, Lists}
use Rattle.refusal.specs.declared.Reason.{Reason}
use Rattle.refusal.specs.Order.{Test, passes, fails, holds, judge, Verdict, accepted, refused}
use Rattle.refusal.proofs.Verdicts.{in_order, by_lists, holds_true, holds_false, holds_says, answers_ok, answers_err, ok_says, err_says}
use Rattle.path.specs.Shape.{total}
use Rattle.path.specs.Limit.{place_in}
use Rattle.call.specs.declared.answers.Outline.{Outline}
use Rattle.call.specs.Tests.{drawing_limit}
use Rattle.call.specs.Answers.{outline_answer, list_left}
use Rattle.call.proofs.Openings.{places_pass, answer-refused, answer_open}
use Rattle.cache.specs.Calls.{build_verdict, build_answer, build_numbers, build_flags}
use Rattle.session.specs.Drawing.{Lent, drawn}
use Rattle.session.specs.Calls.{lists_fit, lists_after, built_verdict, built_lists}
use Rattle.session.specs.Session.{answers, after_all, played}
use Rattle.session.proofs.Judging.{places_then}
use Rattle.session.proofs.Plays.{after-played, demand3-played}
use Rattle.cached.specs.Opening.{lent, opened_cached}
use Rattle.replay.specs.Encoding.{call_at, call_count, calls_of, calls_fit, calls_known, told, told_in}
use Rattle.replay.specs.Replay.{stage, answer_word, unknown_verdict, replay_verdict, replay_answer, replay_lists, replay_answers}
use Rattle.replay.specs.Claim.{turns, Claim}
use Rattle.replay.proofs.Stages.{stage-played, told-answers}

-- ---- a call that is none of the three
module _ (l : Lent) where
  abbrev n : ℕ
  n = total l.shapes

  pub unknown_closed : (why : Refusal) → opened_cached l ≡ Err why → refused why ≡ unknown_verdict l
  unfolding opened_cached unknown_verdict drawing_limit
  unknown_closed why e = sym (answer-refused (lists_fit l) (place_in l.anchors l.radii) n why e false accepted)

  pub unknown_open : (m : ℕ) → opened_cached l ≡ Ok m → refused (refusal_at Arguments m) ≡ unknown_verdict l
  unfolding opened_cached unknown_verdict drawing_limit judge
  unknown_open m e =
      let o = answer_open (lists_fit l) (place_in l.anchors l.radii) n m e in
      rw (o.2, holds_true 0 o.0, places_pass (place_in l.anchors l.radii) n (holds false n) o.1, holds_false n refl)

  -- its test never passes
  limit_fails : drawing_limit l.shapes l.anchors l.radii false ≡ passes → ⊥
  unfolding drawing_limit
  limit_fails e = true≢false (sym (holds_says false n (places_then (place_in l.anchors l.radii) n (holds false n) e)))

-- what comes after a test that fails
judge_fails : (t : Test) → (t ≡ passes → ⊥) → (c : Reason) (v w : Verdict) → judge t c v ≡ judge t c w
unfolding judge
judge_fails passes h c v w = absurd (h refl)
judge_fails (fails k) h c v w = refl

module _ (l : Lent) (kind : ℕ) (numbers : List Float) (flags : List ℕ)
    (is-numbers : numbers ≡ build_numbers l.shapes l.anchors l.radii kind l.numbers l.flags)
    (is-flags : flags ≡ build_flags l.shapes l.anchors l.radii kind l.numbers l.flags) where
  -- the lists once it is built
  built_is : lent l.shapes l.anchors l.radii numbers flags ≡ built_lists l kind
  unfolding built_lists
  built_is = rw (is-numbers, is-flags)

  build_no : (why : Refusal) → build_answer l.shapes l.anchors l.radii kind l.numbers l.flags ≡ Err why
      → (built_verdict l kind ≡ refused why) × (lent l.shapes l.anchors l.radii numbers flags ≡ l)
  unfolding build_answer built_verdict build_numbers build_flags list_left outline_answer
  build_no why e =
      let v = err_says _ _ why e in
      (v, rw (is-numbers, is-flags, v))

  build_yes : (x : Outline) → build_answer l.shapes l.anchors l.radii kind l.numbers l.flags ≡ Ok x → built_verdict l kind ≡ accepted
  unfolding build_answer built_verdict outline_answer
  build_yes x e = (ok_says _ _ x e).0

-- the calls' lists fit
pub fit_says : (codes : List ℕ) (values : List Float) (answers : List ℕ) → calls_fit codes values answers ≡ true
    → (call_count codes * 6 ≤ length values) × (call_count codes * 5 ≤ length answers)
unfolding calls_fit
fit_says codes values answers h =
    let a = eqb (length codes % 3) 0 in
    let b = leb (call_count codes * 6) (length values) in
    let c = leb (call_count codes * 5) (length answers) in
    let r = and_right a (b && c) h in
    (leb-true _ _ (and_left b c r), leb-true _ _ (and_right b c r))

module _ (l : Lent) (kind : ℕ) (codes : List ℕ) (values : List Float) (answers : List ℕ) where
  -- ---- the verdict
  pub calls_short : calls_fit codes values answers ≡ false → replay_verdict l kind codes values answers ≡ refused (refusal_at Lists 0)
  unfolding replay_verdict
  calls_short e = by_lists _ _ _ _ _ _ 0 (holds_false 0 (rw e))

  module _ (fit : calls_fit codes values answers ≡ true) where
    pub calls_unknown : calls_known codes ≡ false → replay_verdict l kind codes values answers ≡ unknown_verdict l
    unfolding replay_verdict unknown_verdict
    calls_unknown e = in_order _ _ _ _ _ _ ∙ rw (fit, e) (ap (judge (holds (lists_fit l) 0) Lists) (judge_fails (drawing_limit l.shapes l.anchors l.radii false) (limit_fails l) Arguments _ accepted))

    pub calls_known_lem : calls_known codes ≡ true → replay_verdict l kind codes values answers ≡ built_verdict l kind
    unfolding replay_verdict built_verdict build_verdict lists_fit
    calls_known_lem e = rw (fit, e)

  -- ---- what a refusal answers and leaves
  differ : (why : Refusal) (m : ℕ) → Err why ≡ Ok m → ⊥
  differ why m e = let z : ◌≡◌ {A = ℕ} 0 1 = cc in omega arith

  pub refuses : (why : Refusal) → replay_verdict l kind codes values answers ≡ refused why
      → (Err why ≡ replay_answer l kind codes values answers) × (l ≡ replay_lists l kind codes values answers) × (answers ≡ replay_answers l kind codes values answers)
      × ((m : ℕ) → Err why ≡ Ok m → Claim l kind (calls_of codes values) l answers)
  unfolding replay_answer replay_lists replay_answers lists_after list_left
  refuses why e = (answers_err _ e, rw e, rw e, λ m h. absurd (differ why m h))

  -- ---- what an acceptance leaves, and the claim
  module _ (yes : replay_verdict l kind codes values answers ≡ accepted) (built : built_verdict l kind ≡ accepted) (room : call_count codes * 5 ≤ length answers)
      (left : Lent) (is : left ≡ stage kind (built_lists l kind) (call_at codes values) (call_count codes))
      (out : List ℕ) (written : out ≡ overwrite (call_count codes * 5) (answer_word kind (built_lists l kind) (call_at codes values)) answers) where
    left-played : left ≡ played kind (built_lists l kind) (calls_of codes values)
    unfolding calls_of
    left-played = is ∙ stage-played kind (call_count codes) (built_lists l kind) (call_at codes values)

    left_after : left ≡ after_all kind (built_lists l kind) (turns l kind (calls_of codes values))
    left_after = left-played ∙ sym (after-played kind (calls_of codes values) (built_lists l kind))

    count_calls : length (calls_of codes values) ≡ call_count codes
    unfolding calls_of
    count_calls = length-tabulate (call_count codes) (call_at codes values)

    claim : Claim l kind (calls_of codes values) left out
    unfolding drawn calls_of
    claim =
        let d = demand3-played l kind built (calls_of codes values) in
        record {
          demand = d;
          lists = left_after;
          agrees = rw left_after d.agrees;
          answered = ap (told_in out) count_calls
              ∙ ap (λ x. told_in x (call_count codes)) written
              ∙ told-answers kind (built_lists l kind) (call_at codes values) (call_count codes) answers room
              ∙ ap (map told) d.answered;
        }

    pub accepts : (Ok (call_count codes) ≡ replay_answer l kind codes values answers) × (left ≡ replay_lists l kind codes values answers) × (out ≡ replay_answers l kind codes values answers)
        × ((m : ℕ) → ◌≡◌ {A = Result ℕ Refusal} (Ok (call_count codes)) (Ok m) → Claim l kind (calls_of codes values) left out)
    unfolding replay_answer replay_lists replay_answers lists_after list_left
    accepts = (answers_ok _ yes, rw yes left-played, rw yes written, λ m h. claim)

  -- ---- as the code comes to them
  module _ (fit : calls_fit codes values answers ≡ true) where
    pub refuses_unknown : calls_known codes ≡ false → (why : Refusal) → refused why ≡ unknown_verdict l
        → (Err why ≡ replay_answer l kind codes values answers) × (l ≡ replay_lists l kind codes values answers) × (answers ≡ replay_answers l kind codes values answers)
        × ((m : ℕ) → Err why ≡ Ok m → Claim l kind (calls_of codes values) l answers)
    refuses_unknown u why h = refuses why (calls_unknown fit u ∙ sym h)

    module _ (known : calls_known codes ≡ true) (numbers : List Float) (flags : List ℕ)
        (is-numbers : numbers ≡ build_numbers l.shapes l.anchors l.radii kind l.numbers l.flags)
        (is-flags : flags ≡ build_flags l.shapes l.anchors l.radii kind l.numbers l.flags) where
      pub refuses_built : (why : Refusal) → build_answer l.shapes l.anchors l.radii kind l.numbers l.flags ≡ Err why
          → (Err why ≡ replay_answer l kind codes values answers) × (lent l.shapes l.anchors l.radii numbers flags ≡ replay_lists l kind codes values answers)
          × (answers ≡ replay_answers l kind codes values answers)
          × ((m : ℕ) → Err why ≡ Ok m → Claim l kind (calls_of codes values) (lent l.shapes l.anchors l.radii numbers flags) answers)
      refuses_built why e =
          let n = build_no l kind numbers flags is-numbers is-flags why e in
          let h = refuses why (calls_known_lem fit known ∙ n.0) in
          (h.0, n.1 ∙ h.1, h.2, λ m x. absurd (differ why m x))

      pub accepts_built : (x : Outline) → build_answer l.shapes l.anchors l.radii kind l.numbers l.flags ≡ Ok x
          → (left : Lent) → left ≡ stage kind (lent l.shapes l.anchors l.radii numbers flags) (call_at codes values) (call_count codes)
          → (out : List ℕ) → out ≡ overwrite (call_count codes * 5) (answer_word kind (lent l.shapes l.anchors l.radii numbers flags) (call_at codes values)) answers
          → (Ok (call_count codes) ≡ replay_answer l kind codes values answers) × (left ≡ replay_lists l kind codes values answers) × (out ≡ replay_answers l kind codes values answers)
          × ((m : ℕ) → ◌≡◌ {A = Result ℕ Refusal} (Ok (call_count codes)) (Ok m) → Claim l kind (calls_of codes values) left out)
      accepts_built x e left is out written =
          let v = build_yes l kind numbers flags is-numbers is-flags x e in
          let z = built_is l kind numbers flags is-numbers is-flags in
          accepts (calls_known_lem fit known ∙ v) v (fit_says codes values answers fit).1 left
          (is ∙ ap (λ b. stage kind b (call_at codes values) (call_count codes)) z)
          out
          (written ∙ ap (λ b. overwrite (call_count codes * 5) (answer_word kind b (call_at codes values)) answers) z)
