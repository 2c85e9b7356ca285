-- What `replay` answers and leaves, put into lines: the calls' lines on the fresh cache. Assumes nothing.
use mathlib.Core.Path.{◌≡◌, refl, sym, ap, ap₂, ◌∙◌}
use mathlib.Core.Bool.{Bool, true, false, cond, true≢false}
use mathlib.Core.List.{List, [], ◌∷◌, ◌++◌, append-nil, append_assoc}
use mathlib.Core.Logic.{⊎_elim}
use Prim.Native.Nat.{ℕ, zero, suc, ◌+◌, ◌*◌, ◌%◌, ◌≤◌, ◌<◌}
use native.Mathlib.Nat.{le_refl, add-zero}
use native.Mathlib.Omega.{arith}
use lib.Dec.{eqb}
use lib.ListN.{length, get_or}
use lib.Ieee.{Float}
use borrow.Author.Tests.{leb-true, eq-eqb, le-leb}
use Rattle.views.specs.View.{tabulate, overwrite}
use Rattle.views.specs.Search.{all}
use Rattle.views.proofs.Laws.{at_overwrite, tabulate_more}
use Rattle.views.proofs.Searches.{all_false}
use Rattle.std.proofs.Common.{Ok, Err, Result}
use Rattle.refusal.specs.declared.Refusal.{Refusal}
use Rattle.refusal.specs.declared.Reason.TheVariants.{Arguments}
use Rattle.refusal.specs.Reasons.{number_of, refusal_at}
use Rattle.refusal.specs.Order.{holds, judge, accepted, refused}
use Rattle.refusal.proofs.Verdicts as verdicts
use Rattle.refusal.proofs.Verdicts.{holds_says, ok_says, err_says}
use Rattle.path.specs.declared.anchor.Anchor.{Anchor}
use Rattle.path.specs.Shape.{total, word_at, start}
use Rattle.path.proofs.Limits.{GoodBelow, search_to}
use Rattle.call.specs.Tests.{drawing_fits}
use Rattle.call.specs.Answers.{list_left}
use Rattle.cache.specs.Cache.{cached_in}
use Rattle.cache.specs.Tests.{cache_fits, cache_verdict}
use Rattle.cache.proofs.Accepted.{Drawn}
use Rattle.cache.proofs.Fitting.{fits-is}
use Rattle.cache.proofs.Outcomes.{cache_bad, cache_good, build-made}
use Rattle.session.specs.declared.answers.Edited.{Edited}
use Rattle.session.specs.Drawing.{Lent, drawn}
use Rattle.session.specs.Edits.{Call, move, set_radius, split, places_of}
use Rattle.session.specs.Calls.{lists_fit, lists_after, call_answer, call_lists, built_verdict, built_lists}
use Rattle.session.specs.Model.{lengths_of}
use Rattle.session.specs.Session.{played}
use Rattle.cached.specs.Opening.{lent}
use Rattle.replay.specs.Encoding.{call_of, call_at, call_count, calls_of, calls_fit, calls_known, told, stands, answer_words, subpath_of}
use Rattle.replay.specs.Replay.{stage, call_words, answer_word, replay_verdict, unknown_verdict, replay_answer, replay_lists, replay_answers}
use Rattle.replay.proofs.Stages.{stage-played, word_at_lem}
use Rattle.replay.proofs.Outcomes.{fit_says, calls_unknown, calls_known_lem}
use Rattle.reporting.specs.Codes.{which_of, index_of}
use Rattle.call_lines.specs.Lines.{window_of, sub_from, call_line, line_at, call_lines, Sound, SoundAll}
use Rattle.printing.specs.Printed.{fitted}
use Rattle.reporting.specs.Gathered.{held_text, Gathers}
use Rattle.reporting.specs.Report.{report_of, refusing, roomy, drawing, drawing_report}
use Rattle.reporting.proofs.Turns.{some_number, turn_line, line_refused, accepted_so, line-sound, line_accepted}
use Rattle.reporting.proofs.Sessions.{turn_lines}
use Rattle.reporting.proofs.Drawings.{way_places, lists_gather, report_ran, report_bad, report_unknown}

-- ---- a call by the words of its code
which_of_lem : (which s i : ℕ) (a : Anchor) → which ≤ 2 → which_of (call_of which s i a) ≡ which
unfolding which_of call_of
which_of_lem zero s i a h = refl
which_of_lem (suc zero) s i a h = refl
which_of_lem (suc (suc zero)) s i a h = refl
which_of_lem (suc (suc (suc w))) s i a h = absurd (omega arith)

index-of : (which s i : ℕ) (a : Anchor) → index_of (call_of which s i a) ≡ i
unfolding index_of call_of
index-of which s i a = go (eqb which 0) (eqb which 1)
  where
    go : (x y : Bool) → index_of (cond x (move s i a) (cond y (set_radius s i a.p.x) (split s i a.p.x))) ≡ i
    go true y = refl
    go false true = refl
    go false false = refl

all_says : (p : ℕ → Bool) (n k : ℕ) → all p n ≡ true → k < n → p k ≡ true
all_says p n k h l = go (p k) refl
  where
    go : (t : Bool) → p k ≡ t → p k ≡ true
    go true e = e
    go false e = absurd (true≢false (sym h ∙ all_false p n k l e))

-- ---- one line more
turn_more : (kind : ℕ) (cs : List Call) (c : Call) (l : Lent) → turn_lines kind l (cs ++ c ∷ []) ≡ turn_lines kind l cs ++ turn_line (played kind l cs) kind c
unfolding turn_lines played
turn_more kind [] c l = append-nil (turn_line l kind c)
turn_more kind (x ∷ cs) c l =
    ap (λ t. turn_line l kind x ++ t) (turn_more kind cs c (call_lists l kind x))
    ∙ sym (append_assoc (turn_line l kind x) (turn_lines kind (call_lists l kind x) cs) (turn_line (played kind (call_lists l kind x) cs) kind c))

module _ (kind : ℕ) (b : Lent) (codes : List ℕ) (values : List Float) (xs : List ℕ) (known : calls_known codes ≡ true) (room : call_count codes * 5 ≤ length xs) where
  abbrev f : ℕ → Call
  f = call_at codes values

  abbrev m : ℕ
  m = call_count codes

  -- the answers, and the lists on which call j is run
  abbrev ys : List ℕ
  ys = overwrite (m * 5) (answer_word kind b f) xs

  abbrev on : ℕ → Lent
  on j = stage kind b f j

  word : (j i : ℕ) → j < m → i < 5 → get_or ys (j * 5 + i) 0 ≡ get_or (call_words kind (on j) (f j)) i 0
  word j i jl il = at_overwrite 0 (m * 5) (answer_word kind b f) xs (j * 5 + i) (omega arith) (omega arith) ∙ word_at_lem kind b f j i il

  which_at : (j : ℕ) → j < m → get_or codes (j * 3) 0 ≡ which_of (f j)
  unfolding call_at calls_known
  which_at j l = sym (which_of_lem (get_or codes (j * 3) 0) _ _ _ (leb-true (get_or codes (j * 3) 0) 2 (all_says _ m j known l)))

  index_at : (j : ℕ) → get_or codes (j * 3 + 2) 0 ≡ index_of (f j)
  unfolding call_at
  index_at j = sym (index-of (get_or codes (j * 3) 0) _ (get_or codes (j * 3 + 2) 0) _)

  -- ---- the words of its answer
  refused-words : (j : ℕ) (why : Refusal) → call_answer (on j) kind (f j) ≡ Err why → call_words kind (on j) (f j) ≡ number_of why.reason ∷ why.place ∷ 0 ∷ 0 ∷ 0 ∷ []
  unfolding call_words answer_words told stands
  refused-words j why e = rw e

  accepted_words : (j : ℕ) (x : Edited) → call_answer (on j) kind (f j) ≡ Ok x
      → call_words kind (on j) (f j) ≡ 0 ∷ x.recut ∷ x.anchors ∷ start (call_lists (on j) kind (f j)).shapes (subpath_of (f j)) ∷ word_at (call_lists (on j) kind (f j)).shapes (subpath_of (f j)) ∷ []
  unfolding call_words answer_words told stands
  accepted_words j x e = rw e

  first_word : (j : ℕ) → j < m → get_or ys (j * 5) 0 ≡ get_or (call_words kind (on j) (f j)) 0 0
  first_word j l = ap (λ k. get_or ys k 0) (sym (add-zero (j * 5))) ∙ word j 0 l (omega arith)

  words-line : (j : ℕ) → j < m → line_at codes ys j
      ≡ call_line (which_of (f j)) (index_of (f j)) (get_or (call_words kind (on j) (f j)) 0 0) (get_or (call_words kind (on j) (f j)) 1 0) (get_or (call_words kind (on j) (f j)) 3 0) (get_or (call_words kind (on j) (f j)) 4 0)
  unfolding line_at
  words-line j l = rw (which_at j l, index_at j, first_word j l, word j 1 l (omega arith), word j 3 l (omega arith), word j 4 l (omega arith))

  line-is : (j : ℕ) → j < m → line_at codes ys j ≡ turn_line (on j) kind (f j)
  line-is j l = words-line j l ∙ go (call_answer (on j) kind (f j)) refl
    where
      go : (a : Result Edited Refusal) → call_answer (on j) kind (f j) ≡ a
          → call_line (which_of (f j)) (index_of (f j)) (get_or (call_words kind (on j) (f j)) 0 0) (get_or (call_words kind (on j) (f j)) 1 0) (get_or (call_words kind (on j) (f j)) 3 0) (get_or (call_words kind (on j) (f j)) 4 0)
          ≡ turn_line (on j) kind (f j)
      go (Err why) e = rw (refused-words j why e) (line_refused (on j) kind (f j) why 0 0 e)
      go (Ok x) e = let s = accepted_so (on j) kind (f j) x e in rw (accepted_words j x e) (line_accepted (on j) kind (f j) s.0 x e s.1)

  -- ---- all of them
  lines_to : (k : ℕ) → k ≤ m → call_lines codes ys k ≡ turn_lines kind b (tabulate k f)
  unfolding call_lines turn_lines tabulate
  lines_to zero h = refl
  lines_to (suc k) h =
      ap₂ ◌++◌ (lines_to k (omega arith)) (line-is k h ∙ ap (λ l. turn_line l kind (f k)) (stage-played kind k b f))
      ∙ sym (turn_more kind (tabulate k f) (f k) b) ∙ ap (turn_lines kind b) (sym (tabulate_more k f))

  pub lines_are : call_lines codes (overwrite (call_count codes * 5) (answer_word kind b (call_at codes values)) xs) (call_count codes) ≡ turn_lines kind b (tabulate (call_count codes) (call_at codes values))
  lines_are = lines_to m (le_refl m)

  pub answers-sound : SoundAll codes (overwrite (call_count codes * 5) (answer_word kind b (call_at codes values)) xs) (call_count codes)
  answers-sound j l e = rw (which_at j l, index_at j, word j 3 l (omega arith), word j 4 l (omega arith)) (go (call_answer (on j) kind (f j)) refl)
    where
      go : (a : Result Edited Refusal) → call_answer (on j) kind (f j) ≡ a → Sound (sub_from (get_or (call_words kind (on j) (f j)) 3 0) (get_or (call_words kind (on j) (f j)) 4 0)) (window_of (which_of (f j)) (index_of (f j)))
      go (Err why) q =
          let z : number_of why.reason ≡ 0 = ap (λ ws. get_or ws 0 0) (sym (refused-words j why q)) ∙ sym (first_word j l) ∙ e in
          absurd (omega (arith, some_number why.reason))
      go (Ok x) q = rw (accepted_words j x q) (line-sound (on j) kind (f j) (accepted_so (on j) kind (f j) x q).0)

-- ---- what it answers for a drawing that passes its tests, in lists that fit
pub calls_fit_lem : (codes : List ℕ) (values : List Float) (answers : List ℕ) → length codes % 3 ≡ 0 → call_count codes * 6 ≤ length values → call_count codes * 5 ≤ length answers
    → calls_fit codes values answers ≡ true
unfolding calls_fit
calls_fit_lem codes values answers e h l = rw (eq-eqb (length codes % 3) 0 e, le-leb (call_count codes * 6) (length values) h, le-leb (call_count codes * 5) (length answers) l)

module _ (l : Lent) (kind : ℕ) (codes : List ℕ) (values : List Float) (answers : List ℕ) (d : Drawn l.shapes l.anchors l.radii kind)
    (fit : cache_fits l.shapes l.numbers l.flags ≡ true) (calls : calls_fit codes values answers ≡ true) where
  abbrev cs : List Call
  cs = calls_of codes values

  lists_fit_lem : lists_fit l ≡ true
  unfolding lists_fit
  lists_fit_lem = rw (fit, holds_says (drawing_fits l.shapes l.anchors l.radii) 0 d.opens.lists_pass)

  -- a call that is none of the three
  none-verdict : calls_known codes ≡ false → replay_verdict l kind codes values answers ≡ refused (refusal_at Arguments (total l.shapes))
  unfolding unknown_verdict judge holds
  none-verdict h = calls_unknown l kind codes values answers calls h ∙ rw (lists_fit_lem, d.opens.places_good false)

  -- the cache of the drawing
  known_verdict : calls_known codes ≡ true → replay_verdict l kind codes values answers ≡ cache_verdict (cached_in (places_of (drawn l kind))) (total l.shapes)
  unfolding built_verdict
  known_verdict h =
      calls_known_lem l kind codes values answers calls h
      ∙ build-made l.shapes l.anchors l.radii kind l.numbers l.flags fit (total l.shapes) d.opens d.way d.known
      ∙ ap (λ p. cache_verdict (cached_in p) (total l.shapes)) (sym (way_places l kind d))

  -- ---- a refusal is all that is printed
  pub refused-report : (why : Refusal) → replay_answer l kind codes values answers ≡ Err why → refusing why ≡ drawing_report (calls_known codes) (calls_of codes values) (drawn l kind)
  unfolding replay_answer drawn
  refused-report why a = go (calls_known codes) refl
    where
      was : replay_verdict l kind codes values answers ≡ refused why
      was = err_says _ _ why a

      same_refusal : {w : Refusal} → refused w ≡ refused why → refusing why ≡ refusing w
      same_refusal {w} q = let z : w ≡ why = cc in rw z

      go : (t : Bool) → calls_known codes ≡ t → refusing why ≡ drawing_report t cs (drawn l kind)
      go false e = same_refusal (sym (none-verdict e) ∙ was) ∙ report_unknown (drawn l kind) cs
      go true e =
          ⊎_elim
          (λ g. absurd (verdicts.refusing why (sym was ∙ known_verdict e ∙ cache_good (cached_in (places_of (drawn l kind))) (total l.shapes) g)))
          (λ b. same_refusal (sym (known_verdict e ∙ cache_bad (cached_in (places_of (drawn l kind))) (total l.shapes) b.0 b.1) ∙ was) ∙ report_bad (drawn l kind) cs b.0 b.1)
          (search_to (cached_in (places_of (drawn l kind))) (total l.shapes))

  -- ---- else every call is run
  pub record Runs (n : ℕ) : Type 0 where
    pub count : n ≡ call_count codes
    pub known : calls_known codes ≡ true
    pub good : GoodBelow (cached_in (places_of (drawn l kind))) (total l.shapes)
    pub lists : replay_lists l kind codes values answers ≡ played kind (built_lists l kind) (calls_of codes values)
    pub told : replay_answers l kind codes values answers ≡ overwrite (call_count codes * 5) (answer_word kind (built_lists l kind) (call_at codes values)) answers

  pub done_runs : (n : ℕ) → replay_answer l kind codes values answers ≡ Ok n → Runs n
  unfolding replay_answer replay_lists lists_after replay_answers list_left
  done_runs n a = go (calls_known codes) refl
    where
      was : (replay_verdict l kind codes values answers ≡ accepted) × (call_count codes ≡ n)
      was = ok_says _ _ n a

      go : (t : Bool) → calls_known codes ≡ t → Runs n
      go false e = absurd (verdicts.refusing _ (sym (none-verdict e) ∙ was.0))
      go true e =
          ⊎_elim
          (λ g. record { count = sym was.1; known = e; good = g; lists = rw was.0; told = rw was.0 })
          (λ b. absurd (verdicts.refusing _ (sym (known_verdict e ∙ cache_bad (cached_in (places_of (drawn l kind))) (total l.shapes) b.0 b.1) ∙ was.0)))
          (search_to (cached_in (places_of (drawn l kind))) (total l.shapes))

  -- ---- what is then put
  module _ (n : ℕ) (runs : Runs n) where
    room : call_count codes * 5 ≤ length answers
    room = (fit_says codes values answers calls).1

    pub runs_sound : SoundAll codes (replay_answers l kind codes values answers) n
    runs_sound = rw (runs.told, runs.count) (answers-sound kind (built_lists l kind) codes values answers runs.known room)

    pub runs_gather : Gathers (replay_lists l kind codes values answers).shapes (replay_lists l kind codes values answers).numbers (replay_lists l kind codes values answers).flags
    runs_gather = rw runs.lists (lists_gather l kind d fit runs.good (calls_of codes values))

    lines-put : call_lines codes (replay_answers l kind codes values answers) n ≡ turn_lines kind (built_lists l kind) (calls_of codes values)
    unfolding calls_of
    lines-put = rw (runs.told, runs.count) (lines_are kind (built_lists l kind) codes values answers runs.known room)

    pub runs_report : lengths_of l ≡ roomy → drawing_report (calls_known codes) (calls_of codes values) (drawn l kind)
        ≡ report_of (call_lines codes (replay_answers l kind codes values answers) n)
        (fitted (held_text (replay_lists l kind codes values answers).shapes (replay_lists l kind codes values answers).numbers (replay_lists l kind codes values answers).flags))
    runs_report e = rw (runs.known, runs.lists, lines-put) (report_ran l kind d fit runs.good (calls_of codes values) e)

-- ---- in lists of the sizes that `report_drawing` has
module _ (shapes : List ℕ) (anchors radii : List Float) (kind : ℕ) (codes : List ℕ) (values : List Float) (d : Drawn shapes anchors radii kind)
    (anchors_long : length anchors ≡ 3072) (radii_long : length radii ≡ 512)
    (whole : length codes % 3 ≡ 0) (codes_few : length codes ≤ 768) (values_long : call_count codes * 6 ≤ length values)
    (numbers : List Float) (flags answers : List ℕ) (numbers_long : length numbers ≡ 6144) (flags_long : length flags ≡ 512) (answers_long : length answers ≡ 1280) where
  abbrev lists : Lent
  lists = lent shapes anchors radii numbers flags

  fit : cache_fits shapes numbers flags ≡ true
  fit =
      let a : total shapes * 12 ≤ length numbers = omega (arith, d.opens.few) in
      let b : total shapes ≤ length flags = omega (arith, d.opens.few) in
      fits-is shapes numbers flags (record { words = d.opens.words; few = d.opens.few; long = a; flag_each = b })

  calls : calls_fit codes values answers ≡ true
  calls = calls_fit_lem codes values answers whole values_long (omega arith)

  wide : lengths_of (lent shapes anchors radii numbers flags) ≡ roomy
  unfolding lengths_of
  wide = λ t. record { anchors = anchors_long t; radii = radii_long t; numbers = numbers_long t; flags = flags_long t }

  pub refused-drawing : (why : Refusal) → replay_answer (lent shapes anchors radii numbers flags) kind codes values answers ≡ Err why
      → refusing why ≡ drawing_report (calls_known codes) (calls_of codes values) (drawing shapes anchors radii kind)
  unfolding drawn
  refused-drawing why e = refused-report lists kind codes values answers d fit calls why e

  -- what n calls answered in a list and left in the cache's, as it is put
  pub record Told (n : ℕ) (left : Lent) (out : List ℕ) : Type 0 where
    pub few : n ≤ 256
    pub codes_each : n * 3 ≤ length codes
    pub sound : SoundAll codes out n
    pub gathers : Gathers left.shapes left.numbers left.flags
    pub report : drawing_report (calls_known codes) (calls_of codes values) (drawing shapes anchors radii kind)
        ≡ report_of (call_lines codes out n) (fitted (held_text left.shapes left.numbers left.flags))

  pub told_drawing : (n : ℕ) (left : Lent) (out : List ℕ) → replay_answer (lent shapes anchors radii numbers flags) kind codes values answers ≡ Ok n
      → left ≡ replay_lists (lent shapes anchors radii numbers flags) kind codes values answers
      → out ≡ replay_answers (lent shapes anchors radii numbers flags) kind codes values answers → Told n left out
  unfolding drawn
  told_drawing n left out e is written =
      let r = done_runs lists kind codes values answers d fit calls n e in
      let c : n ≡ call_count codes = r.count in
      record {
        few = omega arith;
        codes_each = omega arith;
        sound = rw written (runs_sound lists kind codes values answers d fit calls n r);
        gathers = rw is (runs_gather lists kind codes values answers d fit calls n r);
        report = rw (is, written) (runs_report lists kind codes values answers d fit calls n r wide);
      }
