-- A job in lists with room for any: a drawing that passes its tests, and what `edits` prints for it is what it prints for the job. Assumes nothing.
use mathlib.Core.Path.{◌≡◌, refl, sym, ap, ◌∙◌}
use mathlib.Core.Bool.{Bool, true}
use mathlib.Core.List.{List}
use Prim.Native.Nat.{ℕ, ◌+◌, ◌*◌, ◌≤◌, ◌<◌}
use native.Mathlib.Omega.{arith}
use lib.ListN.{length, take}
use lib.Seq.{length-take-le, get_or-take}
use lib.Ieee.{Float, nan}
use borrow.Author.Tests.{le-leb, lt-leb}
use Rattle.views.specs.View.{entry, tabulate}
use Rattle.views.proofs.Laws.{length-tabulate, length-overwrite}
use Rattle.real.specs.Operators.{0f}
use Rattle.path.specs.Shape.{total}
use Rattle.path.specs.Flat.{anchor_at}
use Rattle.path.specs.Limit.{place_in}
use Rattle.path.proofs.Limits.{GoodBelow, anchor_in_lem, place_in_lem}
use Rattle.path.proofs.Shapes.{Fits}
use Rattle.call.proofs.Openings.{drawing_good, drawing_opens}
use Rattle.cache.specs.Tests.{cache_fits}
use Rattle.cache.proofs.Accepted.{Drawn}
use Rattle.cache.proofs.Fitting.{fits-is}
use Rattle.job.specs.Grammar.{Job, Within}
use Rattle.job.specs.Content.{shape_words, job_numbers, job_radii}
use Rattle.std.proofs.Common.{Result, Ok, Err}
use Rattle.refusal.specs.declared.Refusal.{Refusal}
use Rattle.refusal.specs.declared.Reason.TheVariants.{Unended}
use Rattle.refusal.specs.Reasons.{refusal_at}
use Rattle.job_calls.specs.Call.{file_read, outcome, anchors_left, radii_left, answer_read, shapes_read, anchors_read, radii_read}
use Rattle.job_calls.specs.declared.result.Read.{Read}
use Rattle.job.proofs.Numbers.{job-numbers_in, job_radii_in}
use Rattle.session.specs.Drawing.{drawn}
use Rattle.session.specs.Edits.{Call}
use Rattle.session.specs.Model.{lengths_of}
use Rattle.session.proofs.Effects.{Alike}
use Rattle.session.proofs.Lents.{anchor-same}
use Rattle.printing.proofs.Jobs.{job-drawn, file_sound, Given, refuses, accepts}
use Rattle.cached.specs.Opening.{lent}
use Rattle.reporting.specs.Report.{refusing, drawing, job_drawing, roomy, drawing_report, read_report, job_report}
use Rattle.reporting.proofs.Drawings.{report-alike}

module _ (j : Job) (w : Within j) (n : ℕ) (few : n ≤ 512) (xs rs : List Float) (long : length xs ≡ 3072) (each : length rs ≡ 512)
    (numbers_are : take (n * 6) xs ≡ job_numbers j) (radii_are : take n rs ≡ job_radii j) where
  numbers_long : length (job_numbers j) ≡ n * 6
  numbers_long = ap length (sym numbers_are) ∙ length-take-le (n * 6) xs (omega arith)

  radii_long : length (job_radii j) ≡ n
  radii_long = ap length (sym radii_are) ∙ length-take-le n rs (omega arith)

  number_at : (i : ℕ) → i < n * 6 → entry xs i ≡ entry (job_numbers j) i
  number_at i h = sym (get_or-take (n * 6) xs i nan h) ∙ ap (λ l. entry l i) numbers_are

  radius_at : (k : ℕ) → k < n → entry rs k ≡ entry (job_radii j) k
  radius_at k h = sym (get_or-take n rs k nan h) ∙ ap (λ l. entry l k) radii_are

  -- it has n anchors at most
  few_places : total (shape_words j) ≤ n
  few_places = let o = (job-drawn j w).opens in omega (arith, o.radius_each, radii_long)

  good : GoodBelow (place_in xs rs) (total (shape_words j))
  good k l =
      let a = few_places in
      let b = numbers_long in
      let c = radii_long in
      place_in_lem xs k rs
      (anchor_in_lem xs k (λ i h. rw (number_at (k * 6 + i) (omega arith)) (job-numbers_in j (k * 6 + i) (omega arith))))
      (rw (radius_at k (omega arith)) (job_radii_in j k (omega arith)))

  pub lists_drawn : Drawn (shape_words j) xs rs j.kind
  lists_drawn =
      let d = job-drawn j w in
      let a = few_places in
      let f : Fits (shape_words j) 512 (total (shape_words j)) = record { words = d.opens.words; anchors = d.opens.few; count = refl } in
      record {
        opens = drawing_opens _ _ _ _ (sym (drawing_good (shape_words j) xs rs _ f (omega arith) (omega arith) good));
        way = d.way;
        known = d.known;
      }

  alike : Alike (shape_words j) (anchor_at xs) (anchor_at (job_numbers j)) (entry rs) (entry (job_radii j))
  alike =
      let a = few_places in
      record {
        anchors = λ k l. anchor-same xs (job_numbers j) k (λ i h. number_at i (omega arith));
        radii = λ k l. radius_at k (omega arith);
      }

  -- in lists with room for 512 anchors, whatever those of the cache hold
  abbrev numbers : List Float
  numbers = tabulate 6144 (λ i. 0f)

  abbrev flags : List ℕ
  flags = tabulate 512 (λ i. 0)

  fit : cache_fits (shape_words j) numbers flags ≡ true
  fit =
      let d = lists_drawn.opens in
      let a = length-tabulate 6144 (λ i. 0f) in
      let b = length-tabulate {A = ℕ} 512 (λ i. 0) in
      let e : total (shape_words j) * 12 ≤ length numbers = omega (arith, d.few) in
      let f : total (shape_words j) ≤ length flags = omega (arith, d.few) in
      fits-is (shape_words j) numbers flags (record { words = d.words; few = d.few; long = e; flag_each = f })

  wide : lengths_of (lent (shape_words j) xs rs numbers flags) ≡ roomy
  unfolding lengths_of
  wide = λ t. record { anchors = long t; radii = each t; numbers = length-tabulate 6144 (λ i. 0f) t; flags = length-tabulate {A = ℕ} 512 (λ i. 0) t }

  pub lists_report : (known : Bool) (cs : List Call) → drawing_report known cs (drawing (shape_words j) xs rs j.kind) ≡ drawing_report known cs (job_drawing j)
  unfolding drawn
  lists_report known cs = report-alike (lent (shape_words j) xs rs numbers flags) j.kind lists_drawn fit wide _ _ alike known cs

-- ---- the file's own refusals
pub report_long : (known : Bool) (cs : List Call) (bytes : List ℕ) → 32768 < length bytes → refusing (refusal_at Unended 8192) ≡ job_report known cs bytes
unfolding job_report
report_long known cs bytes h = rw (lt-leb (length bytes) 32768 h)

module _ (known : Bool) (cs : List Call) (bytes : List ℕ) (short : length bytes ≤ 32768) where
  pub report-read : {r : Result Job Refusal} → file_read bytes ≡ r → read_report known cs r ≡ job_report known cs bytes
  unfolding job_report
  report-read e = rw (le-leb (length bytes) 32768 short, e)

-- ---- what is read of it
module _ (bytes shapes : List ℕ) (anchors radii : List Float) (wide : length shapes ≡ 32) (long : length anchors ≡ 3072) (each : length radii ≡ 512) where
  numbers-left : length (anchors_read bytes shapes anchors radii) ≡ 3072
  unfolding anchors_read anchors_left
  numbers-left = go (outcome bytes shapes anchors radii)
    where
      go : (r : Result Job Refusal) → length (anchors_left r anchors) ≡ 3072
      go (Err e) = long
      go (Ok j) = length-overwrite _ _ anchors ∙ long

  radii_left_lem : length (radii_read bytes shapes anchors radii) ≡ 512
  unfolding radii_read radii_left
  radii_left_lem = go (outcome bytes shapes anchors radii)
    where
      go : (r : Result Job Refusal) → length (radii_left r radii) ≡ 512
      go (Err e) = each
      go (Ok j) = length-overwrite _ _ radii ∙ each

  module _ (known : Bool) (cs : List Call) (short : length bytes ≤ 32768) where
    pub read_refuses : (r : Refusal) → answer_read bytes shapes anchors radii ≡ Err r → refusing r ≡ job_report known cs bytes
    unfolding read_report
    read_refuses r a = go (file_read bytes) refl
      where
        same_refusal : {e : Refusal} → ◌≡◌ {A = Result Read Refusal} (Err e) (Err r) → refusing r ≡ refusing e
        same_refusal {e} q = let z : e ≡ r = cc in rw z

        go : (x : Result Job Refusal) → file_read bytes ≡ x → refusing r ≡ job_report known cs bytes
        go (Err e) h = same_refusal (sym (refuses bytes shapes anchors radii wide long each h) ∙ a) ∙ report-read known cs bytes short h
        go (Ok j) h =
            let b = accepts bytes shapes anchors radii wide long each j (file_sound bytes j h) h in
            let z : ◌≡◌ {A = ℕ} 0 1 = cc in absurd (omega arith)

    -- in lists xs, ns and rs that hold what is read
    module _ (r : Read) (g : Given bytes shapes anchors radii r) (xs : List ℕ) (ns rs : List Float) (x : xs ≡ shapes_read bytes shapes anchors radii)
        (y : ns ≡ anchors_read bytes shapes anchors radii) (z : rs ≡ radii_read bytes shapes anchors radii) where
      pub read-drawn : Drawn (take r.subpaths xs) ns rs r.kind
      read-drawn = rw (x, y, z, g.words, g.kind-is) (lists_drawn g.job g.within r.anchors g.few _ _ numbers-left radii_left_lem g.numbers g.radii_are)

      pub read-report : drawing_report known cs (drawing (take r.subpaths xs) ns rs r.kind) ≡ job_report known cs bytes
      unfolding read_report
      read-report =
          rw (x, y, z, g.words, g.kind-is) (lists_report g.job g.within r.anchors g.few _ _ numbers-left radii_left_lem g.numbers g.radii_are known cs)
          ∙ report-read known cs bytes short g.read
