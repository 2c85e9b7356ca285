-- What a job that is read gives: lists of a drawing that passes its tests, so that 5 and 7 cannot follow. Assumes nothing.
use mathlib.Core.Path.{◌≡◌, refl, sym, subst, ◌∙◌}
use mathlib.Core.Bool.{Bool, true, false, cond}
use mathlib.Core.List.{List, [], ◌∷◌, map}
use Prim.Native.Nat.{ℕ, zero, suc, ◌+◌, ◌*◌, ◌/◌, ◌%◌, ◌≤◌, ◌<◌}
use native.Mathlib.Omega.{arith}
use lib.Dec.{eqb}
use lib.ListN.{length, get_or, take, length-append, length-map}
use lib.Seq.{ext_get_or, length-take-le, get_or-take}
use lib.Ieee.{Float, nan}
use borrow.Author.Tests.{le-leb, lt-leb}
use Rattle.views.specs.View.{overwrite}
use Rattle.views.proofs.Laws.{length-overwrite, at_overwrite}
use Rattle.path.specs.Shape.{total}
use Rattle.path.specs.Limit.{place_in}
use Rattle.path.proofs.Limits.{GoodBelow, anchor_in_lem, place_in_lem}
use Rattle.path.proofs.Shapes.{Fits}
use Rattle.call.proofs.Openings.{drawing_good, drawing_opens}
use Rattle.corner.specs.declared.kind.CornerKind.{CornerKind}
use Rattle.corner.specs.declared.kind.CornerKind.TheVariants.{Round, Inverted, Chamfer}
use Rattle.std.proofs.Common.{Some, Result, Ok, Err}
use Rattle.refusal.specs.declared.Refusal.{Refusal}
use Rattle.refusal.specs.Reasons.{number_of, refusal_at}
use Rattle.refusal.specs.declared.Reason.TheVariants.{Unended}
use Rattle.corner.specs.Kinds.{kind_of}
use Rattle.cache.proofs.Accepted.{Drawn}
use Rattle.job_calls.specs.declared.result.Read.{Read}
use Rattle.job.specs.Words.{words_of}
use Rattle.job.specs.Grammar.{Subpath, Job, anchors_of, Within}
use Rattle.job.specs.Content.{shape_word, shape_words, radius_of, job_anchors, job_numbers, job_radii}
use Rattle.job.specs.Reading.{reading}
use Rattle.job_calls.specs.Call.{file_read, room_for, roomed, outcome, answer_of, shapes_left, anchors_left, radii_left, answer_read, shapes_read, anchors_read, radii_read}
use Rattle.job.proofs.Theorems.{sound}
use Rattle.job.proofs.Numbers.{job-numbers_in, job_radii_in, shape_count}
use Rattle.job.proofs.Laying.{numbers-length}
use Rattle.printing.specs.Refused.{refused_text}
use Rattle.printing.specs.Printed.{drawing_text, read_text, printed}

-- ---- the lists of a job
total_anchors : (ss : List Subpath) → length (anchors_of ss) ≤ 512 → total (map shape_word ss) ≡ length (anchors_of ss)
unfolding anchors_of
total_anchors [] h = refl
total_anchors (s ∷ ss) h =
    let a = length-append s.anchors (anchors_of ss) in
    let r = total_anchors ss (omega arith) in
    let c = shape_count s (omega arith) in
    omega arith

known_by : (k : ℕ) → k < 3 → (way : CornerKind) × (kind_of k ≡ Some way)
unfolding kind_of
known_by zero h = (Round, refl)
known_by (suc zero) h = (Inverted, refl)
known_by (suc (suc zero)) h = (Chamfer, refl)
known_by (suc (suc (suc k))) h = absurd (omega arith)

module _ (j : Job) (w : Within j) where
  count : total (shape_words j) ≡ length (job_anchors j)
  count = total_anchors j.subpaths w.few_anchors

  good : GoodBelow (place_in (job_numbers j) (job_radii j)) (total (shape_words j))
  good k l =
      let n = numbers-length (job_anchors j) in
      let r = length-map (job_anchors j) radius_of in
      let c = count in
      place_in_lem (job_numbers j) k (job_radii j) (anchor_in_lem (job_numbers j) k (λ i h. job-numbers_in j (k * 6 + i) (omega arith))) (job_radii_in j k (omega arith))

  pub job-drawn : Drawn (shape_words j) (job_numbers j) (job_radii j) j.kind
  job-drawn =
      let n = numbers-length (job_anchors j) in
      let r = length-map (job_anchors j) radius_of in
      let s = length-map j.subpaths shape_word in
      let c = count in
      let k = known_by j.kind w.known in
      let p = w.few_subpaths in
      let q = w.few_anchors in
      let f : Fits (shape_words j) 512 (total (shape_words j)) = record { words = omega arith; anchors = omega arith; count = refl } in
      record {
        opens = drawing_opens _ _ _ _ (sym (drawing_good (shape_words j) (job_numbers j) (job_radii j) _ f (omega arith) (omega arith) good));
        way = k.0;
        known = k.1;
      }

-- ---- what a file is read as
pub file_sound : (bytes : List ℕ) (j : Job) → file_read bytes ≡ Ok j → Within j
unfolding file_read
file_sound bytes j = go (eqb (length bytes % 4) 0)
  where
    go : (b : Bool) → cond b (reading (words_of bytes)) (Err (refusal_at Unended (length bytes / 4))) ≡ Ok j → Within j
    go true e = (sound (words_of bytes) j e).1
    go false e = let z : ◌≡◌ {A = ℕ} 0 1 = cc in absurd (omega arith)

-- the first entries of a list, once as many were written
front : {A : Type 0} (d : A) (vs xs : List A) (n : ℕ) → n ≡ length vs → n ≤ length xs → take n (overwrite n (λ i. get_or vs i d) xs) ≡ vs
front d vs xs n e h =
    let t = length-overwrite n (λ i. get_or vs i d) xs in
    ext_get_or d _ vs (length-take-le n _ (omega arith) ∙ e) (λ i l.
    let k : i < n = omega (arith, length-take-le n (overwrite n (λ i. get_or vs i d) xs) (omega arith)) in
    get_or-take n _ i d k ∙ at_overwrite d n _ xs i k (omega arith))

-- a job that was read into lists that have room for any
pub record Given (bytes shapes : List ℕ) (anchors radii : List Float) (r : Read) : Type 0 where
  pub job : Job
  pub within : Within job
  pub read : file_read bytes ≡ Ok job
  pub kind-is : r.kind ≡ job.kind
  pub words : take r.subpaths (shapes_read bytes shapes anchors radii) ≡ shape_words job
  pub numbers : take (r.anchors * 6) (anchors_read bytes shapes anchors radii) ≡ job_numbers job
  pub radii_are : take r.anchors (radii_read bytes shapes anchors radii) ≡ job_radii job
  pub few_words : r.subpaths ≤ 32
  pub few : r.anchors ≤ 512

module _ (bytes shapes : List ℕ) (anchors radii : List Float) (wide : length shapes ≡ 32) (long : length anchors ≡ 3072) (each : length radii ≡ 512) where
  pub refuses : {e : Refusal} → file_read bytes ≡ Err e → answer_read bytes shapes anchors radii ≡ Err e
  unfolding answer_read outcome roomed answer_of
  refuses h = rw h

  module _ (j : Job) (w : Within j) (e : file_read bytes ≡ Ok j) where
    has_room : room_for (length j.subpaths) (length (job_anchors j)) (length shapes) (length anchors) (length radii) ≡ true
    unfolding room_for
    has_room = let p = w.few_subpaths in let q = w.few_anchors in rw (le-leb (length j.subpaths) (length shapes) (omega arith), le-leb (length (job_anchors j) * 6) (length anchors) (omega arith), le-leb (length (job_anchors j)) (length radii) (omega arith))

    outcome-is : outcome bytes shapes anchors radii ≡ Ok j
    unfolding outcome roomed
    outcome-is = rw (e, has_room)

    pub accepts : answer_read bytes shapes anchors radii ≡ Ok (record { kind = j.kind; subpaths = length j.subpaths; anchors = length (job_anchors j) })
    unfolding answer_read answer_of
    accepts = rw outcome-is

    given : Given bytes shapes anchors radii (record { kind = j.kind; subpaths = length j.subpaths; anchors = length (job_anchors j) })
    unfolding shapes_read anchors_read radii_read shapes_left anchors_left radii_left
    given =
        let p = w.few_subpaths in
        let q = w.few_anchors in
        record {
          job = j;
          within = w;
          read = e;
          kind-is = refl;
          words = rw outcome-is (front 0 (shape_words j) shapes (length j.subpaths) (sym (length-map j.subpaths shape_word)) (omega arith));
          numbers = rw outcome-is (front nan (job_numbers j) anchors (length (job_anchors j) * 6) (sym (numbers-length (job_anchors j))) (omega arith));
          radii_are = rw outcome-is (front nan (job_radii j) radii (length (job_anchors j)) (sym (length-map (job_anchors j) radius_of)) (omega arith));
          few_words = p;
          few = q;
        }

  module _ (short : length bytes ≤ 32768) where
    printed-is : {r : Result Job Refusal} → file_read bytes ≡ r → read_text r ≡ printed bytes
    unfolding printed
    printed-is e = rw (le-leb (length bytes) 32768 short, e)

    pub read-refused : (r : Refusal) → answer_read bytes shapes anchors radii ≡ Err r → refused_text (number_of r.reason) r.place ≡ printed bytes
    unfolding read_text
    read-refused r a = go (file_read bytes) refl
      where
        same_text : {e : Refusal} → ◌≡◌ {A = Result Read Refusal} (Err e) (Err r) → refused_text (number_of r.reason) r.place ≡ refused_text (number_of e.reason) e.place
        same_text {e} q = let z : e ≡ r = cc in rw z

        go : (x : Result Job Refusal) → file_read bytes ≡ x → refused_text (number_of r.reason) r.place ≡ printed bytes
        go (Err e) h = same_text (sym (refuses h) ∙ a) ∙ printed-is h
        go (Ok j) h = let b = accepts j (file_sound bytes j h) h in let z : ◌≡◌ {A = ℕ} 0 1 = cc in absurd (omega arith)

    pub read-given : (r : Read) → answer_read bytes shapes anchors radii ≡ Ok r → Given bytes shapes anchors radii r
    read-given r a = go (file_read bytes) refl
      where
        moved : {x : Read} → ◌≡◌ {A = Result Read Refusal} (Ok x) (Ok r) → Given bytes shapes anchors radii x → Given bytes shapes anchors radii r
        moved {x} q g = let z : x ≡ r = cc in subst (Given bytes shapes anchors radii) z g

        go : (x : Result Job Refusal) → file_read bytes ≡ x → Given bytes shapes anchors radii r
        go (Err e) h = let b = refuses h in let z : ◌≡◌ {A = ℕ} 0 1 = cc in absurd (omega arith)
        go (Ok j) h = let w = file_sound bytes j h in moved (sym (accepts j w h) ∙ a) (given j w h)

    -- and its line is what is printed
    pub given-text : (r : Read) (g : Given bytes shapes anchors radii r)
        → drawing_text (take r.subpaths (shapes_read bytes shapes anchors radii)) (take (r.anchors * 6) (anchors_read bytes shapes anchors radii)) (take r.anchors (radii_read bytes shapes anchors radii)) r.kind ≡ printed bytes
    unfolding read_text
    given-text r g = rw (g.words, g.numbers, g.radii_are, g.kind-is) (printed-is g.read)

    pub given-drawn : (r : Read) (g : Given bytes shapes anchors radii r)
        → Drawn (take r.subpaths (shapes_read bytes shapes anchors radii)) (take (r.anchors * 6) (anchors_read bytes shapes anchors radii)) (take r.anchors (radii_read bytes shapes anchors radii)) r.kind
    given-drawn r g = rw (g.words, g.numbers, g.radii_are, g.kind-is) (job-drawn g.job g.within)

pub long_text : (bytes : List ℕ) → 32768 < length bytes → refused_text 1 8192 ≡ printed bytes
unfolding printed
long_text bytes h = rw (lt-leb (length bytes) 32768 h)
