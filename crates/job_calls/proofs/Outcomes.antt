-- What the tests of `read` come to, and what is then answered and left. Assumes nothing.
use mathlib.Core.Path.{◌≡◌, refl, sym, ap, ◌∙◌}
use mathlib.Core.Bool.{Bool, true, false, ◌&&◌, cond}
use mathlib.Core.List.{List}
use Prim.Native.Nat.{ℕ, ◌+◌, ◌*◌, ◌/◌, ◌%◌, ◌≤◌}
use native.Mathlib.Omega.{arith}
use lib.Dec.{leb}
use lib.ListN.{length, get_or, length-map}
use lib.Seq.{sets}
use lib.Ieee.{Float, nan}
use borrow.Author.Tests.{eq-eqb, ne_eqb, leb-true}
use Rattle.views.specs.View.{entry, overwrite}
use Rattle.views.proofs.Laws.{overwrite_cong}
use Rattle.views.proofs.Runs.{get_d_sets_in}
use Rattle.job.specs.declared.order.Seen.{Seen}
use Rattle.std.proofs.Common.{Ok, Err}
use Rattle.refusal.specs.declared.Reason.TheVariants.{Unended, Output}
use Rattle.refusal.specs.declared.Refusal.{Refusal}
use Rattle.refusal.specs.Reasons.{refusal_at}
use Rattle.job.specs.Words.{words_of}
use Rattle.job.specs.Grammar.{Job}
use Rattle.job.specs.Content.{job_of, shape_word, shape_words, radius_of, job_anchors, job_numbers, job_radii}
use Rattle.job.specs.Lists.{lay_shapes, lay_numbers, lay_radii}
use Rattle.job.specs.Reading.{scanned, reading_of, reading}
use Rattle.job_calls.specs.Call.{file_read, roomed, outcome, answer_of, shapes_left, anchors_left, radii_left, room_for, room_in, handed_answer, handed, answer_read, shapes_read, anchors_read, radii_read}
use Rattle.job.proofs.Theorems.{Scanned, scan_scanned}
use Rattle.job.proofs.Laying.{shapes_laid, numbers-laid, numbers-length, radii_laid}
use Rattle.job_calls.proofs.Turns.{words_in}

-- ---- a list whose first entries are copied
copied : {A : Type 0} (d : A) (vs zs out : List A) (n : ℕ) → n ≡ length vs → length vs ≤ length zs
    → overwrite n (λ i. get_or (sets zs 0 vs) i d) out ≡ overwrite n (λ i. get_or vs i d) out
copied d vs zs out n e h =
    overwrite_cong n _ _ out (λ i l. let z : i ≡ 0 + i = omega arith in ap (λ j. get_or (sets zs 0 vs) j d) z ∙ get_d_sets_in d vs zs 0 i (omega arith) (omega arith))

-- ---- room for m subpaths and n anchors
pub roomy : (m n a b c : ℕ) → room_for m n a b c ≡ true → (m ≤ a) × (n * 6 ≤ b) × (n ≤ c)
unfolding room_for
roomy m n a b c = go (leb m a) refl (leb (n * 6) b) refl (leb n c) refl
  where
    go : (p : Bool) → leb m a ≡ p → (q : Bool) → leb (n * 6) b ≡ q → (r : Bool) → leb n c ≡ r → (p && (q && r)) ≡ true → (m ≤ a) × (n * 6 ≤ b) × (n ≤ c)
    go true e true f true g h = (leb-true m a e, leb-true (n * 6) b f, leb-true n c g)
    go true e true f false g h = let z : ◌≡◌ {A = ℕ} 0 1 = cc in absurd (omega arith)
    go true e false f r g h = let z : ◌≡◌ {A = ℕ} 0 1 = cc in absurd (omega arith)
    go false e q f r g h = let z : ◌≡◌ {A = ℕ} 0 1 = cc in absurd (omega arith)

module _ (bytes shapes : List ℕ) (anchors radii : List Float) where
  -- ---- refused
  pub length_fails : (length bytes % 4 ≡ 0 → ⊥) → outcome bytes shapes anchors radii ≡ Err (refusal_at Unended (length bytes / 4))
  unfolding outcome
  length_fails n = rw (ne_eqb (length bytes % 4) 0 n)

  file : length bytes % 4 ≡ 0 → file_read bytes ≡ reading (words_of bytes)
  unfolding file_read
  file h = rw (eq-eqb (length bytes % 4) 0 h)

  pub word_fails : length bytes % 4 ≡ 0 → (r : Refusal) → scanned (words_of bytes) ≡ Err r → outcome bytes shapes anchors radii ≡ Err r
  unfolding outcome reading
  word_fails h r e = ap (λ r. roomed r (length shapes) (length anchors) (length radii)) (file h ∙ ap (λ r. reading_of r (job_of (words_in bytes))) e)

  -- what a refusal answers and leaves
  module _ (r : Refusal) (e : outcome bytes shapes anchors radii ≡ Err r) where
    pub refused-answer : Err r ≡ answer_read bytes shapes anchors radii
    unfolding answer_read answer_of
    refused-answer = sym (ap answer_of e)

    pub refused_shapes : shapes ≡ shapes_read bytes shapes anchors radii
    unfolding shapes_read shapes_left
    refused_shapes = sym (ap (λ r. shapes_left r shapes) e)

    pub refused_anchors : anchors ≡ anchors_read bytes shapes anchors radii
    unfolding anchors_read anchors_left
    refused_anchors = sym (ap (λ r. anchors_left r anchors) e)

    pub refused_radii : radii ≡ radii_read bytes shapes anchors radii
    unfolding radii_read radii_left
    refused_radii = sym (ap (λ r. radii_left r radii) e)

  -- ---- read to the end word
  module _ (whole : length bytes % 4 ≡ 0) (t : Seen) (done : scanned (words_of bytes) ≡ Ok t) where
    abbrev j : Job
    j = job_of (words_in bytes)

    pub facts : Scanned (words_in bytes) t
    unfolding scanned
    facts = scan_scanned (words_in bytes) t done

    read-job : file_read bytes ≡ Ok j
    unfolding reading reading_of
    read-job = file whole ∙ ap (λ r. reading_of r j) done

    room-is : room_for t.subpaths t.anchors (length shapes) (length anchors) (length radii) ≡ room_for (length j.subpaths) (length (job_anchors j)) (length shapes) (length anchors) (length radii)
    room-is = rw (facts.subpaths, facts.anchors)

    room_fails : room_for t.subpaths t.anchors (length shapes) (length anchors) (length radii) ≡ false → outcome bytes shapes anchors radii ≡ Err (refusal_at Output 0)
    unfolding outcome roomed
    room_fails e = rw (read-job, sym room-is ∙ e)

    module _ (room : room_for t.subpaths t.anchors (length shapes) (length anchors) (length radii) ≡ true) where
      all_hold : outcome bytes shapes anchors radii ≡ Ok j
      unfolding outcome roomed
      all_hold = rw (read-job, sym room-is ∙ room)

      read_answer : Ok (record { kind = t.head; subpaths = t.subpaths; anchors = t.anchors }) ≡ answer_read bytes shapes anchors radii
      unfolding answer_read answer_of
      read_answer = rw (facts.head, facts.subpaths, facts.anchors) (sym (ap answer_of all_hold))

      -- from the lists that the words were laid to
      read_shapes : (zs ws : List ℕ) → length zs ≡ 32 → ws ≡ lay_shapes 0 0 (words_in bytes) zs → overwrite t.subpaths (λ i. get_or ws i 0) shapes ≡ shapes_read bytes shapes anchors radii
      unfolding shapes_read shapes_left
      read_shapes zs ws l e =
          let f = facts in
          let g = f.fair in
          let n = length-map j.subpaths shape_word in
          rw (e ∙ ap (λ u. lay_shapes 0 0 u zs) f.words ∙ shapes_laid j zs)
          (copied 0 (shape_words j) zs shapes t.subpaths (f.subpaths ∙ sym n) (omega (arith, g.subpaths, f.subpaths))
          ∙ rw f.subpaths (sym (ap (λ r. shapes_left r shapes) all_hold)))

      read_anchors : (zs ws : List Float) → length zs ≡ 3072 → ws ≡ lay_numbers 0 (words_in bytes) zs → overwrite (t.anchors * 6) (entry ws) anchors ≡ anchors_read bytes shapes anchors radii
      unfolding anchors_read anchors_left
      read_anchors zs ws l e =
          let f = facts in
          let g = f.fair in
          let n = numbers-length (job_anchors j) in
          rw (e ∙ ap (λ u. lay_numbers 0 u zs) f.words ∙ numbers-laid j zs)
          (copied nan (job_numbers j) zs anchors (t.anchors * 6) (ap (λ m. m * 6) f.anchors ∙ sym n) (omega (arith, g.anchors, f.anchors))
          ∙ rw f.anchors (sym (ap (λ r. anchors_left r anchors) all_hold)))

      read_radii : (zs ws : List Float) → length zs ≡ 512 → ws ≡ lay_radii 0 (words_in bytes) zs → overwrite t.anchors (entry ws) radii ≡ radii_read bytes shapes anchors radii
      unfolding radii_read radii_left
      read_radii zs ws l e =
          let f = facts in
          let g = f.fair in
          let n = length-map (job_anchors j) radius_of in
          rw (e ∙ ap (λ u. lay_radii 0 u zs) f.words ∙ radii_laid j zs)
          (copied nan (job_radii j) zs radii t.anchors (f.anchors ∙ sym n) (omega (arith, g.anchors, f.anchors))
          ∙ rw f.anchors (sym (ap (λ r. radii_left r radii) all_hold)))

    -- with room or without
    abbrev room : Bool
    room = room_in t shapes anchors radii

    pub handed-answer : handed_answer room t ≡ answer_read bytes shapes anchors radii
    unfolding handed_answer
    handed-answer = go room refl
      where
        go : (b : Bool) → room ≡ b → cond b (Ok (record { kind = t.head; subpaths = t.subpaths; anchors = t.anchors })) (Err (refusal_at Output 0)) ≡ answer_read bytes shapes anchors radii
        go true e = read_answer e
        go false e = refused-answer (refusal_at Output 0) (room_fails e)

    pub handed_shapes_lem : (zs ws : List ℕ) → length zs ≡ 32 → ws ≡ lay_shapes 0 0 (words_in bytes) zs → handed room t.subpaths (λ i. get_or ws i 0) shapes ≡ shapes_read bytes shapes anchors radii
    unfolding handed
    handed_shapes_lem zs ws l laid = go room refl
      where
        go : (b : Bool) → room ≡ b → cond b (overwrite t.subpaths (λ i. get_or ws i 0) shapes) shapes ≡ shapes_read bytes shapes anchors radii
        go true e = read_shapes e zs ws l laid
        go false e = refused_shapes (refusal_at Output 0) (room_fails e)

    pub handed_anchors_lem : (zs ws : List Float) → length zs ≡ 3072 → ws ≡ lay_numbers 0 (words_in bytes) zs → handed room (t.anchors * 6) (entry ws) anchors ≡ anchors_read bytes shapes anchors radii
    unfolding handed
    handed_anchors_lem zs ws l laid = go room refl
      where
        go : (b : Bool) → room ≡ b → cond b (overwrite (t.anchors * 6) (entry ws) anchors) anchors ≡ anchors_read bytes shapes anchors radii
        go true e = read_anchors e zs ws l laid
        go false e = refused_anchors (refusal_at Output 0) (room_fails e)

    pub handed_radii : (zs ws : List Float) → length zs ≡ 512 → ws ≡ lay_radii 0 (words_in bytes) zs → handed room t.anchors (entry ws) radii ≡ radii_read bytes shapes anchors radii
    unfolding handed
    handed_radii zs ws l laid = go room refl
      where
        go : (b : Bool) → room ≡ b → cond b (overwrite t.anchors (entry ws) radii) radii ≡ radii_read bytes shapes anchors radii
        go true e = read_radii e zs ws l laid
        go false e = refused_radii (refusal_at Output 0) (room_fails e)
