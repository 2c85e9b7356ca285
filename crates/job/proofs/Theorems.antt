-- The reader accepts exactly what the grammar writes, within the limits, and reads it as what was written. Assumes nothing.
use mathlib.Core.Path.{◌≡◌, refl, sym, ap, ap₂, subst, ◌∙◌}
use mathlib.Core.Bool.{Bool, true, false, ◌&&◌}
use mathlib.Core.List.{List, [], ◌∷◌, map}
use Prim.Native.Nat.{ℕ, ◌+◌, ◌*◌, ◌/◌, ◌%◌, ◌≤◌, ◌<◌}
use native.Mathlib.Omega.{arith}
use lib.Dec.{ltb}
use lib.ListN.{length}
use borrow.Author.Tests.{lt-ltb, ltb-true}
use Rattle.job.specs.declared.kinds.Kind.TheVariants.{Head}
use Rattle.job.specs.declared.order.Seen.{Seen}
use Rattle.std.proofs.Common.{Result, Ok, Err}
use Rattle.refusal.specs.declared.Refusal.{Refusal}
use Rattle.job.specs.Words.{Word, word, split, joined, word_list}
use Rattle.job.specs.Grammar.{Job, rest_then, pair_then, radius_then, anchors_then, subpaths_then, end, spelled, written, anchors_of, in_range, Within}
use Rattle.job.specs.Kinds.{kind_of}
use Rattle.job.specs.Order.{payloads, advance, start, Fair}
use Rattle.job.specs.Content.{job_of}
use Rattle.job.specs.Reading.{scan_from, scanned, reading_of, reading}
use Rattle.job.proofs.Shapes.{Shaped}
use Rattle.job.proofs.Scans.{scan_word, scan_shaped, scan_counts, scan_fair, scan_some, scan_head}
use Rattle.job.proofs.Spelling.{job-back}
use Rattle.job.proofs.Accepting.{accepted_spelling}

-- ---- words and their two parts
split-joined : (ws : List Word) → in_range ws ≡ true → word_list (map joined ws) ≡ ws
unfolding in_range
split-joined [] h = refl
split-joined (w ∷ ws) h = go (ltb w.payload 268435456) refl h (split-joined ws)
  where
    go : (b : Bool) → ltb w.payload 268435456 ≡ b → (b && in_range ws) ≡ true → (in_range ws ≡ true → word_list (map joined ws) ≡ ws) → split (joined w) ∷ word_list (map joined ws) ≡ w ∷ ws
    go true e h later =
        let l = ltb-true w.payload 268435456 e in
        let k : (w.kind * 268435456 + w.payload) / 268435456 ≡ w.kind = omega arith in
        let v : (w.kind * 268435456 + w.payload) % 268435456 ≡ w.payload = omega arith in
        ap₂ ◌∷◌ (ap₂ word k v) (later h)
    go false e h later = let z : ◌≡◌ {A = ℕ} 0 1 = cc in absurd (omega arith)

joined-split : (ws : List ℕ) → map joined (word_list ws) ≡ ws
joined-split [] = refl
joined-split (w ∷ ws) = let e : w / 268435456 * 268435456 + w % 268435456 ≡ w = omega arith in ap₂ ◌∷◌ e (joined-split ws)

split-small : (ws : List ℕ) → in_range (word_list ws) ≡ true
unfolding in_range
split-small [] = refl
split-small (w ∷ ws) = rw (lt-ltb (w % 268435456) 268435456 (omega arith)) (split-small ws)

-- ---- what was scanned to its end: its words, its counts and its limits
pub record Scanned (ws : List Word) (t : Seen) : Type 0 where
  pub words : ws ≡ spelled (job_of ws)
  pub head : t.head ≡ (job_of ws).kind
  pub subpaths : t.subpaths ≡ length (job_of ws).subpaths
  pub anchors : t.anchors ≡ length (anchors_of (job_of ws).subpaths)
  pub known : (job_of ws).kind < 3
  pub some_subpath : 1 ≤ t.subpaths
  pub fair : Fair t

module _ (ws : List Word) (t : Seen) (h : scan_from start 0 ws ≡ Ok t) where
  shaped : Shaped 16 ws
  shaped = scan_shaped ws start 0 t h

  as_spelled : ws ≡ spelled (job_of ws)
  unfolding spelled job_of rest_then pair_then radius_then anchors_then
  as_spelled = let k = shaped.lacks in shaped.words ∙ rw (k.0, k.1, k.2, k.3)

  -- the head, read first
  first : scan_from start 0 (word 0 (job_of ws).kind ∷ subpaths_then (job_of ws).subpaths end) ≡ Ok t
  unfolding spelled
  first = ap (scan_from start 0) (sym as_spelled) ∙ h

  head_is : t.head ≡ (job_of ws).kind
  unfolding advance kind_of
  head_is = scan_head (subpaths_then (job_of ws).subpaths end) (advance start Head (job_of ws).kind) 1 t (λ e. omega arith) (scan_word start 0 0 (job_of ws).kind _ t first).1

  known_is : (job_of ws).kind < 3
  unfolding payloads kind_of
  known_is = ltb-true (job_of ws).kind 3 (scan_word start 0 0 (job_of ws).kind _ t first).0.listed

  pub scan_scanned : Scanned ws t
  unfolding job_of
  scan_scanned =
      let c = scan_counts ws start 0 t h in
      let k = shaped.lacks in
      record {
        words = as_spelled;
        head = head_is;
        subpaths = omega (arith, c.0);
        anchors = omega (arith, c.1, ap length k.3);
        known = known_is;
        some_subpath = scan_some ws start 0 t (λ e. omega arith) h;
        fair = scan_fair ws start 0 t (record { subpaths = omega arith; anchors = omega arith; shape = omega arith }) h;
      }

-- ---- the theorems
-- every job within the limits is read as itself
pub complete : (j : Job) → Within j → reading (written j) ≡ Ok j
unfolding written reading reading_of scanned
complete j w =
    let e = split-joined (spelled j) w.payloads in
    ap₂ reading_of (ap (scan_from start 0) e ∙ (accepted_spelling j w).1) (ap job_of e ∙ job-back j)

-- every list of words that is read is what its job writes, and that job is within the limits
pub sound : (ws : List ℕ) (j : Job) → reading ws ≡ Ok j → (ws ≡ written j) × Within j
unfolding reading reading_of scanned written
sound ws j = go (scanned ws) refl
  where
    within : (t : Seen) → Scanned (word_list ws) t → Within (job_of (word_list ws))
    within t c =
        let e = c.subpaths in
        let f = c.anchors in
        let g = c.fair in
        record {
          known = c.known;
          some_subpath = omega (arith, c.some_subpath);
          few_subpaths = omega (arith, g.subpaths);
          few_anchors = omega (arith, g.anchors);
          payloads = ap in_range (sym c.words) ∙ split-small ws;
        }

    go : (r : Result Seen Refusal) → scanned ws ≡ r → reading_of r (job_of (word_list ws)) ≡ Ok j → (ws ≡ written j) × Within j
    go (Err r) e h = let z : ◌≡◌ {A = ℕ} 0 1 = cc in absurd (omega arith)
    go (Ok t) e h =
        let c = scan_scanned (word_list ws) t e in
        let i : job_of (word_list ws) ≡ j = cc in
        subst (λ k. (ws ≡ written k) × Within k) i (sym (joined-split ws) ∙ ap (map joined) c.words, within t c)
