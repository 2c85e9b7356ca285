-- Buffers that hold a drawing and its cut, put together: the plain cut, its words and how many anchors it has. Assumes nothing.
use mathlib.Core.Path.{◌≡◌, refl, sym, ap, ap₂, ◌∙◌}
use mathlib.Core.Bool.{Bool, true, false}
use mathlib.Core.List.{◌++◌}
use Prim.Native.Nat.{ℕ, zero, suc, ◌+◌, ◌-◌, ◌*◌, ◌≤◌, ◌<◌}
use native.Mathlib.Nat.{le_refl}
use native.Mathlib.Omega.{arith}
use lib.Dec.{leb}
use lib.ListN.{length}
use Rattle.views.specs.View.{entry, tabulate}
use Rattle.views.specs.Search.{count}
use Rattle.views.proofs.Laws.{tabulate_cong}
use Rattle.views.proofs.Searches.{count_cong}
use Rattle.path.specs.Shape.{count_of, closed_of, total, word_at, start, sub_of}
use Rattle.path.specs.Flat.{anchor_at}
use Rattle.cut.specs.Subpath.{view_of}
use Rattle.cut.specs.Places.{is_cut, place_at}
use Rattle.cut.specs.Rows.{flag_of}
use Rattle.cut.specs.Outline.{cut_corners}
use Rattle.cut.proofs.Outlines.{assembled-same, place_cut}
use Rattle.assembly.specs.Assembled.{place_read, subpath_outline, outline_up_to, outline_of, outline_shapes, outline_words}
use Rattle.assembly.proofs.Outlined.{outline-same, shapes_same, outline-length}
use Rattle.cut_calls.specs.PlainCut.{sub_at, cut_up_to, cut_shape}
use Rattle.cache.proofs.Reached.{start-number, end-number}
use Rattle.session.specs.Drawing.{Drawing, Lent, view_in}
use Rattle.cache.specs.Cache.{place_of_path}
use Rattle.cache.specs.Calls.{held_outline}
use Rattle.session.specs.Edits.{places_of}
use Rattle.session.specs.Outline.{plain_cut, cut_in, assembled_from}
use Rattle.session.specs.Demand.{Holds}
use Rattle.session.proofs.Lents.{anchor-is}
use Rattle.session.proofs.Splits.{place_in_lem}

-- ---- twelve numbers and a flag are a place
flag_read : (b : Bool) → leb 2147483648 (flag_of b) ≡ b
flag_read true = refl
flag_read false = refl

module _ (b : Lent) (m : Drawing) (held : Holds b m) where
  read_place : (k : ℕ) → k < total m.shapes → place_read b.numbers b.flags k ≡ places_of m k
  unfolding place_read
  read_place k l =
      let p = places_of m k in
      let s : anchor_at b.numbers (2 * k) ≡ p.start = anchor-is b.numbers (2 * k) p.start (λ i il. ap (entry b.numbers) (omega arith) ∙ held.numbers k i l (omega arith) ∙ start-number p i il) in
      let e : anchor_at b.numbers (2 * k + 1) ≡ p.end = anchor-is b.numbers (2 * k + 1) p.end (λ i il. ap (entry b.numbers) (omega arith) ∙ held.numbers k (6 + i) l (omega arith) ∙ end-number p i) in
      rw (s, e, held.flags k l, flag_read p.cut)

-- ---- the places of a drawing, put together, are its plain cut
module _ (m : Drawing) where
  subpath-cut : (s : ℕ) → s < length m.shapes → subpath_outline m.shapes (places_of m) s ≡ cut_corners (view_in m s)
  unfolding subpath_outline cut_corners view_in view_of sub_at
  subpath-cut s l =
      assembled-same (count_of (word_at m.shapes s)) (closed_of (word_at m.shapes s)) _ (place_at (view_in m s))
      (λ i h. place_in_lem m (start m.shapes s + i) s (record { there = l; low = omega arith; high = omega arith }) ∙ ap (place_at (view_in m s)) (omega arith))

  up_to_cut : (n : ℕ) → n ≤ length m.shapes → outline_up_to m.shapes (places_of m) n ≡ cut_up_to (view_in m) n
  unfolding outline_up_to cut_up_to
  up_to_cut zero l = refl
  up_to_cut (suc n) l = ap₂ ◌++◌ (up_to_cut n (omega arith)) (subpath-cut n l)

  pub outline-cut : outline_of m.shapes (places_of m) ≡ cut_up_to (view_in m) (length m.shapes)
  unfolding outline_of
  outline-cut = up_to_cut (length m.shapes) (le_refl (length m.shapes))

  word_cut : (s : ℕ) → s < length m.shapes → outline_shapes m.shapes (places_of m) s ≡ cut_shape (view_in m) s
  unfolding outline_shapes cut_shape view_in view_of sub_at
  word_cut s l = rw (subpath-cut s l)

  pub words-cut : outline_words m.shapes (places_of m) ≡ tabulate (length m.shapes) (cut_shape (view_in m))
  words-cut = tabulate_cong (length m.shapes) _ _ word_cut

  -- a place is cut exactly where its fitted radius exceeds 1e-9
  pub cut-fitted : (k : ℕ) → (places_of m k).cut ≡ cut_in m k
  unfolding places_of place_of_path cut_in is_cut
  cut-fitted k = place_cut (view_in m (sub_of m.shapes k)) (k - start m.shapes (sub_of m.shapes k))

module _ (b : Lent) (m : Drawing) (held : Holds b m) where
  pub outline_plain : assembled_from b ≡ plain_cut m
  unfolding assembled_from plain_cut held_outline
  outline_plain =
      rw held.shapes
      (λ t. record {
        words = (tabulate_cong (length m.shapes) _ _ (shapes_same m.shapes (place_read b.numbers b.flags) (places_of m) (read_place b m held)) ∙ words-cut m) t;
        anchors = (outline-same m.shapes (place_read b.numbers b.flags) (places_of m) (read_place b m held) ∙ outline-cut m) t;
      })

pub plain_count : (m : Drawing) → length (plain_cut m).anchors ≡ total m.shapes + count (cut_in m) (total m.shapes)
unfolding plain_cut
plain_count m =
    sym (ap length (outline-cut m))
    ∙ outline-length m.shapes (places_of m)
    ∙ ap (λ n. total m.shapes + n) (count_cong _ _ (total m.shapes) (λ k l. cut-fitted m k))
