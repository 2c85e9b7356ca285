-- The words of a file one at a time: what a turn of the reading loop leaves to be read and laid. Assumes nothing.
use mathlib.Core.Path.{◌≡◌, refl, sym, ap, ◌∙◌}
use mathlib.Core.Bool.{true, false}
use mathlib.Core.List.{List, [], ◌∷◌}
use Prim.Native.Nat.{ℕ, suc, ◌+◌, ◌/◌, ◌%◌, ◌≤◌, ◌<◌}
use native.Mathlib.Numerals.{add-one}
use native.Mathlib.Omega.{arith}
use lib.Dec.{eqb}
use lib.ListN.{length, get_or, drop, length-map, get_or-map, drop_of_length-le}
use lib.Seq.{drop-cons}
use lib.Ieee.{Float}
use Rattle.views.proofs.Laws.{length-tabulate, at_tabulate}
use Rattle.job.specs.declared.order.Seen.{Seen}
use Rattle.std.proofs.Common.{None, Result, Ok, Err}
use Rattle.refusal.specs.declared.Reason.{Reason}
use Rattle.refusal.specs.declared.Reason.TheVariants.{Unended}
use Rattle.refusal.specs.declared.Refusal.{Refusal}
use Rattle.refusal.specs.Reasons.{refusal_at}
use Rattle.job.specs.Words.{word_at, words_of, Word, word, split, word_list}
use Rattle.job.specs.declared.words.Word as declared
use Rattle.job.specs.Kinds.{number_of_kind}
use Rattle.job.specs.Order.{last_of, refusal_of, tested, count_subpath, count_anchor, shape_after, advance, Fair}
use Rattle.job.specs.Lists.{put_shape, put_number, put_radius, lay_shapes, lay_numbers, lay_radii}
use Rattle.job.specs.Reading.{placed, settle, scan_from}
use Rattle.job.proofs.Orders.{kind_back, tested_err, tested_ok, passed, fair-after}

abbrev pub words_in : List ℕ → List Word
words_in bytes = word_list (words_of bytes)

pub words-length : (bytes : List ℕ) → length (words_in bytes) ≡ length bytes / 4
unfolding words_of
words-length bytes = length-map (words_of bytes) split ∙ length-tabulate (length bytes / 4) (word_at bytes)

pub words-end : (bytes : List ℕ) (i : ℕ) → length bytes / 4 ≤ i → drop i (words_in bytes) ≡ []
words-end bytes i h = let l : length (words_in bytes) ≤ i = omega (arith, words-length bytes) in drop_of_length-le (words_in bytes) l

-- ---- word i of the file, and its two parts
module _ (bytes : List ℕ) (i : ℕ) (h : i < length bytes / 4) where
  abbrev w : ℕ
  w = word_at bytes i

  abbrev k : ℕ
  k = w / 268435456

  abbrev v : ℕ
  v = w % 268435456

  next : drop i (words_in bytes) ≡ word k v ∷ drop (i + 1) (words_in bytes)
  unfolding words_of
  next =
      let e = words-length bytes in
      let d : get_or (words_in bytes) i (split 0) ≡ split w = get_or-map split (words_of bytes) i 0 ∙ ap split (at_tabulate 0 (length bytes / 4) (word_at bytes) i h) in
      drop-cons (words_in bytes) i (split 0) (omega arith) ∙ ap (λ x. x ∷ drop (suc i) (words_in bytes)) d ∙ ap (λ n. split w ∷ drop n (words_in bytes)) (sym (add-one i))

  module _ (s : Seen) where
    -- a word that is refused ends it
    pub turn_stops : (e : Refusal) → placed i (tested s w) ≡ Err e → scan_from s i (drop i (words_in bytes)) ≡ Err e
    unfolding scan_from settle
    turn_stops e = go (tested s w) refl
      where
        go : (t : Result declared.Word Reason) → tested s w ≡ t → placed i t ≡ Err e → scan_from s i (drop i (words_in bytes)) ≡ Err e
        go (Ok x) f g = let z : ◌≡◌ {A = ℕ} 0 1 = cc in absurd (omega arith)
        go (Err r) f g = let z : refusal_at r i ≡ e = cc in ap (scan_from s i) next ∙ rw (tested_err s w r f, z)

    -- one that is read goes on with the next
    module _ (x : declared.Word) (ok : placed i (tested s w) ≡ Ok x) where
      passed_test : tested s w ≡ Ok x
      passed_test = go (tested s w) refl ok
        where
          go : (t : Result declared.Word Reason) → tested s w ≡ t → placed i t ≡ Ok x → tested s w ≡ Ok x
          go (Ok y) f g = let z : y ≡ x = cc in cc
          go (Err r) f g = let z : ◌≡◌ {A = ℕ} 0 1 = cc in absurd (omega arith)

      abbrev kind : ℕ
      kind = number_of_kind x.kind

      pub turn_passes : refusal_of s kind x.payload ≡ None
      turn_passes = let f = tested_ok s w x passed_test in rw (f.0, f.1) f.2

      pub turn_small : x.payload ≤ 268435456
      turn_small = let f = tested_ok s w x passed_test in omega (arith, f.1)

      next_word : drop i (words_in bytes) ≡ word kind x.payload ∷ drop (i + 1) (words_in bytes)
      next_word = let f = tested_ok s w x passed_test in rw (f.0, f.1) next

      module _ (t : Seen) (e : t ≡ advance s x.kind x.payload) where
        pub turn_fair : Fair s → Fair t
        turn_fair f = rw (e, ← kind_back x.kind) (fair-after s kind x.payload (passed s kind x.payload turn_passes) f)

        pub turn_reads : scan_from t (i + 1) (drop (i + 1) (words_in bytes)) ≡ scan_from s i (drop i (words_in bytes))
        unfolding scan_from settle
        turn_reads = sym (ap (scan_from s i) next_word ∙ rw (turn_passes, kind_back x.kind, ← e, add-one))

        pub turn_shapes : (xs : List ℕ) → lay_shapes t.subpaths t.shape (drop (i + 1) (words_in bytes)) (put_shape t.subpaths x.kind t.shape xs) ≡ lay_shapes s.subpaths s.shape (drop i (words_in bytes)) xs
        unfolding lay_shapes advance
        turn_shapes xs =
            rw (e, next_word) (sym (ap (λ k. let n = count_subpath k s.subpaths in let now = shape_after k x.payload s.shape in lay_shapes n now (drop (i + 1) (words_in bytes)) (put_shape n k now xs)) (kind_back x.kind)))

        pub turn-numbers : (xs : List Float) → lay_numbers t.anchors (drop (i + 1) (words_in bytes)) (put_number t.anchors x.kind x.payload xs) ≡ lay_numbers s.anchors (drop i (words_in bytes)) xs
        unfolding lay_numbers advance
        turn-numbers xs =
            rw (e, next_word) (sym (ap (λ k. let n = count_anchor k s.anchors in lay_numbers n (drop (i + 1) (words_in bytes)) (put_number n k x.payload xs)) (kind_back x.kind)))

        pub turn_radii : (xs : List Float) → lay_radii t.anchors (drop (i + 1) (words_in bytes)) (put_radius t.anchors x.kind x.payload xs) ≡ lay_radii s.anchors (drop i (words_in bytes)) xs
        unfolding lay_radii advance
        turn_radii xs =
            rw (e, next_word) (sym (ap (λ k. let n = count_anchor k s.anchors in lay_radii n (drop (i + 1) (words_in bytes)) (put_radius n k x.payload xs)) (kind_back x.kind)))

-- ---- after the last word
pub end_lacks : (s : Seen) (i : ℕ) → eqb (last_of s) 15 ≡ false → scan_from s i [] ≡ Err (refusal_at Unended i)
unfolding scan_from
end_lacks s i e = rw e

pub end_done : (s : Seen) (i : ℕ) → eqb (last_of s) 15 ≡ true → scan_from s i [] ≡ Ok s
unfolding scan_from
end_done s i e = rw e
