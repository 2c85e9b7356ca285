-- Laws of the subpaths that stay, moved down over those that go: one subpath more, and what both lists hold in the end. Assumes nothing.
use mathlib.Core.Path.{◌≡◌, refl, sym, ap, ◌∙◌}
use mathlib.Core.Logic.{⊎_elim}
use mathlib.Core.Bool.{Bool, true, false, not, cond}
use mathlib.Core.List.{List, [], ◌∷◌, ◌++◌, append-nil}
use Prim.Native.Nat.{ℕ, zero, suc, ◌+◌, ◌*◌, ◌≤◌, ◌<◌}
use native.Mathlib.Nat.{le_refl}
use native.Mathlib.Numerals.{add-one}
use native.Mathlib.Omega.{arith}
use lib.ListN.{length, get_or, set, take, drop, length-set, length-append, get_or-append}
use Rattle.std.proofs.lemmas.List.{length-take-le, get_or-take, length-drop, get_or-drop}
use lib.Seq.{get_or_at}
use lib.Ieee.{Float, nan}
use Rattle.views.specs.View.{entry, overwrite}
use Rattle.views.specs.Search.{count}
use Rattle.views.proofs.Searches.{count_cong}
use Rattle.views.proofs.Laws.{order, fill_more, keep_more, as_overwrite, past_overwrite}
use Rattle.path.specs.declared.anchor.Anchor.{Anchor}
use Rattle.path.specs.Flat.{anchor_at, put_anchor, put_all, listed}
use Rattle.path.specs.Shape.{count_of, total, word_at, start}
use Rattle.path.proofs.Shapes.{total-next, total_in, total-end}
use Rattle.path.proofs.Places.{length-put, put_keep}
use Rattle.path.proofs.Puts.{put_next, put-listed}
use Rattle.call.specs.declared.answers.Outline.{Outline}
use Rattle.removal.specs.Deleted.{retained, subpath_left, subpath_stays, word_left, words_up_to, anchors_up_to, kept_words, kept_anchors}
use Rattle.removal.specs.Marks.{kept_at, kept_in}
use Rattle.removal.proofs.Retained.{retained_kept, retained_gone, retained-count, retained_most, retained-same}

-- ---- one anchor moved
-- an anchor of lists that agree from place n on
pub at_past : (ys xs : List Float) (n k : ℕ) → n ≤ k → ((j : ℕ) → n * 6 ≤ j → entry ys j ≡ entry xs j) → anchor_at ys k ≡ anchor_at xs k
at_past ys xs n k l h =
    rw (h (k * 6) (omega arith), h (k * 6 + 1) (omega arith), h (k * 6 + 2) (omega arith), h (k * 6 + 3) (omega arith), h (k * 6 + 4) (omega arith), h (k * 6 + 5) (omega arith))

pub put_one : (xs ys : List Float) (k : ℕ) (a b : Anchor) → ys ≡ put_anchor xs k a → a ≡ b → ys ≡ put_all xs k (b ∷ [])
unfolding put_all
put_one xs ys k a b e f = e ∙ ap (put_anchor xs k) f

-- ---- of the first i anchors from place `first` on, those that are kept moved to `at`: the next goes to `next`
module _ (gone : List Bool) (xs : List Float) (first at : ℕ) where
  abbrev here : ℕ → List Anchor
  here = retained (kept_at gone) (λ k. anchor_at xs (first + k))

  abbrev pub MovedTo : List Float → ℕ → ℕ → Type 0
  MovedTo ys next i =
      (next ≤ first + i) × (length ys ≡ length xs) × (next ≡ at + length (here i)) × (ys ≡ put_all xs at (here i)) × ((j : ℕ) → next * 6 ≤ j → entry ys j ≡ entry xs j)

  pub moved_none : at ≤ first → MovedTo xs at 0
  unfolding retained put_all
  moved_none l = (omega arith, refl, omega arith, refl, λ j h. refl)

  module _ (ys : List Float) (next i : ℕ) (m : MovedTo ys next i) where
    pub moved_gone : get_or gone i false ≡ true → MovedTo ys next (i + 1)
    moved_gone g =
        let e = retained_gone (kept_at gone) (λ k. anchor_at xs (first + k)) i (ap not g) in
        (omega (arith, m.0), m.1, rw e m.2, rw e m.3, m.4)

    pub moved_kept : get_or gone i false ≡ false → (zs : List Float) → zs ≡ put_anchor ys next (anchor_at ys (first + i)) → MovedTo zs (next + 1) (i + 1)
    moved_kept g zs p =
        let f = anchor_at xs (first + i) in
        let e = retained_kept (kept_at gone) (λ k. anchor_at xs (first + k)) i (ap not g) in
        let n = ap length e ∙ length-append (here i) (f ∷ []) in (
          omega (arith, m.0),
          ap length p ∙ length-put ys next _ ∙ m.1,
          omega (arith, m.2, n),
          rw e (put_next xs ys zs at next (here i) (f ∷ []) m.2 m.3 (put_one ys zs next (anchor_at ys (first + i)) f p (at_past ys xs next (first + i) m.0 m.4))),
          λ j h. ap (λ z. entry z j) p ∙ put_keep ys next _ xs m.4 j h,
        )

-- ---- the words and anchors that are kept
module _ (shapes : List ℕ) (anchors : List Float) (keep : ℕ → ℕ → Bool) where
  abbrev left : ℕ → List Anchor
  left = subpath_left shapes anchors keep

  abbrev words : ℕ → List ℕ
  words = words_up_to shapes anchors keep

  abbrev kept : ℕ → List Anchor
  kept = anchors_up_to shapes anchors keep

  pub left_most : (s : ℕ) → length (left s) ≤ count_of (word_at shapes s)
  unfolding subpath_left
  left_most s = retained_most (keep s) (λ k. anchor_at anchors (start shapes s + k)) (count_of (word_at shapes s))

  module _ (s : ℕ) (e : subpath_stays shapes anchors keep s ≡ true) where
    words_stays : words (s + 1) ≡ words s ++ word_left shapes anchors keep s ∷ []
    unfolding words_up_to
    words_stays = rw (add-one s, e)

    anchors_stays : kept (s + 1) ≡ kept s ++ left s
    unfolding anchors_up_to
    anchors_stays = rw (add-one s, e)

  module _ (s : ℕ) (e : subpath_stays shapes anchors keep s ≡ false) where
    words_goes : words (s + 1) ≡ words s
    unfolding words_up_to
    words_goes = rw (add-one s, e) (append-nil (words s))

    anchors_goes : kept (s + 1) ≡ kept s
    unfolding anchors_up_to
    anchors_goes = rw (add-one s, e) (append-nil (kept s))

  -- no more than there were
  pub words_most : (s : ℕ) → length (words s) ≤ s
  unfolding words_up_to
  words_most zero = le_refl 0
  words_most (suc s) = go (subpath_stays shapes anchors keep s) (words_most s)
    where
      go : (b : Bool) → length (words s) ≤ s → length (words s ++ cond b (word_left shapes anchors keep s ∷ []) []) ≤ suc s
      go true h = omega (arith, length-append (words s) (word_left shapes anchors keep s ∷ []))
      go false h = omega (arith, length-append (words s) [])

  pub anchors_most : (s : ℕ) → s ≤ length shapes → length (kept s) ≤ start shapes s
  unfolding anchors_up_to
  anchors_most zero l = le_refl 0
  anchors_most (suc s) l = go (subpath_stays shapes anchors keep s) (anchors_most s (omega arith)) (rw (add-one s) at (total-next shapes s l))
    where
      go : (b : Bool) → length (kept s) ≤ start shapes s → start shapes (suc s) ≡ start shapes s + count_of (word_at shapes s)
          → length (kept s ++ cond b (left s) []) ≤ start shapes (suc s)
      go true h e = omega (arith, length-append (kept s) (left s), left_most s)
      go false h e = omega (arith, length-append (kept s) [])

  -- ---- after s subpaths: n words in front of ws, `at` anchors in front of xs
  pub record Held (s : ℕ) (ws : List ℕ) (n : ℕ) (xs : List Float) (at : ℕ) : Type 0 where
    pub same-words : length ws ≡ length shapes
    pub same_numbers : length xs ≡ length anchors
    pub words_count : n ≡ length (words s)
    pub anchors_count : at ≡ length (kept s)
    pub front : (j : ℕ) → j < n → get_or ws j 0 ≡ word_at (words s) j
    pub rest : (j : ℕ) → n ≤ j → get_or ws j 0 ≡ word_at shapes j
    pub put : xs ≡ put_all anchors 0 (kept s)

  pub held_none : Held 0 shapes 0 anchors 0
  unfolding words_up_to anchors_up_to put_all
  held_none =
      record { same-words = refl; same_numbers = refl; words_count = refl; anchors_count = refl; front = λ j h. absurd (omega arith); rest = λ j h. refl; put = refl }

  module _ (s : ℕ) (ws : List ℕ) (n : ℕ) (xs : List Float) (at : ℕ) (h : Held s ws n xs at) where
    pub held_goes : subpath_stays shapes anchors keep s ≡ false → Held (s + 1) ws n xs at
    held_goes e =
        record {
          same-words = h.same-words;
          same_numbers = h.same_numbers;
          words_count = rw (words_goes s e) h.words_count;
          anchors_count = rw (anchors_goes s e) h.anchors_count;
          front = rw (words_goes s e) h.front;
          rest = h.rest;
          put = rw (anchors_goes s e) h.put;
        }

    pub held_stays : subpath_stays shapes anchors keep s ≡ true → n < length ws → (w m : ℕ) → w ≡ word_left shapes anchors keep s → m ≡ length (left s)
        → (ys : List Float) → length ys ≡ length xs → ys ≡ put_all xs at (left s) → Held (s + 1) (set ws n w) (n + 1) ys (at + m)
    held_stays e room w m we me ys same put =
        let c = h.words_count in
        let d = h.anchors_count in
        record {
          same-words = length-set ws n w ∙ h.same-words;
          same_numbers = same ∙ h.same_numbers;
          words_count = rw (words_stays s e) (omega (arith, length-append (words s) (word_left shapes anchors keep s ∷ [])));
          anchors_count = rw (anchors_stays s e) (omega (arith, length-append (kept s) (left s)));
          front = rw (words_stays s e)
              (fill_more 0 ws n w (word_at (words s ++ word_left shapes anchors keep s ∷ [])) room
              (λ j l. h.front j l ∙ sym (get_or-append (words s) (word_left shapes anchors keep s ∷ []) 0 j (omega arith)))
              (we ∙ sym (get_or_at (words s) (word_left shapes anchors keep s) [] 0 n (sym c))));
          rest = keep_more 0 ws n w shapes h.rest;
          put = rw (anchors_stays s e) (put_next anchors xs ys 0 at (kept s) (left s) (omega arith) h.put put);
        }

    -- the words not yet read are as they were
    pub word_here : (j : ℕ) → s ≤ j → get_or ws j 0 ≡ word_at shapes j
    word_here j l = h.rest j (omega (arith, h.words_count, words_most s))

    -- subpath s read, its first anchor at `first`: its count, and that no place is written before it is read
    pub read : s < length shapes → (first m : ℕ) → first ≡ start shapes s → m ≡ count_of (get_or ws s 0)
        → (m ≡ count_of (word_at shapes s)) × (first + m ≤ total shapes) × (n ≤ s) × (at ≤ first)
    read l first m e f =
        let g = f ∙ ap count_of (word_here s (le_refl s)) in
        (g, omega (arith, e, g, total_in shapes s l), omega (arith, h.words_count, words_most s), omega (arith, e, h.anchors_count, anchors_most s (omega arith)))

    module _ (l : s ≤ length shapes) (long : total shapes * 6 ≤ length anchors) where
      fits : length (kept s) * 6 ≤ length anchors
      fits = omega (arith, anchors_most s l, start_most)
        where
          start_most : start shapes s ≤ total shapes
          start_most = ⊎_elim (λ e. let z = total-end shapes s e in omega arith) (λ e. let z = total_in shapes s e in omega arith) (order (length shapes) s)

      -- and so are the anchors
      pub past : (j : ℕ) → at * 6 ≤ j → entry xs j ≡ entry anchors j
      unfolding listed
      past j b = ap (λ z. entry z j) (h.put ∙ put-listed (kept s) anchors fits) ∙ past_overwrite nan _ _ anchors j (omega (arith, h.anchors_count))

      pub held-words : ws ≡ overwrite (length (words s)) (word_at (words s)) shapes
      held-words =
          let c = h.words_count in
          as_overwrite 0 ws shapes (length (words s)) (word_at (words s)) h.same-words (λ j b. h.front j (omega arith)) (λ j b. h.rest j (omega arith))

      pub held_anchors : xs ≡ listed (kept s) anchors
      held_anchors = h.put ∙ put-listed (kept s) anchors fits

  -- after all of them
  pub held_all : (ws : List ℕ) (n : ℕ) (xs : List Float) (at : ℕ) → total shapes * 6 ≤ length anchors → Held (length shapes) ws n xs at
      → ◌≡◌ {A = Outline} (record { subpaths = n; anchors = at }) (record { subpaths = length (kept_words shapes anchors keep); anchors = length (kept_anchors shapes anchors keep) })
      × (ws ≡ overwrite (length (kept_words shapes anchors keep)) (word_at (kept_words shapes anchors keep)) shapes)
      × (xs ≡ listed (kept_anchors shapes anchors keep) anchors)
  unfolding kept_words kept_anchors
  held_all ws n xs at long h =
      let m = length shapes in
      (rw (h.words_count, h.anchors_count), held-words m ws n xs at h (le_refl m) long, held_anchors m ws n xs at h (le_refl m) long)

-- ---- a subpath by its marks: what is counted, and what is moved, is what is left of it
module _ (shapes : List ℕ) (anchors : List Float) (gone : List Bool) (s first m : ℕ) (e : first ≡ start shapes s) (f : m ≡ count_of (word_at shapes s))
    (marks : List Bool) (part : marks ≡ take m (drop first gone)) (room : first + m ≤ length gone) where
  pub as_many : length marks ≡ m
  as_many = ap length part ∙ length-take-le m (drop first gone) (rw (length-drop first gone) (omega arith))

  alike : (k : ℕ) → k < m → kept_at marks k ≡ kept_at gone (first + k)
  alike k l = ap (λ z. kept_at z k) part ∙ ap not (get_or-take m (drop first gone) k false l ∙ get_or-drop first gone k false)

  pub left-count : count (kept_at marks) (length marks) ≡ length (subpath_left shapes anchors (kept_in shapes gone) s)
  unfolding subpath_left kept_in
  left-count =
      rw as_many
      (count_cong _ _ m alike
      ∙ rw (e, f) (sym (retained-count (λ k. kept_at gone (start shapes s + k)) (λ k. anchor_at anchors (start shapes s + k)) (count_of (word_at shapes s)))))

  pub left-moved : (xs : List Float) (at : ℕ) → at ≤ first → ((j : ℕ) → at * 6 ≤ j → entry xs j ≡ entry anchors j)
      → retained (kept_at marks) (λ k. anchor_at xs (first + k)) (length marks) ≡ subpath_left shapes anchors (kept_in shapes gone) s
  unfolding subpath_left kept_in
  left-moved xs at l past =
      rw as_many
      (retained-same _ (λ k. kept_at gone (first + k)) _ (λ k. anchor_at anchors (first + k)) m alike (λ k b. at_past xs anchors at (first + k) (omega arith) past) ∙ rw (e, f))

-- ---- what is kept turns on the anchors of the path alone
module _ (shapes : List ℕ) (anchors : List Float) (keep keep' : ℕ → ℕ → Bool)
    (alike : (s k : ℕ) → s < length shapes → k < count_of (word_at shapes s) → keep s k ≡ keep' s k) where
  left-same : (s : ℕ) → s < length shapes → subpath_left shapes anchors keep s ≡ subpath_left shapes anchors keep' s
  unfolding subpath_left
  left-same s l = retained-same _ _ _ _ _ (λ k h. alike s k l h) (λ k h. refl)

  words_same : (m : ℕ) → m ≤ length shapes → words_up_to shapes anchors keep m ≡ words_up_to shapes anchors keep' m
  unfolding words_up_to subpath_stays word_left
  words_same zero l = refl
  words_same (suc m) l = rw (words_same m (omega arith), left-same m l)

  anchors_same : (m : ℕ) → m ≤ length shapes → anchors_up_to shapes anchors keep m ≡ anchors_up_to shapes anchors keep' m
  unfolding anchors_up_to subpath_stays
  anchors_same zero l = refl
  anchors_same (suc m) l = rw (anchors_same m (omega arith), left-same m l)

  pub kept_same : (kept_words shapes anchors keep ≡ kept_words shapes anchors keep') × (kept_anchors shapes anchors keep ≡ kept_anchors shapes anchors keep')
  unfolding kept_words kept_anchors
  kept_same = (words_same (length shapes) (le_refl (length shapes)), anchors_same (length shapes) (le_refl (length shapes)))
