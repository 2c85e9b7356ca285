-- Laws of `reversed`: what one more exchange of two anchors does, the list that they leave, and one law for each answer. Assumes nothing.
use mathlib.Core.Path.{◌≡◌, refl, sym, ap, ◌∙◌}
use mathlib.Core.Logic.{◌⊎◌, inl, inr, ⊎_elim}
use mathlib.Core.Bool.{true}
use mathlib.Core.List.{List}
use Prim.Native.Nat.{ℕ, ◌+◌, ◌-◌, ◌*◌, ◌/◌, ◌%◌, ◌≤◌, ◌<◌}
use native.Mathlib.Omega.{arith}
use lib.Dec.{leb}
use lib.ListN.{length}
use lib.Ieee.{Float, nan}
use borrow.Author.Tests.{lt-ltb, le-ltb, le-leb, lt-leb}
use Rattle.std.proofs.Common.{Ok, Err}
use Rattle.views.specs.View.{entry, tabulate}
use Rattle.views.proofs.Bools.{and_false}
use Rattle.views.proofs.Laws.{order, same, length-tabulate, at_tabulate, as_overwrite}
use Rattle.refusal.specs.Reasons.{refusal_at}
use Rattle.refusal.specs.declared.Refusal.{Refusal}
use Rattle.refusal.specs.declared.Reason.TheVariants.{Reference}
use Rattle.refusal.specs.Order.{accepted, refused}
use Rattle.refusal.proofs.Verdicts.{holds_true, holds_false, in_order, by_reference, by_none}
use Rattle.geom.specs.Point.{point}
use Rattle.path.specs.Anchor.{without_handles}
use Rattle.path.specs.Flat.{anchor_at, numbers, anchor_numbers, put_anchor, nth, listed}
use Rattle.path.specs.Shape.{count_of, total, word_at, start}
use Rattle.path.proofs.Places.{numbers_at, length-put, at_put, at_put_other}
use Rattle.call.specs.Tests.{opened_drawing}
use Rattle.call.proofs.Openings.{DrawingOpens, drawing-refused}
use Rattle.call.proofs.Handings.{outline-refused, outline_accepted, anchors_kept, anchors_written}
use Rattle.edit.specs.Reversed.{turned, reversed_anchors, reversed_path, reversed_verdict, reversed_answer, reversed_left}

-- ---- after i exchanges: those at both ends have changed places, the others have not
module _ (xs : List Float) (first n : ℕ) where
  abbrev pub Turned : ℕ → List Float → Type 0
  Turned i ys = (k : ℕ) → first ≤ k → k < first + n → (k < first + i) ⊎ (first + n ≤ k + i) → anchor_at ys k ≡ turned (anchor_at xs (first + (first + n - 1 - k)))

  abbrev pub Kept : ℕ → List Float → Type 0
  Kept i ys = (k : ℕ) → (k < first) ⊎ ((first + n ≤ k) ⊎ ((first + i ≤ k) × (k + i < first + n))) → anchor_at ys k ≡ anchor_at xs k

  module _ (i : ℕ) (l : i < (n + 1) / 2) (ys : List Float) (room : (first + n) * 6 ≤ length ys) (done : Turned i ys) (kept : Kept i ys) where
    abbrev one : List Float
    one = put_anchor ys (first + i) (turned (anchor_at ys (first + (n - 1 - i))))

    abbrev two : List Float
    two = put_anchor one (first + (n - 1 - i)) (turned (anchor_at ys (first + i)))

    length_one : length one ≡ length ys
    length_one = length-put ys (first + i) (turned (anchor_at ys (first + (n - 1 - i))))

    -- the two that change places were as at first
    near-start : anchor_at ys (first + i) ≡ anchor_at xs (first + i)
    near-start = kept (first + i) (inr (inr (omega arith, omega arith)))

    near-end : anchor_at ys (first + (n - 1 - i)) ≡ anchor_at xs (first + (n - 1 - i))
    near-end = kept (first + (n - 1 - i)) (inr (inr (omega arith, omega arith)))

    elsewhere : (k : ℕ) → (k ≡ first + i → ⊥) → (k ≡ first + (n - 1 - i) → ⊥) → anchor_at two k ≡ anchor_at ys k
    elsewhere k x y =
        at_put_other one (first + (n - 1 - i)) (turned (anchor_at ys (first + i))) k y ∙ at_put_other ys (first + i) (turned (anchor_at ys (first + (n - 1 - i)))) k x

    pub turned_more : Turned (i + 1) two
    turned_more k a b o =
        ⊎_elim
        (λ e.
        let f : first + (first + n - 1 - k) ≡ first + i = omega arith in
        ap (anchor_at two) e ∙ at_put one (first + (n - 1 - i)) (turned (anchor_at ys (first + i))) (let w = length_one in omega arith) ∙ ap turned near-start ∙ sym (ap (λ j. turned (anchor_at xs j)) f))
        (λ y. ⊎_elim
        (λ e.
        let f : first + (first + n - 1 - k) ≡ first + (n - 1 - i) = omega arith in
        at_put_other one (first + (n - 1 - i)) (turned (anchor_at ys (first + i))) k y ∙ ap (anchor_at one) e ∙ at_put ys (first + i) (turned (anchor_at ys (first + (n - 1 - i)))) (omega arith) ∙ ap turned near-end ∙ sym (ap (λ j. turned (anchor_at xs j)) f))
        (λ x. elsewhere k x y ∙ done k a b (before x y o))
        (same k (first + i)))
        (same k (first + (n - 1 - i)))
      where
        before : (k ≡ first + i → ⊥) → (k ≡ first + (n - 1 - i) → ⊥) → (k < first + (i + 1)) ⊎ (first + n ≤ k + (i + 1)) → (k < first + i) ⊎ (first + n ≤ k + i)
        before x y (inl h) = ⊎_elim (λ (g : first + i ≤ k). absurd (x (omega arith))) (λ (g : k < first + i). inl g) (order (first + i) k)
        before x y (inr h) = ⊎_elim (λ (g : first + n ≤ k + i). inr g) (λ (g : k + i < first + n). absurd (y (omega arith))) (order (first + n) (k + i))

    pub kept_more : Kept (i + 1) two
    kept_more k (inl h) = elsewhere k (λ e. omega arith) (λ e. omega arith) ∙ kept k (inl h)
    kept_more k (inr (inl h)) = elsewhere k (λ e. omega arith) (λ e. omega arith) ∙ kept k (inr (inl h))
    kept_more k (inr (inr (a, b))) = elsewhere k (λ e. omega arith) (λ e. omega arith) ∙ kept k (inr (inr (omega arith, omega arith)))

  -- ---- at the end
  module _ (all : ℕ) (ys : List Float) (len : length ys ≡ length xs) (fits : first + n ≤ all) (room : all * 6 ≤ length xs)
      (done : Turned ((n + 1) / 2) ys) (kept : Kept ((n + 1) / 2) ys) (past : (j : ℕ) → all * 6 ≤ j → entry ys j ≡ entry xs j) where
    at_place : (k : ℕ) → anchor_at ys k ≡ reversed_anchors (anchor_at xs) first n k
    unfolding reversed_anchors
    at_place k =
        ⊎_elim
        (λ a. ⊎_elim
        (λ b. rw (le-ltb k (first + n) b, and_false (leb first k)) (kept k (inr (inl b))))
        (λ b. rw (le-leb first k a, lt-ltb k (first + n) b) (done k a b (⊎_elim (λ (h : first + (n + 1) / 2 ≤ k). inr (omega arith)) (λ (h : k < first + (n + 1) / 2). inl h) (order (first + (n + 1) / 2) k))))
        (order (first + n) k))
        (λ a. rw (lt-leb first k a) (kept k (inl a)))
        (order first k)

    pub turned_round : ys ≡ listed (tabulate all (reversed_anchors (anchor_at xs) first n)) xs
    unfolding listed anchor_numbers nth
    turned_round =
        as_overwrite nan ys xs (length (tabulate all (reversed_anchors (anchor_at xs) first n)) * 6) _ len
        (λ j h.
        let w = length-tabulate all (reversed_anchors (anchor_at xs) first n) in
        sym (numbers_at ys j) ∙ ap (λ c. entry (numbers c) (j % 6)) (at_place (j / 6) ∙ sym (at_tabulate (without_handles (point nan nan)) all (reversed_anchors (anchor_at xs) first n) (j / 6) (omega arith))))
        (λ j h. let w = length-tabulate all (reversed_anchors (anchor_at xs) first n) in past j (omega arith))

-- ---- the answers
module _ (shapes : List ℕ) (anchors radii : List Float) (s : ℕ) where
  pub reversed-refused : (why : Refusal) → reversed_verdict shapes anchors radii s ≡ refused why → (Err why ≡ reversed_answer shapes anchors radii s) × (anchors ≡ reversed_left shapes anchors radii s)
  unfolding reversed_answer reversed_left
  reversed-refused why e = (outline-refused _ _ e, anchors_kept _ _ e)

  pub not_opened : (why : Refusal) → opened_drawing shapes anchors radii ≡ Err why → reversed_verdict shapes anchors radii s ≡ refused why
  unfolding reversed_verdict
  not_opened why e = in_order _ _ _ _ _ _ ∙ drawing-refused shapes anchors radii why e true _

  module _ (n : ℕ) (o : DrawingOpens shapes anchors radii n) where
    pub no_subpath : length shapes ≤ s → reversed_verdict shapes anchors radii s ≡ refused (refusal_at Reference 0)
    unfolding reversed_verdict
    no_subpath h =
        by_reference _ _ _ _ _ _ o.lists_pass (o.places_good true ∙ holds_true (total shapes) refl) 0 (holds_false 0 (le-ltb s (length shapes) h))

    found : s < length shapes → reversed_verdict shapes anchors radii s ≡ accepted
    unfolding reversed_verdict
    found h =
        by_none _ _ _ _ _ _ o.lists_pass (o.places_good true ∙ holds_true (total shapes) refl) (holds_true 0 (lt-ltb s (length shapes) h)) refl refl refl

    pub reversed_accepted : s < length shapes → (first count : ℕ) → first ≡ start shapes s → count ≡ count_of (word_at shapes s)
        → (Ok (record { subpaths = length shapes; anchors = n }) ≡ reversed_answer shapes anchors radii s)
        × (listed (tabulate n (reversed_anchors (anchor_at anchors) first count)) anchors ≡ reversed_left shapes anchors radii s)
    unfolding reversed_answer reversed_left reversed_path
    reversed_accepted h first count e f =
        (rw o.count (outline_accepted _ _ (found h)), rw (e, f, o.count) (anchors_written _ _ (found h)))
