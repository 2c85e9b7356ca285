-- What `split` comes to: one law for each of its answers. Assumes nothing.
use mathlib.Core.Path.{◌≡◌, sym, ◌∙◌}
use mathlib.Core.Bool.{Bool, true, false}
use mathlib.Core.List.{List}
use Prim.Native.Nat.{ℕ, ◌+◌, ◌*◌, ◌≤◌, ◌<◌}
use native.Mathlib.Omega.{arith}
use lib.Dec.{ltb}
use lib.ListN.{length, length-set}
use lib.Ieee.{Float}
use borrow.Author.Tests.{lt-ltb, le-ltb}
use Rattle.views.proofs.Bools.{and_false}
use Rattle.real.specs.Limit.{in_limit}
use Rattle.refusal.specs.Reasons.{refusal_at}
use Rattle.refusal.specs.declared.Refusal.{Refusal}
use Rattle.refusal.specs.declared.Reason.TheVariants.{Arguments, Reference, Output, Made, Capacity}
use Rattle.refusal.specs.Order.{passes, judge, refused}
use Rattle.refusal.proofs.Verdicts.{holds_true, holds_false, in_order, by_arguments, by_reference, by_capacity}
use Rattle.path.specs.declared.anchor.Anchor.{Anchor}
use Rattle.std.proofs.Common.{Some, None, Ok, Err}
use Rattle.path.specs.Flat.{anchor_at}
use Rattle.path.specs.Shape.{count_of, closed_of, total, word_at, start, is_segment, next}
use Rattle.path.specs.Limit.{anchor_in, first_bad}
use Rattle.path.proofs.Limits.{GoodBelow, Least, first_is, none_is, good_cong, least_cong}
use Rattle.call.specs.Tests.{outline_in, path_limit, opened_path}
use Rattle.call.specs.Answers.{outline_answer, list_left, anchors_left}
use Rattle.call.proofs.Openings.{PathOpens, path_refused}
use Rattle.call.proofs.Handings.{outline-refused, outline_accepted, list_kept, list_written, anchors_kept, anchors_written}
use Rattle.edit.specs.Split.{halves, shifted, puts_within, split_places, split_path, split_shapes, has_segment, split_verdict, made_verdict, split_answer, split_shapes_left, split_anchors_left}
use Rattle.edit.proofs.Made.{made_bad, made-short, made-fits, overwrite-all}
use Rattle.edit.proofs.Splits.{length-split, split-within, stored, split_stored}

-- ---- refusals 9 and 8, else the lists are written
module _ (shapes : List ℕ) (xs : List Float) (n s a b : ℕ) (t : Float) where
  abbrev made : List Anchor
  made = split_places xs n a b t

  abbrev bounded : ℕ → Bool
  bounded = puts_within (halves (anchor_at xs a) (anchor_at xs b) t) a (shifted a b)

  pub between-refused : (why : Refusal) → made_verdict made shapes xs ≡ refused why
      → (Err why ≡ outline_answer (made_verdict made shapes xs) (length shapes) (n + 1))
      × (shapes ≡ list_left (made_verdict made shapes xs) (length shapes) (word_at (split_shapes shapes s)) shapes)
      × (xs ≡ anchors_left (made_verdict made shapes xs) made xs)
  between-refused why e = (outline-refused _ _ e, list_kept _ _ _ e, anchors_kept _ _ e)

  module _ (la : a < n) (good : GoodBelow (anchor_in xs) n) where
    pub between_bad : (k : ℕ) → first_bad bounded (n + 1) ≡ Some k → made_verdict made shapes xs ≡ refused (refusal_at Made k)
    between_bad k e =
        let l : Least (outline_in made) (n + 1) k = least_cong bounded (outline_in made) (n + 1) (λ j h. sym (split-within xs n a b t la good j h)) k ((first_is bounded (n + 1) k).0 e) in
        made_bad made shapes xs k (rw (length-split xs n a b t) l)

    all_good : first_bad bounded (n + 1) ≡ None → GoodBelow (outline_in made) (length made)
    all_good e =
        rw (length-split xs n a b t) (good_cong bounded (outline_in made) (n + 1) (λ j h. sym (split-within xs n a b t la good j h)) ((none_is bounded (n + 1)).0 e))

    pub between-short : first_bad bounded (n + 1) ≡ None → length xs < n * 6 + 6 → made_verdict made shapes xs ≡ refused (refusal_at Output 0)
    between-short e h = made-short made shapes xs (all_good e) (let w = length-split xs n a b t in omega arith)

    pub between_accepted : (e : first_bad bounded (n + 1) ≡ None) (p : a ≡ b → ⊥) (lb : b < n) (room : n * 6 + 6 ≤ length xs)
        → (Ok (record { subpaths = length shapes; anchors = n + 1 }) ≡ outline_answer (made_verdict made shapes xs) (length shapes) (n + 1))
        × (split_shapes shapes s ≡ list_left (made_verdict made shapes xs) (length shapes) (word_at (split_shapes shapes s)) shapes)
        × (stored xs n a b t p la lb room ≡ anchors_left (made_verdict made shapes xs) made xs)
    unfolding split_shapes
    between_accepted e p lb room =
        let v = made-fits made shapes xs (all_good e) (let w = length-split xs n a b t in omega arith) in (
          outline_accepted _ _ v,
          overwrite-all 0 (split_shapes shapes s) shapes (length-set shapes s (word_at shapes s + 1)) ∙ list_written _ _ _ v,
          split_stored xs n a b t p la lb room ∙ anchors_written _ _ v,
        )

-- ---- the tests before those
module _ (shapes : List ℕ) (anchors : List Float) (s a : ℕ) (t : Float) where
  pub split-refused : (why : Refusal) → split_verdict shapes anchors s a t ≡ refused why
      → (Err why ≡ split_answer shapes anchors s a t) × (shapes ≡ split_shapes_left shapes anchors s a t) × (anchors ≡ split_anchors_left shapes anchors s a t)
  unfolding split_answer split_shapes_left split_anchors_left
  split-refused why e = (outline-refused _ _ e, list_kept _ _ _ e, anchors_kept _ _ e)

  pub not_opened : (why : Refusal) → opened_path 512 shapes anchors ≡ Err why → split_verdict shapes anchors s a t ≡ refused why
  unfolding split_verdict
  not_opened why e = in_order _ _ _ _ _ _ ∙ path_refused 512 shapes anchors why e (in_limit t) _

module _ (shapes : List ℕ) (anchors : List Float) (n : ℕ) (o : PathOpens 512 shapes anchors n) (s a : ℕ) (t : Float) where
  pub no_parameter : in_limit t ≡ false → split_verdict shapes anchors s a t ≡ refused (refusal_at Arguments n)
  unfolding split_verdict
  no_parameter e = rw o.count (by_arguments _ _ _ _ _ _ o.lists_pass (total shapes) (o.places_good (in_limit t) ∙ holds_false (total shapes) e))

  pub no_subpath : length shapes ≤ s → has_segment shapes s a ≡ false
  unfolding has_segment
  no_subpath h = rw (le-ltb s (length shapes) h)

  pub no_segment : is_segment (count_of (word_at shapes s)) (closed_of (word_at shapes s)) a ≡ false → has_segment shapes s a ≡ false
  unfolding has_segment
  no_segment e = rw e (and_false (ltb s (length shapes)))

  pub one_segment : s < length shapes → is_segment (count_of (word_at shapes s)) (closed_of (word_at shapes s)) a ≡ true → has_segment shapes s a ≡ true
  unfolding has_segment
  one_segment h e = rw (lt-ltb s (length shapes) h, e)

  module _ (g : in_limit t ≡ true) where
    arguments_pass : path_limit shapes anchors (in_limit t) ≡ passes
    arguments_pass = o.places_good (in_limit t) ∙ holds_true (total shapes) g

    pub unknown : has_segment shapes s a ≡ false → split_verdict shapes anchors s a t ≡ refused (refusal_at Reference 0)
    unfolding split_verdict
    unknown e = by_reference _ _ _ _ _ _ o.lists_pass arguments_pass 0 (holds_false 0 e)

    module _ (e : has_segment shapes s a ≡ true) where
      pub full : 512 ≤ n → split_verdict shapes anchors s a t ≡ refused (refusal_at Capacity 0)
      unfolding split_verdict
      full h = by_capacity _ _ _ _ _ _ o.lists_pass arguments_pass (holds_true 0 e) 0 (holds_false 0 (le-ltb (total shapes) 512 (let w = o.count in omega arith)))

      rest : n < 512 → split_verdict shapes anchors s a t ≡ made_verdict (split_path shapes anchors s a t) shapes anchors
      unfolding split_verdict made_verdict judge
      rest h =
          in_order _ _ _ _ _ _ ∙ rw (o.lists_pass, arguments_pass, holds_true 0 e, holds_true 0 (lt-ltb (total shapes) 512 (let w = o.count in omega arith)))

      pub then-between : n < 512 → (first b : ℕ) → first ≡ start shapes s → b ≡ next (count_of (word_at shapes s)) a
          → (outline_answer (made_verdict (split_places anchors n (first + a) (first + b) t) shapes anchors) (length shapes) (n + 1) ≡ split_answer shapes anchors s a t)
          × (list_left (made_verdict (split_places anchors n (first + a) (first + b) t) shapes anchors) (length shapes) (word_at (split_shapes shapes s)) shapes ≡ split_shapes_left shapes anchors s a t)
          × (anchors_left (made_verdict (split_places anchors n (first + a) (first + b) t) shapes anchors) (split_places anchors n (first + a) (first + b) t) anchors ≡ split_anchors_left shapes anchors s a t)
      unfolding split_answer split_shapes_left split_anchors_left
      then-between h first b f g =
          let m : split_places anchors n (first + a) (first + b) t ≡ split_path shapes anchors s a t = same_path in
          (rw (m, ← rest h, o.count), rw (m, ← rest h), rw (m, ← rest h))
        where
          same_path : split_places anchors n (first + a) (first + b) t ≡ split_path shapes anchors s a t
          same_path = unfold split_path in rw (f, g, o.count)
