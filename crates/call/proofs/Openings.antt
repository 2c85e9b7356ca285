-- What the first tests of a path and of a drawing come to, and what a call that passed them may rest on. Assumes nothing.
use mathlib.Core.Path.{◌≡◌, refl, sym, ◌∙◌}
use mathlib.Core.Logic.{⊎_elim}
use mathlib.Core.Bool.{Bool, true, false, ◌&&◌, cond, true≢false}
use mathlib.Core.List.{List}
use Prim.Native.Nat.{ℕ, ◌*◌, ◌≤◌, ◌<◌}
use native.Mathlib.Nat.{le_refl}
use native.Mathlib.Omega.{arith}
use lib.Dec.{leb}
use lib.ListN.{length}
use lib.Ieee.{Float}
use borrow.Author.Tests.{leb-true, le-leb, lt-leb, lt-ltb, le-ltb}
use Rattle.views.proofs.Searches.{first_all, first_at}
use Rattle.refusal.specs.Reasons.{refusal_at}
use Rattle.refusal.specs.declared.Refusal.{Refusal}
use Rattle.refusal.specs.declared.Reason.TheVariants.{Arguments, Lists}
use Rattle.refusal.specs.Order.{Test, passes, fails, holds, judge, Verdict, accepted, refused, answering}
use Rattle.refusal.proofs.Verdicts.{holds_true, refusing, answers_ok, answers_err, ok_says, err_says}
use Rattle.std.proofs.Common.{None, Ok, Err}
use Rattle.std.proofs.Common.{Some, None}
use Rattle.path.specs.Shape.{total, sized_of}
use Rattle.path.specs.Limit.{anchor_in, place_in}
use Rattle.path.proofs.Shapes.{Fits}
use Rattle.path.proofs.Limits.{GoodBelow, Least, search_to}
use Rattle.call.specs.Tests.{places, path_fits, drawing_fits, path_limit, drawing_limit, sized_path, opened_path, opened_drawing}

-- ---- tests by place
module _ (good : ℕ → Bool) (n : ℕ) (after : Test) where
  pub places_fail : (k : ℕ) → Least good n k → places good n after ≡ fails k
  unfolding places
  places_fail k l = rw (first_at good n k l.place l.below l.bad, lt-ltb k n l.place)

  pub places_pass : GoodBelow good n → places good n after ≡ after
  unfolding places
  places_pass h = rw (first_all good n h, le-ltb n n (le_refl n))

-- ---- refusals 7 and 5, whatever is tested by b and by `good`
module _ (b : Bool) (good : ℕ → Bool) (n : ℕ) where
  -- loose arguments, then what comes later
  abbrev first : Bool → Verdict → Verdict
  first loose later = judge (holds b 0) Lists (judge (places good n (holds loose n)) Arguments later)

  first_lists : b ≡ false → (loose : Bool) (later : Verdict) → first loose later ≡ refused (refusal_at Lists 0)
  unfolding judge holds
  first_lists e loose later = rw e

  module _ (e : b ≡ true) where
    first_least : (k : ℕ) → Least good n k → (loose : Bool) (later : Verdict) → first loose later ≡ refused (refusal_at Arguments k)
    unfolding judge
    first_least k l loose later = rw (holds_true 0 e, places_fail good n (holds loose n) k l)

    first_passed : GoodBelow good n → (loose : Bool) (later : Verdict) → first loose later ≡ judge (holds loose n) Arguments later
    unfolding judge
    first_passed g loose later = rw (holds_true 0 e, places_pass good n (holds loose n) g)

    first_open : GoodBelow good n → first true accepted ≡ accepted
    unfolding judge holds
    first_open g = rw (first_passed g true accepted)

  -- by what the tests found
  pub open_lists : b ≡ false → Err (refusal_at Lists 0) ≡ answering (first true accepted) n
  open_lists e = answers_err n (first_lists e true accepted)

  pub open_least : b ≡ true → (k : ℕ) → Least good n k → Err (refusal_at Arguments k) ≡ answering (first true accepted) n
  open_least e k l = answers_err n (first_least e k l true accepted)

  pub open_all : b ≡ true → GoodBelow good n → Ok n ≡ answering (first true accepted) n
  open_all e g = answers_ok n (first_open e g)

  -- and back: what an answer says of them
  pub data Way : Type 0 where
    short : b ≡ false → Way
    bad : b ≡ true → (k : ℕ) → Least good n k → Way
    fine : b ≡ true → GoodBelow good n → Way

  way : Way
  way = go b refl
    where
      go : (d : Bool) → b ≡ d → Way
      go false e = short e
      go true e = ⊎_elim (fine e) (λ kl. bad e kl.0 kl.1) (search_to good n)

  pub answer-refused : (why : Refusal) → answering (first true accepted) n ≡ Err why → (loose : Bool) (later : Verdict) → first loose later ≡ refused why
  answer-refused why e loose later = go way
    where
      went : first true accepted ≡ refused why
      went = err_says _ n why e

      go : Way → first loose later ≡ refused why
      go (short h) = first_lists h loose later ∙ sym (first_lists h true accepted) ∙ went
      go (bad h i l) = first_least h i l loose later ∙ sym (first_least h i l true accepted) ∙ went
      go (fine h g) = absurd (refusing why (sym went ∙ first_open h g))

  pub answer_open : (m : ℕ) → answering (first true accepted) n ≡ Ok m → (b ≡ true) × GoodBelow good n × (m ≡ n)
  answer_open m e = go way
    where
      went : (first true accepted ≡ accepted) × (n ≡ m)
      went = ok_says _ n m e

      go : Way → (b ≡ true) × GoodBelow good n × (m ≡ n)
      go (short h) = absurd (refusing _ (sym (first_lists h true accepted) ∙ went.0))
      go (bad h i l) = absurd (refusing _ (sym (first_least h i l true accepted) ∙ went.0))
      go (fine h g) = (h, g, sym went.1)

-- ---- a path
-- the size that `size_test` refuses
wrong_size : (most : ℕ) (shapes : List ℕ) (anchors : List Float) → sized_of shapes most ≡ None → path_fits most shapes anchors ≡ false
unfolding sized_of path_fits
wrong_size most shapes anchors = go (leb (length shapes) 32) (leb (total shapes) most)
  where
    go : (p q : Bool) → cond (p && q) (Some (total shapes)) None ≡ None → (p && (q && leb (total shapes * 6) (length anchors))) ≡ false
    go true true e = let z : ◌≡◌ {A = ℕ} 0 1 = cc in absurd (omega arith)
    go true false e = refl
    go false q e = refl

-- what 7 alone answers of a path
size_err : (most : ℕ) (shapes : List ℕ) (anchors : List Float) (why : Refusal) → sized_path most shapes anchors ≡ Err why → (path_fits most shapes anchors ≡ false) × (why ≡ refusal_at Lists 0)
unfolding sized_path
size_err most shapes anchors why = go (path_fits most shapes anchors)
  where
    go : (b : Bool) → cond b (Ok (total shapes)) (Err (refusal_at Lists 0)) ≡ Err why → (b ≡ false) × (why ≡ refusal_at Lists 0)
    go true e = absurd cc
    go false e = (refl, cc)

size_ok : (most : ℕ) (shapes : List ℕ) (anchors : List Float) (n : ℕ) → sized_path most shapes anchors ≡ Ok n → (path_fits most shapes anchors ≡ true) × (n ≡ total shapes)
unfolding sized_path
size_ok most shapes anchors n = go (path_fits most shapes anchors)
  where
    go : (b : Bool) → cond b (Ok (total shapes)) (Err (refusal_at Lists 0)) ≡ Ok n → (b ≡ true) × (n ≡ total shapes)
    go true e = (refl, cc)
    go false e = absurd cc

module _ (most : ℕ) (shapes : List ℕ) (anchors : List Float) where
  path_says : path_fits most shapes anchors ≡ true → (length shapes ≤ 32) × (total shapes ≤ most) × (total shapes * 6 ≤ length anchors)
  unfolding path_fits
  path_says = go (leb (length shapes) 32) (leb (total shapes) most) (leb (total shapes * 6) (length anchors)) refl refl refl
    where
      go : (p q r : Bool) → leb (length shapes) 32 ≡ p → leb (total shapes) most ≡ q → leb (total shapes * 6) (length anchors) ≡ r → (p && (q && r)) ≡ true
          → (length shapes ≤ 32) × (total shapes ≤ most) × (total shapes * 6 ≤ length anchors)
      go true true true e f g h = (leb-true _ _ e, leb-true _ _ f, leb-true _ _ g)
      go true true false e f g h = absurd (true≢false (sym h))
      go true false r e f g h = absurd (true≢false (sym h))
      go false q r e f g h = absurd (true≢false (sym h))

  -- the size alone
  pub size_closed : path_fits most shapes anchors ≡ false → Err (refusal_at Lists 0) ≡ sized_path most shapes anchors
  unfolding sized_path
  size_closed e = rw e

  pub size_wrong : sized_of shapes most ≡ None → Err (refusal_at Lists 0) ≡ sized_path most shapes anchors
  size_wrong e = size_closed (wrong_size most shapes anchors e)

  size_open : path_fits most shapes anchors ≡ true → Ok (total shapes) ≡ sized_path most shapes anchors
  unfolding sized_path
  size_open e = rw e

  pub path_closed : (why : Refusal) → sized_path most shapes anchors ≡ Err why → Err why ≡ opened_path most shapes anchors
  unfolding opened_path path_limit
  path_closed why e = let c = size_err most shapes anchors why e in rw c.1 (open_lists _ _ _ c.0)

  pub path_sized : (n : ℕ) → sized_path most shapes anchors ≡ Ok n → Fits shapes most n × (n * 6 ≤ length anchors)
  path_sized n e =
      let c = size_ok most shapes anchors n e in
      let s = path_says c.0 in
      let k = c.1 in
      (record { words = s.0; anchors = s.1; count = k }, let l = s.2 in omega arith)

  module _ (n : ℕ) (f : Fits shapes most n) where
    short_path : length anchors < n * 6 → path_fits most shapes anchors ≡ false
    unfolding path_fits
    short_path h = let e = f.count in rw (le-leb _ _ f.words, le-leb _ _ f.anchors, lt-leb (total shapes * 6) (length anchors) (omega arith))

    long_path : n * 6 ≤ length anchors → path_fits most shapes anchors ≡ true
    unfolding path_fits
    long_path h = let e = f.count in rw (le-leb _ _ f.words, le-leb _ _ f.anchors, le-leb (total shapes * 6) (length anchors) (omega arith))

    pub size_short : length anchors < n * 6 → Err (refusal_at Lists 0) ≡ sized_path most shapes anchors
    size_short h = size_closed (short_path h)

    pub size_good : n * 6 ≤ length anchors → Ok n ≡ sized_path most shapes anchors
    size_good h = rw f.count (size_open (long_path h))

    module _ (h : n * 6 ≤ length anchors) where
      pub path_bad : (k : ℕ) → Least (anchor_in anchors) (total shapes) k → Err (refusal_at Arguments k) ≡ opened_path most shapes anchors
      unfolding opened_path path_limit
      path_bad k l = open_least _ _ _ (long_path h) k l

      pub path_good : GoodBelow (anchor_in anchors) (total shapes) → Ok n ≡ opened_path most shapes anchors
      unfolding opened_path path_limit
      path_good g = rw f.count (open_all _ _ _ (long_path h) g)

  -- what a call rests on that opened it
  pub record PathOpens (n : ℕ) : Type 0 where
    pub words : length shapes ≤ 32
    pub few : total shapes ≤ most
    pub count : n ≡ total shapes
    pub long : total shapes * 6 ≤ length anchors
    pub good : GoodBelow (anchor_in anchors) (total shapes)
    -- 7 passes, and 5 leaves the loose arguments
    pub lists_pass : holds (path_fits most shapes anchors) 0 ≡ passes
    pub places_good : (loose : Bool) → path_limit shapes anchors loose ≡ holds loose (total shapes)

  pub path_opens : (n : ℕ) → opened_path most shapes anchors ≡ Ok n → PathOpens n
  unfolding opened_path path_limit
  path_opens n e =
      let a = answer_open _ _ _ n e in
      let s = path_says a.0 in
      record {
        words = s.0;
        few = s.1;
        count = a.2;
        long = s.2;
        good = a.1;
        lists_pass = holds_true 0 a.0;
        places_good = λ loose. places_pass (anchor_in anchors) (total shapes) (holds loose (total shapes)) a.1;
      }

  pub path_refused : (why : Refusal) → opened_path most shapes anchors ≡ Err why → (loose : Bool) (later : Verdict)
      → judge (holds (path_fits most shapes anchors) 0) Lists (judge (path_limit shapes anchors loose) Arguments later) ≡ refused why
  unfolding opened_path path_limit
  path_refused why e loose later = answer-refused _ _ _ why e loose later

-- ---- a drawing
module _ (shapes : List ℕ) (anchors radii : List Float) where
  no_drawing : path_fits 512 shapes anchors ≡ false → drawing_fits shapes anchors radii ≡ false
  unfolding drawing_fits
  no_drawing e = rw e

  pub drawing_closed : (why : Refusal) → sized_path 512 shapes anchors ≡ Err why → Err why ≡ opened_drawing shapes anchors radii
  unfolding opened_drawing drawing_limit
  drawing_closed why e = let c = size_err 512 shapes anchors why e in rw c.1 (open_lists _ _ _ (no_drawing c.0))

  module _ (n : ℕ) (f : Fits shapes 512 n) where
    module _ (h : n * 6 ≤ length anchors) where
      few_radii : length radii < n → drawing_fits shapes anchors radii ≡ false
      unfolding drawing_fits
      few_radii r = let e = f.count in rw (long_path 512 shapes anchors n f h, lt-leb (total shapes) (length radii) (omega arith))

      pub drawing_radii : length radii < n → Err (refusal_at Lists 0) ≡ opened_drawing shapes anchors radii
      unfolding opened_drawing drawing_limit
      drawing_radii r = open_lists _ _ _ (few_radii r)

      module _ (r : n ≤ length radii) where
        all_lists : drawing_fits shapes anchors radii ≡ true
        unfolding drawing_fits
        all_lists = let e = f.count in rw (long_path 512 shapes anchors n f h, le-leb (total shapes) (length radii) (omega arith))

        pub drawing_bad : (k : ℕ) → Least (place_in anchors radii) (total shapes) k → Err (refusal_at Arguments k) ≡ opened_drawing shapes anchors radii
        unfolding opened_drawing drawing_limit
        drawing_bad k l = open_least _ _ _ all_lists k l

        pub drawing_good : GoodBelow (place_in anchors radii) (total shapes) → Ok n ≡ opened_drawing shapes anchors radii
        unfolding opened_drawing drawing_limit
        drawing_good g = rw f.count (open_all _ _ _ all_lists g)

  pub record DrawingOpens (n : ℕ) : Type 0 where
    pub words : length shapes ≤ 32
    pub few : total shapes ≤ 512
    pub count : n ≡ total shapes
    pub long : total shapes * 6 ≤ length anchors
    pub radius_each : total shapes ≤ length radii
    pub good : GoodBelow (place_in anchors radii) (total shapes)
    pub lists_pass : holds (drawing_fits shapes anchors radii) 0 ≡ passes
    pub places_good : (loose : Bool) → drawing_limit shapes anchors radii loose ≡ holds loose (total shapes)

  drawing_says : drawing_fits shapes anchors radii ≡ true → (path_fits 512 shapes anchors ≡ true) × (total shapes ≤ length radii)
  unfolding drawing_fits
  drawing_says = go (path_fits 512 shapes anchors) (leb (total shapes) (length radii)) refl refl
    where
      go : (p q : Bool) → path_fits 512 shapes anchors ≡ p → leb (total shapes) (length radii) ≡ q → (p && q) ≡ true → (path_fits 512 shapes anchors ≡ true) × (total shapes ≤ length radii)
      go true true e f h = (e, leb-true _ _ f)
      go true false e f h = absurd (true≢false (sym h))
      go false q e f h = absurd (true≢false (sym h))

  pub drawing_opens : (n : ℕ) → opened_drawing shapes anchors radii ≡ Ok n → DrawingOpens n
  unfolding opened_drawing drawing_limit
  drawing_opens n e =
      let a = answer_open _ _ _ n e in
      let d = drawing_says a.0 in
      let s = path_says 512 shapes anchors d.0 in
      record {
        words = s.0;
        few = s.1;
        count = a.2;
        long = s.2;
        radius_each = d.1;
        good = a.1;
        lists_pass = holds_true 0 a.0;
        places_good = λ loose. places_pass (place_in anchors radii) (total shapes) (holds loose (total shapes)) a.1;
      }

  pub drawing-refused : (why : Refusal) → opened_drawing shapes anchors radii ≡ Err why → (loose : Bool) (later : Verdict)
      → judge (holds (drawing_fits shapes anchors radii) 0) Lists (judge (drawing_limit shapes anchors radii loose) Arguments later) ≡ refused why
  unfolding opened_drawing drawing_limit
  drawing-refused why e loose later = answer-refused _ _ _ why e loose later
