-- What the first tests of a cached edit come to, and what an edit that passed them may rest on. Assumes nothing.
use mathlib.Core.Path.{◌≡◌, refl, sym, ap, ◌∙◌}
use mathlib.Core.Bool.{Bool, true, false, ◌&&◌, true≢false}
use Prim.Native.Nat.{ℕ, ◌≤◌}
use lib.Dec.{leb}
use lib.ListN.{length}
use borrow.Author.Tests.{leb-true}
use Rattle.views.proofs.Bools.{and_left, and_right}
use Rattle.refusal.specs.Reasons.{refusal_at}
use Rattle.refusal.specs.declared.Refusal.{Refusal}
use Rattle.refusal.specs.declared.Reason.TheVariants.{Arguments, Lists}
use Rattle.refusal.specs.Order.{Test, passes, fails, holds, judge, Verdict, accepted, refused}
use Rattle.refusal.proofs.Verdicts.{holds_true, holds_false, in_order, holds_says, refusing, answers_ok, answers_err, ok_says, err_says}
use Rattle.std.specs.Option.{is_some}
use Rattle.std.proofs.Common.{Option, Some, None, Ok, Err}
use Rattle.path.specs.Shape.{total}
use Rattle.path.specs.Limit.{place_in}
use Rattle.path.proofs.Limits.{GoodBelow}
use Rattle.corner.specs.declared.kind.CornerKind.{CornerKind}
use Rattle.call.specs.Tests.{drawing_fits, drawing_limit, opened_drawing}
use Rattle.call.proofs.Openings.{places_pass, open_lists, answer-refused, answer_open}
use Rattle.corner.specs.Kinds.{kind_of, is_known}
use Rattle.session.specs.Drawing.{Lent, corner_kind}
use Rattle.session.specs.Edits.{Edit}
use Rattle.cache.specs.Tests.{cache_size}
use Rattle.cache.proofs.Fitting.{size_says, size_refused}
use Rattle.session.specs.Calls.{lists_fit, edit_verdict}
use Rattle.session.specs.Model.{lengths_of, long_for, small_path}
use Rattle.session.proofs.Judging.{places-say, places_then}
use Rattle.session.proofs.Lents.{Long, long_says, fits-same}
use Rattle.cached.specs.declared.opening.Ready.{Ready}
use Rattle.cached.specs.Opening.{opened_cached, ready_of}

-- ---- a value, or none
none_of : {A : Type 0} (o : Option A) → is_some o ≡ false → o ≡ None
none_of None e = refl
none_of (Some x) e = absurd (true≢false e)

some_of : {A : Type 0} (o : Option A) → is_some o ≡ true → (x : A) × (o ≡ Some x)
some_of None e = absurd (true≢false (sym e))
some_of (Some x) e = (x, refl)

-- ---- two tests, whatever is tested later
both_pass : (a b : Test) → judge a Lists (judge b Arguments accepted) ≡ accepted → (a ≡ passes) × (b ≡ passes)
unfolding judge
both_pass passes passes e = (refl, refl)
both_pass passes (fails k) e = absurd (refusing _ e)
both_pass (fails k) b e = absurd (refusing _ e)

refused_first : (a b : Test) (why : Refusal) (later : Verdict) → judge a Lists (judge b Arguments accepted) ≡ refused why → judge a Lists (judge b Arguments later) ≡ refused why
unfolding judge
refused_first passes passes why later e = absurd (refusing why (sym e))
refused_first passes (fails k) why later e = e
refused_first (fails k) b why later e = e

module _ (l : Lent) where
  abbrev n : ℕ
  n = total l.shapes

  abbrev good : ℕ → Bool
  good = place_in l.anchors l.radii

  -- ---- 7: a list that is too long or too short
  no_cache : cache_size l.shapes l.numbers l.flags ≡ None → lists_fit l ≡ false
  unfolding lists_fit
  no_cache e = rw (size_refused l.shapes l.numbers l.flags e)

  pub cached_wrong : is_some (cache_size l.shapes l.numbers l.flags) ≡ false → Err (refusal_at Lists 0) ≡ opened_cached l
  unfolding opened_cached drawing_limit
  cached_wrong e = open_lists _ _ _ (no_cache (none_of _ e))

  lists_drawing : (m : ℕ) → cache_size l.shapes l.numbers l.flags ≡ Some m → lists_fit l ≡ drawing_fits l.shapes l.anchors l.radii
  unfolding lists_fit
  lists_drawing m e = rw (size_says l.shapes l.numbers l.flags m e).0

  -- with a cache that is long enough the drawing's tests are left
  pub cached_drawing : is_some (cache_size l.shapes l.numbers l.flags) ≡ true → opened_drawing l.shapes l.anchors l.radii ≡ opened_cached l
  unfolding opened_drawing opened_cached
  cached_drawing e = let s = some_of _ e in rw (lists_drawing s.0 s.1)

  -- ---- 5: the kind, and the edit's own numbers
  module _ (kind : ℕ) (loose : Bool) where
    abbrev first : Verdict → Verdict
    first later = judge (holds (lists_fit l) 0) Lists (judge (drawing_limit l.shapes l.anchors l.radii (is_known (kind_of kind) && loose)) Arguments later)

    pub ready_closed : (why : Refusal) → opened_cached l ≡ Err why → Err why ≡ ready_of l kind loose
    unfolding ready_of opened_cached drawing_limit
    ready_closed why e = answers_err _ (answer-refused (lists_fit l) good n why e (is_known (kind_of kind) && loose) accepted)

    module _ (m : ℕ) (e : opened_cached l ≡ Ok m) where
      opens : (lists_fit l ≡ true) × GoodBelow good n × (m ≡ n)
      unfolding opened_cached drawing_limit
      opens = answer_open (lists_fit l) good n m e

      places_fine : drawing_limit l.shapes l.anchors l.radii (is_known (kind_of kind) && loose) ≡ holds (is_known (kind_of kind) && loose) n
      unfolding drawing_limit
      places_fine = places_pass good n (holds (is_known (kind_of kind) && loose) n) opens.1

      loose_fails : (is_known (kind_of kind) && loose) ≡ false → first accepted ≡ refused (refusal_at Arguments n)
      unfolding judge
      loose_fails h = rw (holds_true 0 opens.0, places_fine, holds_false n h)

      pub ready_loose : (is_known (kind_of kind) && loose) ≡ false → Err (refusal_at Arguments m) ≡ ready_of l kind loose
      unfolding ready_of
      ready_loose h = rw opens.2 (answers_err _ (loose_fails h))

      pub ready_unknown : kind_of kind ≡ None → Err (refusal_at Arguments m) ≡ ready_of l kind loose
      unfolding is_known
      ready_unknown h = ready_loose (rw h)

      loose_passes : (is_known (kind_of kind) && loose) ≡ true → first accepted ≡ accepted
      unfolding judge
      loose_passes h = rw (holds_true 0 opens.0, places_fine, holds_true n h)

      pub ready_known : (way : CornerKind) → kind_of kind ≡ Some way → loose ≡ true → Ok (record { anchors = m; kind = way }) ≡ ready_of l kind loose
      unfolding ready_of is_known corner_kind
      ready_known way h k = answers_ok _ (loose_passes (rw (h, k))) ∙ rw (opens.2, h)

    -- ---- and back
    pub record ReadyFor (r : Ready) : Type 0 where
      pub fits : lists_fit l ≡ true
      pub good_places : GoodBelow (place_in l.anchors l.radii) (total l.shapes)
      pub arguments : (is_known (kind_of kind) && loose) ≡ true
      pub count : r.anchors ≡ total l.shapes
      pub kind-is : corner_kind (kind_of kind) ≡ r.kind
      pub words : length l.shapes ≤ 32
      pub few : total l.shapes ≤ 512
      pub long : Long (lengths_of l) (total l.shapes)

    small_lists : lists_fit l ≡ true → (length l.shapes ≤ 32) × (n ≤ 512) × Long (lengths_of l) n
    unfolding small_path
    small_lists h =
        let e = sym (fits-same l) ∙ h in
        let p = leb (length l.shapes) 32 in
        let q = leb n 512 in
        let r = long_for (lengths_of l) n in
        let a = and_left (p && q) r e in
        (leb-true _ _ (and_left p q a), leb-true _ _ (and_right p q a), long_says (lengths_of l) n (and_right (p && q) r e))

    pub ready_says : (r : Ready) → ready_of l kind loose ≡ Ok r → ReadyFor r
    unfolding ready_of drawing_limit
    ready_says r e =
        let t = ok_says _ _ r e in
        let after = holds (is_known (kind_of kind) && loose) n in
        let b = both_pass _ _ t.0 in
        let f = holds_says (lists_fit l) 0 b.0 in
        let s = small_lists f in
        record {
          fits = f;
          good_places = places-say good n after b.1;
          arguments = holds_says (is_known (kind_of kind) && loose) n (places_then good n after b.1);
          count = ap (λ (x : Ready). x.anchors) (sym t.1);
          kind-is = ap (λ (x : Ready). x.kind) t.1;
          words = s.0;
          few = s.1;
          long = s.2;
        }

  -- an edit whose own numbers these are
  pub edit_closed : (kind : ℕ) (e : Edit) (why : Refusal) → ready_of l kind e.loose ≡ Err why → edit_verdict l kind e ≡ refused why
  unfolding ready_of edit_verdict
  edit_closed kind e why h = in_order _ _ _ _ _ _ ∙ refused_first _ _ why _ (err_says _ _ why h)
