-- DEMAND 3, by one induction over the list of calls, for every accepted drawing and every list. Assumes nothing.
use mathlib.Core.Path.{◌≡◌, refl, sym, ap, ap₂, ◌∙◌}
use mathlib.Core.Bool.{true, ◌&&◌, true≢false}
use mathlib.Core.List.{List, [], ◌∷◌}
use Prim.Native.Nat.{ℕ, ◌+◌, ◌*◌}
use native.Mathlib.Omega.{arith}
use lib.Dec.{leb}
use lib.ListN.{length}
use lib.Ieee.{nan}
use borrow.Author.Tests.{leb-true}
use Rattle.views.specs.View.{entry, overwrite}
use Rattle.views.proofs.Bools.{and_left, and_right}
use Rattle.views.proofs.Laws.{length-overwrite, at_overwrite}
use Rattle.refusal.specs.Order.{accepted}
use Rattle.refusal.proofs.Verdicts.{holds_says, accepted_says}
use Rattle.path.specs.Flat.{anchor_at}
use Rattle.path.specs.Shape.{total}
use Rattle.call.specs.Tests.{drawing_limit}
use Rattle.call.specs.Answers.{list_left}
use Rattle.corner.specs.declared.kind.CornerKind.{CornerKind}
use Rattle.cut.specs.Subpath.{view_of}
use Rattle.std.proofs.Common.{Option}
use Rattle.corner.specs.declared.kind.CornerKind.{CornerKind}
use Rattle.std.proofs.Common.{Some, None}
use Rattle.corner.specs.Kinds.{kind_of, is_known}
use Rattle.cut_calls.specs.PlainCut.{sub_at, view_at}
use Rattle.session.specs.Drawing.{Drawing, Lent, corner_kind, view_in, drawn}
use Rattle.cache.specs.Cache.{place_of_path, cached_numbers, cached_flags}
use Rattle.cache.specs.Calls.{cut_places, build_verdict, build_numbers, build_flags}
use Rattle.session.specs.Edits.{places_of}
use Rattle.session.specs.Calls.{lists_fit, built_verdict, built_lists}
use Rattle.session.specs.Model.{lengths_of, long_for, small_path, model_next, model_answers, model_after}
use Rattle.session.specs.Session.{Turn, after, Linked, answers, after_all, fed}
use Rattle.session.specs.Demand.{Holds, Agrees, Demand3}
use Rattle.session.proofs.Judging.{places-say, places_then}
use Rattle.session.proofs.Lents.{long_says, fits-same}
use Rattle.session.proofs.Step.{Fine, step}
use Rattle.session.proofs.Twins.{number-of}
use Rattle.session.proofs.Spared.{spares-all}
use Rattle.session.proofs.Outlines.{outline_plain, plain_count}
use Rattle.session.proofs.Assembling.{assembles}

-- ---- what buffers that hold a drawing come to
pub agreed : (b : Lent) (m : Drawing) → Holds b m → Fine m → Agrees b m
agreed b m held fine =
    let o = outline_plain b m held in
    record {
      held = held;
      outline = o;
      counted = ap (λ x. length x.anchors) o ∙ plain_count m;
      assembles = λ to_shapes to out enough h. assembles m fine b held to_shapes to out enough h;
    }

-- ---- the induction, from ANY buffers that hold a drawing and its cut
pub run : (kind : ℕ) (ts : List Turn) (b : Lent) (m : Drawing) → m.kind ≡ kind → Holds b m → Fine m → Linked kind b ts
    → (answers kind ts ≡ model_answers m (fed ts)) × Agrees (after_all kind b ts) (model_after m (fed ts))
unfolding answers after_all after fed model_answers model_after
run kind [] b m k held fine linked = (refl, agreed b m held fine)
run kind (t ∷ ts) b m k held fine linked =
    let s = step kind b t.lent m t.call k held fine linked.0 in
    let r = run kind ts (after kind b t) (model_next m (lengths_of t.lent) t.call) (s.kept_kind ∙ k) s.held s.fine linked.1 in
    (ap₂ ◌∷◌ s.answer r.0, r.1)

-- ---- the fresh cache
known_says : (k : Option CornerKind) → is_known k ≡ true → k ≡ Some (corner_kind k)
unfolding is_known corner_kind
known_says (Some k) e = refl
known_says None e = absurd (true≢false (sym e))

cut-places : (l : Lent) (k : CornerKind) → cut_places l.shapes l.anchors l.radii (Some k)
    ≡ place_of_path l.shapes (λ s. view_of (anchor_at l.anchors) (entry l.radii) (λ i. k) 128 (sub_at l.shapes s))
unfolding cut_places view_at
cut-places l k = refl

module _ (l : Lent) (kind : ℕ) (yes : built_verdict l kind ≡ accepted) where
  abbrev n : ℕ
  n = total l.shapes

  fits : (small_path l.shapes && long_for (lengths_of l) n) ≡ true
  unfolding built_verdict build_verdict lists_fit
  fits = sym (fits-same l) ∙ holds_says (lists_fit l) 0 (accepted_says _ _ _ _ _ _ yes).lists

  known : is_known (kind_of kind) ≡ true
  unfolding built_verdict build_verdict drawing_limit
  known = holds_says (is_known (kind_of kind)) n (places_then _ n _ (accepted_says _ _ _ _ _ _ yes).arguments)

  -- the kind is known, so the places are those of the drawing
  same-places : cut_places l.shapes l.anchors l.radii (kind_of kind) ≡ places_of (drawn l kind)
  unfolding places_of drawn view_in
  same-places = ap (cut_places l.shapes l.anchors l.radii) (known_says (kind_of kind) known) ∙ cut-places l (corner_kind (kind_of kind))

  built_fine : Fine (drawn l kind)
  unfolding built_verdict build_verdict drawn small_path
  built_fine =
      let s = and_left (small_path l.shapes) (long_for (lengths_of l) n) fits in
      record {
        words = leb-true (length l.shapes) 32 (and_left (leb (length l.shapes) 32) (leb n 512) s);
        few = leb-true n 512 (and_right (leb (length l.shapes) 32) (leb n 512) s);
        places = rw same-places at (places-say _ n _ (accepted_says _ _ _ _ _ _ yes).result);
      }

  verdict_yes : build_verdict l.shapes l.anchors l.radii kind l.numbers l.flags ≡ accepted
  unfolding built_verdict
  verdict_yes = yes

  pub numbers_built : (built_lists l kind).numbers ≡ overwrite (n * 12) (cached_numbers (places_of (drawn l kind))) l.numbers
  unfolding built_lists build_numbers list_left
  numbers_built = rw (verdict_yes, same-places)

  pub flags_built : (built_lists l kind).flags ≡ overwrite n (cached_flags (places_of (drawn l kind))) l.flags
  unfolding built_lists build_flags list_left
  flags_built = rw (verdict_yes, same-places)

  pub built_held : Holds (built_lists l kind) (drawn l kind)
  unfolding built_lists drawn lengths_of cached_flags
  built_held =
      let g = long_says (lengths_of l) n (and_right (small_path l.shapes) (long_for (lengths_of l) n) fits) in
      let f = places_of (drawn l kind) in
      record {
        shapes = refl;
        anchors_long = g.anchors;
        radii_long = g.radii;
        numbers_long = rw (numbers_built, length-overwrite (n * 12) (cached_numbers f) l.numbers) g.numbers;
        flags_long = rw (flags_built, length-overwrite n (cached_flags f) l.flags) g.flags;
        anchors = λ k kl. refl;
        radii = λ k kl. refl;
        numbers = λ k i kl il.
            rw numbers_built (at_overwrite nan (n * 12) (cached_numbers f) l.numbers (k * 12 + i) (omega arith) (omega (arith, g.numbers)) ∙ number-of f k i il);
        flags = λ k kl. rw flags_built (at_overwrite 0 n (cached_flags f) l.flags k kl (omega (arith, g.flags)));
      }

-- ---- THE THEOREM: an accepted drawing in lists that hold it, its fresh cache, and every list of calls, each with the lists as the last one left them
pub demand3 : (l : Lent) (kind : ℕ) → built_verdict l kind ≡ accepted → (ts : List Turn) → Linked kind (built_lists l kind) ts → Demand3 (drawn l kind) (built_lists l kind) ts
unfolding drawn
demand3 l kind ok ts linked =
    let r = run kind ts (built_lists l kind) (drawn l kind) refl (built_held l kind ok) (built_fine l kind ok) linked in
    record { answered = r.0; agrees = r.1; spares = spares-all kind ts }
