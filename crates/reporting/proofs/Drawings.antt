-- A drawing that passes its tests, in lists with room for 512 anchors: what `edits` prints for it and a list of calls. Assumes nothing.
use mathlib.Core.Path.{◌≡◌, refl, sym, ap, ap₂, subst, ◌∙◌}
use mathlib.Core.Logic.{⊎_elim}
use mathlib.Core.Bool.{Bool, true, false}
use mathlib.Core.List.{List, []}
use Prim.Native.Nat.{ℕ, ◌*◌, ◌<◌}
use lib.ListN.{length}
use lib.Ieee.{Float}
use Rattle.views.specs.View.{entry}
use Rattle.views.specs.Search.{all}
use Rattle.real.specs.Limit.{in_limit}
use Rattle.refusal.specs.declared.Reason.TheVariants.{Arguments, Made}
use Rattle.refusal.specs.Reasons.{refusal_at}
use Rattle.refusal.specs.Order.{passes, Verdict, accepted, refused}
use Rattle.path.specs.declared.anchor.Anchor.{Anchor}
use Rattle.path.specs.Shape.{total}
use Rattle.path.specs.Flat.{anchor_at}
use Rattle.path.proofs.Limits.{GoodBelow, Least, search_to}
use Rattle.call.specs.Tests.{places}
use Rattle.call.specs.Answers.{list_left}
use Rattle.call.proofs.Openings.{places_fail, places_pass}
use Rattle.cut.specs.declared.places.Place.{Place}
use Rattle.cut.specs.Subpath.{view_of}
use Rattle.cut.specs.Places.{place_numbers}
use Rattle.cut.specs.Rows.{flag_of}
use Rattle.corner.specs.Kinds.{kind_of}
use Rattle.cut_calls.specs.PlainCut.{sub_at, view_at}
use Rattle.cache.specs.Cache.{place_of_path, cached_numbers, cached_flags, cached_in}
use Rattle.cache.specs.Tests.{cache_fits}
use Rattle.cache.specs.Calls.{cut_places, build_verdict, build_numbers, build_flags}
use Rattle.cache.proofs.Accepted.{Drawn}
use Rattle.cache.proofs.Outcomes.{cache_good, build-made}
use Rattle.views.proofs.Laws.{length-overwrite}
use Rattle.session.specs.Drawing.{Drawing, Lent, corner_kind, view_in, drawn}
use Rattle.session.specs.Edits.{Call, places_of}
use Rattle.session.specs.Calls.{built_verdict, built_lists}
use Rattle.session.specs.Model.{lengths_of, model_after}
use Rattle.session.specs.Session.{fed, after_all, played, turns_of}
use Rattle.session.specs.Demand.{Holds}
use Rattle.session.proofs.Effects.{draw, Alike, places-alike}
use Rattle.session.proofs.Judging.{places_same}
use Rattle.session.proofs.Step.{Fine}
use Rattle.session.proofs.Plays.{demand3-played}
use Rattle.printing.specs.Printed.{fitted}
use Rattle.reporting.specs.Gathered.{held_text, Gathers}
use Rattle.reporting.specs.Report.{report_of, refusing, roomy, fed_all, ran_report, drawing_report}
use Rattle.reporting.proofs.Sessions.{turn_lines, Ran, ran}
use Rattle.reporting.proofs.Gathering.{held_plain, gathers-held}

left-length : {A : Type 0} (v : Verdict) (m : ℕ) (f : ℕ → A) (xs : List A) → length (list_left v m f xs) ≡ length xs
unfolding list_left
left-length accepted m f xs = length-overwrite m f xs
left-length (refused why) m f xs = refl

-- ---- two drawings that are alike at their places, where lists hold one and its cut
cached_alike : (f g : ℕ → Place) (k : ℕ) → f k ≡ g k → cached_in f k ≡ cached_in g k
unfolding cached_in
cached_alike f g k e = ap (λ p. all (λ i. in_limit (entry (place_numbers p) i)) 12) e

module _ (shapes : List ℕ) (kind : ℕ) (f g : ℕ → Anchor) (r q : ℕ → Float) (alike : Alike shapes f g r q) where
  abbrev one : Drawing
  one = draw shapes kind f r

  abbrev two : Drawing
  two = draw shapes kind g q

  same : (k : ℕ) → k < total shapes → places_of one k ≡ places_of two k
  same = places-alike shapes kind f g r q alike

  holds-alike : (b : Lent) → Holds b one → Holds b two
  holds-alike b h = record {
    shapes = h.shapes;
    anchors_long = h.anchors_long;
    radii_long = h.radii_long;
    numbers_long = h.numbers_long;
    flags_long = h.flags_long;
    anchors = λ k l. h.anchors k l ∙ alike.anchors k l;
    radii = λ k l. h.radii k l ∙ alike.radii k l;
    numbers = λ k i l j. h.numbers k i l j ∙ ap (λ p. entry (place_numbers p) i) (same k l);
    flags = λ k l. h.flags k l ∙ ap (λ p. flag_of p.cut) (same k l);
  }

  fine_alike : Fine one → Fine two
  fine_alike h = record { words = h.words; few = h.few; places = λ k l. sym (cached_alike (places_of one) (places_of two) k (same k l)) ∙ h.places k l }

  -- they print the same
  ran_alike : (b : Lent) → Holds b one → Fine one → (cs : List Call) → ran_report passes one (fed_all (lengths_of b) cs) ≡ ran_report passes two (fed_all (lengths_of b) cs)
  unfolding ran_report
  ran_alike b h fine cs =
      let x = ran kind cs b one refl h fine in
      let y = ran kind cs b two refl (holds-alike b h) (fine_alike fine) in
      let u = held_plain (played kind b cs) (model_after one (fed_all (lengths_of b) cs)) x.held x.fine in
      let v = held_plain (played kind b cs) (model_after two (fed_all (lengths_of b) cs)) y.held y.fine in
      ap₂ report_of (sym x.lines ∙ y.lines) (ap fitted (sym u ∙ v))

module _ (l : Lent) (kind : ℕ) (d : Drawn l.shapes l.anchors l.radii kind) where
  -- its places are those of its cut
  pub way_places : places_of (drawn l kind) ≡ place_of_path l.shapes (view_at l.shapes l.anchors l.radii d.way)
  unfolding places_of drawn view_in view_at corner_kind
  way_places =
      ap (λ k. place_of_path l.shapes (λ s. view_of (anchor_at l.anchors) (entry l.radii) (λ i. corner_kind k) 128 (sub_at l.shapes s))) d.known

  pub same-places : cut_places l.shapes l.anchors l.radii (kind_of kind) ≡ places_of (drawn l kind)
  unfolding cut_places
  same-places = ap (cut_places l.shapes l.anchors l.radii) d.known ∙ sym way_places

  module _ (fit : cache_fits l.shapes l.numbers l.flags ≡ true) (good : GoodBelow (cached_in (places_of (drawn l kind))) (total l.shapes)) where
    built : built_verdict l kind ≡ accepted
    unfolding built_verdict
    built =
        build-made l.shapes l.anchors l.radii kind l.numbers l.flags fit (total l.shapes) d.opens d.way d.known
        ∙ cache_good _ (total l.shapes) (rw way_places at good)

    held : Holds (built_lists l kind) (drawn l kind)
    unfolding turns_of fed after_all model_after
    held = (demand3-played l kind built []).agrees.held

    fine : Fine (drawn l kind)
    unfolding drawn
    fine = record { words = d.opens.words; few = d.opens.few; places = good }

    lengths_built : lengths_of (built_lists l kind) ≡ lengths_of l
    unfolding lengths_of built_lists build_numbers build_flags
    lengths_built = λ t. record {
      anchors = length l.anchors;
      radii = length l.radii;
      numbers = left-length (build_verdict l.shapes l.anchors l.radii kind l.numbers l.flags) (total l.shapes * 12) (cached_numbers (cut_places l.shapes l.anchors l.radii (kind_of kind))) l.numbers t;
      flags = left-length (build_verdict l.shapes l.anchors l.radii kind l.numbers l.flags) (total l.shapes) (cached_flags (cut_places l.shapes l.anchors l.radii (kind_of kind))) l.flags t;
    }

    -- the lines of calls on its fresh cache, and what the lists then hold
    module _ (cs : List Call) where
      pub lists_ran : Ran kind cs (built_lists l kind) (drawn l kind) (lengths_of l)
      unfolding drawn
      lists_ran = subst (Ran kind cs (built_lists l kind) (drawn l kind)) lengths_built (ran kind cs (built_lists l kind) (drawn l kind) refl held fine)

      pub lists_gather : Gathers (played kind (built_lists l kind) cs).shapes (played kind (built_lists l kind) cs).numbers (played kind (built_lists l kind) cs).flags
      lists_gather = gathers-held (played kind (built_lists l kind) cs) (model_after (drawn l kind) (fed_all (lengths_of l) cs)) lists_ran.held lists_ran.fine

      -- what is printed where no place breaks the limit
      pub report_ran : lengths_of l ≡ roomy → drawing_report true cs (drawn l kind)
          ≡ report_of (turn_lines kind (built_lists l kind) cs) (fitted (held_text (played kind (built_lists l kind) cs).shapes (played kind (built_lists l kind) cs).numbers (played kind (built_lists l kind) cs).flags))
      unfolding drawing_report ran_report drawn
      report_ran e =
          let x = lists_ran in
          let u = held_plain (played kind (built_lists l kind) cs) (model_after (drawn l kind) (fed_all (lengths_of l) cs)) x.held x.fine in
          rw (places_pass (cached_in (places_of (drawn l kind))) (total l.shapes) passes good, ← e) (ap₂ report_of (sym x.lines) (ap fitted (sym u)))

-- ---- and where one does, or a call is none of the three
pub report_bad : (d : Drawing) (cs : List Call) (k : ℕ) → Least (cached_in (places_of d)) (total d.shapes) k → refusing (refusal_at Made k) ≡ drawing_report true cs d
unfolding drawing_report ran_report
report_bad d cs k h = rw (places_fail (cached_in (places_of d)) (total d.shapes) passes k h)

pub report_unknown : (d : Drawing) (cs : List Call) → refusing (refusal_at Arguments (total d.shapes)) ≡ drawing_report false cs d
unfolding drawing_report
report_unknown d cs = refl

-- ---- what is printed turns on the drawing's places alone
module _ (l : Lent) (kind : ℕ) (d : Drawn l.shapes l.anchors l.radii kind) (fit : cache_fits l.shapes l.numbers l.flags ≡ true) (wide : lengths_of l ≡ roomy)
    (g : ℕ → Anchor) (q : ℕ → Float) (alike : Alike l.shapes (anchor_at l.anchors) g (entry l.radii) q) where
  tests-alike : places (cached_in (places_of (drawn l kind))) (total l.shapes) passes ≡ places (cached_in (places_of (draw l.shapes kind g q))) (total l.shapes) passes
  unfolding drawn
  tests-alike = places_same _ _ (total l.shapes) passes passes (λ k h. cached_alike _ _ k (places-alike l.shapes kind _ g _ q alike k h)) refl

  pub report-alike : (known : Bool) (cs : List Call) → drawing_report known cs (drawn l kind) ≡ drawing_report known cs (draw l.shapes kind g q)
  unfolding drawing_report ran_report drawn
  report-alike false cs = refl
  report-alike true cs = ⊎_elim fits breaks (search_to (cached_in (places_of (drawn l kind))) (total l.shapes))
    where
      breaks : ((k : ℕ) × Least (cached_in (places_of (drawn l kind))) (total l.shapes) k) → drawing_report true cs (drawn l kind) ≡ drawing_report true cs (draw l.shapes kind g q)
      breaks b = rw (← tests-alike, places_fail (cached_in (places_of (drawn l kind))) (total l.shapes) passes b.0 b.1)

      fits : GoodBelow (cached_in (places_of (drawn l kind))) (total l.shapes) → drawing_report true cs (drawn l kind) ≡ drawing_report true cs (draw l.shapes kind g q)
      fits good =
          let e = lengths_built l kind d fit good ∙ wide in
          rw (← tests-alike, places_pass (cached_in (places_of (drawn l kind))) (total l.shapes) passes good, ← e)
          (ran_alike l.shapes kind _ g _ q alike (built_lists l kind) (held l kind d fit good) (fine l kind d fit good) cs)
