-- An edit of a drawing that passed 7 and 5: what the test of the places within reach says of it; and the plan of an edit of one anchor. Assumes nothing.
use mathlib.Core.Path.{◌≡◌, refl, sym, ap, ◌∙◌}
use mathlib.Core.Logic.{⊎_elim}
use mathlib.Core.Bool.{Bool, true, false, not, ◌||◌, cond}
use Prim.Native.Nat.{ℕ, ◌+◌, ◌-◌, ◌*◌, ◌≤◌, ◌<◌}
use native.Mathlib.Omega.{arith}
use lib.Dec.{eqb, ltb}
use lib.ListN.{length}
use lib.Ieee.{Float}
use borrow.Author.Tests.{le-leb, le-ltb, ltb-true}
use Rattle.views.specs.View.{entry}
use Rattle.views.specs.Search.{all}
use Rattle.views.proofs.Bools.{and_false, and_left, and_right}
use Rattle.views.proofs.Laws.{order}
use Rattle.real.specs.Limit.{in_limit}
use Rattle.refusal.specs.Reasons.{refusal_at}
use Rattle.refusal.specs.declared.Refusal.{Refusal}
use Rattle.refusal.specs.declared.Reason.TheVariants.{Reference, Made}
use Rattle.refusal.specs.Order.{refused}
use Rattle.path.specs.declared.anchor.Anchor.{Anchor}
use Rattle.std.proofs.Common.{Some, None, IfOk, Ok, Err, Result}
use Rattle.path.specs.Flat.{anchor_at}
use Rattle.path.specs.Shape.{count_of, closed_of, total, word_at, start, has_anchor}
use Rattle.path.proofs.Shapes.{total_in}
use Rattle.path.proofs.Limits.{GoodBelow, Least, first_is, none_is}
use Rattle.cut.specs.declared.subpath.Sub.{Sub}
use Rattle.cut.specs.declared.subpath.Window.{Window}
use Rattle.cut.specs.View.{View}
use Rattle.cut.specs.Subpath.{view_of}
use Rattle.cut.specs.Near.{near_count}
use Rattle.cut.specs.Places.{place_at, place_numbers}
use Rattle.cut.specs.Recut.{reached}
use Rattle.cut_calls.specs.PlainCut.{sub_at}
use Rattle.corner.specs.Kinds.{kind_of, is_known}
use Rattle.cache.specs.Cache.{cached_in}
use Rattle.recutting.specs.declared.plans.Plan.{Plan}
use Rattle.recutting.specs.Near.{reached_in, passes_near, good_near}
use Rattle.recutting.specs.Stretch.{Put, Accepts, Decides, places_found}
use Rattle.session.specs.Drawing.{Lent, corner_kind, drawn, view_in}
use Rattle.session.specs.Edits.{Call, Edit, edit_of, places_of}
use Rattle.session.specs.Calls.{written_good, recut_good, room_in, edit_verdict, edited_lists}
use Rattle.session.specs.Model.{lengths_of, recut_count}
use Rattle.session.proofs.Splits.{Like}
use Rattle.session.proofs.Recutting.{recut_place}
use Rattle.session.proofs.Outcomes.{out_reference, out_recut, out_pass, refused-answer, refused_lists, accepted_answer, accepted_lists}
use Rattle.cached.specs.declared.opening.Ready.{Ready}
use Rattle.cached.specs.Opening.{ready_of}
use Rattle.cached.specs.Doing.{Does}
use Rattle.cached.specs.Planning.{Stands, Allowed, Planned}
use Rattle.cached.proofs.Openings.{ReadyFor, ready_says}

pub like_self : (v : View) → Like v v
like_self v = record { n = refl; closed = refl; chords = refl; anchors = λ j l. refl; radii = λ j l. refl; kinds = λ j l. refl }

-- ---- the code's test of the places within reach is the definition's
module _ (e : Edit) (s i reach : ℕ) (there : s < length e.made.shapes)
    (recuts : (k : ℕ) → e.recuts k ≡ reached (view_in e.made s) (start e.made.shapes s) reach i k) where
  abbrev sub : Sub
  sub = sub_at e.made.shapes s

  abbrev win : Window
  win = record { at = i; reach = reach }

  abbrev v : View
  v = view_in e.made s

  abbrev first : ℕ
  first = start e.made.shapes s

  abbrev size : ℕ
  size = count_of (word_at e.made.shapes s)

  reached-same : (k : ℕ) → reached_in sub win k ≡ e.recuts k
  unfolding reached_in reached view_of view_in sub_at
  reached-same k = sym (recuts k)

  place_same : (k : ℕ) → e.recuts k ≡ true → place_at v (k - first) ≡ places_of e.made k
  place_same k h = recut_place e s first reach i there refl recuts v (like_self v) k h

  test-same : (k : ℕ) → good_near v sub win k ≡ recut_good e k
  unfolding good_near passes_near recut_good cached_in sub_at
  test-same k = rw (reached-same k) (go (e.recuts k) refl)
    where
      go : (t : Bool) → e.recuts k ≡ t
          → (not t || all (λ q. in_limit (entry (place_numbers (place_at v (k - first))) q)) 12) ≡ (not t || all (λ q. in_limit (entry (place_numbers (places_of e.made k)) q)) 12)
      go true h = ap (λ p. all (λ q. in_limit (entry (place_numbers p) q)) 12) (place_same k h)
      go false h = refl

  past_good : (k : ℕ) → first + size ≤ k → good_near v sub win k ≡ true
  unfolding good_near passes_near reached_in sub_at
  past_good k h = rw (le-ltb k (first + size) h, and_false)

  pub found_bad : (k : ℕ) → places_found (view_in e.made s) (sub_at e.made.shapes s) (record { at = i; reach = reach }) ≡ Some k → Least (recut_good e) (total e.made.shapes) k
  unfolding places_found sub_at
  found_bad k h =
      let g = (first_is _ _ _).0 h in
      record {
        place = let p = g.place in omega (arith, total_in e.made.shapes s there);
        bad = sym (test-same k) ∙ g.bad;
        below = λ j l. sym (test-same j) ∙ g.below j l;
      }

  pub found_good : places_found (view_in e.made s) (sub_at e.made.shapes s) (record { at = i; reach = reach }) ≡ None → GoodBelow (recut_good e) (total e.made.shapes)
  unfolding places_found sub_at
  found_good h k l =
      let g = (none_is _ _).0 h in
      sym (test-same k) ∙ ⊎_elim (λ (p : first + size ≤ k). past_good k p) (λ (p : k < first + size). g k p) (order (first + size) k)

-- ---- subpath s in the lists
pub record Inside (l : Lent) (sub : Sub) : Type 0 where
  pub path : sub.first + sub.n ≤ 512
  pub anchors : (sub.first + sub.n) * 6 ≤ length l.anchors
  pub radii : sub.first + sub.n ≤ length l.radii
  pub numbers : (sub.first + sub.n) * 12 ≤ length l.numbers
  pub flags : sub.first + sub.n ≤ length l.flags

pub inside_of : (l : Lent) (s : ℕ) → Stands l s → (sub : Sub) → sub ≡ sub_at l.shapes s → Inside l sub
unfolding sub_at
inside_of l s at sub e =
    let p = at.path in
    let f = at.few in
    let x = at.anchors in
    let y = at.radii in
    let z = at.numbers in
    let u = at.flags in
    rw e (record { path = omega arith; anchors = omega arith; radii = omega arith; numbers = omega arith; flags = omega arith })

-- ---- any edit
module _ (l : Lent) (kind : ℕ) (c : Call) where
  pub does-refuse : (why : Refusal) → edit_verdict l kind (edit_of (drawn l kind) c) ≡ refused why → Does l kind c (Err why) l
  does-refuse why v = record { answer = refused-answer l kind c why v; lists = refused_lists l kind c why v }

  pub does_accept : (s at reach : ℕ) (p : Plan) → Allowed l kind c s at reach p → (after : Lent) → after ≡ edited_lists l (edit_of (drawn l kind) c)
      → Does l kind c (Ok (record { recut = p.count; anchors = p.total })) after
  does_accept s at reach p a after e = record { answer = a.answer; lists = e ∙ accepted_lists l kind c a.verdict }

  -- ---- 6
  pub plan_nowhere : (r : Ready) → ready_of l kind (edit_of (drawn l kind) c).loose ≡ Ok r → (edit_of (drawn l kind) c).known ≡ false
      → edit_verdict l kind (edit_of (drawn l kind) c) ≡ refused (refusal_at Reference 0)
  plan_nowhere r h f =
      let o = ready_says l kind (edit_of (drawn l kind) c).loose r h in
      out_reference l kind (edit_of (drawn l kind) c) o.fits o.good_places o.arguments f

-- ---- an edit of one anchor
pub record One (l : Lent) (kind : ℕ) (c : Call) (s i reach : ℕ) (new : Anchor) (radius : Float) : Type 0 where
  pub known : (edit_of (drawn l kind) c).known ≡ has_anchor l.shapes s i
  pub shapes : (edit_of (drawn l kind) c).made.shapes ≡ l.shapes
  pub made-kind : (edit_of (drawn l kind) c).made.kind ≡ kind
  pub recuts : (k : ℕ) → (edit_of (drawn l kind) c).recuts k ≡ reached (view_in (edit_of (drawn l kind) c).made s) (start l.shapes s) reach i k
  pub written : (edit_of (drawn l kind) c).loose ≡ true → (k : ℕ) → written_good (edit_of (drawn l kind) c) k ≡ true
  pub anchor : (k : ℕ) → (edit_of (drawn l kind) c).made.anchor (start l.shapes s + k) ≡ cond (eqb k i) new (anchor_at l.anchors (start l.shapes s + k))
  pub set-radius : (k : ℕ) → (edit_of (drawn l kind) c).made.radius (start l.shapes s + k) ≡ cond (eqb k i) radius (entry l.radii (start l.shapes s + k))
  pub count : recut_count (drawn l kind) c ≡ near_count reach (count_of (word_at l.shapes s)) (closed_of (word_at l.shapes s)) i

module _ (l : Lent) (kind : ℕ) (c : Call) (s i reach : ℕ) (new : Anchor) (radius : Float) (one : One l kind c s i reach new radius)
    (ready : Ready) (is : ready_of l kind (edit_of (drawn l kind) c).loose ≡ Ok ready) (has : has_anchor l.shapes s i ≡ true) where
  abbrev e : Edit
  e = edit_of (drawn l kind) c

  ready_here : ReadyFor l kind (edit_of (drawn l kind) c).loose ready
  ready_here = ready_says l kind (edit_of (drawn l kind) c).loose ready is

  pub one_there : s < length l.shapes
  unfolding has_anchor
  one_there = ltb-true s (length l.shapes) (and_left (ltb s (length l.shapes)) (ltb i (count_of (word_at l.shapes s))) has)

  pub one_inside : i < (sub_at l.shapes s).n
  unfolding has_anchor sub_at
  one_inside = ltb-true i (count_of (word_at l.shapes s)) (and_right (ltb s (length l.shapes)) (ltb i (count_of (word_at l.shapes s))) has)

  pub one_stands : Stands l s
  unfolding lengths_of
  one_stands =
      let r = ready_here in
      record {
        there = one_there;
        words = r.words;
        few = r.few;
        path = total_in l.shapes s one_there;
        anchors = r.long.anchors;
        radii = r.long.radii;
        numbers = r.long.numbers;
        flags = r.long.flags;
      }

  pub one_put : Put (view_in (edit_of (drawn l kind) c).made s) ready.kind (sub_at l.shapes s) i new radius l.anchors l.radii
  unfolding view_in view_of sub_at
  one_put = record {
    size = ap (λ z. count_of (word_at z s)) one.shapes;
    closed = ap (λ z. closed_of (word_at z s)) one.shapes;
    chords = refl;
    anchor = λ k. ap (λ z. (edit_of (drawn l kind) c).made.anchor (start z s + k)) one.shapes ∙ one.anchor k;
    set-radius = λ k. ap (λ z. (edit_of (drawn l kind) c).made.radius (start z s + k)) one.shapes ∙ one.set-radius k;
    kinds = λ k. sym ready_here.kind-is ∙ ap (λ z. corner_kind (kind_of z)) (sym one.made-kind);
  }

  same_total : total (edit_of (drawn l kind) c).made.shapes ≡ total l.shapes
  same_total = ap total one.shapes

  room : room_in l (total (edit_of (drawn l kind) c).made.shapes) ≡ true
  unfolding room_in lengths_of
  room =
      let g = ready_here.long in
      rw (same_total) (rw (
        le-leb (total l.shapes * 6) (length l.anchors) g.anchors,
        le-leb (total l.shapes) (length l.radii) g.radii,
        le-leb (total l.shapes * 12) (length l.numbers) g.numbers,
        le-leb (total l.shapes) (length l.flags) g.flags,
      ))

  there_made : s < length (edit_of (drawn l kind) c).made.shapes
  there_made = rw one.shapes one_there

  recuts_made : (k : ℕ) → (edit_of (drawn l kind) c).recuts k ≡ reached (view_in (edit_of (drawn l kind) c).made s) (start (edit_of (drawn l kind) c).made.shapes s) reach i k
  recuts_made k = one.recuts k ∙ ap (λ z. reached (view_in (edit_of (drawn l kind) c).made s) (start z s) reach i k) (sym one.shapes)

  few : total (edit_of (drawn l kind) c).made.shapes ≤ 512
  few = omega (arith, same_total, ready_here.few)

  written : GoodBelow (written_good (edit_of (drawn l kind) c)) (total (edit_of (drawn l kind) c).made.shapes)
  written k h = one.written (and_right (is_known (kind_of kind)) (edit_of (drawn l kind) c).loose ready_here.arguments) k

  refuses : (why : Refusal) → why.reason ≡ Made → places_found (view_in (edit_of (drawn l kind) c).made s) (sub_at l.shapes s) (record { at = i; reach = reach }) ≡ Some why.place
      → edit_verdict l kind (edit_of (drawn l kind) c) ≡ refused why
  refuses why n h =
      let r = ready_here in
      let f = ap (λ z. places_found (view_in (edit_of (drawn l kind) c).made s) (sub_at z s) (record { at = i; reach = reach })) one.shapes ∙ h in
      out_recut l kind e r.fits r.good_places r.arguments (one.known ∙ has) few written why.place (found_bad e s i reach there_made recuts_made why.place f)
      ∙ ap (λ z. refused (refusal_at z why.place)) (sym n)

  accepts : (p : Plan) → p.total ≡ ready.anchors → Accepts (view_in (edit_of (drawn l kind) c).made s) (sub_at l.shapes s) (record { at = i; reach = reach }) p → Allowed l kind c s i reach p
  unfolding sub_at drawn
  accepts p whole a =
      let r = ready_here in
      let f = ap (λ z. places_found (view_in (edit_of (drawn l kind) c).made s) (sub_at z s) (record { at = i; reach = reach })) one.shapes ∙ a.none in
      let v = out_pass l kind e r.fits r.good_places r.arguments (one.known ∙ has) few written (found_good e s i reach there_made recuts_made f) room in
      record {
        verdict = v;
        answer = cc (a.count, whole, r.count, same_total, one.count) ∙ accepted_answer l kind c v r.few (one.known ∙ has);
        stands = one_stands;
        index = rw one.shapes one_inside;
        places = rw one.shapes a;
      }

  pub one_decided : (r : Result Plan Refusal) → IfOk r (λ p. p.total ≡ ready.anchors) → Decides (view_in (edit_of (drawn l kind) c).made s) (sub_at l.shapes s) (record { at = i; reach = reach }) r
      → Planned l kind c s i reach r
  one_decided (Ok p) whole a = accepts p whole a
  one_decided (Err why) whole d = refuses why d.0 d.1
