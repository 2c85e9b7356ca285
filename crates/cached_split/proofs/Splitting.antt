-- A segment split: what the code leaves, by what it found, is what the call's definition says. Assumes nothing.
use mathlib.Core.Path.{◌≡◌, refl, sym, ap, ◌∙◌}
use mathlib.Core.Logic.{⊎_elim}
use mathlib.Core.Bool.{Bool, true, false, not, ◌||◌, cond}
use Prim.Native.Nat.{ℕ, ◌+◌, ◌*◌, ◌≤◌, ◌<◌}
use native.Mathlib.Omega.{arith}
use lib.Dec.{ltb, eqb}
use lib.ListN.{length}
use lib.Ieee.{Float}
use borrow.Author.Tests.{ltb-true, eq-eqb, ne_eqb, le-leb, lt-leb, lt-ltb}
use Rattle.path.specs.Limit.{anchor_good, first_bad}
use Rattle.views.specs.View.{entry}
use Rattle.views.proofs.Bools.{and_left, and_right, or_left, or_right}
use Rattle.real.specs.Limit.{in_limit}
use Rattle.refusal.specs.Reasons.{refusal_at}
use Rattle.refusal.specs.declared.Refusal.{Refusal}
use Rattle.refusal.specs.declared.Reason.TheVariants.{Reference, Output, Made, Capacity}
use Rattle.refusal.specs.Order.{accepted, refused}
use Rattle.path.specs.declared.anchor.Anchor.{Anchor}
use Rattle.std.proofs.Common.{Option, Ok}
use Rattle.std.proofs.Common.{Some, None}
use Rattle.path.specs.Flat.{anchor_at}
use Rattle.path.specs.Shape.{count_of, closed_of, total, word_at, start, is_segment, next}
use Rattle.path.proofs.Shapes.{total_in}
use Rattle.path.proofs.Limits.{GoodBelow, first_is, none_is, good_cong, least_cong}
use Rattle.cut.specs.declared.subpath.Sub.{Sub}
use Rattle.cut.specs.declared.subpath.Window.{Window}
use Rattle.cut.specs.View.{View}
use Rattle.cut.specs.Subpath.{view_of}
use Rattle.cut.specs.Near.{old}
use Rattle.cut.specs.Recut.{reached}
use Rattle.cut_calls.specs.PlainCut.{sub_at}
use Rattle.edit.specs.declared.splitting.Halved.{Halved}
use Rattle.edit.specs.Split.{halves, shifted, split_anchors, puts_within, split_shapes, has_segment}
use Rattle.edit.proofs.Segments.{segment_says, next_other}
use Rattle.session.specs.Drawing.{Lent, drawn, view_in}
use Rattle.cut.proofs.Steps.{next_in, next-round, segment_cases}
use Rattle.real.specs.Operators.{0f}
use Rattle.session.specs.Edits.{split, Edit, segment_start, segment_end, split_radii, split_at, edit_of}
use Rattle.session.specs.Calls.{written_good, recut_good, edit_verdict, call_answer}
use Rattle.session.specs.Model.{lengths_of, long_for, recut_count}
use Rattle.session.proofs.Lents.{room-same}
use Rattle.session.proofs.Splits.{old_in, anchor-stood, radius-stood, split-start, split-count, split_closed, split-total, split-length}
use Rattle.session.proofs.Outcomes.{out_reference, out_capacity, out_written, out_recut, out_room, out_pass, accepted_answer}
use Rattle.recutting.specs.declared.plans.Plan.{Plan}
use Rattle.recutting.specs.Stretch.{Accepts, places_found}
use Rattle.cached.specs.declared.opening.Ready.{Ready}
use Rattle.cached.specs.Opening.{ready_of}
use Rattle.cached_split.specs.Splitting.{grown}
use Rattle.cached.proofs.Openings.{ReadyFor, ready_says}
use Rattle.cached.proofs.Plans.{found_bad, found_good}
use Rattle.cached_split.specs.Planning.{Halving, Granted}

-- ---- what a split puts where
module _ (f : ℕ → Anchor) (a b : ℕ) (t : Float) where
  split-left : split_anchors f a b t a ≡ (halves (f a) (f b) t).left
  unfolding split_anchors
  split-left = rw (eq-eqb a a refl)

  split-middle : split_anchors f a b t (a + 1) ≡ (halves (f a) (f b) t).middle
  unfolding split_anchors
  split-middle = rw (ne_eqb (a + 1) a (λ e. omega arith), eq-eqb (a + 1) (a + 1) refl)

  split_right : (shifted a b ≡ a → ⊥) → (shifted a b ≡ a + 1 → ⊥) → split_anchors f a b t (shifted a b) ≡ (halves (f a) (f b) t).right
  unfolding split_anchors
  split_right x y = rw (ne_eqb (shifted a b) a x, ne_eqb (shifted a b) (a + 1) y, eq-eqb (shifted a b) (shifted a b) refl)

-- the first of n places whose anchor, put there by a split between a and b, breaks the limit
unfoldable pub puts_found : (ℕ → Anchor) → ℕ → ℕ → Float → ℕ → Option ℕ
puts_found f a b t n = first_bad (puts_within (halves (f a) (f b) t) a (shifted a b)) n

split-zero : (r : ℕ → Float) (a : ℕ) → split_radii r a (a + 1) ≡ 0f
unfolding split_radii
split-zero r a = rw (eq-eqb (a + 1) (a + 1) refl)

module _ (l : Lent) (kind s a : ℕ) (t : Float) where
  abbrev edit : Edit
  edit = edit_of (drawn l kind) (split s a t)

  module _ (ready : Ready) (is : ready_of l kind (in_limit t) ≡ Ok ready) where
    r : ReadyFor l kind (in_limit t) ready
    r = ready_says l kind (in_limit t) ready is

    -- ---- 6
    pub split_nowhere : has_segment l.shapes s a ≡ false → edit_verdict l kind (edit_of (drawn l kind) (split s a t)) ≡ refused (refusal_at Reference 0)
    unfolding edit_of drawn
    split_nowhere h = out_reference l kind edit r.fits r.good_places r.arguments h

    -- ---- a segment that is there
    module _ (has : has_segment l.shapes s a ≡ true) where
      abbrev first : ℕ
      first = start l.shapes s

      abbrev size : ℕ
      size = count_of (word_at l.shapes s)

      abbrev round : Bool
      round = closed_of (word_at l.shapes s)

      there : s < length l.shapes
      unfolding has_segment
      there = ltb-true s (length l.shapes) (and_left (ltb s (length l.shapes)) (is_segment size round a) has)

      pub seg : is_segment (count_of (word_at l.shapes s)) (closed_of (word_at l.shapes s)) a ≡ true
      unfolding has_segment
      seg = and_right (ltb s (length l.shapes)) (is_segment size round a) has

      small : count_of (word_at l.shapes s) ≤ 512
      small = omega (arith, total_in l.shapes s there, r.few)

      -- one anchor more
      made-total : total (split_shapes l.shapes s) ≡ ready.anchors + 1
      unfolding drawn
      made-total = split-total l.shapes s a there seg small ∙ ap (λ z. z + 1) (sym r.count)

      -- ---- 10
      pub split_full : 512 ≤ ready.anchors → edit_verdict l kind (edit_of (drawn l kind) (split s a t)) ≡ refused (refusal_at Capacity 0)
      unfolding edit_of split_at drawn
      split_full h = out_capacity l kind edit r.fits r.good_places r.arguments has (omega (arith, made-total))

      -- ---- the segment's places in the lists
      pub record Placed : Type 0 where
        pub there : s < length l.shapes
        pub words : length l.shapes ≤ 32
        pub few : ready.anchors ≤ 512
        pub inside : a < count_of (word_at l.shapes s)
        pub next-inside : next (count_of (word_at l.shapes s)) a < count_of (word_at l.shapes s)
        pub other : a ≡ next (count_of (word_at l.shapes s)) a → ⊥
        pub path : start l.shapes s + count_of (word_at l.shapes s) ≤ ready.anchors
        pub anchors : ready.anchors * 6 ≤ length l.anchors
        pub radii : ready.anchors ≤ length l.radii
        pub numbers : ready.anchors * 12 ≤ length l.numbers
        pub flags : ready.anchors ≤ length l.flags

      pub placed : Placed
      unfolding lengths_of
      placed =
          let w = segment_says size round a seg in
          let n = next_other size a w.0 w.1 in
          let c = r.count in
          let f = r.few in
          let p = total_in l.shapes s there in
          let ra = r.long.anchors in
          let rr = r.long.radii in
          let rn = r.long.numbers in
          let rf = r.long.flags in
          record {
            there = there;
            words = r.words;
            few = omega arith;
            inside = w.0;
            next-inside = n.0;
            other = n.1;
            path = omega arith;
            anchors = omega arith;
            radii = omega arith;
            numbers = omega arith;
            flags = omega arith;
          }

      -- the same of a subpath that was read, and the ends of its segment
      pub record Ended (sub : Sub) : Type 0 where
        pub index : a < sub.n
        pub next-index : next sub.n a < sub.n
        pub path : sub.first + sub.n ≤ ready.anchors
        pub from : sub.first + a < ready.anchors
        pub to : sub.first + next sub.n a < ready.anchors
        pub apart : sub.first + a ≡ sub.first + next sub.n a → ⊥
        pub leaving : (sub.closed || ltb (a + 1 + 1) (sub.n + 1)) ≡ true
        pub from-is : sub.first + a ≡ segment_start l.shapes s a
        pub to-is : sub.first + next sub.n a ≡ segment_end l.shapes s a

      ended_here : Ended (sub_at l.shapes s)
      unfolding sub_at segment_start segment_end
      ended_here =
          let p = placed in
          let x = p.inside in
          let y = p.next-inside in
          let z = p.path in
          record {
            index = x;
            next-index = y;
            path = z;
            from = omega arith;
            to = omega arith;
            apart = λ q. p.other (omega arith);
            leaving = ⊎_elim (λ g. or_right round (ltb (a + 1 + 1) (size + 1)) (lt-ltb (a + 1 + 1) (size + 1) (let h = g in omega arith)))
                (λ g. or_left round (ltb (a + 1 + 1) (size + 1)) g.0)
                (segment_cases size round a seg);
            from-is = refl;
            to-is = refl;
          }

      pub ended : (sub : Sub) → sub ≡ sub_at l.shapes s → Ended sub
      ended sub e = rw e ended_here

      -- ---- 9, of the anchors put
      module _ (few : ready.anchors < 512) where
        abbrev from : ℕ
        from = segment_start l.shapes s a

        abbrev to : ℕ
        to = segment_end l.shapes s a

        abbrev h : Halved
        h = halves (anchor_at l.anchors from) (anchor_at l.anchors to) t

        written_same : (k : ℕ) → puts_within h from (shifted from to) k ≡ written_good (edit_of (drawn l kind) (split s a t)) k
        unfolding puts_within written_good edit_of split_at drawn split_anchors
        written_same k = go (eqb k from) (eqb k (from + 1)) (eqb k (shifted from to))
          where
            go : (x y z : Bool)
                → cond x (anchor_good h.left) (cond y (anchor_good h.middle) (cond z (anchor_good h.right) true))
                ≡ (not (x || (y || z)) || anchor_good (cond x h.left (cond y h.middle (cond z h.right (anchor_at l.anchors (old from k))))))
            go true y z = refl
            go false true z = refl
            go false false true = refl
            go false false false = refl

        -- as the code comes to it: the ends at places from and from j of a subpath that was read
        module _ (sub : Sub) (sub-is : sub ≡ sub_at l.shapes s) (j : ℕ) (j-is : j ≡ next sub.n a)
            (put : Halved) (put-is : put ≡ halves (anchor_at l.anchors (sub.first + a)) (anchor_at l.anchors (sub.first + j)) t) where
          j_end : sub.first + j ≡ segment_end l.shapes s a
          j_end = ap (λ z. sub.first + z) j-is ∙ (ended sub sub-is).to-is

          pub put_found : (o : Option ℕ) → ((n : ℕ) → sub.first + a < n → sub.first + j < n → o ≡ first_bad (puts_within put (sub.first + a) (shifted (sub.first + a) (sub.first + j))) (n + 1))
              → o ≡ puts_found (anchor_at l.anchors) (segment_start l.shapes s a) (segment_end l.shapes s a) t (ready.anchors + 1)
          unfolding puts_found
          put_found o f =
              let d = ended sub sub-is in
              let x = d.from in
              let y = d.to in
              rw (← d.from-is, ← j_end, ← put-is) (f ready.anchors x (omega (arith, j-is)))

        few_made : total (split_shapes l.shapes s) ≤ 512
        few_made = omega (arith, made-total)

        module _ (k : ℕ) (found : puts_found (anchor_at l.anchors) (segment_start l.shapes s a) (segment_end l.shapes s a) t (ready.anchors + 1) ≡ Some k) where
          pub split-put_bad : edit_verdict l kind (edit_of (drawn l kind) (split s a t)) ≡ refused (refusal_at Made k)
          unfolding puts_found edit_of split_at drawn
          split-put_bad =
              let g = least_cong (puts_within h from (shifted from to)) (written_good edit) (ready.anchors + 1) (λ j i. written_same j) k ((first_is (puts_within h from (shifted from to)) (ready.anchors + 1) k).0 found) in
              out_written l kind edit r.fits r.good_places r.arguments has few_made k (rw made-total g)

        module _ (found : puts_found (anchor_at l.anchors) (segment_start l.shapes s a) (segment_end l.shapes s a) t (ready.anchors + 1) ≡ None) where
          written : GoodBelow (written_good (edit_of (drawn l kind) (split s a t))) (total (split_shapes l.shapes s))
          unfolding puts_found
          written =
              rw made-total (good_cong (puts_within h from (shifted from to)) (written_good edit) (ready.anchors + 1) (λ j i. written_same j) ((none_is (puts_within h from (shifted from to)) (ready.anchors + 1)).0 found))

          -- ---- the subpath as the split leaves it
          made_there : s < length (split_shapes l.shapes s)
          unfolding drawn
          made_there = omega (arith, there, split-length l.shapes s a there seg small)

          made-start : start (split_shapes l.shapes s) s ≡ start l.shapes s
          unfolding drawn
          made-start = split-start l.shapes s a there seg small

          made-count : count_of (word_at (split_shapes l.shapes s) s) ≡ count_of (word_at l.shapes s) + 1
          unfolding drawn
          made-count = split-count l.shapes s a there seg small

          made_closed : closed_of (word_at (split_shapes l.shapes s) s) ≡ closed_of (word_at l.shapes s)
          unfolding drawn
          made_closed = split_closed l.shapes s a there seg small

          sub-made : sub_at (split_shapes l.shapes s) s ≡ grown (sub_at l.shapes s)
          unfolding sub_at
          sub-made = rw (made-start, made-count, made_closed)

          after_is : shifted from to ≡ first + next (size + 1) (a + 1)
          unfolding shifted segment_start segment_end
          after_is =
              ⊎_elim
              (λ (h : a + 1 < size). rw (next_in size a h, next_in (size + 1) (a + 1) (omega arith), lt-leb (first + (a + 1)) (first + a) (omega arith)) (omega arith))
              (λ (h : (round ≡ true) × (a + 1 ≡ size)). let e = h.1 in rw (next-round size a (omega arith), next-round (size + 1) (a + 1) (omega arith), le-leb (first + 0) (first + a) (omega arith)))
              (segment_cases size round a seg)

          abbrev after : ℕ
          after = next (size + 1) (a + 1)

          after_other : next (size + 1) (a + 1) ≡ a → ⊥
          after_other e =
              ⊎_elim
              (λ (h : a + 1 < size). let x = next_in (size + 1) (a + 1) (omega arith) in omega arith)
              (λ (h : (round ≡ true) × (a + 1 ≡ size)). let y = h.1 in let x = next-round (size + 1) (a + 1) (omega arith) in placed.other (let z = next-round size a (omega arith) in omega arith))
              (segment_cases size round a seg)

          after_next : next (size + 1) (a + 1) ≡ a + 1 → ⊥
          after_next e =
              ⊎_elim
              (λ (h : a + 1 < size). let x = next_in (size + 1) (a + 1) (omega arith) in omega arith)
              (λ (h : (round ≡ true) × (a + 1 ≡ size)). let y = h.1 in let x = next-round (size + 1) (a + 1) (omega arith) in omega arith)
              (segment_cases size round a seg)

          abbrev v : View
          v = view_in (split_at (drawn l kind) s a t) s

          view-anchor : (k : ℕ) → (view_in (split_at (drawn l kind) s a t) s).anchor k ≡ split_anchors (anchor_at l.anchors) from to t (first + k)
          unfolding view_in view_of split_at drawn sub_at
          view-anchor k = ap (λ z. split_anchors (anchor_at l.anchors) from to t (z + k)) made-start

          view-radius : (k : ℕ) → (view_in (split_at (drawn l kind) s a t) s).radius k ≡ split_radii (entry l.radii) from (first + k)
          unfolding view_in view_of split_at drawn sub_at
          view-radius k = ap (λ z. split_radii (entry l.radii) from (z + k)) made-start

          from_is : from ≡ first + a
          unfolding segment_start
          from_is = refl

          pub halving : Halving (view_in (split_at (drawn l kind) s a t) s) ready.kind (sub_at l.shapes s) a
              (halves (anchor_at l.anchors (segment_start l.shapes s a)) (anchor_at l.anchors (segment_end l.shapes s a)) t) l.anchors l.radii
          unfolding view_in view_of split_at drawn sub_at
          halving =
              let f = anchor_at l.anchors in
              let e = from_is in
              let d = after_is in
              record {
                size = made-count;
                closed = made_closed;
                chords = refl;
                left = view-anchor a ∙ ap (split_anchors f from to t) (sym from_is) ∙ split-left f from to t;
                middle = view-anchor (a + 1) ∙ ap (split_anchors f from to t) (omega arith) ∙ split-middle f from to t;
                right = view-anchor after ∙ ap (split_anchors f from to t) (sym after_is) ∙ split_right f from to t (λ x. after_other (omega arith)) (λ x. after_next (omega arith));
                stood = λ k b x y z. view-anchor k ∙ anchor-stood f from to t (first + k) (λ q. x (omega arith)) (λ q. y (omega arith)) (λ q. z (omega arith)) ∙ ap f (ap (λ q. old q (first + k)) from_is ∙ old_in first a k);
                zero = view-radius (a + 1) ∙ ap (split_radii (entry l.radii) from) (omega arith) ∙ split-zero (entry l.radii) from;
                kept = λ k b y. view-radius k ∙ radius-stood (entry l.radii) from (first + k) (λ q. y (omega arith)) ∙ ap (entry l.radii) (ap (λ q. old q (first + k)) from_is ∙ old_in first a k);
                kinds = λ k. sym r.kind-is;
              }

          pub halving_at : (sub : Sub) (e : sub ≡ sub_at l.shapes s) (j : ℕ) → j ≡ next sub.n a → (put : Halved) → put ≡ halves (anchor_at l.anchors (sub.first + a)) (anchor_at l.anchors (sub.first + j)) t
              → Halving (view_in (split_at (drawn l kind) s a t) s) ready.kind sub a put l.anchors l.radii
          halving_at sub e j q put h = rw (h, (ended sub e).from-is, j_end sub e j q put h, e) halving

          recuts : (k : ℕ) → (edit_of (drawn l kind) (split s a t)).recuts k ≡ reached (view_in (split_at (drawn l kind) s a t) s) (start (split_shapes l.shapes s) s) 4 (a + 1) k
          unfolding edit_of drawn
          recuts k = ap (λ f. reached (view_in (split_at (drawn l kind) s a t) s) f 4 (a + 1) k) (sym made-start)

          abbrev win : Window
          win = record { at = a + 1; reach = 4 }

          -- ---- 9, of the places recut
          pub split-recut_bad : (why : Refusal) → why.reason ≡ Made → places_found (view_in (split_at (drawn l kind) s a t) s) (grown (sub_at l.shapes s)) (record { at = a + 1; reach = 4 }) ≡ Some why.place
              → edit_verdict l kind (edit_of (drawn l kind) (split s a t)) ≡ refused why
          unfolding edit_of split_at drawn
          split-recut_bad why n h =
              out_recut l kind edit r.fits r.good_places r.arguments has few_made written why.place
              (found_bad edit s (a + 1) 4 made_there recuts why.place (ap (λ z. places_found v z win) sub-made ∙ h))
              ∙ ap (λ z. refused (refusal_at z why.place)) (sym n)

          module _ (p : Plan) where
            module _ (acc : Accepts (view_in (split_at (drawn l kind) s a t) s) (grown (sub_at l.shapes s)) (record { at = a + 1; reach = 4 }) p) where
              recut : GoodBelow (recut_good (edit_of (drawn l kind) (split s a t))) (total (split_shapes l.shapes s))
              unfolding edit_of split_at drawn
              recut = found_good edit s (a + 1) 4 made_there recuts (ap (λ z. places_found v z win) sub-made ∙ acc.none)

              -- ---- 8
              pub split-short : long_for (lengths_of l) (ready.anchors + 1) ≡ false → edit_verdict l kind (edit_of (drawn l kind) (split s a t)) ≡ refused (refusal_at Output 0)
              unfolding edit_of split_at drawn
              split-short f = out_room l kind edit r.fits r.good_places r.arguments has few_made written recut (rw made-total (room-same l (ready.anchors + 1) ∙ f))

              -- ---- accepted
              module _ (whole : p.total ≡ ready.anchors + 1) (fits : long_for (lengths_of l) (ready.anchors + 1) ≡ true) where
                accepts : edit_verdict l kind (edit_of (drawn l kind) (split s a t)) ≡ accepted
                unfolding edit_of split_at drawn
                accepts = out_pass l kind edit r.fits r.good_places r.arguments has few_made written recut (rw made-total (room-same l (ready.anchors + 1) ∙ fits))

                answer : Ok (record { recut = p.count; anchors = p.total }) ≡ call_answer l kind (split s a t)
                unfolding recut_count edit_of split_at drawn sub_at
                answer = cc (acc.count, whole, made-total) ∙ accepted_answer l kind (split s a t) accepts r.few has

                index : a + 1 < (sub_at (split_shapes l.shapes s) s).n
                unfolding sub_at
                index = omega (arith, made-count, placed.inside)

                pub split-granted : Granted l kind s a t p
                unfolding edit_of split_at drawn lengths_of
                split-granted = record {
                  allowed = record {
                    verdict = accepts;
                    answer = answer;
                    stands = record {
                      there = there;
                      words = r.words;
                      few = r.few;
                      path = total_in l.shapes s there;
                      anchors = r.long.anchors;
                      radii = r.long.radii;
                      numbers = r.long.numbers;
                      flags = r.long.flags;
                    };
                    index = index;
                    places = rw sub-made acc;
                  };
                  segment = has;
                  count = whole ∙ ap (λ z. z + 1) r.count;
                  few = omega (arith, r.count, few);
                  room = ap (λ z. long_for (lengths_of l) (z + 1)) (sym r.count) ∙ fits;
                }
