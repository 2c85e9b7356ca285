-- A drawing that passes its tests: what build and assemble leave of it, and the line that is printed. Assumes nothing.
use mathlib.Core.Path.{◌≡◌, refl, sym, ap, ap₂, ◌∙◌}
use mathlib.Core.Logic.{⊎_elim}
use mathlib.Core.Bool.{true}
use mathlib.Core.List.{List}
use Prim.Native.Nat.{ℕ, ◌+◌, ◌*◌, ◌≤◌, ◌<◌}
use native.Mathlib.Omega.{arith}
use lib.ListN.{length, take}
use lib.Ieee.{Float, nan}
use Rattle.views.specs.View.{tabulate}
use Rattle.views.proofs.Laws.{length-tabulate, at_tabulate, as_tabulate, length-overwrite, at_overwrite, overwrite_cong}
use Rattle.views.proofs.Searches.{all_cong}
use Rattle.real.specs.Limit.{in_limit}
use Rattle.std.proofs.Common.{Ok, Err, Result}
use Rattle.refusal.specs.Reasons.{number_of, refusal_at}
use Rattle.refusal.specs.declared.Refusal.{Refusal}
use Rattle.refusal.specs.declared.Reason.TheVariants.{Made}
use Rattle.refusal.specs.Order.{passes, judge, accepted, refused, answering}
use Rattle.refusal.proofs.Verdicts.{holds_true, refusing, ok_says, err_says}
use Rattle.path.specs.declared.anchor.Anchor.{Anchor}
use Rattle.path.specs.Shape.{total}
use Rattle.path.specs.Flat.{anchor_at, nth, listed}
use Rattle.path.specs.Limit.{anchor_in, anchor_good}
use Rattle.path.proofs.Shapes.{Fits}
use Rattle.path.proofs.Limits.{GoodBelow, Least, search_to}
use Rattle.path.proofs.Places.{anchor-number}
use Rattle.path.proofs.Puts.{listed_at}
use Rattle.call.specs.declared.answers.Outline.{Outline}
use Rattle.call.specs.Tests.{outline_in, outline_limit}
use Rattle.call.specs.Answers.{outline_answer, list_left, anchors_left}
use Rattle.call.proofs.Openings.{PathOpens, path_good, path_opens, places_fail, places_pass}
use Rattle.call.proofs.Handings.{room}
use Rattle.cut.specs.declared.places.Place.{Place}
use Rattle.cut.specs.View.{View}
use Rattle.cut.specs.Subpath.{view_of}
use Rattle.assembly.specs.Assembled.{outline_of, outline_shapes, outline_words}
use Rattle.assembly.proofs.Outlined.{outline-total, words-length, words-written}
use Rattle.cut_calls.specs.PlainCut.{sub_at, view_at, cut_up_to, cut_shape}
use Rattle.cut_calls.specs.Made.{made_verdict}
use Rattle.corner.specs.Kinds.{kind_of}
use Rattle.cut_corners.specs.Calls.{cut_outline, cut_words, cut_verdict, cut_answer, cut_shapes_left, cut_anchors_left}
use Rattle.cut_corners.proofs.Outcomes.{as_made}
use Rattle.cut_calls.proofs.Handed.{outline_few}
use Rattle.svg.specs.Path.{text_of}
use Rattle.svg.proofs.Texts.{text_same}
use Rattle.cache.specs.Cache.{place_of_path, cached_in}
use Rattle.cache.specs.Tests.{cache_fits, cache_verdict}
use Rattle.cache.specs.Calls.{cut_places, build_verdict, build_answer, build_numbers, build_flags, assemble_answer, assemble_shapes, assemble_anchors}
use Rattle.cache.proofs.Accepted.{Drawn}
use Rattle.cache.proofs.Fitting.{fits-is}
use Rattle.cache.proofs.Outcomes.{cache_bad, cache_good, build-made}
use Rattle.cache.proofs.Limited.{cached_outline}
use Rattle.cache.proofs.Theorems.{subpath-cut, outline-cut, assemble-built}
use Rattle.printing.specs.Refused.{refused_text}
use Rattle.printing.specs.Printed.{fitted, unless_bad, cut_text, drawing_text}

-- what is put together of a drawing's cache, as `to_svg_d` takes it: its text is the drawing's line
pub record Assembled (shapes : List ℕ) (anchors radii : List Float) (kind : ℕ) (y : Outline) (words : List ℕ) (outline : List Float) : Type 0 where
  pub few : y.subpaths ≤ 32
  pub opens : PathOpens 1024 (take y.subpaths words) outline (total (take y.subpaths words))
  pub text : fitted (text_of (take y.subpaths words) (anchor_at outline)) ≡ drawing_text shapes anchors radii kind

differ : (why : Refusal) (y : Outline) → ◌≡◌ {A = Result Outline Refusal} (Err why) (Ok y) → ⊥
differ why y e = let z : ◌≡◌ {A = ℕ} 0 1 = cc in omega arith

same_outline : {y z : Outline} → ◌≡◌ {A = Result Outline Refusal} (Ok y) (Ok z) → y ≡ z
same_outline e = cc

module _ (shapes : List ℕ) (anchors radii : List Float) (kind : ℕ) (d : Drawn shapes anchors radii kind) where
  abbrev view : ℕ → View
  view = view_at shapes anchors radii d.way

  abbrev f : ℕ → Place
  f = place_of_path shapes view

  abbrev ps : List Anchor
  ps = cut_up_to view (length shapes)

  abbrev m : ℕ
  m = length shapes

  few : total shapes ≤ 512
  few = d.opens.few

  -- ---- its cut
  outline-is : cut_outline shapes anchors radii (kind_of kind) ≡ ps
  unfolding cut_outline
  outline-is = rw d.known

  word-is : (s : ℕ) → s < m → cut_words shapes anchors radii (kind_of kind) s ≡ outline_shapes shapes f s
  unfolding cut_words cut_shape outline_shapes view_at view_of sub_at
  word-is s l = rw (d.known, ← subpath-cut shapes anchors radii d.way s l)

  words_are : tabulate m (cut_words shapes anchors radii (kind_of kind)) ≡ outline_words shapes f
  words_are =
      as_tabulate 0 _ m (outline_shapes shapes f) (length-tabulate m _) (λ s l. at_tabulate 0 m (cut_words shapes anchors radii (kind_of kind)) s l ∙ word-is s l)

  count-is : length ps ≡ length (outline_of shapes f)
  count-is = ap length (sym (outline-cut shapes anchors radii d.way))

  total-is : total (outline_words shapes f) ≡ length ps
  total-is = outline-total shapes f few ∙ sym count-is

  ps_few : length ps ≤ 1024
  ps_few = omega (arith, count-is, outline_few shapes f, few)

  -- room for it in 6,144 numbers
  pub ps_room : length (cut_up_to (view_at shapes anchors radii d.way) (length shapes)) * 6 ≤ 6144
  ps_room = omega (arith, ps_few)

  -- ---- by what build found
  module _ (numbers : List Float) (flags : List ℕ) (fit : cache_fits shapes numbers flags ≡ true) where
    verdict-is : build_verdict shapes anchors radii kind numbers flags ≡ cache_verdict (cached_in f) (total shapes)
    verdict-is = build-made shapes anchors radii kind numbers flags fit (total shapes) d.opens d.way d.known

    -- a place breaks the limit
    bad_text : (k : ℕ) → Least (cached_in f) (total shapes) k → refused_text 9 k ≡ drawing_text shapes anchors radii kind
    unfolding drawing_text unless_bad cut_places
    bad_text k l = rw (d.known, places_fail (cached_in f) (total shapes) passes k l)

    pub build_refuses : (why : Refusal) → build_answer shapes anchors radii kind numbers flags ≡ Err why → refused_text (number_of why.reason) why.place ≡ drawing_text shapes anchors radii kind
    unfolding build_answer outline_answer
    build_refuses why e =
        ⊎_elim
        (λ g. absurd (refusing why (sym was ∙ cache_good (cached_in f) (total shapes) g)))
        (λ kl. sym (same_text kl.0 (sym (cache_bad (cached_in f) (total shapes) kl.0 kl.1) ∙ was)) ∙ bad_text kl.0 kl.1)
        (search_to (cached_in f) (total shapes))
      where
        was : cache_verdict (cached_in f) (total shapes) ≡ refused why
        was = sym verdict-is ∙ err_says _ _ why e

        same_text : (k : ℕ) → refused (refusal_at Made k) ≡ refused why → refused_text 9 k ≡ refused_text (number_of why.reason) why.place
        same_text k q = let z : refusal_at Made k ≡ why = cc in ap (λ w. refused_text (number_of w.reason) w.place) z

    -- none does
    pub build-accepts : (x : Outline) → build_answer shapes anchors radii kind numbers flags ≡ Ok x
        → GoodBelow (cached_in f) (total shapes) × (build_verdict shapes anchors radii kind numbers flags ≡ accepted)
    unfolding build_answer outline_answer
    build-accepts x e =
        ⊎_elim
        (λ g. (g, was))
        (λ kl. absurd (refusing _ (sym (cache_bad (cached_in f) (total shapes) kl.0 kl.1) ∙ sym verdict-is ∙ was)))
        (search_to (cached_in f) (total shapes))
      where
        was : build_verdict shapes anchors radii kind numbers flags ≡ accepted
        was = (ok_says _ _ x e).0

  -- ---- then it is cut, with room for the outline
  module _ (good : GoodBelow (cached_in f) (total shapes)) (to_shapes : List ℕ) (to : List Float) (wide : m ≤ length to_shapes) (long : length ps * 6 ≤ length to) where
    outline_good : GoodBelow (outline_in ps) (length ps)
    outline_good = rw (← outline-cut shapes anchors radii d.way) (cached_outline shapes view good)

    cut_accepted : cut_verdict shapes anchors radii kind to_shapes to ≡ accepted
    unfolding made_verdict outline_limit judge
    cut_accepted =
        as_made shapes anchors radii kind to_shapes to (total shapes) d.opens d.way d.known
        ∙ rw (places_pass (outline_in ps) (length ps) passes outline_good, holds_true 0 (room m (length ps) to_shapes to wide long))

    pub cut-answer : cut_answer shapes anchors radii kind to_shapes to ≡ Ok (record { subpaths = m; anchors = length ps })
    unfolding cut_answer outline_answer answering
    cut-answer = rw (cut_accepted, outline-is)

    words_left : take m (cut_shapes_left shapes anchors radii kind to_shapes to) ≡ outline_words shapes f
    unfolding cut_shapes_left list_left
    words_left =
        rw cut_accepted
        (ap (take m) (overwrite_cong m (cut_words shapes anchors radii (kind_of kind)) (outline_shapes shapes f) to_shapes word-is) ∙ words-written shapes f to_shapes wide)

    anchors_left_lem : cut_anchors_left shapes anchors radii kind to_shapes to ≡ listed ps to
    unfolding cut_anchors_left anchors_left
    anchors_left_lem = rw (cut_accepted, outline-is)

    -- the path passes `to_svg_d`'s tests
    listed_good : GoodBelow (anchor_in (listed ps to)) (length ps)
    unfolding anchor_in outline_in anchor_good listed
    listed_good k l = all_cong _ _ 6 (λ i h. ap in_limit (at_overwrite nan _ _ to (k * 6 + i) (omega arith) (omega arith) ∙ anchor-number (nth ps) k i h)) ∙ outline_good k l

    listed_long : length (listed ps to) ≡ length to
    unfolding listed
    listed_long = length-overwrite _ _ to

    opened : PathOpens 1024 (outline_words shapes f) (listed ps to) (total (outline_words shapes f))
    opened =
        let w = words-length shapes f in
        let x = d.opens.words in
        let n = total-is in
        let t = listed_long in
        let p = ps_few in
        let fits : Fits (outline_words shapes f) 1024 (total (outline_words shapes f)) = record { words = omega arith; anchors = omega arith; count = refl } in
        path_opens 1024 _ _ _ (sym (path_good 1024 _ _ _ fits (omega arith) (rw total-is listed_good)))

    pub cut_opens : PathOpens 1024 (take m (cut_shapes_left shapes anchors radii kind to_shapes to)) (cut_anchors_left shapes anchors radii kind to_shapes to) (total (take m (cut_shapes_left shapes anchors radii kind to_shapes to)))
    cut_opens = rw (words_left, anchors_left_lem) opened

    good_text : fitted (cut_text shapes anchors radii kind) ≡ drawing_text shapes anchors radii kind
    unfolding drawing_text unless_bad cut_places
    good_text = rw (d.known, places_pass (cached_in f) (total shapes) passes good)

    pub cut-text : fitted (text_of (take m (cut_shapes_left shapes anchors radii kind to_shapes to)) (anchor_at (cut_anchors_left shapes anchors radii kind to_shapes to))) ≡ drawing_text shapes anchors radii kind
    unfolding cut_text
    cut-text =
        ap₂ (λ ws xs. fitted (text_of ws (anchor_at xs))) words_left anchors_left_lem
        ∙ ap fitted (text_same (anchor_at (listed ps to)) (nth ps) (outline_words shapes f) (λ k l. listed_at ps to k long (omega (arith, total-is))) ∙ ap₂ (λ ws qs. text_of ws (nth qs)) (sym words_are) (sym outline-is))
        ∙ good_text

  -- ---- and what is put together of the cache that build left is that cut
  module _ (numbers : List Float) (flags : List ℕ) (fit : cache_fits shapes numbers flags ≡ true) (x : Outline) (e : build_answer shapes anchors radii kind numbers flags ≡ Ok x)
      (to_shapes : List ℕ) (to : List Float) (wide : m ≤ length to_shapes) (long : length ps * 6 ≤ length to) where
    pub assembled-answer : assemble_answer shapes (build_numbers shapes anchors radii kind numbers flags) (build_flags shapes anchors radii kind numbers flags) to_shapes to
        ≡ Ok (record { subpaths = length shapes; anchors = length (cut_up_to (view_at shapes anchors radii d.way) (length shapes)) })
    assembled-answer =
        let g = build-accepts numbers flags fit x e in
        (assemble-built shapes anchors radii kind numbers flags g.1 to_shapes to).0 ∙ cut-answer g.0 to_shapes to wide long

    pub assembled_opens : PathOpens 1024 (take (length shapes) (assemble_shapes shapes (build_numbers shapes anchors radii kind numbers flags) (build_flags shapes anchors radii kind numbers flags) to_shapes to))
        (assemble_anchors shapes (build_numbers shapes anchors radii kind numbers flags) (build_flags shapes anchors radii kind numbers flags) to_shapes to)
        (total (take (length shapes) (assemble_shapes shapes (build_numbers shapes anchors radii kind numbers flags) (build_flags shapes anchors radii kind numbers flags) to_shapes to)))
    assembled_opens =
        let g = build-accepts numbers flags fit x e in
        let t = assemble-built shapes anchors radii kind numbers flags g.1 to_shapes to in
        rw (t.1, t.2) (cut_opens g.0 to_shapes to wide long)

    pub assembled-text : fitted (text_of (take (length shapes) (assemble_shapes shapes (build_numbers shapes anchors radii kind numbers flags) (build_flags shapes anchors radii kind numbers flags) to_shapes to))
        (anchor_at (assemble_anchors shapes (build_numbers shapes anchors radii kind numbers flags) (build_flags shapes anchors radii kind numbers flags) to_shapes to))) ≡ drawing_text shapes anchors radii kind
    assembled-text =
        let g = build-accepts numbers flags fit x e in
        let t = assemble-built shapes anchors radii kind numbers flags g.1 to_shapes to in
        rw (t.1, t.2) (cut-text g.0 to_shapes to wide long)

  -- ---- in lists of the sizes that `put_drawing` has
  module _ (numbers : List Float) (flags : List ℕ) (n : 6144 ≤ length numbers) (g : 512 ≤ length flags) where
    fit : cache_fits shapes numbers flags ≡ true
    fit =
        let l : total shapes * 12 ≤ length numbers = omega (arith, few) in
        let e : total shapes ≤ length flags = omega (arith, few) in
        fits-is shapes numbers flags (record { words = d.opens.words; few = few; long = l; flag_each = e })

    pub refused_line : (why : Refusal) → Err why ≡ build_answer shapes anchors radii kind numbers flags → refused_text (number_of why.reason) why.place ≡ drawing_text shapes anchors radii kind
    refused_line why e = build_refuses numbers flags fit why (sym e)

    module _ (x : Outline) (e : Ok x ≡ build_answer shapes anchors radii kind numbers flags) (to_shapes : List ℕ) (to : List Float) (wide : 32 ≤ length to_shapes) (long : 6144 ≤ length to)
        (kept : List Float) (marked : List ℕ) (kept_is : kept ≡ build_numbers shapes anchors radii kind numbers flags) (marked_is : marked ≡ build_flags shapes anchors radii kind numbers flags) where
      room_words : m ≤ length to_shapes
      room_words = omega (arith, d.opens.words)

      room_numbers : length ps * 6 ≤ length to
      room_numbers = omega (arith, ps_room)

      answer-is : assemble_answer shapes kept marked to_shapes to ≡ Ok (record { subpaths = m; anchors = length ps })
      answer-is = rw (kept_is, marked_is) (assembled-answer numbers flags fit x (sym e) to_shapes to room_words room_numbers)

      pub never_refused : (why : Refusal) → Err why ≡ assemble_answer shapes kept marked to_shapes to → ⊥
      never_refused why q = differ why _ (q ∙ answer-is)

      pub assembles : (y : Outline) (words : List ℕ) (outline : List Float) → Ok y ≡ assemble_answer shapes kept marked to_shapes to
          → words ≡ assemble_shapes shapes kept marked to_shapes to → outline ≡ assemble_anchors shapes kept marked to_shapes to → Assembled shapes anchors radii kind y words outline
      assembles y words outline q w o =
          let z = same_outline (q ∙ answer-is) in
          record {
            few = rw z d.opens.words;
            opens = rw (z, w, o, kept_is, marked_is) (assembled_opens numbers flags fit x (sym e) to_shapes to room_words room_numbers);
            text = rw (z, w, o, kept_is, marked_is) (assembled-text numbers flags fit x (sym e) to_shapes to room_words room_numbers);
          }
