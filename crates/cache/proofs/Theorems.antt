-- The cache and the plain cut: (1) what `assemble` makes of a cache that `build` left is the plain cut, bit for bit; (2) `build` is refused 9
-- exactly where the plain cut is; (3) how many anchors any cache assembles to. Assumes nothing.
use mathlib.Core.Path.{◌≡◌, refl, sym, ap, ap₂, ◌∙◌}
use mathlib.Core.Logic.{◌↔◌, ⊎_elim}
use mathlib.Core.Bool.{Bool, true}
use mathlib.Core.List.{List, ◌++◌}
use Prim.Native.Nat.{ℕ, zero, suc, ◌+◌, ◌-◌, ◌*◌, ◌/◌, ◌%◌, ◌≤◌, ◌<◌}
use native.Mathlib.Nat.{le_refl}
use native.Mathlib.Omega.{arith}
use lib.Dec.{leb}
use lib.ListN.{length, get_or}
use lib.Ieee.{Float, nan}
use Rattle.views.specs.View.{entry, overwrite}
use Rattle.views.specs.Search.{count}
use Rattle.views.proofs.Laws.{length-overwrite, at_overwrite}
use Rattle.refusal.specs.Reasons.{refusal_at}
use Rattle.refusal.specs.declared.Reason.TheVariants.{Made}
use Rattle.refusal.specs.Order.{passes, holds, judge, accepted, refused, answering}
use Rattle.refusal.proofs.Verdicts.{refusing}
use Rattle.path.specs.declared.anchor.Anchor.{Anchor}
use Rattle.path.specs.Shape.{total, start}
use Rattle.path.proofs.Shapes.{total_in}
use Rattle.path.proofs.Limits.{search_to}
use Rattle.corner.specs.declared.kind.CornerKind.{CornerKind}
use Rattle.cut.specs.declared.places.Place.{Place}
use Rattle.cut.specs.View.{View}
use Rattle.cut.specs.Subpath.{view_of}
use Rattle.cut.specs.Places.{place_at, place_numbers}
use Rattle.cut.specs.Rows.{flag_of}
use Rattle.cut.specs.Outline.{cut_corners}
use Rattle.cut.proofs.Outlines.{assembled-same, place_cut}
use Rattle.assembly.specs.Assembled.{place_read, subpath_outline, outline_up_to, outline_of}
use Rattle.assembly.proofs.Outlined.{outline-length}
use Rattle.std.proofs.Common.{Ok}
use Rattle.call.specs.Tests.{outline_in, outline_limit, room_for}
use Rattle.call.specs.Answers.{outline_answer, list_left}
use Rattle.call.proofs.Openings.{places_fail, places_pass}
use Rattle.cut_calls.specs.PlainCut.{sub_at, view_at, cut_up_to, Laid}
use Rattle.cut_calls.specs.Made.{made_verdict}
use Rattle.cut_corners.specs.Calls.{cut_verdict, cut_answer, cut_shapes_left, cut_anchors_left}
use Rattle.cut_calls.proofs.Laying.{size_at}
use Rattle.cut_calls.proofs.Gathered.{answer-laid, shapes_laid, anchors_laid}
use Rattle.cut_corners.proofs.Outcomes.{as_made, answer-handed, shapes_handed, anchors_handed}
use Rattle.cache.specs.Cache.{place_of_path, cached_numbers, cached_flags, cached_in}
use Rattle.cache.specs.Tests.{cache_fits, cache_verdict}
use Rattle.cache.specs.Calls.{
  cut_places,
  build_verdict,
  build_numbers,
  build_flags,
  held_outline,
  assemble_verdict,
  assemble_answer,
  assemble_shapes,
  assemble_anchors,
}
use Rattle.cache.proofs.Subpaths.{sub_of_lem}
use Rattle.cache.proofs.Fitting.{CacheFits, fits_says, fits-is}
use Rattle.cache.proofs.Outcomes.{cache_bad, cache_good, build-made, assemble-answers, assemble_shapes_lem, assemble_anchors_lem}
use Rattle.cache.proofs.Limited.{outline_cached, cached_outline}
use Rattle.cache.proofs.Accepted.{room-not_nine, Drawn, build_says, build_nine_says, cut_nine_says}

-- ---- a cache in lists holds every place of the cut
-- number q of place k
number_cached : (f : ℕ → Place) (k q : ℕ) → q < 12 → cached_numbers f (k * 12 + q) ≡ entry (place_numbers (f k)) q
unfolding cached_numbers
number_cached f k q h =
    let a : (k * 12 + q) / 12 ≡ k = omega arith in
    let b : (k * 12 + q) % 12 ≡ q = omega arith in
    rw (a, b)

module _ (shapes : List ℕ) (anchors radii : List Float) (kind : CornerKind) where
  abbrev view : ℕ → View
  view = view_at shapes anchors radii kind

  abbrev place : ℕ → Place
  place = place_of_path shapes view

  -- the place of index i of subpath s
  pub place_of : (s i : ℕ) → s < length shapes → i < (view_at shapes anchors radii kind s).n
      → place_of_path shapes (view_at shapes anchors radii kind) (start shapes s + i) ≡ place_at (view_at shapes anchors radii kind s) i
  unfolding place_of_path
  place_of s i l h =
      let e : start shapes s + i - start shapes s ≡ i = omega arith in
      rw (sub_of_lem shapes s i l (omega (arith, size_at shapes anchors radii kind s)), e)

  -- so the outline of the places is the plain cut
  pub subpath-cut : (s : ℕ) → s < length shapes → subpath_outline shapes place s ≡ cut_corners (view s)
  unfolding subpath_outline cut_corners view_at view_of sub_at
  subpath-cut s l = assembled-same (view s).n (view s).closed (λ i. place (start shapes s + i)) (place_at (view s)) (λ i h. place_of s i l h)

  up_to_cut : (m : ℕ) → m ≤ length shapes → outline_up_to shapes place m ≡ cut_up_to view m
  unfolding outline_up_to cut_up_to
  up_to_cut zero l = refl
  up_to_cut (suc m) l = ap₂ ◌++◌ (up_to_cut m (omega arith)) (subpath-cut m l)

  pub outline-cut : outline_of shapes (place_of_path shapes (view_at shapes anchors radii kind)) ≡ cut_up_to (view_at shapes anchors radii kind) (length shapes)
  unfolding outline_of
  outline-cut = up_to_cut (length shapes) (le_refl (length shapes))

  module _ (numbers : List Float) (flags : List ℕ) (long : total shapes * 12 ≤ length numbers) (flag_each : total shapes ≤ length flags) where
    below : (s i : ℕ) → s < length shapes → i < (view s).n → start shapes s + i < total shapes
    below s i l h = omega (arith, total_in shapes s l, size_at shapes anchors radii kind s)

    pub cached_laid : Laid shapes (view_at shapes anchors radii kind)
        (overwrite (total shapes * 12) (cached_numbers (place_of_path shapes (view_at shapes anchors radii kind))) numbers)
        (overwrite (total shapes) (cached_flags (place_of_path shapes (view_at shapes anchors radii kind))) flags)
    unfolding cached_flags
    cached_laid = record {
      number = λ s i q l h w.
          let b = below s i l h in
          at_overwrite nan (total shapes * 12) (cached_numbers place) numbers ((start shapes s + i) * 12 + q) (omega arith) (omega arith)
          ∙ number_cached place (start shapes s + i) q w
          ∙ ap (λ p. entry (place_numbers p) q) (place_of s i l h);
      flag = λ s i l h.
          let b = below s i l h in
          at_overwrite 0 (total shapes) (cached_flags place) flags (start shapes s + i) b (omega arith)
          ∙ ap (λ p. flag_of p.cut) (place_of s i l h)
          ∙ ap flag_of (place_cut (view s) i);
    }

-- ---- (1) assembling a cache that was built is cutting: the same answer, the same lists, on acceptance and refusal
module _ (shapes : List ℕ) (anchors radii : List Float) (kind : ℕ) (numbers : List Float) (flags : List ℕ)
    (v : build_verdict shapes anchors radii kind numbers flags ≡ accepted) (to_shapes : List ℕ) (to : List Float) where
  abbrev built : Drawn shapes anchors radii kind
  built = (build_says shapes anchors radii kind numbers flags v).1

  abbrev f : ℕ → Place
  f = place_of_path shapes (view_at shapes anchors radii built.way)

  numbers_built : build_numbers shapes anchors radii kind numbers flags ≡ overwrite (total shapes * 12) (cached_numbers f) numbers
  unfolding build_numbers list_left cut_places
  numbers_built = rw (v, built.known)

  flags_built : build_flags shapes anchors radii kind numbers flags ≡ overwrite (total shapes) (cached_flags f) flags
  unfolding build_flags list_left cut_places
  flags_built = rw (v, built.known)

  abbrev fits : CacheFits shapes numbers flags
  fits = fits_says shapes numbers flags (build_says shapes anchors radii kind numbers flags v).0

  still_fits : cache_fits shapes (overwrite (total shapes * 12) (cached_numbers f) numbers) (overwrite (total shapes) (cached_flags f) flags) ≡ true
  still_fits =
      fits-is shapes _ _
      (record {
        words = fits.words;
        few = fits.few;
        long = rw (length-overwrite (total shapes * 12) (cached_numbers f) numbers) fits.long;
        flag_each = rw (length-overwrite (total shapes) (cached_flags f) flags) fits.flag_each;
      })

  laid : Laid shapes (view_at shapes anchors radii built.way) (overwrite (total shapes * 12) (cached_numbers f) numbers) (overwrite (total shapes) (cached_flags f) flags)
  laid = cached_laid shapes anchors radii built.way numbers flags fits.long fits.flag_each

  pub assemble-built :
      (assemble_answer shapes (build_numbers shapes anchors radii kind numbers flags) (build_flags shapes anchors radii kind numbers flags) to_shapes to ≡ cut_answer shapes anchors radii kind to_shapes to)
      × (assemble_shapes shapes (build_numbers shapes anchors radii kind numbers flags) (build_flags shapes anchors radii kind numbers flags) to_shapes to ≡ cut_shapes_left shapes anchors radii kind to_shapes to)
      × (assemble_anchors shapes (build_numbers shapes anchors radii kind numbers flags) (build_flags shapes anchors radii kind numbers flags) to_shapes to ≡ cut_anchors_left shapes anchors radii kind to_shapes to)
  assemble-built =
      rw (numbers_built, flags_built) (
        sym (assemble-answers shapes _ _ to_shapes to still_fits) ∙ answer-laid shapes anchors radii built.way _ _ laid to_shapes to ∙ answer-handed shapes anchors radii kind to_shapes to _ built.opens _ built.known,
        sym (assemble_shapes_lem shapes _ _ to_shapes to still_fits) ∙ shapes_laid shapes anchors radii built.way _ _ laid to_shapes to ∙ shapes_handed shapes anchors radii kind to_shapes to _ built.opens _ built.known,
        sym (assemble_anchors_lem shapes _ _ to_shapes to still_fits) ∙ anchors_laid shapes anchors radii built.way _ _ laid to_shapes to ∙ anchors_handed shapes anchors radii kind to_shapes to _ built.opens _ built.known,
      )

-- ---- (2) where the cache's lists are long enough, `build` is refused 9 exactly where the plain cut is; one is numbered by the places, one by the path
module _ (shapes : List ℕ) (anchors radii : List Float) (kind : ℕ) (numbers : List Float) (flags : List ℕ) (fit : cache_fits shapes numbers flags ≡ true)
    (to_shapes : List ℕ) (to : List Float) where
  module _ (d : Drawn shapes anchors radii kind) where
    abbrev cut_view : ℕ → View
    cut_view = view_at shapes anchors radii d.way

    abbrev ps : List Anchor
    ps = outline_of shapes (place_of_path shapes cut_view)

    abbrev good : ℕ → Bool
    good = cached_in (place_of_path shapes cut_view)

    cut-made : cut_verdict shapes anchors radii kind to_shapes to ≡ made_verdict (length shapes) ps to_shapes to
    cut-made =
        as_made shapes anchors radii kind to_shapes to (total shapes) d.opens d.way d.known
        ∙ ap (λ z. made_verdict (length shapes) z to_shapes to) (sym (outline-cut shapes anchors radii d.way))

    built_made : build_verdict shapes anchors radii kind numbers flags ≡ cache_verdict good (total shapes)
    built_made = build-made shapes anchors radii kind numbers flags fit (total shapes) d.opens d.way d.known

    cut_too : (j : ℕ) → build_verdict shapes anchors radii kind numbers flags ≡ refused (refusal_at Made j) → (i : ℕ) × (cut_verdict shapes anchors radii kind to_shapes to ≡ refused (refusal_at Made i))
    unfolding made_verdict outline_limit judge
    cut_too j e =
        ⊎_elim
        (λ g. absurd (refusing _ (sym e ∙ built_made ∙ cache_good good (total shapes) (outline_cached shapes cut_view g))))
        (λ il. (il.0, cut-made ∙ rw (places_fail (outline_in ps) (length ps) passes il.0 il.1)))
        (search_to (outline_in ps) (length ps))

    build_too : (i : ℕ) → cut_verdict shapes anchors radii kind to_shapes to ≡ refused (refusal_at Made i) → (j : ℕ) × (build_verdict shapes anchors radii kind numbers flags ≡ refused (refusal_at Made j))
    unfolding made_verdict outline_limit judge
    build_too i e =
        ⊎_elim
        (λ g. absurd (room-not_nine (holds (room_for (length shapes) (length ps) to_shapes to) 0) i (rw (places_pass (outline_in ps) (length ps) passes (cached_outline shapes cut_view g)) at (sym cut-made ∙ e))))
        (λ jl. (jl.0, built_made ∙ cache_bad good (total shapes) jl.0 jl.1))
        (search_to good (total shapes))

  pub nine_together : ((j : ℕ) × (build_verdict shapes anchors radii kind numbers flags ≡ refused (refusal_at Made j))) ↔ ((i : ℕ) × (cut_verdict shapes anchors radii kind to_shapes to ≡ refused (refusal_at Made i)))
  nine_together = (
    λ je. cut_too (build_nine_says shapes anchors radii kind numbers flags je.0 je.1) je.0 je.1,
    λ ie. build_too (cut_nine_says shapes anchors radii kind to_shapes to ie.0 ie.1) ie.0 ie.1,
  )

-- ---- (3) any cache: as many anchors as places, and one more for each that is cut
pub assembled_anchors : (shapes : List ℕ) (numbers : List Float) (flags : List ℕ) (to_shapes : List ℕ) (to : List Float)
    → assemble_verdict shapes numbers flags to_shapes to ≡ accepted
    → assemble_answer shapes numbers flags to_shapes to ≡ Ok (record { subpaths = length shapes; anchors = total shapes + count (λ k. leb 2147483648 (get_or flags k 0)) (total shapes) })
unfolding assemble_answer outline_answer answering held_outline place_read
assembled_anchors shapes numbers flags to_shapes to v = rw v (ap (λ n. Ok (record { subpaths = length shapes; anchors = n })) (outline-length shapes (place_read numbers flags)))
