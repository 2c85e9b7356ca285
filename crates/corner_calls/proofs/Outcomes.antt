-- What `path_corners` answers and leaves by what its tests found. Assumes nothing.
use mathlib.Core.Path.{◌≡◌, sym, ap, ◌∙◌}
use mathlib.Core.Bool.{true, false}
use mathlib.Core.List.{List}
use Prim.Native.Nat.{ℕ, ◌*◌, ◌≤◌, ◌<◌}
use lib.Dec.{leb}
use lib.ListN.{length, get_or}
use lib.Ieee.{Float}
use borrow.Author.Tests.{le-leb, lt-leb}
use Rattle.views.specs.View.{entry, overwrite}
use Rattle.views.proofs.Bools.{and_false}
use Rattle.views.specs.Search.{all}
use Rattle.views.proofs.Laws.{overwrite_cong}
use Rattle.views.proofs.Searches.{all_cong}
use Rattle.real.specs.Limit.{in_limit}
use Rattle.refusal.specs.Reasons.{refusal_at}
use Rattle.refusal.specs.declared.Refusal.{Refusal}
use Rattle.refusal.specs.declared.Reason.TheVariants.{Output, Made}
use Rattle.refusal.specs.Order.{holds, judge, accepted, refused}
use Rattle.refusal.proofs.Verdicts.{in_order, answers_ok, answers_err}
use Rattle.call.specs.Tests.{opened_path}
use Rattle.call.proofs.Openings.{PathOpens, path_refused}
use Rattle.call.proofs.Handings.{list_kept, list_written}
use Rattle.corner.specs.declared.corner.Corner.{Corner}
use Rattle.std.proofs.Common.{Option, Ok, Err}
use Rattle.corner_calls.specs.Corners.{path_corner, found_below, corner_places, numbers_of, Holds}
use Rattle.corner_calls.specs.Calls.{
  corners_in,
  corners_room,
  path_corners_verdict,
  path_corners_answer,
  path_corners_places,
  path_corners_numbers,
  found_verdict,
  found_answer,
  places_held,
  found_numbers,
}

-- ---- room
module _ (n : ℕ) (places : List ℕ) (numbers : List Float) where
  pub room : n ≤ length places → n * 9 ≤ length numbers → corners_room n places numbers ≡ true
  unfolding corners_room
  room h l = rw (le-leb _ _ h, le-leb _ _ l)

  pub few_places : length places < n → corners_room n places numbers ≡ false
  unfolding corners_room
  few_places h = rw (lt-leb _ _ h)

  pub few_numbers : length numbers < n * 9 → corners_room n places numbers ≡ false
  unfolding corners_room
  few_numbers h = rw (lt-leb _ _ h) (and_false (leb n (length places)))

-- ---- corners that stand in scratch lists: one law for each return
module _ (corner : ℕ → Option Corner) (k : ℕ) (at : List ℕ) (rows : List Float) (n : ℕ) (h : Holds corner k at rows n) (places : List ℕ) (numbers : List Float) where
  abbrev ps : List ℕ
  ps = found_below corner k

  in-scratch : corners_in corner ps ≡ all (λ j. in_limit (entry rows j)) (n * 9)
  unfolding corners_in
  in-scratch = sym (all_cong _ _ (n * 9) (λ j l. ap in_limit (h.number j l)) ∙ ap (λ z. all (λ j. in_limit (numbers_of corner ps j)) (z * 9)) h.count)

  refuses : {why : Refusal} → found_verdict corner ps places numbers ≡ refused why
      → (Err why ≡ found_answer corner (found_below corner k) places numbers)
      × ((places ≡ places_held corner (found_below corner k) places numbers) × (numbers ≡ found_numbers corner (found_below corner k) places numbers))
  unfolding found_answer places_held found_numbers
  refuses e = (answers_err _ e, (list_kept _ _ _ e, list_kept _ _ _ e))

  pub beyond_limit : all (λ j. in_limit (entry rows j)) (n * 9) ≡ false
      → (Err (refusal_at Made 0) ≡ found_answer corner (found_below corner k) places numbers)
      × ((places ≡ places_held corner (found_below corner k) places numbers) × (numbers ≡ found_numbers corner (found_below corner k) places numbers))
  unfolding found_verdict judge holds
  beyond_limit e = refuses (rw (in-scratch ∙ e))

  module _ (good : all (λ j. in_limit (entry rows j)) (n * 9) ≡ true) where
    pub short-of-room : corners_room n places numbers ≡ false
        → (Err (refusal_at Output 0) ≡ found_answer corner (found_below corner k) places numbers)
        × ((places ≡ places_held corner (found_below corner k) places numbers) × (numbers ≡ found_numbers corner (found_below corner k) places numbers))
    unfolding found_verdict judge holds
    short-of-room e = refuses (rw (in-scratch ∙ good, ← h.count, e))

    accepts : n ≤ length places → n * 9 ≤ length numbers → found_verdict corner ps places numbers ≡ accepted
    unfolding found_verdict judge holds
    accepts l m = rw (in-scratch ∙ good, ← h.count, room n places numbers l m)

    pub copied : n ≤ length places → n * 9 ≤ length numbers
        → (Ok n ≡ found_answer corner (found_below corner k) places numbers)
        × ((overwrite n (λ i. get_or at i 0) places ≡ places_held corner (found_below corner k) places numbers)
        × (overwrite (n * 9) (entry rows) numbers ≡ found_numbers corner (found_below corner k) places numbers))
    unfolding found_answer places_held found_numbers
    copied l m =
        let v = accepts l m in (
          ap Ok h.count ∙ answers_ok _ v,
          (
            overwrite_cong n _ (λ i. get_or ps i 0) places h.place ∙ ap (λ z. overwrite z (λ i. get_or ps i 0) places) h.count ∙ list_written _ _ _ v,
            overwrite_cong (n * 9) _ (numbers_of corner ps) numbers h.number ∙ ap (λ z. overwrite (z * 9) (numbers_of corner ps) numbers) h.count ∙ list_written _ _ _ v,
          ),
        )

-- ---- the call: by what the opening of the path found
module _ (shapes : List ℕ) (anchors : List Float) (places : List ℕ) (numbers : List Float) where
  refused_there : (why : Refusal) → opened_path 512 shapes anchors ≡ Err why → path_corners_verdict shapes anchors places numbers ≡ refused why
  unfolding path_corners_verdict
  refused_there why e = in_order _ _ _ _ _ _ ∙ path_refused 512 shapes anchors why e true _

  opened_there : {n : ℕ} → PathOpens 512 shapes anchors n → path_corners_verdict shapes anchors places numbers ≡ found_verdict (path_corner shapes anchors) (corner_places shapes anchors) places numbers
  unfolding path_corners_verdict found_verdict judge holds
  opened_there o = in_order _ _ _ _ _ _ ∙ rw (o.lists_pass, o.places_good true)

  pub not_opened : (why : Refusal) → opened_path 512 shapes anchors ≡ Err why
      → (Err why ≡ path_corners_answer shapes anchors places numbers)
      × ((places ≡ path_corners_places shapes anchors places numbers) × (numbers ≡ path_corners_numbers shapes anchors places numbers))
  unfolding path_corners_answer path_corners_places path_corners_numbers
  not_opened why e = let v = refused_there why e in (answers_err _ v, (list_kept _ _ _ v, list_kept _ _ _ v))

  pub as_found : {n : ℕ} → PathOpens 512 shapes anchors n
      → (found_answer (path_corner shapes anchors) (corner_places shapes anchors) places numbers ≡ path_corners_answer shapes anchors places numbers)
      × ((places_held (path_corner shapes anchors) (corner_places shapes anchors) places numbers ≡ path_corners_places shapes anchors places numbers)
      × (found_numbers (path_corner shapes anchors) (corner_places shapes anchors) places numbers ≡ path_corners_numbers shapes anchors places numbers))
  unfolding path_corners_answer path_corners_places path_corners_numbers found_answer places_held found_numbers
  as_found o = let v = opened_there o in (rw v, (rw v, rw v))
