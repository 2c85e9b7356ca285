-- What `to_svg_d` and `write_num` answer and leave by what their tests found, and that the text left reads as the path's commands. Assumes nothing.
use mathlib.Core.Path.{◌≡◌, refl, sym, ap, ◌∙◌}
use mathlib.Core.Logic.{⊎_elim}
use mathlib.Core.Bool.{Bool, true, false, true≢false}
use mathlib.Core.List.{List, ◌++◌}
use Prim.Native.Nat.{ℕ, ◌+◌, ◌*◌, ◌≤◌, ◌<◌}
use native.Mathlib.Nat.{add-zero, zero-add}
use native.Mathlib.Omega.{arith}
use lib.ListN.{length, take, drop}
use lib.Seq.{take_at}
use lib.Ieee.{Float}
use borrow.Author.Tests.{le-leb, lt-leb}
use Rattle.std.proofs.Common.{Ok, Err, Result}
use Rattle.views.specs.View.{entry}
use Rattle.views.specs.Search.{all}
use Rattle.views.proofs.Laws.{order}
use Rattle.views.proofs.Searches.{all_false}
use Rattle.real.specs.Limit.{in_limit}
use Rattle.decimal.specs.Text.{float_text}
use Rattle.decimal.specs.Put.{Put}
use Rattle.decimal.proofs.Puts.{roomy}
use Rattle.path.specs.Limit.{anchor_in}
use Rattle.path.specs.Flat.{anchor_at}
use Rattle.path.proofs.Limits.{GoodBelow}
use Rattle.refusal.specs.Reasons.{refusal_at}
use Rattle.refusal.specs.declared.Refusal.{Refusal}
use Rattle.refusal.specs.declared.Reason.TheVariants.{Arguments, Lists, Output}
use Rattle.refusal.specs.Order.{Test, passes, fails, holds, judge, Verdict, accepted, refused, answering}
use Rattle.refusal.proofs.Verdicts.{holds_true, holds_false, in_order, by_arguments}
use Rattle.call.specs.Tests.{path_fits, path_limit, opened_path}
use Rattle.call.proofs.Openings.{PathOpens, path_refused}
use Rattle.svg_grammar.specs.ReadsAs.{ReadsAs}
use Rattle.svg.specs.Path.{commands_of, text_of}
use Rattle.svg.specs.Pieces.{Placed}
use Rattle.svg_calls.specs.Call.{
  text_room,
  answer,
  left,
  to_svg_d_verdict,
  to_svg_d_answer,
  to_svg_d_left,
  write_num_verdict,
  write_num_answer,
  write_num_left,
  room_verdict,
  handed_answer,
  handed_left,
}
use Rattle.svg.proofs.Paths.{text_reads}

-- ---- what the two tests of the path give to `put_path`
all_says : (p : ℕ → Bool) (n : ℕ) → all p n ≡ true → (j : ℕ) → j < n → p j ≡ true
all_says p n h j l = go (p j) refl
  where
    go : (b : Bool) → p j ≡ b → b ≡ true
    go true e = refl
    go false e = absurd (true≢false (sym h ∙ all_false p n j l e))

pub placed : (anchors : List Float) (n : ℕ) → n ≤ 1024 → n * 6 ≤ length anchors → GoodBelow (anchor_in anchors) n → (j : ℕ) → j < n → Placed anchors j
unfolding anchor_in
placed anchors n few long good j l =
    let at = all_says (λ i. in_limit (entry anchors (j * 6 + i))) 6 (good j l) in
    record {
      few = omega arith;
      long = omega arith;
      within = record {
        p = record { x = rw add-zero at (at 0 (omega arith)); y = at 1 (omega arith) };
        into = record { x = at 2 (omega arith); y = at 3 (omega arith) };
        out = record { x = at 4 (omega arith); y = at 5 (omega arith) };
      };
    }

-- ---- a text by the room that there is
module _ (text out : List ℕ) where
  pub without_room : length out < length text → (Err (refusal_at Output 0) ≡ handed_answer text out) × (out ≡ handed_left text out)
  unfolding handed_answer handed_left room_verdict text_room judge holds answer answering left
  without_room h = let l = lt-leb (length text) (length out) h in (rw l, rw l)

  with_room : length text ≤ length out → (Ok (length text) ≡ handed_answer text out) × (text ++ drop (length text) out ≡ handed_left text out)
  unfolding handed_answer handed_left room_verdict text_room judge holds answer answering left
  with_room h = let l = le-leb (length text) (length out) h in (rw l, rw l)

  pub put_in_room : {m : List ℕ} {to : ℕ} → Put out 0 text m to → length text ≤ length out → (Ok to ≡ handed_answer text out) × (m ≡ handed_left text out)
  put_in_room {m} {to} p h =
      let a = with_room h in
      (ap Ok (p.end ∙ zero-add (length text)) ∙ a.0, rw zero-add at (roomy out m 0 to text p (rw zero-add h)) ∙ a.1)

-- ---- `to_svg_d`
module _ (shapes : List ℕ) (anchors : List Float) (out : List ℕ) where
  abbrev text : List ℕ
  text = text_of shapes (anchor_at anchors)

  -- the answer and the list, by the verdict
  refuses : {why : Refusal} → to_svg_d_verdict shapes anchors out ≡ refused why → (Err why ≡ to_svg_d_answer shapes anchors out) × (out ≡ to_svg_d_left shapes anchors out)
  unfolding to_svg_d_answer to_svg_d_left answer answering left
  refuses e = (rw e, rw e)

  accepts : to_svg_d_verdict shapes anchors out ≡ accepted → (Ok (length text) ≡ to_svg_d_answer shapes anchors out) × (text ++ drop (length text) out ≡ to_svg_d_left shapes anchors out)
  unfolding to_svg_d_answer to_svg_d_left answer answering left
  accepts e = (rw e, rw e)

  -- by what the opening of the path found
  pub not_opened : (why : Refusal) → opened_path 1024 shapes anchors ≡ Err why → (Err why ≡ to_svg_d_answer shapes anchors out) × (out ≡ to_svg_d_left shapes anchors out)
  unfolding to_svg_d_verdict
  not_opened why e = refuses (in_order _ _ _ _ _ _ ∙ path_refused 1024 shapes anchors why e true _)

  opened-verdict : {n : ℕ} → PathOpens 1024 shapes anchors n → to_svg_d_verdict shapes anchors out ≡ room_verdict text out
  unfolding to_svg_d_verdict room_verdict judge holds
  opened-verdict o = in_order _ _ _ _ _ _ ∙ rw (o.lists_pass, o.places_good true)

  pub as_handed : {n : ℕ} → PathOpens 1024 shapes anchors n → (handed_answer text out ≡ to_svg_d_answer shapes anchors out) × (handed_left text out ≡ to_svg_d_left shapes anchors out)
  unfolding to_svg_d_answer to_svg_d_left handed_answer handed_left
  as_handed o = let v = opened-verdict o in (rw v, rw v)

  -- ---- what an accepted call leaves at the start of the list is path data, of the path's commands
  never : (a b : Test) → judge a Lists (judge b Arguments (refused (refusal_at Output 0))) ≡ accepted → ⊥
  unfolding judge
  never passes passes e = let z : ◌≡◌ {A = ℕ} 0 1 = cc in omega arith
  never passes (fails k) e = let z : ◌≡◌ {A = ℕ} 0 1 = cc in omega arith
  never (fails k) b e = let z : ◌≡◌ {A = ℕ} 0 1 = cc in omega arith

  no_accept : length out < length text → to_svg_d_verdict shapes anchors out ≡ accepted → ⊥
  unfolding to_svg_d_verdict text_room judge holds
  no_accept r e =
      never (holds (path_fits 1024 shapes anchors) 0) (path_limit shapes anchors true) (rw (lt-leb (length text) (length out) r) at (sym (in_order _ _ _ _ _ _) ∙ e))

  fits : to_svg_d_verdict shapes anchors out ≡ accepted → length text ≤ length out
  fits e = ⊎_elim (λ h. h) (λ r. absurd (no_accept r e)) (order (length text) (length out))

  pub accepted_reads : (n : ℕ) → to_svg_d_answer shapes anchors out ≡ Ok n
      → (n ≡ length text) × (n ≤ length out) × ReadsAs (take n (to_svg_d_left shapes anchors out)) (commands_of shapes (anchor_at anchors))
  accepted_reads n e = go (to_svg_d_verdict shapes anchors out) refl
    where
      differ : (why : Refusal) → ◌≡◌ {A = Result ℕ Refusal} (Err why) (Ok n) → ⊥
      differ why f = let z : ◌≡◌ {A = ℕ} 0 1 = cc in omega arith

      same : (m : ℕ) → ◌≡◌ {A = Result ℕ Refusal} (Ok m) (Ok n) → n ≡ m
      same m f = cc

      go : (v : Verdict) → to_svg_d_verdict shapes anchors out ≡ v → (n ≡ length text) × (n ≤ length out) × ReadsAs (take n (to_svg_d_left shapes anchors out)) (commands_of shapes (anchor_at anchors))
      go (refused why) j = absurd (differ why ((refuses j).0 ∙ e))
      go accepted j =
          let a = accepts j in
          let q : n ≡ length text = same (length text) (a.0 ∙ e) in
          let r : length text ≤ length out = fits j in
          let t : take n (to_svg_d_left shapes anchors out) ≡ text = ap (take n) (sym a.1) ∙ take_at text (drop (length text) out) n (sym q) in
          (q, omega arith, rw t (text_reads shapes (anchor_at anchors)))

-- ---- `write_num`
module _ (x : Float) (out : List ℕ) where
  pub number_outside : in_limit x ≡ false → (Err (refusal_at Arguments 0) ≡ write_num_answer x out) × (out ≡ write_num_left x out)
  unfolding write_num_answer write_num_left write_num_verdict answer answering left
  number_outside e = let v = by_arguments passes _ passes passes passes (text_room (float_text x) out) refl 0 (holds_false 0 e) in (rw v, rw v)

  number-verdict : in_limit x ≡ true → write_num_verdict x out ≡ room_verdict (float_text x) out
  unfolding write_num_verdict room_verdict judge
  number-verdict e = in_order _ _ _ _ _ _ ∙ rw (holds_true 0 e)

  pub number-handed : in_limit x ≡ true → (handed_answer (float_text x) out ≡ write_num_answer x out) × (handed_left (float_text x) out ≡ write_num_left x out)
  unfolding write_num_answer write_num_left handed_answer handed_left
  number-handed e = let v = number-verdict e in (rw v, rw v)
