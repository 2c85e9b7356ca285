-- How many places an edit recuts: as many as lie within its steps in the subpath; and document 01's sample counts. Assumes nothing.
use mathlib.Core.Path.{◌≡◌, refl, ◌∙◌}
use mathlib.Core.Bool.{true}
use mathlib.Core.List.{[], ◌∷◌}
use Prim.Native.Nat.{ℕ, ◌+◌, ◌≤◌}
use native.Mathlib.Omega.{arith}
use lib.Ieee.{Float}
use Rattle.views.specs.Search.{count}
use Rattle.path.specs.declared.anchor.Anchor.{Anchor}
use Rattle.path.specs.Shape.{count_of, closed_of, total, word_at, start}
use Rattle.path.proofs.Shapes.{total_in, has_says}
use Rattle.cut.specs.Subpath.{view_of}
use Rattle.cut.specs.Near.{gap, near, near_count}
use Rattle.cut.specs.Recut.{reached}
use Rattle.cut_calls.specs.PlainCut.{sub_at}
use Rattle.cache.proofs.Reached.{reached-count}
use Rattle.session.specs.Drawing.{Drawing, view_in}
use Rattle.session.specs.Edits.{Call, move, set_radius, split, moved, resized, split_at, edit_of}
use Rattle.session.specs.Model.{recut_count}
use Rattle.session.proofs.Splits.{split-count, split_closed, split-total}
use Rattle.session.proofs.Effects.{segment-sub, segment_there, sub_small}

made_n : (d : Drawing) (s a : ℕ) (t : Float) → (view_in (split_at d s a t) s).n ≡ count_of (word_at (split_at d s a t).shapes s)
unfolding view_in view_of sub_at
made_n d s a t = refl

made_closed : (d : Drawing) (s a : ℕ) (t : Float) → (view_in (split_at d s a t) s).closed ≡ closed_of (word_at (split_at d s a t).shapes s)
unfolding view_in view_of sub_at
made_closed d s a t = refl

split-recut : (d : Drawing) (s a : ℕ) (t : Float) → total d.shapes ≤ 512 → (edit_of d (split s a t)).known ≡ true
    → count (reached (view_in (split_at d s a t) s) (start d.shapes s) 4 (a + 1)) (total (split_at d s a t).shapes)
    ≡ near_count 4 (count_of (word_at d.shapes s) + 1) (closed_of (word_at d.shapes s)) (a + 1)
unfolding edit_of split_at
split-recut d s a t few h =
    let there = segment-sub d.shapes s a h in
    let seg = segment_there d.shapes s a h in
    let small = sub_small d.shapes s there few in
    let v = view_in (split_at d s a t) s in
    let n : v.n ≡ count_of (word_at d.shapes s) + 1 = made_n d s a t ∙ split-count d.shapes s a there seg small in
    let c : v.closed ≡ closed_of (word_at d.shapes s) = made_closed d s a t ∙ split_closed d.shapes s a there seg small in
    reached-count v (start d.shapes s) 4 (a + 1) (total (split_at d s a t).shapes) (omega (arith, split-total d.shapes s a there seg small, total_in d.shapes s there))
    ∙ rw (n, c)

pub recut-count : (d : Drawing) (c : Call) → total d.shapes ≤ 512 → (edit_of d c).known ≡ true → count (edit_of d c).recuts (total (edit_of d c).made.shapes) ≡ recut_count d c
unfolding recut_count edit_of moved resized view_in view_of sub_at
recut-count d (move s i new) few h = reached-count (view_in (moved d (start d.shapes s + i) new) s) (start d.shapes s) 3 i (total d.shapes) (total_in d.shapes s (has_says d.shapes s i h).0)
recut-count d (set_radius s i r) few h = reached-count (view_in (resized d (start d.shapes s + i) r) s) (start d.shapes s) 2 i (total d.shapes) (total_in d.shapes s (has_says d.shapes s i h).0)
recut-count d (split s a t) few h = split-recut d s a t few h

-- ---- document 01's sample pieces, on any drawing of one subpath: closed 8, move 7, radius 5; closed 5, move 5; open 10, move of anchor 0, 4; open 10 split at segment 0, 6
module _ (kind : ℕ) (f : ℕ → Anchor) (r : ℕ → Float) (new : Anchor) (x : Float) where
  abbrev sample : ℕ → Drawing
  sample w = record { shapes = w ∷ []; kind = kind; anchor = f; radius = r }

  closed_8_move : recut_count (sample (2147483648 + 8)) (move 0 0 new) ≡ 7
  unfolding recut_count near_count near gap count
  closed_8_move = refl

  closed_8_radius : recut_count (sample (2147483648 + 8)) (set_radius 0 5 x) ≡ 5
  unfolding recut_count near_count near gap count
  closed_8_radius = refl

  closed_5_move : recut_count (sample (2147483648 + 5)) (move 0 2 new) ≡ 5
  unfolding recut_count near_count near gap count
  closed_5_move = refl

  open_10_move : recut_count (sample 10) (move 0 0 new) ≡ 4
  unfolding recut_count near_count near gap count
  open_10_move = refl

  open_10_split : recut_count (sample 10) (split 0 0 x) ≡ 6
  unfolding recut_count near_count near gap count
  open_10_split = refl
