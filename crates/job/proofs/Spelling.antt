-- A job's words read back as the job. Assumes nothing.
use mathlib.Core.Path.{◌≡◌, refl}
use mathlib.Core.Bool.{Bool, true, false, cond}
use mathlib.Core.List.{List, [], ◌∷◌}
use mathlib.Core.Option.{Option, none, some}
use Prim.Native.Nat.{ℕ}
use lib.Dec.{eqb}
use Rattle.job.specs.Words.{Word}
use Rattle.job.specs.Grammar.{Pair, Anchor, Subpath, Job, pair_then, radius_then, rest_then, anchor_then, anchors_then, subpaths_then, end, spelled}
use Rattle.job.specs.Content.{part_of, job_of}

-- what is read of words: the parts of an anchor whose point is yet to come, anchors, subpaths
record Reads (i o : Option Pair) (r : Option ℕ) (ps : List Anchor) (ss : List Subpath) (ws : List Word) : Type 0 where
  into : (part_of ws).into ≡ i
  out : (part_of ws).out ≡ o
  radius : (part_of ws).radius ≡ r
  anchors : (part_of ws).anchors ≡ ps
  subpaths : (part_of ws).subpaths ≡ ss

module _ (anchors : List Anchor) (ss : List Subpath) (ws : List Word) (h : Reads none none none anchors ss ws) where
  radius-back : (r : Option ℕ) → Reads none none r anchors ss (radius_then r ws)
  unfolding part_of radius_then
  radius-back none = h
  radius-back (some v) = record { into = h.into; out = h.out; radius = refl; anchors = h.anchors; subpaths = h.subpaths }

  out_back : (o : Option Pair) (r : Option ℕ) → Reads none o r anchors ss (pair_then 6 o (radius_then r ws))
  unfolding part_of pair_then
  out_back none r = radius-back r
  out_back (some q) r =
      let k = radius-back r in
      record { into = k.into; out = refl; radius = k.radius; anchors = k.anchors; subpaths = k.subpaths }

  rest_back : (i o : Option Pair) (r : Option ℕ) → Reads i o r anchors ss (rest_then i o r ws)
  unfolding part_of pair_then rest_then
  rest_back none o r = out_back o r
  rest_back (some q) o r =
      let k = out_back o r in
      record { into = refl; out = k.out; radius = k.radius; anchors = k.anchors; subpaths = k.subpaths }

  anchor-back : (a : Anchor) → Reads none none none (a ∷ anchors) ss (anchor_then a ws)
  unfolding part_of anchor_then
  anchor-back a =
      let k = rest_back a.into a.out a.radius in
      record { into = refl; out = refl; radius = refl; anchors = rw (k.into, k.out, k.radius, k.anchors); subpaths = k.subpaths }

anchors_back : (ss : List Subpath) (ws : List Word) → Reads none none none [] ss ws → (anchors : List Anchor) → Reads none none none anchors ss (anchors_then anchors ws)
unfolding anchors_then
anchors_back ss ws h [] = h
anchors_back ss ws h (a ∷ more) = anchor-back more ss (anchors_then more ws) (anchors_back ss ws h more) a

closed_back : (c : Bool) → eqb (cond c 1 0) 1 ≡ c
closed_back true = refl
closed_back false = refl

subpaths_back : (ss : List Subpath) → Reads none none none [] ss (subpaths_then ss end)
unfolding part_of subpaths_then
subpaths_back [] = record { into = refl; out = refl; radius = refl; anchors = refl; subpaths = refl }
subpaths_back (s ∷ ss) =
    let k = anchors_back ss (subpaths_then ss end) (subpaths_back ss) s.anchors in
    record { into = refl; out = refl; radius = refl; anchors = refl; subpaths = rw (closed_back s.closed, k.anchors, k.subpaths) }

pub job-back : (j : Job) → job_of (spelled j) ≡ j
unfolding part_of job_of spelled
job-back j = rw (subpaths_back j.subpaths).subpaths
