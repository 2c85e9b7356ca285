-- What a job is, and the words that write it: the grammar of document 01's 'Job file and program', without a reader. Assumes nothing.
use Rattle.std.specs.Prelude.{ℕ, suc, ◌≤◌, ◌<◌, ◌≡◌, Bool, true, ◌&&◌, cond, List, [], ◌∷◌, ◌++◌, map, ltb, length}
use Rattle.std.proofs.Math.Option.{Option, none, some}
use Rattle.job.specs.Words.{Word, word, joined}

-- two payloads, x before y
pub record Pair : Type 0 where
  pub x : ℕ
  pub y : ℕ

-- an anchor: its point, its handle in and its handle out, and its radius, each of these three written or not
pub record Anchor : Type 0 where
  pub p : Pair
  pub into : Option Pair
  pub out : Option Pair
  pub radius : Option ℕ

pub record Subpath : Type 0 where
  pub closed : Bool
  pub anchors : List Anchor

-- the kind of corner (0 round, 1 inverted, 2 chamfer), and the subpaths
pub record Job : Type 0 where
  pub kind : ℕ
  pub subpaths : List Subpath

-- ---- the words of each part, and then the words ws
unfoldable pub pair_then : ℕ → Option Pair → List Word → List Word
pair_then k none ws = ws
pair_then k (some q) ws = word k q.x ∷ word (suc k) q.y ∷ ws

unfoldable pub radius_then : Option ℕ → List Word → List Word
radius_then none ws = ws
radius_then (some r) ws = word 8 r ∷ ws

-- what an anchor may have after its point
unfoldable pub rest_then : Option Pair → Option Pair → Option ℕ → List Word → List Word
unfolding pair_then radius_then
rest_then into out radius ws = pair_then 4 into (pair_then 6 out (radius_then radius ws))

unfoldable pub anchor_then : Anchor → List Word → List Word
unfolding rest_then
anchor_then a ws = word 2 a.p.x ∷ word 3 a.p.y ∷ rest_then a.into a.out a.radius ws

unfoldable pub anchors_then : List Anchor → List Word → List Word
unfolding anchor_then
anchors_then [] ws = ws
anchors_then (a ∷ more) ws = anchor_then a (anchors_then more ws)

unfoldable pub subpaths_then : List Subpath → List Word → List Word
unfolding anchors_then
subpaths_then [] ws = ws
subpaths_then (s ∷ ss) ws = word 1 (cond s.closed 1 0) ∷ anchors_then s.anchors (subpaths_then ss ws)

-- the end word
abbrev pub end : List Word
end = word 15 0 ∷ []

-- head, subpaths, end
unfoldable pub spelled : Job → List Word
unfolding subpaths_then
spelled j = word 0 j.kind ∷ subpaths_then j.subpaths end

unfoldable pub written : Job → List ℕ
unfolding spelled
written j = map joined (spelled j)

-- ---- the limits
unfoldable pub anchors_of : List Subpath → List Anchor
anchors_of [] = []
anchors_of (s ∷ ss) = s.anchors ++ anchors_of ss

-- every payload has 28 bits
unfoldable pub in_range : List Word → Bool
in_range [] = true
in_range (w ∷ ws) = ltb w.payload 268435456 && in_range ws

pub record Within (j : Job) : Type 0 where
  pub known : j.kind < 3
  pub some_subpath : 1 ≤ length j.subpaths
  pub few_subpaths : length j.subpaths ≤ 32
  pub few_anchors : length (anchors_of j.subpaths) ≤ 512
  pub payloads : in_range (spelled j) ≡ true
