-- The job that a list of words writes, made from its last word to its first, and what a job gives: shape words, numbers, radii. Assumes nothing.
use Rattle.std.specs.Prelude.{ℕ, ◌+◌, cond, List, [], ◌∷◌, ◌++◌, map, eqb, length, get_or, Float}
use Rattle.std.proofs.Math.Option.{Option, none, some}
use Rattle.real.specs.Operators.{0f}
use Rattle.job.specs.Words.{Word}
use Rattle.job.specs.Number.{number}
use Rattle.job.specs.Grammar.{Pair, Anchor, Subpath, Job, anchors_of}

-- ---- the job of a list of words
-- what stands after a word: whole subpaths, anchors of the subpath whose word is yet to come, the parts of the anchor whose point is yet to
-- come, and the y whose x is
pub record Part : Type 0 where
  pub kind : ℕ
  pub subpaths : List Subpath
  pub anchors : List Anchor
  pub into : Option Pair
  pub out : Option Pair
  pub radius : Option ℕ
  pub y : ℕ

abbrev pub nothing : Part
nothing = record { kind = 0; subpaths = []; anchors = []; into = none; out = none; radius = none; y = 0 }

abbrev pub pair : ℕ → ℕ → Pair
pair a b = record { x = a; y = b }

unfoldable pub on_head : ℕ → Part → Part
on_head v p = record { kind = v; subpaths = p.subpaths; anchors = p.anchors; into = p.into; out = p.out; radius = p.radius; y = p.y }

unfoldable pub on_subpath : ℕ → Part → Part
on_subpath v p =
    record {
      kind = p.kind;
      subpaths = record { closed = eqb v 1; anchors = p.anchors } ∷ p.subpaths;
      anchors = [];
      into = none;
      out = none;
      radius = none;
      y = p.y;
    }

unfoldable pub on_point : ℕ → Part → Part
on_point v p =
    record {
      kind = p.kind;
      subpaths = p.subpaths;
      anchors = record { p = pair v p.y; into = p.into; out = p.out; radius = p.radius } ∷ p.anchors;
      into = none;
      out = none;
      radius = none;
      y = p.y;
    }

unfoldable pub on_y : ℕ → Part → Part
on_y v p = record { kind = p.kind; subpaths = p.subpaths; anchors = p.anchors; into = p.into; out = p.out; radius = p.radius; y = v }

unfoldable pub on_in : ℕ → Part → Part
on_in v p =
    record { kind = p.kind; subpaths = p.subpaths; anchors = p.anchors; into = some (pair v p.y); out = p.out; radius = p.radius; y = p.y }

unfoldable pub on_out : ℕ → Part → Part
on_out v p =
    record { kind = p.kind; subpaths = p.subpaths; anchors = p.anchors; into = p.into; out = some (pair v p.y); radius = p.radius; y = p.y }

unfoldable pub on_radius : ℕ → Part → Part
on_radius v p = record { kind = p.kind; subpaths = p.subpaths; anchors = p.anchors; into = p.into; out = p.out; radius = some v; y = p.y }

-- by kind, from 0 to 8; the end word gives nothing
unfoldable pub on_word : ℕ → ℕ → Part → Part
unfolding on_head on_subpath on_point on_y on_in on_out on_radius
on_word k = get_or (on_head ∷ on_subpath ∷ on_point ∷ on_y ∷ on_in ∷ on_y ∷ on_out ∷ on_y ∷ on_radius ∷ []) k (λ v p. p)

unfoldable pub part_of : List Word → Part
unfolding on_word
part_of [] = nothing
part_of (w ∷ ws) = on_word w.kind w.payload (part_of ws)

unfoldable pub job_of : List Word → Job
unfolding part_of
job_of ws = record { kind = (part_of ws).kind; subpaths = (part_of ws).subpaths }

-- ---- what a job gives
-- a shape word: top bit closed, the rest the anchor count
unfoldable pub shape_word : Subpath → ℕ
shape_word s = cond s.closed 2147483648 0 + length s.anchors

abbrev pub shape_words : Job → List ℕ
shape_words j = map shape_word j.subpaths

-- a missing handle equals the point, a missing radius is 0
unfoldable pub handle : Pair → Option Pair → Pair
handle p none = p
handle p (some q) = q

unfoldable pub radius : Option ℕ → Float
radius none = 0f
radius (some r) = number r

unfoldable pub radius_of : Anchor → Float
unfolding radius
radius_of a = radius a.radius

-- p, h_in, h_out, x before y
unfoldable pub six_of : Anchor → List Float
unfolding handle
six_of a =
    let i = handle a.p a.into in
    let o = handle a.p a.out in
    number a.p.x ∷ number a.p.y ∷ number i.x ∷ number i.y ∷ number o.x ∷ number o.y ∷ []

unfoldable pub numbers_of : List Anchor → List Float
unfolding six_of
numbers_of [] = []
numbers_of (a ∷ more) = six_of a ++ numbers_of more

-- a job's anchors, their numbers and their radii
abbrev pub job_anchors : Job → List Anchor
job_anchors j = anchors_of j.subpaths

abbrev pub job_numbers : Job → List Float
job_numbers j = numbers_of (job_anchors j)

abbrev pub job_radii : Job → List Float
job_radii j = map radius_of (job_anchors j)
