-- What the corner cut leaves at an index of a subpath, after 000's `cut_corners`. Assumes nothing.
use Rattle.std.specs.Prelude.{ℕ, Bool, true, false, ◌&&◌, ◌||◌, cond, Option, Some, None, option_map, List, ◌++◌, Float}
use Rattle.std.specs.Float.Ieee.{lt}
use Rattle.std.specs.Option.{option_map_or}
use Rattle.real.specs.Operators.{◌⊖◌, 0f, 1f}
use Rattle.real.specs.StandIns.{max, min}
use Rattle.geom.specs.declared.point.P.{P}
use Rattle.geom.specs.Point.{origin, same}
use Rattle.geom.specs.Flat.{pt}
use Rattle.cubic.specs.Cubic.{CEPS, subsegment}
use Rattle.path.specs.declared.anchor.Anchor.{Anchor}
use Rattle.path.specs.Anchor.{without_handles, segment}
use Rattle.path.specs.Flat.{numbers}
use Rattle.path.specs.Shape.{prev, next}
use Rattle.corner.specs.declared.corner.Corner.{Corner}
use Rattle.corner.specs.declared.cut.Cut.{Cut}
use Rattle.corner.specs.Corner.{corner_of, setback, max_radius_beside}
use Rattle.corner.specs.Cut.{cut}
use Rattle.cut.specs.declared.places.Trim.{Trim}
use Rattle.cut.specs.declared.places.Place.{Place}
use Rattle.cut.specs.View.{View, arrives, leaves}

-- ---- corners and their fitted radii

-- an open subpath's ends are no corners
unfoldable pub corner_at : View → ℕ → Option Corner
corner_at v i = cond (arrives v i && leaves v i) (corner_of v.chords (v.anchor i) (v.anchor (prev v.n i)) (v.anchor (next v.n i))) None

-- the radius that is set, a negative one counting as 0
unfoldable pub own_at : View → ℕ → Float
own_at v i = max (v.radius i) 0f

-- how far along its sides the cut that is asked for would reach: by the radius that is set, not by the fitted one
unfoldable pub asked_at : View → ℕ → Float
asked_at v i = option_map_or (λ c. setback c (own_at v i)) (corner_at v i) 0f

unfoldable pub fitted_at : View → ℕ → Float
fitted_at v i = option_map_or (λ c. min (own_at v i) (max_radius_beside c (asked_at v (prev v.n i)) (asked_at v (next v.n i)))) (corner_at v i) 0f

-- a cut is made where the fitted radius exceeds 1e-9
unfoldable pub is_cut : View → ℕ → Bool
is_cut v i = lt CEPS (fitted_at v i)

unfoldable pub cut_at : View → ℕ → Option Cut
cut_at v i = cond (is_cut v i) (option_map (λ c. cut v.chords c (fitted_at v i) (v.kind i)) (corner_at v i)) None

-- ---- segments

-- a segment from a to b, with the cuts at its ends: the handles of what is left
unfoldable pub trim : Anchor → Anchor → Option Cut → Option Cut → Trim
trim a b c d =
    let s0 = option_map_or (λ k. k.tv) c 0f in
    let s1 = option_map_or (λ k. 1f ⊖ k.tu) d 1f in
    let sub = subsegment (segment a b) s0 (max s1 s0) in
    cond (same a.h_out a.p && same b.h_in b.p)
    (record { out = option_map_or (λ k. k.end) c a.p; into = option_map_or (λ k. k.start) d b.p })
    (record { out = pt sub 1; into = pt sub 2 })

-- the handles of the segment that leaves j; its own where neither end is cut
unfoldable pub trimmed_at : View → ℕ → Trim
trimmed_at v j =
    let k = next v.n j in
    let a = v.anchor j in
    let b = v.anchor k in
    cond (leaves v j && (is_cut v j || is_cut v k)) (trim a b (cut_at v j) (cut_at v k)) (record { out = a.h_out; into = b.h_in })

-- ---- what is left at an index

unfoldable pub in_at : View → ℕ → P
in_at v i = cond (arrives v i) (trimmed_at v (prev v.n i)).into (v.anchor i).h_in

unfoldable pub out_at : View → ℕ → P
out_at v i = cond (leaves v i) (trimmed_at v i).out (v.anchor i).h_out

-- document 01, 'Kept outline': uncut, the anchor as the cut leaves it and six zeros; cut, the start and the end
unfoldable pub place_of : Anchor → Option Cut → P → P → Place
place_of a (Some c) h_in h_out =
    record { cut = true; start = record { p = c.start; h_in = h_in; h_out = c.h_out }; end = record { p = c.end; h_in = c.h_in; h_out = h_out } }
place_of a None h_in h_out = record { cut = false; start = record { p = a.p; h_in = h_in; h_out = h_out }; end = without_handles origin }

unfoldable pub place_at : View → ℕ → Place
place_at v i = place_of (v.anchor i) (cut_at v i) (in_at v i) (out_at v i)

-- its twelve numbers
unfoldable pub place_numbers : Place → List Float
place_numbers q = numbers q.start ++ numbers q.end
