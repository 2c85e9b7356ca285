-- What the calls on points and cubics answer, and what they leave in the lists lent to them (document 01, 'Points, root, cubics'). Assumes nothing.
use Rattle.std.specs.Prelude.{ℕ, ◌*◌, Bool, true, ◌&&◌, List, leb, length, Float, Result}
use Rattle.views.specs.View.{overwrite}
use Rattle.views.specs.Search.{all}
use Rattle.real.specs.Limit.{in_limit}
use Rattle.geom.specs.declared.point.P.{P}
use Rattle.geom.specs.Point.{len, point_in}
use Rattle.geom.specs.Flat.{pt, coordinates}
use Rattle.cubic.specs.Cubic.{cubic_at, subsegment}
use Rattle.cubic.specs.DeCasteljau.{curve_before, curve_after}
use Rattle.cubic.specs.Limits.{curve_in}
use Rattle.cubic.specs.Sample.{steps, step_at, sample_count}
use Rattle.refusal.specs.declared.Refusal.{Refusal}
use Rattle.refusal.specs.Order.{passes, holds, Verdict, accepted, refused, verdict, tests, answering}

-- ---- the tests: what is given, what is made of it, the room that is lent; a failure of any stands at place 0

unfoldable pub judged : Bool → Bool → Bool → Verdict
judged given made room = verdict (tests passes (holds given 0) passes passes (holds made 0) (holds room 0))

-- a lent list afterwards: the points f 0 .. f (count - 1), then as it was; a refusal leaves every bit
unfoldable pub left : Verdict → ℕ → (ℕ → P) → List Float → List Float
left accepted count f out = overwrite (2 * count) (coordinates f) out
left (refused why) count f out = out

-- there is room for count points
unfoldable pub fits : ℕ → List Float → Bool
fits count out = leb (2 * count) (length out)

-- ---- the calls

unfoldable pub len_answer : P → Result Float Refusal
len_answer p = answering (judged (point_in p) (in_limit (len p)) true) (len p)

unfoldable pub cubic_at_answer : List P → Float → Result P Refusal
cubic_at_answer c t = answering (judged (curve_in c && in_limit t) (point_in (cubic_at c t)) true) (cubic_at c t)

-- `sample`: n is at most 256
unfoldable pub sample_verdict : List P → ℕ → List Float → Verdict
sample_verdict c n out =
    let m = sample_count c n in
    judged (curve_in c && leb n 256) (all (λ j. in_limit (coordinates (step_at c (steps c n)) j)) (2 * m)) (fits m out)

unfoldable pub sample_answer : List P → ℕ → List Float → Result ℕ Refusal
sample_answer c n out = answering (sample_verdict c n out) (sample_count c n)

unfoldable pub sample_left : List P → ℕ → List Float → List Float
sample_left c n out = left (sample_verdict c n out) (sample_count c n) (step_at c (steps c n)) out

-- `split_cubic`, by de Casteljau's rule: the curve before t to one list, the curve after t to the other
unfoldable pub split_verdict : List P → Float → List Float → List Float → Verdict
split_verdict c t before after =
    judged (curve_in c && in_limit t) (curve_in (curve_before c t) && curve_in (curve_after c t)) (fits 4 before && fits 4 after)

unfoldable pub split_answer : List P → Float → List Float → List Float → Result ℕ Refusal
split_answer c t before after = answering (split_verdict c t before after) 4

unfoldable pub split_before : List P → Float → List Float → List Float → List Float
split_before c t before after = left (split_verdict c t before after) 4 (pt (curve_before c t)) before

unfoldable pub split_after : List P → Float → List Float → List Float → List Float
split_after c t before after = left (split_verdict c t before after) 4 (pt (curve_after c t)) after

-- `subsegment`
unfoldable pub part_verdict : List P → Float → Float → List Float → Verdict
part_verdict c from to out = judged (curve_in c && (in_limit from && in_limit to)) (curve_in (subsegment c from to)) (fits 4 out)

unfoldable pub part_answer : List P → Float → Float → List Float → Result ℕ Refusal
part_answer c from to out = answering (part_verdict c from to out) 4

unfoldable pub part_left : List P → Float → Float → List Float → List Float
part_left c from to out = left (part_verdict c from to out) 4 (pt (subsegment c from to)) out
