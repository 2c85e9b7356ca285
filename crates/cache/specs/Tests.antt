-- The tests of the calls on caches. Assumes nothing.
use Rattle.std.specs.Prelude.{ℕ, ◌+◌, ◌*◌, Bool, ◌&&◌, cond, List, leb, length, Float, Option, Some, None}
use Rattle.views.specs.View.{entry}
use Rattle.views.specs.Search.{all}
use Rattle.real.specs.Limit.{in_limit}
use Rattle.refusal.specs.declared.Reason.TheVariants.{Made}
use Rattle.refusal.specs.Order.{passes, judge, Verdict, accepted}
use Rattle.path.specs.Shape.{total}
use Rattle.call.specs.Tests.{places}

-- 7: at most 32 subpaths and 512 places, twelve numbers and a flag for each
unfoldable pub cache_fits : List ℕ → List Float → List ℕ → Bool
cache_fits shapes numbers flags =
    leb (length shapes) 32 && (leb (total shapes) 512 && (leb (total shapes * 12) (length numbers) && leb (total shapes) (length flags)))

unfoldable pub cache_size : List ℕ → List Float → List ℕ → Option ℕ
cache_size shapes numbers flags = cond (cache_fits shapes numbers flags) (Some (total shapes)) None

-- 9: the twelve numbers of place k of a list
unfoldable pub twelve_in : List Float → ℕ → Bool
twelve_in numbers k = all (λ i. in_limit (entry numbers (k * 12 + i))) 12

-- the last test of a cache of n places, each judged by a Bool
unfoldable pub cache_verdict : (ℕ → Bool) → ℕ → Verdict
cache_verdict good n = judge (places good n passes) Made accepted
