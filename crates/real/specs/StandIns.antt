-- Document 01's stand-ins for Rust's methods on f64 ('Points, root, cubics'). Assumes nothing.
use Rattle.std.specs.Prelude.{false, cond, Float}
use Rattle.std.specs.Float.{nan, inf, fin}
use Rattle.std.specs.Float.Ieee.{lt}

-- max(a,b) is a where b < a, else b
unfoldable pub max : Float → Float → Float
max a b = cond (lt b a) a b

-- min(a,b) is a where a < b, else b
unfoldable pub min : Float → Float → Float
min a b = cond (lt a b) a b

-- `clamp` compares low, then high
unfoldable pub clamp : Float → Float → Float → Float
clamp x low high = cond (lt x low) low (cond (lt high x) high x)

-- the sign cleared
unfoldable pub abs : Float → Float
abs nan = nan
abs (inf s) = inf false
abs (fin s m e) = fin false m e
