-- The limit of every number of a drawing and of a call (document 01, refusals 5 and 9). Assumes nothing.
use Rattle.std.specs.Prelude.{◌*◌, Bool, false, leb, Float}
use Rattle.std.specs.Float.{nan, inf, fin}
use Rattle.std.specs.Float.Ieee.{up, down}

-- finite and of magnitude at most 131,072
unfoldable pub in_limit : Float → Bool
in_limit nan = false
in_limit (inf s) = false
in_limit (fin s m e) = leb (m * up e) (131072 * down e)
