-- `CornerKind` by document 01's numbers. Assumes nothing.
use Rattle.std.specs.Prelude.{ℕ, zero, suc, Bool, true, false, Option, Some, None}
use Rattle.corner.specs.declared.kind.CornerKind.{CornerKind}
use Rattle.corner.specs.declared.kind.CornerKind.TheVariants.{Round, Inverted, Chamfer}

-- document 01's head word
unfoldable pub kind_of : ℕ → Option CornerKind
kind_of zero = Some Round
kind_of (suc zero) = Some Inverted
kind_of (suc (suc zero)) = Some Chamfer
kind_of (suc (suc (suc n))) = None

unfoldable pub is_known : Option CornerKind → Bool
is_known (Some k) = true
is_known None = false
