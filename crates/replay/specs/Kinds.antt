-- The calls of a list by the number of their kind. Assumes nothing.
use Rattle.std.specs.Prelude.{ℕ, zero, suc, Option, Some, None}
use Rattle.path.specs.declared.anchor.Anchor.{Anchor}
use Rattle.session.specs.Edits.{Call, move, set_radius, split}
use Rattle.replay.specs.declared.kind.CallKind.{CallKind}
use Rattle.replay.specs.declared.kind.CallKind.TheVariants.{Move, Radius, Split}

-- the kind that the first word of a call names
unfoldable pub call_kind : ℕ → Option CallKind
call_kind zero = Some Move
call_kind (suc zero) = Some Radius
call_kind (suc (suc zero)) = Some Split
call_kind (suc (suc (suc n))) = None

-- the call of a kind: an anchor is moved to the six numbers, its radius set to the first of them, a segment split at the first
unfoldable pub call_as : CallKind → ℕ → ℕ → Anchor → Call
call_as Move s i given = move s i given
call_as Radius s i given = set_radius s i given.p.x
call_as Split s i given = split s i given.p.x
