-- `cached_split::writing::shift_flags` meets its contract, by what `copy_within` says of each index.
use Rattle.cached_split.proofs.Makes.{flags_copied}
use Rattle.cached_split.proofs.writing.shift_flags.Goals as goal

pub returns : goal.returns
returns c =
    let a = c.args in
    let e = c.copy_within.ensures in
    flags_copied a.flags.now _ a.a a.n c.requires.0 c.requires.1 e.len e.by_index.0 e.by_index.1 e.by_index.2
