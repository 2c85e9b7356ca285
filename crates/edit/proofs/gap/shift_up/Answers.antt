-- `edit::gap::shift_up` meets its contract, by what `copy_within` says of each index.
use Rattle.std.proofs.Common.{◌*◌}
use native.Mathlib.Nat.{mul-le-mul_right}
use Rattle.edit.specs.Gap.{gapped}
use Rattle.edit.proofs.Gaps.{copied_up}
use Rattle.edit.proofs.gap.shift_up.Goals as goal

pub returns : goal.returns
unfolding gapped
returns c =
    let a = c.args in
    let e = c.copy_within.ensures in
    copied_up a.list.now _ (a.from * a.width) (a.count * a.width) a.width (mul-le-mul_right a.width c.requires.0) c.requires.1 e.len e.by_index.0 e.by_index.1 e.by_index.2
