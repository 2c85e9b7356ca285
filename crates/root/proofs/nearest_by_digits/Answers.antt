-- Half of the whole root of 4 * n, rounded up, is nearest to the root of n.
use Rattle.std.proofs.Common.{◌+◌, ◌*◌, ◌/◌, ◌^◌, refl, arith}
use Rattle.root.proofs.Whole.{nearest-of_floor}
use Rattle.root.proofs.nearest_by_digits.Goals as goal

pub returns : goal.returns
returns c =
    let s = c.isqrt_wide.result in
    nearest-of_floor (c.args.m * 2 ^ 52) s ((s + 1) / 2) (omega arith) (record { low = omega arith; high = omega arith }) refl
