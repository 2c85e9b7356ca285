-- Both forms of a positive value have 53 digits in front, as `scaled_root` wants them.
use Rattle.std.proofs.Common.{◌≡◌, ◌-◌, arith, rules}
use lib.Ieee.{binary64, of_bits}
use lib.Count.{count_leading_zeros}
use Rattle.root.proofs.Leading.{moved, normal_root}
use Rattle.root.proofs.Scaled.{nearest_for}
use Rattle.root.proofs.Patterns.{subnormal_value}
use Rattle.root.proofs.root_bits.Goals as goal

pub overflow_sub-m : goal.overflow_sub-m
overflow_sub-m c = let w = moved c.args.b (omega arith) (omega arith) in omega arith

pub evened-requires : goal.evened-requires
evened-requires c = let w = moved c.args.b (omega arith) (omega arith) in (omega arith, omega arith, omega arith, omega arith)

pub scaled_root-requires : goal.scaled_root-requires
scaled_root-requires c =
    let w = moved c.args.b (omega arith) (omega arith) in
    (omega arith, omega arith, omega arith, omega arith, nearest_for c.evened.ensures.0 c.nearest_by_digits.ensures)

pub returns-then-field-eq0 : goal.returns-then-field-eq0
returns-then-field-eq0 c =
    let b = c.args.b in
    let w = moved b (omega arith) (omega arith) in
    let p : c.from-p.result ≡ 64 - count_leading_zeros 64 b = search rules in
    (c.scaled_root.ensures.0, c.scaled_root.ensures.1 (of_bits binary64 b) b (subnormal_value b (omega arith)) (rw (w.whole, p) w.value))

pub returns-else-field-eq0 : goal.returns-else-field-eq0
returns-else-field-eq0 c = (c.scaled_root-else-field-eq0.ensures.0, normal_root c.args.b _ (omega arith) (omega arith) c.scaled_root-else-field-eq0.ensures.1)
