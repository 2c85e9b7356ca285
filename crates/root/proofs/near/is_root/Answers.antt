-- What `settled` finds nearest is the root's significand, and h is its pattern.
use Rattle.std.proofs.Common.{◌/◌, ◌^◌, T, sym, ap, ◌∙◌, subst, arith, eqb→eq}
use lib.Bits.{mask_lt}
use lib.Ieee.{binary64, of_bits}
use Rattle.root.proofs.Exact.{left_by_square}
use Rattle.root.proofs.Leading.{normal_root}
use Rattle.root.proofs.Scaled.{nearest_for}
use Rattle.root.proofs.near.is_root.Goals as goal

pub scaled_root-requires : goal.scaled_root-requires
scaled_root-requires c =
    let left = left_by_square (c.wrapping_sub_u64-q.result / 2 ^ 23) _ _ (omega arith) (omega arith) (omega arith) c.wrapping_sub_u64-d.ensures.value in
    let nearest = c.settled.ensures (subst T (sym c.if-not-settled.false) tt) c.evened.result left in
    let m = mask_lt c.args.b 52 in
    (omega arith, omega arith, omega arith, omega arith, nearest_for c.evened.ensures.0 nearest)

pub returns : goal.returns
returns c = λ t. normal_root c.args.b _ (omega arith) (omega arith) c.scaled_root.ensures.1 ∙ ap (of_bits binary64) (eqb→eq _ _ t)
