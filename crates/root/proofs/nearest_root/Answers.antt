-- What the guess gives is nearest where `settled` says so.
use Rattle.std.proofs.Common.{T, sym, subst, arith}
use Rattle.root.proofs.Exact.{left_by_square}
use Rattle.root.proofs.nearest_root.Goals as goal

pub returns-then-settled : goal.returns-then-settled
returns-then-settled c =
    let left = left_by_square _ _ _ c.guessed-g.ensures.0 c.if-d-lt4294967296.true (omega arith) c.wrapping_sub_u64-d.ensures.value in
    c.settled.ensures (subst T (sym c.if-settled.true) tt) c.args.m left

pub returns-then-settled-2 : goal.returns-then-settled-2
returns-then-settled-2 c =
    let left = left_by_square _ _ _ c.guessed-g.ensures.0 c.if-d-lt4294967296.true (omega arith) c.wrapping_sub_u64-d.ensures.value in
    c.settled-then-d-lt4294967296.ensures (subst T (sym c.if-settled-2.true) tt) c.args.m left
