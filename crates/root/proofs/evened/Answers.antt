-- The even exponent's significand, and how large it is.
use Rattle.std.proofs.Common.{refl, arith}
use Rattle.root.proofs.Scaled.{made_even}
use Rattle.root.proofs.evened.Goals as goal

pub returns : goal.returns
returns c =
    let e = made_even c.args.m c.args.p (omega arith) (omega arith) (omega arith) (omega arith) in
    (refl, e.low, e.high)
