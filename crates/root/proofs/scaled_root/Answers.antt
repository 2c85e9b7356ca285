-- With the exponent made even, the nearest whole root is the root's significand.
use Rattle.std.proofs.Common.{◌+◌, ◌*◌, ◌/◌, ◌%◌, ◌^◌, ◌∙◌, arith}
use Rattle.root.proofs.Scaled.{nearest_to, root_at, made_even}
use Rattle.root.proofs.scaled_root.Goals as goal

pub returns : goal.returns
returns c =
    let p = c.args.p in
    let q = c.args.q in
    let k = c.args.m * 2 ^ ((p + 969) % 2) % 2 ^ 64 in
    let g = made_even c.args.m p (omega arith) (omega arith) (omega arith) (omega arith) in
    let short = nearest_to k q g.high c.requires.4 in
    (omega (arith, short), λ x n v f. (root_at k g.i ((p + 969) / 2) q g.low g.high g.half g.i_le c.requires.4 x n v (f ∙ g.is)).1)
