-- e - s is m * 2 ^ 52 + q - q * q, by `balance`, since no product is more than a word.
use Rattle.std.proofs.Common.{◌≤◌, ◌+◌, ◌*◌, ◌^◌, le_of_lt, mul-le-mul, arith, leb→le}
use Rattle.root.proofs.Exact.{balance, unwrapped_small, near}
use Rattle.root.proofs.settled.Goals as goal

pub returns : goal.returns
returns c = λ t m h.
    let u = c.args.u in
    let v = c.args.v in
    let product : u * v ≤ 2 ^ 32 * 2 ^ 27 = mul-le-mul (le_of_lt c.requires.0) (le_of_lt c.requires.1) in
    let rest = unwrapped_small (u * v + u * v) c.wrapping_sub_u64-c.result _ (omega arith) (omega arith) c.wrapping_sub_u64-c.ensures.value in
    near (m * 2 ^ 52) c.args.q _ _ (balance m u v c.args.d _ c.args.q c.requires.3 h rest) c.if-e-s.false (leb→le _ _ t)
