-- `cached_split::making::first_put`: the places of the three anchors are apart.
use Rattle.std.proofs.Common.{◌+◌, arith}
use Rattle.edit.proofs.Splits.{ends_apart}
use Rattle.cached_split.proofs.making.first_put.Goals as goal

pub first_out-requires : goal.first_out-requires
first_out-requires c =
    let s = ends_apart 512 c.args.a c.args.b c.requires.1 c.requires.2 in
    let e = c.shifted.ensures in
    (omega arith, rw e s.start, rw e s.middle)

pub returns : goal.returns
returns c n i j =
    let s = (ends_apart n c.args.a c.args.b j c.requires.2).place in
    let e = c.shifted.ensures in
    rw (← e) (c.first_out.ensures (n + 1) (omega arith) (omega arith))
