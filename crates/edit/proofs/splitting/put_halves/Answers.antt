-- The end of the segment goes to a place of the longer path.
use Rattle.std.proofs.Common.{rules}
use Rattle.edit.proofs.Splits.{ends_apart}
use Rattle.edit.proofs.splitting.put_halves.Goals as goal

pub put_anchor-requires-3 : goal.put_anchor-requires-3
put_anchor-requires-3 c =
    let s = (ends_apart c.args.n c.args.a c.args.b c.requires.ends.to c.requires.ends.apart).place in
    let e = c.shifted.ensures in
    search rules
