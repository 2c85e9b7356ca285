-- `cached_split::making::put_anchors`: the ends of the segment and the anchor between them, stored.
use Rattle.std.proofs.Common.{◌∙◌}
use Rattle.cached_split.proofs.Makes.{anchors_put}
use Rattle.cached_split.proofs.making.put_anchors.Goals as goal

pub returns : goal.returns
returns c =
    let a = c.args in
    let e = c.requires.ends in
    c.put_halves.ensures ∙ anchors_put a.anchors.now a.n a.a a.b a.t e.from e.to e.apart c.requires.room _ c.halved-h.ensures
