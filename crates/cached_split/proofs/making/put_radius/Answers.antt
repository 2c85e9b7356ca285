-- `cached_split::making::put_radius`: the radii shifted, and one stored.
use Rattle.cached_split.proofs.Makes.{radii_put}
use Rattle.cached_split.proofs.making.put_radius.Goals as goal

pub returns : goal.returns
returns c = let a = c.args in rw c.shift_up.ensures (radii_put a.radii.now a.n a.a c.requires.1 c.requires.2)
