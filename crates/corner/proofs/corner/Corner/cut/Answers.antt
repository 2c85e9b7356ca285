-- A corner with its sides' lengths holds them.
use mathlib.Core.Path.{sym, ap}
use Rattle.side.specs.Side.{OnLine}
use Rattle.corner.specs.declared.corner.Corner.{Corner}
use Rattle.corner.specs.Corner.{with_lengths}
use Rattle.corner.proofs.corner.Corner.cut.Goals as goal

pub at_length-a-requires : goal.at_length-a-requires
unfolding OnLine with_lengths
at_length-a-requires c = (λ line. sym (ap (λ (k : Corner). k.lu) c.requires.0), c.requires.1)

pub at_length-b-requires : goal.at_length-b-requires
unfolding OnLine with_lengths
at_length-b-requires c = (λ line. sym (ap (λ (k : Corner). k.lv) c.requires.0), c.requires.2)
