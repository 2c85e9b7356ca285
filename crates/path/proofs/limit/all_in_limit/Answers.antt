-- 131,072 is the limit.
use mathlib.Core.Path.{◌∙◌}
use lib.ListN.{length}
use Rattle.views.proofs.Searches.{all_cong}
use Rattle.path.proofs.Limits.{within-is}
use Rattle.path.proofs.limit.all_in_limit.Goals as goal

pub returns : goal.returns
returns c = c.all_within.ensures ∙ all_cong _ _ (length c.args.list.now) (λ k l. within-is _)
