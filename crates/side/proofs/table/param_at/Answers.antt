-- The search finds the chord in which s falls.
use mathlib.Core.Path.{ap, ◌∙◌}
use native.Mathlib.Omega.{arith}
use Rattle.std.proofs.Common.{◌≡◌, ◌-◌, ◌≤◌}
use lib.Ieee.{lt}
use Rattle.views.specs.View.{entry}
use Rattle.views.specs.Search.{first_false}
use Rattle.cubic.specs.Sample.{chord}
use Rattle.side.specs.Side.{chord_of, chord_at, param_at}
use Rattle.side.proofs.Lengths.{table_at, chord-within, chord_found}
use Rattle.side.proofs.table.param_at.Goals as goal

pub returns : goal.returns
unfolding param_at
returns c curve is =
    let s = c.args.s in
    let k = c.chord_of-k.result in
    let within : (1 ≤ k) × (k ≤ 128) = rw c.chord_of-k.ensures (chord-within 128 _ (omega arith)) in
    let found : k ≡ chord_at (chord curve 128) 128 s =
    c.chord_of-k.ensures ∙ ap (chord_of 128) (c.first_not_below.ensures ∙ ap (λ l. first_false (λ j. lt (entry l j) s) 129) is) ∙ chord_found curve 128 s in
    rw (← found, c.share.ensures, is, table_at curve 128 (k - 1) (omega arith), table_at curve 128 k within.1)
