-- Before index j the places of those below it that are near are put.
use Rattle.std.proofs.Common.{◌+◌}
use Rattle.decimal.specs.Put.{Adds}
use Rattle.recutting.specs.Near.{reached_in}
use Rattle.call_lines.specs.Lines.{passing, recut_text}
use Rattle.call_lines.proofs.lines.put_recut.Given as goal

abbrev pub invariant-loop-j : goal.invariant-loop-j
invariant-loop-j l = Adds l.fn.text (recut_text (passing (reached_in l.sub l.w) (l.sub.first + l.j))) l.text
