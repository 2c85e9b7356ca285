-- Before byte i the first i bytes are put.
use Rattle.std.proofs.Common.{take}
use Rattle.decimal.specs.Put.{Adds}
use Rattle.decimal.proofs.text.Text.put_bytes.Given as goal

abbrev pub invariant-loop-b : goal.invariant-loop-b
invariant-loop-b l = Adds l.fn.self (take l.b-index l.text) l.self
