-- A letter and a point.
use Rattle.std.proofs.Common.{rules}
use Rattle.decimal.proofs.Puts.{then}
use Rattle.svg.proofs.commands.put_command.Goals as goal

pub returns-clause-text : goal.returns-clause-text
returns-clause-text c = then (search rules) c.put_letter.ensures.text c.put_point.ensures.text
