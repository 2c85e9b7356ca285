-- Past the end a size is counted, else its parts are put one after the other.
use Rattle.std.proofs.Common.{◌/◌, ◌%◌, append-nil, rules, arith}
use Rattle.decimal.specs.Text.{size_text}
use Rattle.decimal.proofs.Digits.{whole_room, none_left}
use Rattle.decimal.proofs.Room.{fraction_room}
use Rattle.decimal.proofs.Counted.{size_length}
use Rattle.decimal.proofs.Puts.{then, past}
use Rattle.decimal.proofs.text.Text.put_size.Goals as goal

pub overflow_add-whole_length : goal.overflow_add-whole_length
overflow_add-whole_length c =
    record { fits = omega (arith, whole_room 19 (c.args.t / 1000) (omega arith), fraction_room (c.args.t % 1000), c.whole_length.ensures, c.fraction_length.ensures) }

pub returns-then-is_full : goal.returns-then-is_full
returns-then-is_full c =
    past (size_text c.args.t) (search rules) c.count.ensures.same_list c.count.ensures.untouched
    (rw (size_length c.args.t, ← c.whole_length.ensures, ← c.fraction_length.ensures) c.count.ensures.at)

pub returns-then-t-ne0 : goal.returns-then-t-ne0
unfolding size_text
returns-then-t-ne0 c = then (search rules) c.put_whole.ensures c.put_fraction.ensures

pub returns-else-t-ne0 : goal.returns-else-t-ne0
unfolding size_text
returns-else-t-ne0 c = rw (none_left (c.args.t % 1000) c.if-t-ne0.false, append-nil) c.put_whole.ensures
